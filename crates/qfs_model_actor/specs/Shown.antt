-- What is kept of a reply outside the definitions: of the bytes that a get read, only what is shown.
use Rattle.std.specs.Prelude.{ℕ, ◌+◌, Bool, true, false, nat_le, List, [], ◌∷◌, length}
use Rattle.sha2.specs.Sha256.{sha256}
use Rattle.qfs_base.specs.declared.command.Excerpt.{Excerpt}
use Rattle.qfs_base.specs.declared.command.Reply.{Reply}
use Rattle.qfs_base.specs.declared.command.Reply.TheVariants as Report
use Rattle.qfs_base.specs.declared.command.ReplyLine.{ReplyLine}
use Rattle.qfs_base.specs.declared.command.Shown.{Shown}
use Rattle.qfs_base.specs.declared.command.Shown.TheVariants as Show

-- the same reply with an excerpt in place of the bytes
unfoldable pub shown_reply : (List ℕ → Excerpt) → Reply (List ℕ) → Reply Excerpt
shown_reply show (Report.Done place) = Report.Done place
shown_reply show (Report.Listed place names) = Report.Listed place names
shown_reply show (Report.Stored place len) = Report.Stored place len
shown_reply show (Report.PutNoServer place index slot) = Report.PutNoServer place index slot
shown_reply show (Report.Read place bytes) = Report.Read place (show bytes)
shown_reply show (Report.ReadTooFew place index causes) = Report.ReadTooFew place index causes
shown_reply show (Report.Refused place refusal) = Report.Refused place refusal
shown_reply show (Report.Recovered block slot server version) = Report.Recovered block slot server version
shown_reply show (Report.Moved block slot from to version) = Report.Moved block slot from to version
shown_reply show (Report.TooFew index causes) = Report.TooFew index causes
shown_reply show (Report.DestFailed server cause) = Report.DestFailed server cause
shown_reply show (Report.SourceFailed server cause) = Report.SourceFailed server cause
shown_reply show (Report.BadPath refusal) = Report.BadPath refusal
shown_reply show Report.NoBlock = Report.NoBlock
shown_reply show (Report.Taken version) = Report.Taken version
shown_reply show Report.Whole = Report.Whole
shown_reply show (Report.Away server) = Report.Away server
shown_reply show (Report.Barred server) = Report.Barred server
shown_reply show Report.Gone = Report.Gone
shown_reply show (Report.NoServer block slot) = Report.NoServer block slot
shown_reply show (Report.Healed healed failed) = Report.Healed healed failed
shown_reply show (Report.HealNoServer healed failed block slot) = Report.HealNoServer healed failed block slot
shown_reply show (Report.Rebalanced moved failed) = Report.Rebalanced moved failed
shown_reply show (Report.Evacuated moved failed left) = Report.Evacuated moved failed left
shown_reply show (Report.EvacNoServer moved failed block slot) = Report.EvacNoServer moved failed block slot
shown_reply show (Report.Swept erased) = Report.Swept erased
shown_reply show Report.Stopped = Report.Stopped
shown_reply show (Report.Started life) = Report.Started life
shown_reply show (Report.Wiped life) = Report.Wiped life
shown_reply show Report.Fault = Report.Fault
shown_reply show (Report.Hibernating until) = Report.Hibernating until
shown_reply show Report.NotUp = Report.NotUp
shown_reply show Report.Upgraded = Report.Upgraded
shown_reply show Report.Down = Report.Down
shown_reply show (Report.Clock now) = Report.Clock now
shown_reply show Report.DropDone = Report.DropDone
shown_reply show (Report.Saved turn) = Report.Saved turn
shown_reply show (Report.Restarted turn) = Report.Restarted turn
shown_reply show (Report.Dropped turn) = Report.Dropped turn
shown_reply show Report.LogFault = Report.LogFault
shown_reply show Report.NoMemory = Report.NoMemory
shown_reply show (Report.BadLog right offset) = Report.BadLog right offset
shown_reply show Report.Unnamed = Report.Unnamed

-- how many bytes are shown as they are
abbrev pub most_shown : ℕ
most_shown = 32

-- what is shown of bytes: all of them where the flag says that they are few, their digest else
unfoldable pub shown_if_few : List ℕ → Bool → Shown
shown_if_few bytes true = Show.Whole bytes
shown_if_few bytes false = Show.Digest (sha256 bytes)

-- what is kept of bytes that were read
unfoldable pub excerpt_of : List ℕ → Excerpt
excerpt_of bytes = record { len = length bytes; shown = shown_if_few bytes (nat_le (length bytes) most_shown) }

-- a report as it is kept and printed
abbrev pub kept_report : Reply (List ℕ) → Reply Excerpt
kept_report report = shown_reply excerpt_of report

-- the reply lines of an actor's commands that have ended, of which the first is command k
unfoldable pub lines_from : ℕ → ℕ → List (Reply (List ℕ)) → List ReplyLine
lines_from actor k [] = []
lines_from actor k (report ∷ reports) =
    record { actor = actor; command = k; reply = kept_report report } ∷ lines_from actor (k + 1) reports
