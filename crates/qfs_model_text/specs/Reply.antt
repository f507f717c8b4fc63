-- The reply lines: what each command of each actor reports.
use Rattle.std.specs.Prelude.{ℕ, List, [], ◌∷◌, ◌++◌, codes, decimal, map, flat_map, length, Bool, true, false}
use Rattle.hex.specs.Hex.{encode_lower}
use Rattle.qfs_base.specs.declared.chunk.BlockId.{BlockId}
use Rattle.qfs_base.specs.declared.command.Reply.{Reply}
use Rattle.qfs_base.specs.declared.command.Reply.TheVariants as Says
use Rattle.qfs_base.specs.declared.command.ReplyLine.{ReplyLine}
use Rattle.qfs_base.specs.declared.command.Excerpt.{Excerpt}
use Rattle.qfs_base.specs.declared.command.Shown.{Shown}
use Rattle.qfs_base.specs.declared.command.Shown.TheVariants as Show
use Rattle.qfs_base.specs.declared.lists.Cause.{Cause}
use Rattle.qfs_base.specs.declared.lists.Cause.TheVariants as Because
use Rattle.qfs_base.specs.declared.lists.Name.{Name}
use Rattle.qfs_base.specs.declared.lists.NameKind.{NameKind}
use Rattle.qfs_base.specs.declared.lists.NameKind.TheVariants as Kind
use Rattle.qfs_base.specs.declared.lists.SlotCause.{SlotCause}
use Rattle.qfs_base.specs.declared.reply.TreeRefusal.{TreeRefusal}
use Rattle.qfs_base.specs.declared.reply.TreeRefusal.TheVariants as Tree
use Rattle.qfs_model_text.specs.Line.{Words, line, after_colon}

-- the word for why the name tree refuses
unfoldable pub refusal_word : TreeRefusal → List ℕ
refusal_word Tree.NoParent = codes "noparent"
refusal_word Tree.NotDir = codes "notdir"
refusal_word Tree.Exists = codes "exists"
refusal_word Tree.Missing = codes "missing"
refusal_word Tree.NotEmpty = codes "notempty"
refusal_word Tree.IsDir = codes "isdir"
refusal_word Tree.Unclosed = codes "unclosed"
refusal_word Tree.IntoSelf = codes "intoself"
refusal_word Tree.TooDeep = codes "toodeep"

-- the word for why a chunk couldn't be read or stored
unfoldable pub cause_word : Cause → List ℕ
cause_word Because.Unlisted = codes "unlisted"
cause_word Because.Down = codes "down"
cause_word (Because.Lost asked now) = codes "lost" ++ after_colon (decimal asked) ++ after_colon (decimal now)
cause_word Because.Absent = codes "absent"
cause_word Because.Fault = codes "fault"

-- a slot and why it couldn't be read
abbrev pub slot_cause : SlotCause → List ℕ
slot_cause s = decimal s.slot ++ after_colon (cause_word s.cause)

-- a block, and each slot of it that couldn't be read
abbrev pub too_few : ℕ → List SlotCause → Words
too_few index causes = codes "toofew" ∷ decimal index ∷ map slot_cause causes

-- what marks a name: a directory ends in a slash, a file that is still written in a slash and a question mark
unfoldable pub name_mark : NameKind → List ℕ
name_mark Kind.Directory = codes "/"
name_mark Kind.Unclosed = codes "/?"
name_mark Kind.Closed = []

-- a name in a listing
abbrev pub name_word : Name → List ℕ
name_word name = name.part ++ name_mark name.kind

-- bytes that a get shows: as they are up to 32, by their digest above
unfoldable pub shown_words : ℕ → Shown → Words
shown_words len (Show.Whole []) = decimal len ∷ []
shown_words len (Show.Whole (byte ∷ bytes)) = decimal len ∷ codes "hex" ∷ encode_lower (byte ∷ bytes) ∷ []
shown_words len (Show.Digest digest) = decimal len ∷ codes "sha256" ∷ encode_lower digest ∷ []

-- the words behind the place of the history that a reply speaks of
abbrev pub at_place : ℕ → Words → Words
at_place place words = codes "at" ∷ decimal place ∷ words

-- file, block and slot
abbrev pub slot_words : BlockId → ℕ → Words
slot_words block slot = decimal block.file ∷ decimal block.index ∷ decimal slot ∷ []

-- a slot for which there is no server
abbrev pub no_server : BlockId → ℕ → Words
no_server block slot = codes "noserver" ∷ slot_words block slot

-- how many were done and how many failed
abbrev pub tally : List ℕ → ℕ → ℕ → Words
tally word done failed = word ∷ decimal done ∷ codes "failed" ∷ decimal failed ∷ []

-- which disk of the two
unfoldable pub side_word : Bool → List ℕ
side_word false = codes "left"
side_word true = codes "right"

-- the words of a reply
unfoldable pub reply_words : Reply Excerpt → Words
reply_words (Says.Done place) = at_place place (codes "done" ∷ [])
reply_words (Says.Listed place names) =
    at_place place (codes "list" ∷ decimal (length names) ∷ map name_word names)
reply_words (Says.Stored place len) = at_place place (codes "stored" ∷ decimal len ∷ [])
reply_words (Says.PutNoServer place index slot) =
    at_place place (codes "noserver" ∷ decimal index ∷ decimal slot ∷ [])
reply_words (Says.Read place read) = at_place place (codes "read" ∷ shown_words read.len read.shown)
reply_words (Says.ReadTooFew place index causes) = at_place place (too_few index causes)
reply_words (Says.Refused place refusal) = at_place place (refusal_word refusal ∷ [])
reply_words (Says.Recovered block slot server version) =
    codes "recovered" ∷ slot_words block slot
    ++ codes "on" ∷ decimal server ∷ codes "version" ∷ decimal version ∷ []
reply_words (Says.Moved block slot from to version) =
    codes "moved" ∷ slot_words block slot
    ++ codes "from" ∷ decimal from ∷ codes "to" ∷ decimal to ∷ codes "version" ∷ decimal version ∷ []
reply_words (Says.TooFew index causes) = too_few index causes
reply_words (Says.DestFailed server cause) = codes "destfailed" ∷ decimal server ∷ cause_word cause ∷ []
reply_words (Says.SourceFailed server cause) = codes "sourcefailed" ∷ decimal server ∷ cause_word cause ∷ []
reply_words (Says.BadPath refusal) = refusal_word refusal ∷ []
reply_words Says.NoBlock = codes "noblock" ∷ []
reply_words (Says.Taken version) = codes "taken" ∷ decimal version ∷ []
reply_words Says.Whole = codes "whole" ∷ []
reply_words (Says.Away server) = codes "away" ∷ decimal server ∷ []
reply_words (Says.Barred server) = codes "barred" ∷ decimal server ∷ []
reply_words Says.Gone = codes "gone" ∷ []
reply_words (Says.NoServer block slot) = no_server block slot
reply_words (Says.Healed healed failed) = tally (codes "healed") healed failed
reply_words (Says.HealNoServer healed failed block slot) =
    tally (codes "healed") healed failed ++ no_server block slot
reply_words (Says.Rebalanced moved failed) = tally (codes "rebalanced") moved failed
reply_words (Says.Evacuated moved failed left) =
    tally (codes "evacuated") moved failed ++ codes "left" ∷ decimal left ∷ []
reply_words (Says.EvacNoServer moved failed block slot) =
    tally (codes "evacuated") moved failed ++ no_server block slot
reply_words (Says.Swept erased) = codes "swept" ∷ decimal erased ∷ []
reply_words Says.Stopped = codes "stopped" ∷ []
reply_words (Says.Started life) = codes "started" ∷ decimal life ∷ []
reply_words (Says.Wiped life) = codes "wiped" ∷ decimal life ∷ []
reply_words Says.Fault = codes "fault" ∷ []
reply_words (Says.Hibernating until) = codes "hibernating" ∷ codes "until" ∷ decimal until ∷ []
reply_words Says.NotUp = codes "notup" ∷ []
reply_words Says.Upgraded = codes "writes" ∷ codes "2" ∷ []
reply_words Says.Down = codes "down" ∷ []
reply_words (Says.Clock now) = codes "clock" ∷ decimal now ∷ []
reply_words Says.DropDone = codes "done" ∷ []
reply_words (Says.Saved turn) = codes "saved" ∷ decimal turn ∷ []
reply_words (Says.Restarted turn) = codes "restarted" ∷ decimal turn ∷ []
reply_words (Says.Dropped turn) = codes "dropped" ∷ decimal turn ∷ []
reply_words Says.LogFault = codes "logfault" ∷ []
reply_words Says.NoMemory = codes "nomemory" ∷ []
reply_words (Says.BadLog right offset) = codes "badlog" ∷ side_word right ∷ decimal offset ∷ []
reply_words Says.Unnamed = codes "unnamed" ∷ []

-- the actor, the number of its command, and the reply
abbrev pub reply_line : ReplyLine → List ℕ
reply_line r = line (decimal r.actor) (decimal r.command ∷ reply_words r.reply)

-- the lines of the replies
abbrev pub reply_lines : List ReplyLine → List ℕ
reply_lines replies = flat_map reply_line replies
