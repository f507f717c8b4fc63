-- What a command holds at the metaserver, and how it gives that back.
use Rattle.std.specs.Prelude.{ℕ}
use Rattle.qfs_base.specs.declared.command.Reply.TheVariants as Report
use Rattle.qfs_base.specs.declared.reply.Granted.{Granted}
use Rattle.qfs_base.specs.declared.reply.MetaReply.{MetaReply}
use Rattle.qfs_base.specs.declared.reply.MetaReply.TheVariants as Said
use Rattle.qfs_base.specs.declared.reply.NodeReply.{NodeReply}
use Rattle.qfs_base.specs.declared.reply.NodeReply.TheVariants as From
use Rattle.qfs_base.specs.declared.request.MetaRequest.{MetaRequest}
use Rattle.qfs_base.specs.declared.request.MetaRequest.TheVariants as Ask
use Rattle.qfs_base.specs.declared.request.NodeRequest.TheVariants as To
use Rattle.qfs_model_actor.specs.Work.{Report, Work, ends, asks}

-- what a command holds: nothing, an unclosed file, the lease of a get, or the grant of a recovery or move
pub data Hold : Type 0 where
  nothing : Hold
  unclosed : ℕ → Hold
  opened : ℕ → Hold
  granted : Granted → Hold

-- a node answered what its request doesn't allow
abbrev pub unnamed : Work
unnamed = ends Report.Unnamed

-- what becomes of an answer of the metaserver: four of them end every command, the last three of these after it has
-- given back what it holds
unfoldable pub on_answer : (Report → Work) → (MetaReply → Work) → MetaReply → Work
on_answer give_up next (Said.Dropped turn) = ends (Report.Dropped turn)
on_answer give_up next Said.LogFault = give_up Report.LogFault
on_answer give_up next Said.NoMemory = give_up Report.NoMemory
on_answer give_up next (Said.BadLog right offset) = give_up (Report.BadLog right offset)
on_answer give_up next answer = next answer

-- the same of any node's answer to a request to the metaserver
unfoldable pub on_meta : (Report → Work) → (MetaReply → Work) → NodeReply → Work
on_meta give_up next (From.Meta answer) = on_answer give_up next answer
on_meta give_up next (From.Chunk answer) = unnamed

-- asks the metaserver, for a command that gives up so
unfoldable pub ask_or : (Report → Work) → MetaRequest → (MetaReply → Work) → Work
ask_or give_up request next = asks (To.Meta request) (on_meta give_up next)

-- what was held is given back by this answer; the lease of a get may be gone
unfoldable pub was_given_back : Work → MetaReply → Work
was_given_back next (Said.Done place) = next
was_given_back next answer = unnamed

unfoldable pub was_released : Work → MetaReply → Work
was_released next (Said.Done place) = next
was_released next Said.Gone = next
was_released next answer = unnamed

-- gives back what is held, and goes on
unfoldable pub give_back : Work → Hold → Work
give_back next nothing = next
give_back next (unclosed file) = ask_or ends (Ask.Abort file) (was_given_back next)
give_back next (opened lease) = ask_or ends (Ask.Release lease) (was_released next)
give_back next (granted g) = ask_or ends (Ask.Abandon g.block g.slot g.version g.lease) (was_given_back next)

-- gives back what is held, and ends
unfoldable pub end_with : Hold → Report → Work
end_with hold report = give_back (ends report) hold
