-- How any command may end: by what answer, and with what report.
use Rattle.std.specs.Prelude.{Option, Some, None}
use Rattle.qfs_base.specs.declared.command.Reply.TheVariants as Report
use Rattle.qfs_base.specs.declared.reply.ChunkAnswer.{ChunkAnswer}
use Rattle.qfs_base.specs.declared.reply.ChunkAnswer.TheVariants as Did
use Rattle.qfs_base.specs.declared.reply.MetaReply.{MetaReply}
use Rattle.qfs_base.specs.declared.reply.MetaReply.TheVariants as Said
use Rattle.qfs_model_actor.specs.Work.{Report, Work, ends}
use Rattle.qfs_machine.specs.declared.ending.Ending.{Ending}
use Rattle.qfs_machine.specs.declared.ending.Ending.TheVariants as By

-- how an answer of the metaserver ends every command, and how one of a chunk server does
unfoldable pub ending_of_meta : MetaReply → Option Ending
ending_of_meta (Said.Dropped turn) = Some (By.Dropped turn)
ending_of_meta Said.LogFault = Some By.LogFault
ending_of_meta Said.NoMemory = Some By.NoMemory
ending_of_meta (Said.BadLog right offset) = Some (By.BadLog right offset)
ending_of_meta answer = None

unfoldable pub ending_of_chunk : ChunkAnswer → Option Ending
ending_of_chunk Did.NoMemory = Some By.NoMemory
ending_of_chunk answer = None

-- the report of a command that ends so
unfoldable pub report_of_ending : Ending → Report
report_of_ending (By.Dropped turn) = Report.Dropped turn
report_of_ending By.LogFault = Report.LogFault
report_of_ending By.NoMemory = Report.NoMemory
report_of_ending (By.BadLog right offset) = Report.BadLog right offset
report_of_ending By.Unnamed = Report.Unnamed

-- what is left of a command that ends so: a dropped actor, and one that was answered what its
-- request doesn't allow, end at once; all others give up first
unfoldable pub ended_by : (Report → Work) → Ending → Work
ended_by give_up (By.Dropped turn) = ends (Report.Dropped turn)
ended_by give_up By.Unnamed = ends Report.Unnamed
ended_by give_up ending = give_up (report_of_ending ending)

-- what is left of a command that ends so, or goes on
unfoldable pub ended_or : (Report → Work) → Work → Option Ending → Work
ended_or give_up next None = next
ended_or give_up next (Some ending) = ended_by give_up ending
