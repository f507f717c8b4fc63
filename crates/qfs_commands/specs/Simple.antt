-- The commands of one request: which they are, what they ask, and what becomes of the answer.
use Rattle.std.specs.Prelude.{⊤}
use Rattle.qfs_base.specs.declared.command.Command.{Command}
use Rattle.qfs_base.specs.declared.command.Command.TheVariants as Does
use Rattle.qfs_base.specs.declared.command.FileCommand.TheVariants as File
use Rattle.qfs_base.specs.declared.command.Reply.TheVariants as Report
use Rattle.qfs_base.specs.declared.reply.MetaReply.{MetaReply}
use Rattle.qfs_base.specs.declared.request.MetaRequest.{MetaRequest}
use Rattle.qfs_base.specs.declared.request.MetaRequest.TheVariants as Ask
use Rattle.qfs_base.specs.declared.request.NodeRequest.{NodeRequest}
use Rattle.qfs_base.specs.declared.request.NodeRequest.TheVariants as To
use Rattle.qfs_machine.specs.Endings.{report_of_ending}
use Rattle.qfs_model_actor.specs.Ask.{ask}
use Rattle.qfs_model_actor.specs.Hold.{nothing}
use Rattle.qfs_model_actor.specs.System.{ticked, dropped, saved, restarted}
use Rattle.qfs_model_actor.specs.Tree.{changed, listed}
use Rattle.qfs_model_actor.specs.Work.{Report, Work, ends}
use Rattle.qfs_commands.specs.declared.ending.SimpleEnding.{SimpleEnding}
use Rattle.qfs_commands.specs.declared.ending.SimpleEnding.TheVariants as With
use Rattle.qfs_commands.specs.declared.one_request.Stage.{Stage}
use Rattle.qfs_commands.specs.declared.one_request.Stage.TheVariants as At
use Rattle.qfs_commands.specs.declared.simple.SimpleCommand.{SimpleCommand}
use Rattle.qfs_commands.specs.declared.simple.SimpleCommand.TheVariants as Simply

-- the command of an actor that is meant
unfoldable pub actor_command : SimpleCommand → Command
actor_command (Simply.Mkdir path) = Does.File (File.Mkdir path)
actor_command (Simply.Rmdir path) = Does.File (File.Rmdir path)
actor_command (Simply.Remove path) = Does.File (File.Remove path)
actor_command (Simply.Rename from to) = Does.File (File.Rename from to)
actor_command (Simply.List path) = Does.File (File.List path)
actor_command Simply.Tick = Does.Tick
actor_command (Simply.Drop actor) = Does.Drop actor
actor_command Simply.Checkpoint = Does.Checkpoint
actor_command Simply.Restart = Does.Restart

-- its one request
unfoldable pub request_of_simple : SimpleCommand → MetaRequest
request_of_simple (Simply.Mkdir path) = Ask.Mkdir path
request_of_simple (Simply.Rmdir path) = Ask.Rmdir path
request_of_simple (Simply.Remove path) = Ask.Remove path
request_of_simple (Simply.Rename from to) = Ask.Rename from to
request_of_simple (Simply.List path) = Ask.List path
request_of_simple Simply.Tick = Ask.Tick
request_of_simple (Simply.Drop actor) = Ask.Drop actor
request_of_simple Simply.Checkpoint = Ask.Checkpoint
request_of_simple Simply.Restart = Ask.Restart

-- what becomes of an answer that doesn't end every command
unfoldable pub after_simple : SimpleCommand → MetaReply → Work
after_simple (Simply.Mkdir path) = changed
after_simple (Simply.Rmdir path) = changed
after_simple (Simply.Remove path) = changed
after_simple (Simply.Rename from to) = changed
after_simple (Simply.List path) = listed
after_simple Simply.Tick = ticked
after_simple (Simply.Drop actor) = dropped
after_simple Simply.Checkpoint = saved
after_simple Simply.Restart = restarted

-- the commands on the metaserver as a whole
abbrev pub IsOfSystem : SimpleCommand → Type 0
IsOfSystem Simply.Tick = ⊤
IsOfSystem (Simply.Drop actor) = ⊤
IsOfSystem Simply.Checkpoint = ⊤
IsOfSystem Simply.Restart = ⊤
IsOfSystem command = ⊥

-- the report of a command that ends so
unfoldable pub report_of_simple : SimpleEnding → Report
report_of_simple (With.Done place) = Report.Done place
report_of_simple (With.Listed place names) = Report.Listed place names
report_of_simple (With.Refused place refusal) = Report.Refused place refusal
report_of_simple (With.Clock now) = Report.Clock now
report_of_simple With.DropDone = Report.DropDone
report_of_simple (With.Saved turn) = Report.Saved turn
report_of_simple (With.Restarted turn) = Report.Restarted turn
report_of_simple (With.Common ending) = report_of_ending ending

-- the requests of these commands
abbrev pub IsSimpleRequest : MetaRequest → Type 0
IsSimpleRequest (Ask.Mkdir path) = ⊤
IsSimpleRequest (Ask.Rmdir path) = ⊤
IsSimpleRequest (Ask.Remove path) = ⊤
IsSimpleRequest (Ask.Rename from to) = ⊤
IsSimpleRequest (Ask.List path) = ⊤
IsSimpleRequest Ask.Tick = ⊤
IsSimpleRequest (Ask.Drop actor) = ⊤
IsSimpleRequest Ask.Checkpoint = ⊤
IsSimpleRequest Ask.Restart = ⊤
IsSimpleRequest request = ⊥

-- such a command asks the metaserver alone
abbrev pub IsAskedOnce : NodeRequest → Type 0
IsAskedOnce (To.Meta request) = IsSimpleRequest request
IsAskedOnce (To.Chunk server request) = ⊥

-- what is left of it: it asks, or it has ended
unfoldable pub rest_of_simple : SimpleCommand → Stage → Work
rest_of_simple command At.Asking = ask nothing (request_of_simple command) (after_simple command)
rest_of_simple command (At.Ended ending) = ends (report_of_simple ending)
