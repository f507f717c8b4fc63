-- What is left of a command on a server at each of its stages.
use Rattle.std.specs.Prelude.{◌≡◌, ℕ, ⊤}
use Rattle.qfs_base.specs.declared.command.Command.{Command}
use Rattle.qfs_base.specs.declared.command.Reply.TheVariants as Report
use Rattle.qfs_base.specs.declared.request.ChunkRequest.{ChunkRequest}
use Rattle.qfs_base.specs.declared.request.ChunkRequest.TheVariants as Serve
use Rattle.qfs_base.specs.declared.request.MetaRequest.{MetaRequest}
use Rattle.qfs_base.specs.declared.request.MetaRequest.TheVariants as Ask
use Rattle.qfs_base.specs.declared.request.NodeRequest.{NodeRequest}
use Rattle.qfs_base.specs.declared.request.NodeRequest.TheVariants as To
use Rattle.qfs_base.specs.declared.rules.Rules.{Rules}
use Rattle.qfs_machine.specs.Endings.{report_of_ending}
use Rattle.qfs_model_actor.specs.Ask.{ask, ask_server}
use Rattle.qfs_model_actor.specs.Command.{work_of}
use Rattle.qfs_model_actor.specs.Hold.{nothing}
use Rattle.qfs_model_actor.specs.Servers.{stop_work, start_work, wipe_work, hibernate_work, upgrade_work}
use Rattle.qfs_model_actor.specs.Servers.{after_bye, after_hello, after_rest, tell_copies}
use Rattle.qfs_model_actor.specs.Work.{Report, Work, ends}
use Rattle.qfs_hiber.specs.declared.ending.ChangeEnding.{ChangeEnding}
use Rattle.qfs_hiber.specs.declared.ending.ChangeEnding.TheVariants as With
use Rattle.qfs_hiber.specs.declared.ending.Up.{Up}
use Rattle.qfs_hiber.specs.declared.ending.Up.TheVariants as By
use Rattle.qfs_hiber.specs.declared.server_change.ServerChange.{ServerChange}
use Rattle.qfs_hiber.specs.declared.stage.Stage.{Stage}
use Rattle.qfs_hiber.specs.declared.stage.Stage.TheVariants as At

-- the report of a command that brought its server up
unfoldable pub report_of_up : Up → Report
report_of_up (By.Started life) = Report.Started life
report_of_up (By.Wiped life) = Report.Wiped life

-- the report of a command that ends so
unfoldable pub report_of_change : ChangeEnding → Report
report_of_change With.Stopped = Report.Stopped
report_of_change (With.Up up) = report_of_up up
report_of_change With.Fault = Report.Fault
report_of_change (With.Hibernating until) = Report.Hibernating until
report_of_change With.NotUp = Report.NotUp
report_of_change With.Upgraded = Report.Upgraded
report_of_change With.Down = Report.Down
report_of_change (With.Common ending) = report_of_ending ending

-- what is left of a command on this server
unfoldable pub rest_of_change : ℕ → Stage → Work
rest_of_change server At.Stopping = stop_work server
rest_of_change server At.Parting = ask nothing (Ask.Bye server) after_bye
rest_of_change server At.Starting = start_work server
rest_of_change server At.Wiping = wipe_work server
rest_of_change server (At.Listing up) = tell_copies server (report_of_up up)
rest_of_change server (At.Telling up life keys) =
    ask nothing (Ask.Hello server life keys) (after_hello (report_of_up up))
rest_of_change server (At.Announcing ticks) = hibernate_work server ticks
rest_of_change server (At.Resting until) =
    ask_server nothing server Serve.Stop (after_rest until)
rest_of_change server At.Upgrading = upgrade_work server
rest_of_change server (At.Ended ending) = ends (report_of_change ending)

-- it is this command of an actor, at its start, by whatever rules and under whatever number
abbrev pub Is : Command → ServerChange → Type 0
Is command change =
    (rules : Rules) (number : ℕ)
    → rest_of_change change.server change.stage ≡ work_of rules number command

-- what such commands ask the metaserver, and a server
abbrev pub TellsOfServer : MetaRequest → Type 0
TellsOfServer (Ask.Bye server) = ⊤
TellsOfServer (Ask.Hello server life keys) = ⊤
TellsOfServer (Ask.Hibernate server ticks) = ⊤
TellsOfServer request = ⊥

abbrev pub ChangesServer : ChunkRequest → Type 0
ChangesServer Serve.Stop = ⊤
ChangesServer Serve.Start = ⊤
ChangesServer Serve.Wipe = ⊤
ChangesServer Serve.Inventory = ⊤
ChangesServer Serve.Upgrade = ⊤
ChangesServer request = ⊥

abbrev pub IsAskedByChange : NodeRequest → Type 0
IsAskedByChange (To.Meta request) = TellsOfServer request
IsAskedByChange (To.Chunk server request) = ChangesServer request
