-- What a command of one request is by the definition of all commands, what it asks, and how it ends.
use Rattle.std.proofs.Common.{◌≡◌, refl, sym, ℕ, None, Some}
use Rattle.qfs_base.specs.declared.reply.MetaReply.{MetaReply}
use Rattle.qfs_base.specs.declared.reply.NodeReply.TheVariants as From
use Rattle.qfs_base.specs.declared.rules.Rules.{Rules}
use Rattle.qfs_machine.specs.Endings.{ending_of_meta, report_of_ending}
use Rattle.qfs_machine.proofs.Endings.{on_answer-nothing, on_answer-none}
use Rattle.qfs_machine.specs.declared.ending.Ending.{Ending}
use Rattle.qfs_model_actor.specs.Ask.{ask}
use Rattle.qfs_model_actor.specs.Command.{file_work, work_of}
use Rattle.qfs_model_actor.specs.Hold.{nothing, ask_or, end_with, on_meta}
use Rattle.qfs_model_actor.specs.System.{tick_work, drop_work, checkpoint_work, restart_work}
use Rattle.qfs_model_actor.specs.Tree.{change_work, list_work}
use Rattle.qfs_model_actor.specs.Work.{ends, goes_on}
use Rattle.qfs_commands.specs.Simple.{IsSimpleRequest, actor_command, after_simple, request_of_simple, rest_of_simple}
use Rattle.qfs_commands.specs.declared.one_request.Stage.TheVariants as At
use Rattle.qfs_commands.specs.declared.simple.SimpleCommand.{SimpleCommand}
use Rattle.qfs_commands.specs.declared.simple.SimpleCommand.TheVariants as Simply

pub starts : (command : SimpleCommand) (rules : Rules) (number : ℕ)
    → rest_of_simple command At.Asking ≡ work_of rules number (actor_command command)
unfolding rest_of_simple request_of_simple after_simple actor_command work_of file_work change_work list_work tick_work drop_work checkpoint_work restart_work
starts (Simply.Mkdir path) rules number = refl
starts (Simply.Rmdir path) rules number = refl
starts (Simply.Remove path) rules number = refl
starts (Simply.Rename from to) rules number = refl
starts (Simply.List path) rules number = refl
starts Simply.Tick rules number = refl
starts (Simply.Drop actor) rules number = refl
starts Simply.Checkpoint rules number = refl
starts Simply.Restart rules number = refl

pub is_simple : (command : SimpleCommand) → IsSimpleRequest (request_of_simple command)
unfolding request_of_simple
is_simple (Simply.Mkdir path) = tt
is_simple (Simply.Rmdir path) = tt
is_simple (Simply.Remove path) = tt
is_simple (Simply.Rename from to) = tt
is_simple (Simply.List path) = tt
is_simple Simply.Tick = tt
is_simple (Simply.Drop actor) = tt
is_simple Simply.Checkpoint = tt
is_simple Simply.Restart = tt

-- it ends as any command may, or as the command says
pub ends_so : (command : SimpleCommand) (answer : MetaReply) (ending : Ending) → ending_of_meta answer ≡ Some ending
    → ends (report_of_ending ending) ≡ goes_on (rest_of_simple command At.Asking) (From.Meta answer)
unfolding rest_of_simple ask ask_or on_meta goes_on
ends_so command answer ending is = sym (on_answer-nothing (after_simple command) answer ending is)

pub goes_so : (command : SimpleCommand) (answer : MetaReply) → ending_of_meta answer ≡ None
    → after_simple command answer ≡ goes_on (rest_of_simple command At.Asking) (From.Meta answer)
unfolding rest_of_simple ask ask_or on_meta goes_on
goes_so command answer none = sym (on_answer-none (end_with nothing) (after_simple command) answer none)
