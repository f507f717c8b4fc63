use Rattle.std.proofs.Common.{List, ◌∙◌, ap}
use Rattle.std.specs.Prelude.{drop}
use Rattle.qfs_base.specs.declared.command.Command.{Command}
use Rattle.qfs_actors.specs.State.{first_work}
use Rattle.qfs_actors.proofs.States.{starts}
use Rattle.qfs_actors.proofs.state.ActorState.new.Goals as goal

pub returns-clause-of : goal.returns-clause-of
returns-clause-of g c =
    let begun = c.begin_next-machine.ensures in
    let all = c.into_iter-ahead.ensures.rest in
    starts _ c.args.commands.items c.requires.tries c.requires.few
    (begun.ahead ∙ ap (λ (commands : List Command). drop 1 commands) all)
    (begun.rest ∙ ap (first_work c.args.setting.rules 1) all)
    c.new.ensures.items begun.unready
