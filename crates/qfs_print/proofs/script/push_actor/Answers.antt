use Rattle.std.proofs.lemmas.Result.{on_ok_weaker}
use Rattle.qfs_print.proofs.Lines.{actor_told}
use Rattle.qfs_print.proofs.script.push_actor.Goals as goal

pub returns : goal.returns
returns c =
    on_ok_weaker c.push_commands.result
    (actor_told c.args.number c.args.commands.now c.as_slice.result.now c.args.out.now.items
    c.push_numbered.new.out.items c.push_commands.new.out.items c.in_ok-push_numbered.ensures
    c.as_slice.ensures)
    c.push_commands.ensures
