-- One actor more.
use Rattle.std.proofs.Common.{◌∙◌, arith}
use Rattle.qfs_nodes.proofs.Starts.{started-long, starts_step}
use Rattle.qfs_nodes.proofs.start.add_phase.Goals as goal

pub overflow_cast-number : goal.overflow_cast-number
overflow_cast-number c =
    let long = started-long c.args.rules.now c.args.actors.now.items c.loop-commands.actors.items c.args.phase.now c.loop-commands.commands-index c.loop-commands.invariant c.loop-commands-test.true in
    omega (arith, long, c.len.ensures, c.loop-commands.actors.ok.0, c.requires.few, c.loop-commands-test.true)

pub overflow_add-number : goal.overflow_add-number
overflow_add-number c =
    let long = started-long c.args.rules.now c.args.actors.now.items c.loop-commands.actors.items c.args.phase.now c.loop-commands.commands-index c.loop-commands.invariant c.loop-commands-test.true in
    omega (arith, long, c.len.ensures, c.loop-commands.actors.ok.0, c.requires.few, c.loop-commands-test.true)

pub loop-commands-preserved : goal.loop-commands-preserved
loop-commands-preserved c =
    starts_step c.args.rules.now c.args.actors.now.items c.loop-commands.actors.items _ c.args.phase.now c.loop-commands.commands-index
    c.len.result c.new.result c.commands-item.result c.in_ok-commands.commands c.loop-commands.invariant c.loop-commands-test.true
    c.commands-item.is (c.len.ensures ∙ c.loop-commands.actors.ok.0) (c.in_ok-commands.ensures ∙ c.as_slice.ensures) c.new.ensures
    c.in_ok-push.ensures.items
