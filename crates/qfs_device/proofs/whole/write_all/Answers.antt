-- The front that was written before, and what this write took of the rest.
use Rattle.std.proofs.Common.{arith}
use Rattle.std.proofs.lemmas.Grind.{common_steps}
use Rattle.qfs_device.proofs.Streams.{Appends-take}
use Rattle.qfs_device.proofs.whole.write_all.Goals as goal

pub loop-done-preserved : goal.loop-done-preserved
loop-done-preserved g c =
    let wrote = c.in_ok-done.ensures in
    let before = c.loop-done.invariant in (
      grind (arith, common_steps, wrote.within, before.0),
      Appends-take c.args.bytes.now c.loop-done.done c.in_ok-done.field-0 _ _ _ before.1 wrote.appends,
      omega (arith, wrote.never_falls, before.2),
    )
