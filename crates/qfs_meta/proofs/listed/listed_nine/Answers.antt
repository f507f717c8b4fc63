use Rattle.std.proofs.Common.{◌∙◌, ap}
use Rattle.qfs_model_meta.specs.Lists.{listed_nine}
use Rattle.qfs_model_meta.specs.Servers.{listed_copy}
use Rattle.qfs_model_meta.specs.Slots.{slot_at}
use Rattle.qfs_meta.proofs.ListedLaws.{built-start, built-next}
use Rattle.qfs_meta.proofs.listed.listed_nine.Goals as goal

pub loop-slot-init : goal.loop-slot-init
unfolding listed_nine
loop-slot-init c =
    built-start (λ slot. listed_copy c.args.servers.now (slot_at c.args.slots.now c.args.block slot).current) c.in_ok-nine.nine 9 c.in_ok-nine.ensures

pub loop-slot-preserved : goal.loop-slot-preserved
loop-slot-preserved c =
    built-next _ c.loop-slot.nine _ _ c.loop-slot.slot 9 _ c.loop-slot-test.true c.loop-slot.invariant
    (c.listed_copy.ensures ∙ ap (λ state. listed_copy c.args.servers.now state.current) c.slot_at-current.ensures)
    c.in_ok-push.ensures.ok
