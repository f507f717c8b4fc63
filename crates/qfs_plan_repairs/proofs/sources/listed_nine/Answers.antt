-- What the check leaves to show of `sources::listed_nine`.
use Rattle.std.proofs.Common.{◌≡◌, ◌∙◌, ap}
use Rattle.qfs_model_meta.specs.Lists.{listed_nine}
use Rattle.qfs_model_meta.specs.Servers.{listed_copy}
use Rattle.qfs_model_meta.specs.Slots.{slot_at}
use Rattle.qfs_planning.specs.Walks.{built_start, built_next}
use Rattle.qfs_plan_repairs.proofs.sources.listed_nine.Goals as goal

pub loop-slot-init : goal.loop-slot-init
unfolding listed_nine
loop-slot-init c =
    built_start (λ slot. listed_copy c.args.state.now.image.servers
    (slot_at c.args.state.now.image.slots c.args.block slot).current) c.in_ok-nine.nine 9
    c.in_ok-nine.ensures

pub loop-slot-preserved : goal.loop-slot-preserved
loop-slot-preserved c =
    let servers : c.as_slice.result.now ≡ c.args.state.now.image.servers =
    c.as_slice.ensures ∙ c.servers.ensures.servers in
    let known : c.slot_at-current.result
    ≡ slot_at c.args.state.now.image.slots c.args.block c.loop-slot.slot =
    c.slot_at-current.ensures
    ∙ ap (λ slots. slot_at slots c.args.block c.loop-slot.slot)
    c.blocks-in-loop-slot.ensures.slots in
    built_next (λ slot. listed_copy c.args.state.now.image.servers
    (slot_at c.args.state.now.image.slots c.args.block slot).current) c.loop-slot.nine _ _
    c.loop-slot.slot 9 _ c.loop-slot-test.true c.loop-slot.invariant
    (c.listed_copy.ensures ∙ (λ i. listed_copy (servers i) (known i).current))
    c.in_ok-push.ensures.ok
