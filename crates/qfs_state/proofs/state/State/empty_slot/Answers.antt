-- What the check leaves to show of `state::State::empty_slot`.
use Rattle.std.proofs.Common.{◌∙◌, ap}
use Rattle.qfs_base.specs.declared.change.Change.TheVariants.{EmptySlot}
use Rattle.qfs_blocks.specs.ImageLaws.{with_blocks}
use Rattle.qfs_model_meta.specs.Apply.{apply}
use Rattle.qfs_state.specs.Held.{Held, image_of}
use Rattle.qfs_state.proofs.SlotChanges.{emptied}
use Rattle.qfs_state.proofs.state.State.empty_slot.Goals as goal

pub invariant_of-self : goal.invariant_of-self
invariant_of-self c =
    let s = c.self.inside in
    let id = c.args.id in
    let m = image_of s.turn s.clock s.servers s.names s.blocks s.leases s.dropped.items in
    rw (c.uncount_live-2.ensures, c.as_slice-2.ensures, c.granted_copy.ensures, c.uncount_live.ensures, c.as_slice.ensures, c.slot_at-state.ensures, c.empty_slot.ensures)
    (emptied m s.leases.spare s.blocks s.loads c.self.invariant id.block id.slot).held

pub returns-clause-image : goal.returns-clause-image
returns-clause-image c =
    let s = c.self.inside in
    let id = c.args.id in
    let m = image_of s.turn s.clock s.servers s.names s.blocks s.leases s.dropped.items in
    ap (λ t. with_blocks t m) c.empty_slot.ensures
    ∙ (emptied m s.leases.spare s.blocks s.loads c.self.invariant id.block id.slot).image
    ∙ ap (λ (held : Held). apply held.image (EmptySlot id.block id.slot)) c.self.view_is
