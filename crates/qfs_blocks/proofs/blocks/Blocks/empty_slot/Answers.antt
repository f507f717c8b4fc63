-- What the check leaves to show of `blocks::Blocks::empty_slot`.
use Rattle.std.proofs.Common.{ap, ◌∙◌}
use Rattle.qfs_base.specs.declared.image.SlotRecord.{SlotRecord}
use Rattle.qfs_model_meta.specs.Slots.{change_slot, emptied_slot}
use Rattle.qfs_model_meta.specs.Slots.{granted_copy}
use Rattle.qfs_blocks.specs.BlockTables.{copy_condemned}
use Rattle.qfs_blocks.specs.BlockTables.{record_changed}
use Rattle.qfs_blocks.proofs.blocks.Blocks.empty_slot.Goals as goal

pub returns : goal.returns
unfolding change_slot
returns g c =
    let id = c.args.id in
    let below = g.V.LeaseView.next_number c.args.leases.now in
    let servers = c.args.servers.now in
    let state = c.slot_at-state.ensures in
    let first = c.condemn_any.ensures
    ∙ ap (λ (state : SlotRecord). copy_condemned servers below id.block id.slot c.args.self.now
    state.current) state in
    let second = c.granted_copy.ensures
    ∙ ap (λ (state : SlotRecord). granted_copy state.grant) state in
    c.change.ensures
    ∙ ap (record_changed id.block id.slot emptied_slot) (c.condemn_any-2.ensures
    ∙ (λ i. copy_condemned servers below id.block id.slot (first i) (second i)))
