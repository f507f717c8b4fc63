-- What the check leaves to show of `blocks::Blocks::confirm_slot`.
use Rattle.std.proofs.Common.{ap, ◌∙◌}
use Rattle.qfs_base.specs.declared.image.SlotRecord.{SlotRecord}
use Rattle.qfs_model_meta.specs.Slots.{change_slot, confirmed_slot}
use Rattle.qfs_blocks.specs.BlockTables.{copy_condemned}
use Rattle.qfs_blocks.specs.BlockTables.{record_changed}
use Rattle.qfs_blocks.proofs.blocks.Blocks.confirm_slot.Goals as goal

pub returns : goal.returns
unfolding change_slot
returns g c =
    let id = c.args.id in
    let below = g.V.LeaseView.next_number c.args.leases.now in
    c.change.ensures
    ∙ ap (record_changed id.block id.slot confirmed_slot) (c.condemn_any.ensures
    ∙ ap (λ (state : SlotRecord). copy_condemned c.args.servers.now below id.block id.slot
    c.args.self.now state.current) c.slot_at-current.ensures)
