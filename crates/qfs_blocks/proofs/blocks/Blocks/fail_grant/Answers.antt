-- What the check leaves to show of `blocks::Blocks::fail_grant`.
use Rattle.std.proofs.Common.{ap, sym, ◌∙◌}
use Rattle.qfs_base.specs.declared.image.SlotRecord.{SlotRecord}
use Rattle.qfs_model_meta.specs.Slots.{change_slot, failed_slot}
use Rattle.qfs_model_meta.specs.Slots.{ungranted_slot}
use Rattle.qfs_blocks.specs.BlockTables.{grant_failed}
use Rattle.qfs_blocks.specs.BlockTables.{record_changed}
use Rattle.qfs_blocks.proofs.blocks.Blocks.fail_grant.Goals as goal

pub returns-in-Some : goal.returns-in-Some
unfolding change_slot
returns-in-Some g c =
    let id = c.args.id in
    let below = g.V.LeaseView.next_number c.args.leases.now in
    let pending = sym (ap (λ (state : SlotRecord). state.grant) c.slot_at.ensures) ∙ c.in-Some.is in
    let copy = c.in-Some.grant.copy in
    c.change-in-Some.ensures
    ∙ ap (record_changed id.block id.slot (failed_slot copy.server)) (c.change.ensures
    ∙ ap (record_changed id.block id.slot ungranted_slot) c.condemn_any.ensures)
    ∙ ap (grant_failed c.args.servers.now below id.block id.slot c.args.self.now) (sym pending)
