-- What the check leaves to show of `records::Records::grant`.
use Rattle.std.proofs.Common.{ap, arith, length, sym, subst, ◌∙◌}
use Rattle.qfs_base.specs.Table.{IsRising, place}
use Rattle.qfs_laws_slots.specs.Slots.{row_of, slot_cmp_total}
use Rattle.qfs_laws_tables.specs.InOrder.{place_rises}
use Rattle.qfs_model_meta.specs.Slots.{change_state, granted_slot, slot_at, slot_cmp}
use Rattle.qfs_model_meta.specs.Slots.{with_slot}
use Rattle.qfs_blocks.specs.BlockTables.{SlotRecords}
use Rattle.qfs_blocks.specs.Records.{is_of}
use Rattle.qfs_blocks.proofs.RecordLaws.{granted_found, unknown_slot}
use Rattle.qfs_blocks.proofs.RowLaws.{changed_length}
use Rattle.qfs_blocks.proofs.records.Records.grant.Goals as goal

pub invariant_of-self : goal.invariant_of-self
invariant_of-self c = record {
  in_order = subst (IsRising slot_cmp) (sym c.insert.ensures.rows)
      (place_rises slot_cmp_total _ c.self.inside.table.rows c.self.invariant.in_order);
}

pub returns-then-has-clause-slots : goal.returns-then-has-clause-slots
returns-then-has-clause-slots c =
    let new = c.args.new in
    c.change.ensures.slots
    ∙ granted_found c.args.id (granted_slot new.server new.life new.actor new.lease)
    c.args.self.now.slots c.has.ensures.rising (sym c.has.ensures.found ∙ c.if-has.true)

pub returns-then-has-clause-spare : goal.returns-then-has-clause-spare
returns-then-has-clause-spare c =
    let new = c.args.new in
    let long = ap length c.change.ensures.slots
    ∙ changed_length (is_of c.args.id)
    (change_state (granted_slot new.server new.life new.actor new.lease)) c.args.self.now.slots in
    omega (arith, long, c.change.ensures.spare)

pub returns-else-has-clause-slots : goal.returns-else-has-clause-slots
unfolding with_slot
returns-else-has-clause-slots c =
    let id = c.args.id in
    let new = c.args.new in
    let slots = c.args.self.now.slots in
    let none = sym c.has.ensures.found ∙ c.if-has.false in
    let state = c.granted.ensures
    ∙ ap (granted_slot new.server new.life new.actor new.lease)
    (c.never_granted.ensures ∙ sym (unknown_slot id slots none)) in
    c.insert.ensures.rows
    ∙ ap (λ row. place slot_cmp row c.self.inside.table.rows)
    (c.new.ensures ∙ ap (row_of id.block id.slot) state)
    ∙ ap (λ (it : SlotRecords). place slot_cmp (row_of id.block id.slot
    (granted_slot new.server new.life new.actor new.lease (slot_at slots id.block id.slot)))
    it.slots) c.self.view_is
