-- What the check leaves to show of `records::Records::change`.
use Rattle.std.proofs.Common.{ap, sym, subst, ◌∙◌}
use Rattle.qfs_base.specs.declared.image.SlotRow.{SlotRow}
use Rattle.qfs_base.specs.Table.{IsRising, change_where, has_key}
use Rattle.qfs_laws_slots.specs.Slots.{slot_cmp_total}
use Rattle.qfs_laws_tables.specs.InOrder.{change_rises}
use Rattle.qfs_model_meta.specs.Slots.{is_slot, slot_cmp, slot_order}
use Rattle.qfs_blocks.specs.BlockTables.{SlotRecords}
use Rattle.qfs_blocks.specs.Records.{is_of}
use Rattle.qfs_blocks.proofs.RowLaws.{keeps_behind}
use Rattle.qfs_blocks.proofs.records.Records.change.Goals as goal

pub invariant_of-self : goal.invariant_of-self
invariant_of-self g c =
    let changed = g.C.Change.changed c.args.change.now in
    let keeps = λ (a b : SlotRow). g.met.C.Change.keeps_key c.args.change.now a b in
    record {
      in_order = subst (IsRising slot_cmp) (sym c.change.ensures.rows)
          (change_rises slot_cmp (has_key (slot_order c.args.id)) changed keeps
          (keeps_behind slot_cmp_total changed keeps) c.self.inside.table.rows
          c.self.invariant.in_order);
    }

pub returns-clause-slots : goal.returns-clause-slots
unfolding is_slot
returns-clause-slots g c =
    c.change.ensures.rows
    ∙ ap (λ (it : SlotRecords).
    change_where (is_of c.args.id) (g.C.Change.changed c.args.change.now) it.slots) c.self.view_is
