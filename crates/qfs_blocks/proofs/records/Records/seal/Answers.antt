-- What the check leaves to show of `records::Records::seal`.
use Rattle.std.proofs.Common.{ap, sym, subst, ◌∙◌}
use Rattle.qfs_base.specs.Table.{IsRising, has_key}
use Rattle.qfs_laws_slots.specs.Slots.{slot_cmp_total}
use Rattle.qfs_laws_tables.specs.InOrder.{change_rises}
use Rattle.qfs_model_meta.specs.Slots.{change_state, file_order, is_of_file, seal_file, sealed_slot}
use Rattle.qfs_model_meta.specs.Slots.{slot_cmp}
use Rattle.qfs_blocks.specs.BlockTables.{SlotRecords}
use Rattle.qfs_blocks.specs.KeyLaws.{change_keeps}
use Rattle.qfs_blocks.proofs.RowLaws.{keeps_behind}
use Rattle.qfs_blocks.proofs.records.Records.seal.Goals as goal

pub invariant_of-self : goal.invariant_of-self
invariant_of-self c = record {
  in_order = subst (IsRising slot_cmp) (sym c.change.ensures.rows)
      (change_rises slot_cmp (has_key (file_order c.args.file)) (change_state sealed_slot)
      (change_keeps sealed_slot)
      (keeps_behind slot_cmp_total (change_state sealed_slot) (change_keeps sealed_slot))
      c.self.inside.table.rows c.self.invariant.in_order);
}

pub returns-clause-slots : goal.returns-clause-slots
unfolding seal_file is_of_file
returns-clause-slots c =
    c.change.ensures.rows
    ∙ ap (λ (it : SlotRecords). seal_file c.args.file it.slots) c.self.view_is
