-- What the check leaves to show of `records::Records::forget`.
use Rattle.std.proofs.Common.{ap, sym, subst, ◌∙◌}
use Rattle.qfs_base.specs.Table.{IsRising}
use Rattle.qfs_laws_tables.specs.InOrder.{filter_rises}
use Rattle.qfs_model_meta.specs.Slots.{forget_file, is_of_file, slot_cmp}
use Rattle.qfs_blocks.specs.BlockTables.{SlotRecords}
use Rattle.qfs_blocks.proofs.records.Records.forget.Goals as goal

pub invariant_of-self : goal.invariant_of-self
invariant_of-self c = record {
  in_order = subst (IsRising slot_cmp) (sym c.remove_run.ensures.rows)
      (filter_rises slot_cmp _ c.self.inside.table.rows c.self.invariant.in_order);
}

pub returns-clause-slots : goal.returns-clause-slots
unfolding forget_file is_of_file
returns-clause-slots c =
    c.remove_run.ensures.rows
    ∙ ap (λ (it : SlotRecords). forget_file c.args.file it.slots) c.self.view_is
