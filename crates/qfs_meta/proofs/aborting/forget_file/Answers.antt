use Rattle.std.proofs.Common.{◌++◌, List, take, drop, rules, refl, ◌∙◌, ap, sym, subst, not}
use Rattle.std.proofs.lemmas.Fn.{filter_same}
use Rattle.qfs_base.specs.declared.image.SlotRow.{SlotRow}
use Rattle.qfs_model_meta.specs.Slots.{forget_file, file_order, is_of_file}
use Rattle.qfs_meta.specs.Loads.{loads_of}
use Rattle.qfs_meta.specs.Runs.{IsInOrder, IsRun}
use Rattle.qfs_meta.proofs.RunLaws.{part_of, without_part}
use Rattle.qfs_meta.proofs.SlotLaws.{by_file}
use Rattle.qfs_meta.proofs.aborting.forget_file.Goals as goal

pub run_of-run-requires : goal.run_of-run-requires
run_of-run-requires c =
    subst (IsInOrder (file_order c.args.file)) (sym c.as_slice.ensures) (by_file c.args.file c.args.slots.now c.requires.order)

pub returns-clause-slots : goal.returns-clause-slots
unfolding forget_file is_of_file
returns-clause-slots c =
    c.from_vec.ensures
    ∙ filter_same _ (λ (row : SlotRow). not (is_of_file c.args.file row)) _ (λ x b f' k. search rules) _ _ c.retain.ensures.filtered
    ∙ ap (forget_file c.args.file) c.take_items-rows.ensures.items

pub returns-clause-loads : goal.returns-clause-loads
unfolding forget_file is_of_file
returns-clause-loads c =
    let slots : List SlotRow = c.args.slots.now in
    let run = c.run_of-run.result in
    let is = subst (λ rows. IsRun (file_order c.args.file) rows run) c.as_slice.ensures c.run_of-run.ensures in
    c.uncount.ensures
    ∙ ap (λ rows. loads_of c.args.servers.now (take run.start rows ++ drop run.end rows)) c.as_slice-2.ensures
    ∙ ap (loads_of c.args.servers.now)
    (sym (without_part (is_of_file c.args.file) slots run (part_of (is_of_file c.args.file) (file_order c.args.file) slots run (λ row. refl) is)) ∙ sym (returns-clause-slots c))
