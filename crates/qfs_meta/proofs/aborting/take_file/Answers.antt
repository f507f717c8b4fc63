use Rattle.std.proofs.Common.{rules, ◌∙◌, ap, not}
use Rattle.std.proofs.lemmas.Fn.{filter_same}
use Rattle.qfs_base.specs.declared.image.TreeRow.{TreeRow}
use Rattle.qfs_model_meta.specs.TreeRows.{take_file, has_file}
use Rattle.qfs_meta.proofs.aborting.take_file.Goals as goal

pub returns : goal.returns
unfolding take_file has_file
returns c =
    c.from_vec.ensures
    ∙ filter_same _ (λ (row : TreeRow). not (has_file c.args.file row)) _ (λ x b f' k. search rules) _ _ c.retain.ensures.filtered
    ∙ ap (take_file c.args.file) c.take_items-rows.ensures.items
