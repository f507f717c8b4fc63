use Rattle.std.proofs.Common.{◌≡◌, ◌∙◌, sym}
use Rattle.qfs_model_meta.specs.Apply.{apply, write_entry, with_slots}
use Rattle.qfs_model_meta.specs.TreeRows.{close_file, close_row, has_file}
use Rattle.qfs_meta.proofs.TableLaws.{change_where-map}
use Rattle.qfs_meta.proofs.closing.close_file.Goals as goal

pub returns-clause-ok : goal.returns-clause-ok
unfolding apply write_entry with_slots close_file
returns-clause-ok c =
    let tree : c.change_rows.new.rows ≡ close_file c.args.file c.args.image.now.tree =
    c.change_rows.ensures ∙ sym (change_where-map (has_file c.args.file) close_row c.args.image.now.tree) in
    λ i. record c.args.image.now { tree = tree i; slots = c.seal_file.ensures.slots i; history = c.in_ok-push.ensures.ok i }
