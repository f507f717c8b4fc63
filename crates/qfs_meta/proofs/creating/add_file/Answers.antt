use Rattle.std.proofs.Common.{false, ◌≡◌, ◌+◌, ◌∙◌, ◌++◌, ◌∷◌, [], ap}
use Rattle.qfs_base.specs.declared.history.Entry.TheVariants as Wrote
use Rattle.qfs_base.specs.NameTree.{added}
use Rattle.qfs_model_meta.specs.Apply.{apply, add_file, write_entry}
use Rattle.qfs_model_meta.specs.TreeRows.{add_row, file_row}
use Rattle.qfs_laws_tree.specs.TreeFacts.{tree_total}
use Rattle.qfs_meta.proofs.RunLaws.{by_row}
use Rattle.qfs_meta.proofs.creating.add_file.Goals as goal

pub returns-clause-ok : goal.returns-clause-ok
unfolding apply add_file write_entry add_row added file_row
returns-clause-ok c =
    let m = c.args.image.now in
    let tree : c.place.new.rows ≡ add_row (file_row c.args.path.now m.next_file c.args.actor c.args.command c.args.len) m.tree =
    c.in_default.ensures.ok ∙ ap (λ path. add_row (file_row path m.next_file c.args.actor c.args.command c.args.len) m.tree) c.in_ok-copy_path.ensures in
    let history : c.push.new.self ≡ m.history ++ Wrote.Created m.next_file c.args.path.now ∷ [] =
    c.in_ok-push.ensures.ok ∙ ap (λ path. m.history ++ Wrote.Created m.next_file path ∷ []) c.in_ok-copy_path-2.ensures in
    λ i. record m { next_file = m.next_file + 1; tree = tree i; history = history i }

pub place-requires : goal.place-requires
place-requires c = by_row tree_total (record { path = _; file = 0; closed = false; actor = 0; command = 0; len = 0 }) c.args.image.now.tree c.requires.order
