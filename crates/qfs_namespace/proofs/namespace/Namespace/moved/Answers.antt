use Rattle.std.proofs.Common.{ap, map, subst, sym, IfOk, List, ◌∙◌}
use Rattle.qfs_base.specs.NameTree.{rename_refusal}
use Rattle.qfs_model_meta.specs.TreeRows.{standing}
use Rattle.qfs_names.specs.Moves.{IsMove}
use Rattle.qfs_names.specs.declared.row.NameRow.{NameRow}
use Rattle.qfs_namespace.specs.Namespaces.{Namespace, name_in_row}
use Rattle.qfs_namespace.proofs.JoinLaws.{names-joined, standing-joined}
use Rattle.qfs_namespace.proofs.namespace.Namespace.moved.Goals as goal

pub moved-requires : goal.moved-requires
moved-requires c =
    ap (λ s. rename_refusal s c.args.from.now c.args.to.now)
    (standing-joined c.self.inside.files.rows c.self.inside.tree.rows
    ∙ ap (λ (n : Namespace). standing n.tree) c.self.view_is)
    ∙ c.requires

pub returns : goal.returns
returns c =
    subst (λ (rows : List NameRow). IfOk c.moved.result (IsMove c.args.from.now c.args.to.now rows))
    (sym (names-joined c.self.inside.files.rows c.self.inside.tree.rows)
    ∙ ap (λ (n : Namespace). map name_in_row n.tree) c.self.view_is)
    c.moved.ensures
