use Rattle.std.proofs.Common.{ap, ◌∙◌}
use Rattle.qfs_base.specs.NameTree.{rename_refusal}
use Rattle.qfs_model_meta.specs.TreeRows.{standing}
use Rattle.qfs_namespace.specs.Namespaces.{Namespace}
use Rattle.qfs_namespace.proofs.JoinLaws.{standing-joined}
use Rattle.qfs_namespace.proofs.namespace.Namespace.rename_refusal.Goals as goal

pub returns : goal.returns
returns c =
    c.rename_refusal.ensures
    ∙ ap (λ s. rename_refusal s c.args.from.now c.args.to.now)
    (standing-joined c.self.inside.files.rows c.self.inside.tree.rows
    ∙ ap (λ (n : Namespace). standing n.tree) c.self.view_is)
