use Rattle.std.proofs.Common.{ap, ◌∙◌}
use Rattle.qfs_base.specs.NameTree.{directory_refusal}
use Rattle.qfs_model_meta.specs.TreeRows.{standing}
use Rattle.qfs_namespace.specs.Namespaces.{Namespace}
use Rattle.qfs_namespace.proofs.JoinLaws.{standing-joined}
use Rattle.qfs_namespace.proofs.namespace.Namespace.directory_refusal.Goals as goal

pub returns : goal.returns
returns c =
    c.directory_refusal.ensures
    ∙ ap (λ s. directory_refusal s c.args.path.now)
    (standing-joined c.self.inside.files.rows c.self.inside.tree.rows
    ∙ ap (λ (n : Namespace). standing n.tree) c.self.view_is)
