use Rattle.std.proofs.Common.{ap, ◌∙◌}
use Rattle.qfs_base.specs.NameTree.{look_refusal}
use Rattle.qfs_model_meta.specs.TreeRows.{standing}
use Rattle.qfs_namespace.specs.Namespaces.{Namespace}
use Rattle.qfs_namespace.proofs.JoinLaws.{standing-joined}
use Rattle.qfs_namespace.proofs.namespace.Namespace.look_refusal.Goals as goal

pub returns : goal.returns
returns c =
    c.look_refusal.ensures
    ∙ ap (λ s. look_refusal s c.args.path.now)
    (standing-joined c.self.inside.files.rows c.self.inside.tree.rows
    ∙ ap (λ (n : Namespace). standing n.tree) c.self.view_is)
