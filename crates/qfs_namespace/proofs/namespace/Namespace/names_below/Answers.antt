use Rattle.std.proofs.Common.{ap, subst, IfOk, List, ◌∙◌, ◌≡◌}
use Rattle.qfs_base.specs.NameTree.{Standing, names_below}
use Rattle.qfs_model_meta.specs.TreeRows.{standing}
use Rattle.qfs_namespace.specs.Namespaces.{Namespace}
use Rattle.qfs_namespace.proofs.JoinLaws.{standing-joined}
use Rattle.qfs_namespace.proofs.namespace.Namespace.names_below.Goals as goal

pub returns : goal.returns
returns c =
    subst (λ (s : List Standing). IfOk c.names_below.result (λ names. names ≡ names_below s c.args.path.now))
    (standing-joined c.self.inside.files.rows c.self.inside.tree.rows
    ∙ ap (λ (n : Namespace). standing n.tree) c.self.view_is)
    c.names_below.ensures
