use Rattle.std.proofs.Common.{ap, find, sym, ◌∙◌}
use Rattle.qfs_laws_tables.specs.SomeRow.{some-any}
use Rattle.qfs_model_meta.specs.TreeRows.{file_stands}
use Rattle.qfs_namespace.specs.Joined.{is_known_as}
use Rattle.qfs_namespace.specs.Namespaces.{Namespace}
use Rattle.qfs_namespace.proofs.FindLaws.{seen-there, stands-joined}
use Rattle.qfs_namespace.proofs.namespace.Namespace.file_stands.Goals as goal

pub returns : goal.returns
returns c =
    c.is_some.ensures
    ∙ seen-there (find (is_known_as c.args.file) c.self.inside.files.rows) c.get.result c.get.ensures
    ∙ some-any (is_known_as c.args.file) c.self.inside.files.rows
    ∙ c.self.invariant.0.stand c.args.file
    ∙ sym (stands-joined c.self.inside.files.rows c.args.file c.self.inside.tree.rows)
    ∙ ap (λ (n : Namespace). file_stands c.args.file n.tree) c.self.view_is
