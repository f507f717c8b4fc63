use Rattle.std.proofs.Common.{ap, ◌∙◌}
use Rattle.qfs_model_meta.specs.TreeRows.{row_at}
use Rattle.qfs_namespace.specs.Joined.{known_in, known_of}
use Rattle.qfs_namespace.specs.Namespaces.{Namespace}
use Rattle.qfs_namespace.proofs.FindLaws.{known-at}
use Rattle.qfs_namespace.proofs.namespace.Namespace.file_at.Goals as goal

pub returns : goal.returns
returns c =
    let files = c.self.inside.files.rows in
    c.known.ensures ∙ ap (known_of files) c.file_at.ensures
    ∙ known-at c.self.inside.tree.rows files c.self.inside.next_file c.self.invariant.0 c.args.path.now
    ∙ ap (λ (n : Namespace). known_in (row_at n.tree c.args.path.now)) c.self.view_is
