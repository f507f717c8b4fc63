-- What the check leaves to show of `files::Files::take`.
use Rattle.std.proofs.Common.{ap, sym, subst, ◌∙◌}
use Rattle.qfs_base.specs.EachLaws.{each_filter}
use Rattle.qfs_base.specs.NameTree.{stands_at}
use Rattle.qfs_base.specs.Table.{without}
use Rattle.qfs_files.specs.Open.{Covers, IsCovered}
use Rattle.qfs_files.specs.Rows.{row_names}
use Rattle.qfs_files.proofs.KeyTests.{without_at}
use Rattle.qfs_files.proofs.files.Files.take.Goals as goal

pub invariant_of-self : goal.invariant_of-self
invariant_of-self c =
    let places = c.self.inside.places.rows in
    subst (Covers places) (sym c.remove.ensures.rows)
    (each_filter (IsCovered places) _ c.self.inside.rows.rows c.self.invariant)

pub returns : goal.returns
returns c =
    c.remove.ensures.rows ∙ without_at c.args.names.now c.self.inside.rows.rows
    ∙ ap (without (stands_at row_names c.args.names.now)) c.self.view_is
