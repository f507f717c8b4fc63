-- What the check leaves to show of `files::Files::take_within`.
use Rattle.std.proofs.Common.{ap, sym, subst, ◌∙◌}
use Rattle.qfs_base.specs.EachLaws.{each_filter}
use Rattle.qfs_base.specs.NameTree.{is_within}
use Rattle.qfs_base.specs.Table.{without}
use Rattle.qfs_files.specs.declared.row.FileRow.{FileRow}
use Rattle.qfs_files.specs.Open.{Covers, IsCovered}
use Rattle.qfs_files.proofs.KeyTests.{without_within}
use Rattle.qfs_files.proofs.files.Files.take_within.Goals as goal

pub invariant_of-self : goal.invariant_of-self
invariant_of-self c =
    let places = c.self.inside.places.rows in
    subst (Covers places) (sym c.remove_run.ensures.rows)
    (each_filter (IsCovered places) _ c.self.inside.rows.rows c.self.invariant)

pub returns : goal.returns
returns c =
    c.remove_run.ensures.rows ∙ without_within c.args.names.now c.self.inside.rows.rows
    ∙ ap (without (λ (row : FileRow). is_within c.args.names.now row.names)) c.self.view_is
