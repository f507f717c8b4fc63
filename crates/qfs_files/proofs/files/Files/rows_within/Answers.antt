-- What the check leaves to show of `files::Files::rows_within`.
use Rattle.std.proofs.Common.{ap, ◌∙◌, filter}
use Rattle.qfs_base.specs.NameTree.{is_within}
use Rattle.qfs_files.specs.declared.row.FileRow.{FileRow}
use Rattle.qfs_files.proofs.KeyTests.{filter_within}
use Rattle.qfs_files.proofs.files.Files.rows_within.Goals as goal

pub returns : goal.returns
returns c =
    c.run.ensures ∙ filter_within c.args.names.now c.self.inside.rows.rows
    ∙ ap (filter (λ (row : FileRow). is_within c.args.names.now row.names)) c.self.view_is
