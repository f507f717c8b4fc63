-- What the check leaves to show of `files::Files::row_at`.
use Rattle.std.proofs.Common.{ap, ◌∙◌, find}
use Rattle.qfs_base.specs.NameTree.{stands_at}
use Rattle.qfs_files.specs.Rows.{row_names}
use Rattle.qfs_files.proofs.KeyTests.{find_at}
use Rattle.qfs_files.proofs.files.Files.row_at.Goals as goal

pub returns : goal.returns
returns c =
    c.get.ensures ∙ find_at c.args.names.now c.self.inside.rows.rows
    ∙ ap (find (stands_at row_names c.args.names.now)) c.self.view_is
