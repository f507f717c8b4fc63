-- What the check leaves to show of `files::Files::rename`.
use Rattle.std.proofs.Common.{◌≡◌, ◌++◌, ap, subst, ◌∙◌, drop, length, map}
use Rattle.std.specs.Prelude.{OnOk}
use Rattle.qfs_base.specs.NameTree.{renamed, row_cmp}
use Rattle.qfs_base.specs.Table.{place_all}
use Rattle.qfs_files.specs.declared.row.FileRow.{FileRow}
use Rattle.qfs_files.specs.Rows.{at_names, row_names}
use Rattle.qfs_files.proofs.files.Files.rename.Goals as goal

pub returns : goal.returns
unfolding renamed
returns c =
    let news = c.in_ok-moved.ensures
    ∙ ap (map (λ (row : FileRow).
    at_names (c.args.to.now ++ drop (length c.args.from.now) row.names) row))
    c.rows_within.ensures in
    subst (λ rows. OnOk c.put_all.result (c.put_all.new.self ≡ rows))
    (λ i. place_all (row_cmp row_names) (news i) (c.take_within.ensures i)) c.put_all.ensures
