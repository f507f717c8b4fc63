-- What the check leaves to show of `files::Files::put`.
use Rattle.std.proofs.Common.{sym, subst}
use Rattle.qfs_base.specs.EachLaws.{each_weaker}
use Rattle.qfs_base.specs.NameTree.{row_cmp}
use Rattle.qfs_laws_tables.specs.EachRow.{each_place}
use Rattle.qfs_files.specs.Open.{Covers, IsCovered}
use Rattle.qfs_files.specs.Rows.{row_names}
use Rattle.qfs_files.proofs.files.Files.put.Goals as goal

pub invariant_of-self-2 : goal.invariant_of-self-2
invariant_of-self-2 c =
    let places = c.keep_open.new.places.rows in
    subst (Covers places) (sym c.insert.ensures.rows)
    (each_place (IsCovered places) (row_cmp row_names) c.args.row c.reserve.new.self.rows
    c.in_ok-keep_open.ensures.own
    (subst (Covers places) (sym c.reserve.ensures.rows)
    (each_weaker (IsCovered c.self.inside.places.rows) (IsCovered places) c.keep_open.ensures.others
    c.self.inside.rows.rows c.self.invariant)))
