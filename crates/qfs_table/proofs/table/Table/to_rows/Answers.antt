-- What the check leaves to show of `table::Table::to_rows`.
use Rattle.std.proofs.Common.{sym, subst, ◌∙◌, length, take, drop, ◌++◌, ◌∷◌, [], ◌≡◌, rules}
use Rattle.std.specs.List.{AllZip}
use Rattle.qfs_table.proofs.TableLaws.{zip_next}
use Rattle.qfs_table.proofs.table.Table.to_rows.Goals as goal

pub loop-row-preserved : goal.loop-row-preserved
loop-row-preserved g c =
    let all = c.args.self.now.rows in
    let copies = c.loop-row.rows.items in
    let row = c.in-Some.row.now in
    let copy = c.in_ok-clone.field-0 in
    let rest = c.next.new.self in
    let was = c.loop-row.invariant in
    let left : drop (length copies) all ≡ row ∷ rest = was.rest ∙ c.in-Some.ensures.steps in
    let more = zip_next g.T.Clone.is_clone all copies row copy rest left was.copied
    c.in_ok-clone.ensures.cases in
    let pushed : c.push.new.self.items ≡ copies ++ copy ∷ [] = search rules in
    record {
      copied = subst (λ rows. AllZip g.T.Clone.is_clone (take (length rows) all) rows)
          (sym pushed) more.0;
      rest = subst (λ rows. drop (length rows) all ≡ rest) (sym pushed) more.1;
    }
