-- What the check leaves to show of `fill::place_all`.
use Rattle.std.proofs.Common.{ap, sym, ◌∙◌, arith, length}
use Rattle.std.specs.Vec.Iter.{into_iter_items}
use Rattle.qfs_base.specs.Table.{place_all}
use Rattle.qfs_names.proofs.fill.place_all.Goals as goal

pub loop-row-preserved : goal.loop-row-preserved
loop-row-preserved g c =
    let was = c.loop-row.invariant in
    let taken = c.in-Some.ensures.steps.0 in
    let left = into_iter_items c.next.new.self in
    record {
      placed = ap (place_all g.T.Row.cmp left) c.insert.ensures.rows
          ∙ ap (λ rows. place_all g.T.Row.cmp rows c.loop-row.table.rows) (sym taken) ∙ was.placed;
      spare = omega (arith, was.spare, ap length taken, c.insert.ensures.few);
      used = omega (arith, was.used, ap length taken, c.insert.ensures.few);
    }
