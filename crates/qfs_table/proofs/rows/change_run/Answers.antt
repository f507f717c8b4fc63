-- What the check leaves to show of `rows::change_run`.
use Rattle.std.proofs.Common.{◌≡◌, true, false, ◌<◌, ◌++◌, length, take, drop, refl, ap, sym, subst, ◌∙◌, arith}
use Rattle.std.specs.Ordering.{is_gt, is_ge}
use Rattle.qfs_base.specs.Table.{Each, change_where, has_key}
use Rattle.qfs_table.specs.Chunks.{flat, rows_at, front, back}
use Rattle.qfs_table.specs.Cuts.{IsCut}
use Rattle.qfs_table.specs.Keys.{starts_tied}
use Rattle.qfs_table.specs.Places.{IsPlaced, IsFirst}
use Rattle.qfs_table.proofs.FlatLaws.{flat_cut}
use Rattle.qfs_table.proofs.RowLaws.{key_cut_gt, back_cut_ge, tied_inside}
use Rattle.qfs_table.proofs.StepLaws.{change_front, change_back, change_step, low_step, cut_step}
use Rattle.qfs_table.proofs.rows.change_run.Goals as goal

pub first_failing-at-requires-clause-cut : goal.first_failing-at-requires-clause-cut
first_failing-at-requires-clause-cut g c =
    let order = g.K.Key.order c.args.key.now in
    subst (λ chunks. IsCut (λ row. is_gt (order row)) (flat chunks)) (sym c.as_slice.ensures.value)
    (key_cut_gt g.T.Row.cmp order (g.met.K.Key.falls c.args.key.now)
    (flat c.args.chunks.now.items) c.requires.rising)

pub run-init : goal.run-init
run-init g c =
    let order = g.K.Key.order c.args.key.now in
    let change = g.C.Change.changed c.args.change.now in
    let chunks = c.args.chunks.now.items in
    let at = c.first_failing-at.result in
    let first = subst (λ chunks. IsFirst (λ row. is_gt (order row)) chunks at)
    c.as_slice.ensures.value c.first_failing-at.ensures.first in
    record {
      placed = subst (λ chunks. IsPlaced chunks at) c.as_slice.ensures.value
          c.first_failing-at.ensures.placed;
      joined = change_front order change (front chunks at.chunk at.row)
          (back chunks at.chunk at.row) first.before
          ∙ ap (change_where (has_key order) change) (sym (flat_cut chunks at.chunk at.row));
      low = first.behind;
      cut = back_cut_ge g.T.Row.cmp order (g.met.K.Key.falls c.args.key.now) chunks
          c.requires.rising at;
      sound = c.requires.sound;
      slots = refl;
      count = refl;
      strain = omega arith;
    }

pub change_row-requires-clause-chunk : goal.change_row-requires-clause-chunk
change_row-requires-clause-chunk g c =
    let order = g.K.Key.order c.args.key.now in
    let at = c.run.at in
    tied_inside order c.run.chunks.items at
    (subst (λ chunks. starts_tied order (back chunks at.chunk at.row) ≡ true)
    c.as_slice-in-run.ensures.value (sym c.has_row.ensures ∙ c.run-test.true))

pub change_row-requires-clause-row : goal.change_row-requires-clause-row
change_row-requires-clause-row g c =
    let order = g.K.Key.order c.args.key.now in
    let at = c.run.at in
    c.run.invariant.placed.row (tied_inside order c.run.chunks.items at
    (subst (λ chunks. starts_tied order (back chunks at.chunk at.row) ≡ true)
    c.as_slice-in-run.ensures.value (sym c.has_row.ensures ∙ c.run-test.true)))

pub behind-at-requires-clause-chunk : goal.behind-at-requires-clause-chunk
behind-at-requires-clause-chunk g c =
    let order = g.K.Key.order c.args.key.now in
    let at = c.run.at in
    let inside = tied_inside order c.run.chunks.items at
    (subst (λ chunks. starts_tied order (back chunks at.chunk at.row) ≡ true)
    c.as_slice-in-run.ensures.value (sym c.has_row.ensures ∙ c.run-test.true)) in
    omega (arith, inside, c.change_row.ensures.count, ap length c.as_slice-in-run-2.ensures.value)

pub behind-at-requires-clause-row : goal.behind-at-requires-clause-row
behind-at-requires-clause-row g c =
    let order = g.K.Key.order c.args.key.now in
    let at = c.run.at in
    let inside = tied_inside order c.run.chunks.items at
    (subst (λ chunks. starts_tied order (back chunks at.chunk at.row) ≡ true)
    c.as_slice-in-run.ensures.value (sym c.has_row.ensures ∙ c.run-test.true)) in
    subst (λ chunks. at.row < length (rows_at chunks at.chunk))
    (sym c.as_slice-in-run-2.ensures.value)
    (c.change_row.ensures.placed.row (omega (arith, inside, c.change_row.ensures.count)))

pub returns-clause-rows : goal.returns-clause-rows
returns-clause-rows g c =
    let order = g.K.Key.order c.args.key.now in
    let change = g.C.Change.changed c.args.change.now in
    let chunks = c.run.chunks.items in
    let at = c.run.at in
    let now = c.run.invariant in
    let other = subst (λ chunks. starts_tied order (back chunks at.chunk at.row) ≡ false)
    c.as_slice-in-run.ensures.value (sym c.has_row.ensures ∙ c.run-test.false) in
    flat_cut chunks at.chunk at.row
    ∙ ap (λ rest. front chunks at.chunk at.row ++ rest)
    (sym (change_back order change (back chunks at.chunk at.row) now.low now.cut other))
    ∙ now.joined

pub run-preserved : goal.run-preserved
run-preserved g c =
    let order = g.K.Key.order c.args.key.now in
    let change = g.C.Change.changed c.args.change.now in
    let old = c.run.chunks.items in
    let new = c.change_row.new.chunks.items in
    let at = c.run.at in
    let next = c.behind-at.result in
    let was = c.run.invariant in
    let made = c.change_row.ensures in
    let tied = subst (λ chunks. starts_tied order (back chunks at.chunk at.row) ≡ true)
    c.as_slice-in-run.ensures.value (sym c.has_row.ensures ∙ c.run-test.true) in
    let seen = c.as_slice-in-run-2.ensures.value in
    let low = subst (λ chunks. front chunks next.chunk next.row
    ≡ front chunks at.chunk at.row ++ take 1 (back chunks at.chunk at.row)) seen
    c.behind-at.ensures.front
    ∙ (λ i. made.front i ++ take 1 (made.back i)) in
    let high = subst (λ chunks. back chunks next.chunk next.row ≡ drop 1
    (back chunks at.chunk at.row)) seen c.behind-at.ensures.back ∙ ap (drop 1) made.back in
    record {
      placed = subst (λ chunks. IsPlaced chunks next) seen c.behind-at.ensures.placed;
      joined = (λ i. low i ++ change_where (has_key order) change (high i))
          ∙ change_step order change (front old at.chunk at.row) (back old at.chunk at.row) tied
          ∙ was.joined;
      low = subst (Each (λ row. is_gt (order row) ≡ false)) (sym high)
          (low_step (λ row. is_gt (order row) ≡ false) change (back old at.chunk at.row) was.low);
      cut = subst (IsCut (λ row. is_ge (order row))) (sym high)
          (cut_step (λ row. is_ge (order row)) change (back old at.chunk at.row) was.cut);
      sound = made.sound;
      slots = made.slots ∙ was.slots;
      count = made.count ∙ was.count;
      strain = omega (arith, made.strain, was.strain);
    }
