-- What the check leaves to show of `rows::take_first`.
use Rattle.std.proofs.Common.{true, false, subst, sym, ◌∙◌}
use Rattle.qfs_table.specs.Places.{IsSought}
use Rattle.qfs_table.proofs.RowLaws.{found_inside, found_row, found_first, found_out, free_none, free_out}
use Rattle.qfs_table.proofs.rows.take_first.Goals as goal

pub remove_row-row-requires-clause-chunk : goal.remove_row-row-requires-clause-chunk
remove_row-row-requires-clause-chunk g c =
    let order = g.K.Key.order c.args.key.now in
    let at = c.in-Ok.at in
    let found = subst (λ chunks. IsSought true order chunks at) c.as_slice.ensures.value
    c.in-Ok.ensures.found in
    found_inside order c.args.chunks.now.items at found

pub remove_row-row-requires-clause-row : goal.remove_row-row-requires-clause-row
remove_row-row-requires-clause-row g c =
    let order = g.K.Key.order c.args.key.now in
    let at = c.in-Ok.at in
    let found = subst (λ chunks. IsSought true order chunks at) c.as_slice.ensures.value
    c.in-Ok.ensures.found in
    found_row order c.args.chunks.now.items at found

pub returns-in-Ok-clause-row : goal.returns-in-Ok-clause-row
returns-in-Ok-clause-row g c =
    let order = g.K.Key.order c.args.key.now in
    let at = c.in-Ok.at in
    let found = subst (λ chunks. IsSought true order chunks at) c.as_slice.ensures.value
    c.in-Ok.ensures.found in
    c.remove_row-row.ensures.taken ∙ sym (found_first order c.args.chunks.now.items at found)

pub returns-in-Ok-clause-rows : goal.returns-in-Ok-clause-rows
returns-in-Ok-clause-rows g c =
    let order = g.K.Key.order c.args.key.now in
    let at = c.in-Ok.at in
    let found = subst (λ chunks. IsSought true order chunks at) c.as_slice.ensures.value
    c.in-Ok.ensures.found in
    c.join_around.ensures.rows ∙ c.remove_row-row.ensures.rows
    ∙ found_out order c.args.chunks.now.items at found

pub returns-in-Err-clause-row : goal.returns-in-Err-clause-row
returns-in-Err-clause-row g c =
    let order = g.K.Key.order c.args.key.now in
    let at = c.in-Err.field-0 in
    let free = subst (λ chunks. IsSought false order chunks at) c.as_slice.ensures.value
    c.in-Err.ensures.free in
    sym (free_none order c.args.chunks.now.items at free)

pub returns-in-Err-clause-rows : goal.returns-in-Err-clause-rows
returns-in-Err-clause-rows g c =
    let order = g.K.Key.order c.args.key.now in
    let at = c.in-Err.field-0 in
    let free = subst (λ chunks. IsSought false order chunks at) c.as_slice.ensures.value
    c.in-Err.ensures.free in
    free_out order c.args.chunks.now.items at free
