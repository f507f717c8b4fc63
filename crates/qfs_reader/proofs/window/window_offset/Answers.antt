use Rattle.std.proofs.Common.{arith, ℕ, ◌+◌, ◌*◌, ◌^◌, ◌<◌, ◌≤◌}
use Rattle.qfs_base.specs.Layout.{block_bytes, row_bytes}
use Rattle.qfs_base.specs.Sizes.{MOST_FILE_BYTES}
use Rattle.qfs_reader.proofs.Blocks.{rows_end}
use Rattle.qfs_reader.proofs.window.window_offset.Goals as goal

-- all that is added up stays in its range
window_fits : (s r start first rows : ℕ) → start < MOST_FILE_BYTES → first + rows ≤ r → block_bytes s r ≤ 402653184
    → start + first * row_bytes s + rows * row_bytes s < 2 ^ 32
window_fits s r start first rows starts ends most = let end = rows_end s r first rows ends in omega (arith, starts, end, most)

fits : (c : goal.After-row_bytes)
    → c.args.window.now.index * c.block_bytes.result + c.args.window.now.first_row * c.row_bytes.result + c.args.window.now.rows * row_bytes c.args.layout.now.s < 2 ^ 32
fits c =
    let w = c.args.window.now in
    let most = rw c.block_bytes.ensures.value at c.block_bytes.ensures.largest in
    rw (c.block_bytes.ensures.value, c.row_bytes.ensures.value)
    (window_fits c.args.layout.now.s c.args.layout.now.r _ w.first_row w.rows c.requires.start c.requires.within most)

pub overflow_mul-result : goal.overflow_mul-result
overflow_mul-result c =
    let starts : c.args.window.now.index * c.block_bytes.result < MOST_FILE_BYTES = rw c.block_bytes.ensures.value c.requires.start in
    omega (arith, starts)

pub overflow_mul-result-2 : goal.overflow_mul-result-2
overflow_mul-result-2 c = let fits = fits c in omega (arith, fits)

pub overflow_add-result : goal.overflow_add-result
overflow_add-result c = let fits = fits c in omega (arith, fits)

pub returns-clause-fits : goal.returns-clause-fits
returns-clause-fits c = fits c
