-- What is left of a get that goes from window to window and from block to block.
use Rattle.std.proofs.Common.{◌≡◌, refl, ap, sym, arith, ℕ, zero, suc, ◌+◌, ◌-◌, ◌*◌, ◌/◌, ◌<◌, ◌≤◌, ◌^◌, false, true, List, [], ◌∷◌, length, count_by, is_ok, mul-suc}
use Rattle.std.proofs.Math.Nat.{mul-le-mul_right, div-lt_iff_lt-mul}
use Rattle.std.proofs.lemmas.Bool.Decides.{nat_tests}
use Rattle.qfs_base.specs.Layout.{block_bytes, row_bytes, blocks_of, windows_touched}
use Rattle.qfs_base.specs.Shape.{Shape}
use Rattle.qfs_base.specs.Sizes.{MOST_FILE_BYTES}
use Rattle.qfs_base.specs.declared.chunk.Copy.{Copy}
use Rattle.qfs_base.specs.declared.command.Reply.TheVariants as Report
use Rattle.qfs_base.specs.declared.layout.Window.{Window}
use Rattle.qfs_model_actor.specs.Get.{reading_of, read_blocks, attempts, listed_in}
use Rattle.qfs_model_actor.specs.Hold.{opened, end_with, give_back}
use Rattle.qfs_model_actor.specs.Pieces.{Piece, data_of, rows_of_file}
use Rattle.qfs_model_actor.specs.Read.{Source, are_too_few, causes_of, sources_of, read_windows, read_block, with_enough, go_on_or_stop}
use Rattle.qfs_model_actor.specs.Windows.{window_offset, cut_to_range}
use Rattle.qfs_stripe.specs.Touched.{IsWindowBehind, AreInOrder}
use Rattle.qfs_reader.specs.Parts.{pieces_of}
use Rattle.qfs_reader.specs.Rest.{rest_of_blocks, rest_of_windows, rest_of_position, behind_window, reading_at, rest_of_opening}
use Rattle.qfs_reader.specs.Sources.{IsNext}
use Rattle.qfs_reader.specs.declared.stage.Attempt.{Attempt}
use Rattle.qfs_reader.specs.declared.stage.Get.{Get}
use Rattle.qfs_reader.specs.declared.stage.Position.{Position}

-- behind the last window of a block comes the next block
pub no_windows : (get : Get) (attempt : Attempt) (block : ℕ) (sources : List Source) (got : List ℕ)
    → rest_of_blocks get attempt (block + 1) got ≡ rest_of_windows get attempt block [] sources got
unfolding read_windows
no_windows get attempt block sources got = refl

-- behind the last block the lease is given back
pub no_blocks : (get : Get) (attempt : Attempt) (block : ℕ) (got : List ℕ) → blocks_of get.layout.s get.layout.r attempt.to ≤ block
    → end_with (opened attempt.opened.lease) (Report.Read attempt.opened.place got) ≡ rest_of_blocks get attempt block got
unfolding read_blocks
no_blocks get attempt block got past =
    let none : blocks_of get.layout.s get.layout.r attempt.to - block ≡ 0 = omega (arith, past) in rw none refl

pub block-begins : (get : Get) (attempt : Attempt) (block : ℕ) (got : List ℕ) → block < blocks_of get.layout.s get.layout.r attempt.to
    → are_too_few (sources_of (listed_in attempt.opened block)) ≡ false
    → rest_of_windows get attempt block (windows_touched get.layout.s get.layout.r attempt.from attempt.to block) (sources_of (listed_in attempt.opened block)) got
    ≡ rest_of_blocks get attempt block got
unfolding read_blocks read_block with_enough go_on_or_stop
block-begins get attempt block got within enough =
    let more : blocks_of get.layout.s get.layout.r attempt.to - block ≡ suc (blocks_of get.layout.s get.layout.r attempt.to - (block + 1)) = omega (arith, within) in
    rw (more, enough) refl

pub block-stops : (get : Get) (attempt : Attempt) (block : ℕ) (got : List ℕ) → block < blocks_of get.layout.s get.layout.r attempt.to
    → are_too_few (sources_of (listed_in attempt.opened block)) ≡ true
    → (reading_at get attempt block).too_few (causes_of (sources_of (listed_in attempt.opened block))) ≡ rest_of_blocks get attempt block got
unfolding read_blocks read_block with_enough go_on_or_stop
block-stops get attempt block got within few =
    let more : blocks_of get.layout.s get.layout.r attempt.to - block ≡ suc (blocks_of get.layout.s get.layout.r attempt.to - (block + 1)) = omega (arith, within) in
    rw (more, few) refl

-- with no attempt left a get that finds too few slots ends with its report; else its file is opened again
pub stops-for_good : (get : Get) (attempt : Attempt) (block : ℕ) (sources : List Source) → attempt.more ≤ 0
    → end_with (opened attempt.opened.lease) (Report.ReadTooFew attempt.opened.place block (causes_of sources))
    ≡ (reading_at get attempt block).too_few (causes_of sources)
unfolding reading_of attempts end_with
stops-for_good get attempt block sources none = let zero_more : attempt.more ≡ 0 = omega (arith, none) in rw zero_more refl

pub stops-again : (get : Get) (attempt : Attempt) (block : ℕ) (sources : List Source) → 0 < attempt.more
    → give_back (rest_of_opening get (attempt.more - 1)) (opened attempt.opened.lease) ≡ (reading_at get attempt block).too_few (causes_of sources)
unfolding reading_of attempts
stops-again get attempt block sources some = let one_more : attempt.more ≡ suc (attempt.more - 1) = omega (arith, some) in
    ap (λ n. give_back (attempts n get.layout get.path get.range (Report.ReadTooFew attempt.opened.place block (causes_of sources))) (opened attempt.opened.lease)) (sym one_more)

-- ---- where a window stands

-- windows in their order begin at the first row of the first
pub from_first_row : (k row r : ℕ) (w : Window) (ws : List Window) → AreInOrder k row r (w ∷ ws) → AreInOrder k w.first_row r (w ∷ ws)
from_first_row k row r w ws order =
    (record { index = order.0.index; behind = omega arith; some = order.0.some; few = order.0.few; within = order.0.within }, order.1)

-- what is kept of a window
pub window_kept : (get : Get) (attempt : Attempt) (block : ℕ) (w : Window) (pieces : List Piece)
    → (reading_at get attempt block).kept w pieces
    ≡ cut_to_range attempt.from attempt.to (window_offset get.layout w) (rows_of_file get.layout.s w.rows (data_of pieces))
unfolding reading_of
window_kept get attempt block w pieces = refl

-- a window of a block begins there
pub window_offset-at : (layout : Shape) (k : ℕ) (w : Window) → w.index ≡ k
    → window_offset layout w ≡ k * block_bytes layout.s layout.r + w.first_row * row_bytes layout.s
unfolding window_offset
window_offset-at layout k w index = ap (λ i. i * block_bytes layout.s layout.r + w.first_row * row_bytes layout.s) index

-- and those of a later one begin behind it
pub window_behind : (s k r : ℕ) (w next : Window) → IsWindowBehind k (w.first_row + w.rows) r next
    → w.first_row * row_bytes s + w.rows * row_bytes s ≤ next.first_row * row_bytes s
window_behind s k r w next behind =
    let sum : (w.first_row + w.rows) * row_bytes s ≡ w.first_row * row_bytes s + w.rows * row_bytes s = grind arith in
    omega (arith, sum, mul-le-mul_right (row_bytes s) behind.behind)

-- the bytes of rows that lie in a block are no more than the block's
pub rows_end : (s r first rows : ℕ) → first + rows ≤ r → first * row_bytes s + rows * row_bytes s ≤ block_bytes s r
rows_end s r first rows within =
    let whole : block_bytes s r ≡ r * row_bytes s = grind arith in
    let sum : (first + rows) * row_bytes s ≡ first * row_bytes s + rows * row_bytes s = grind arith in
    omega (arith, whole, sum, mul-le-mul_right (row_bytes s) within)

-- a window of a block that begins early in its file
pub starts_early : (layout : Shape) (k : ℕ) (w : Window) (to : ℕ) → w.index ≡ k → k * block_bytes layout.s layout.r < to → to ≤ MOST_FILE_BYTES
    → w.index * block_bytes layout.s layout.r < MOST_FILE_BYTES
starts_early layout k w to index starts most = rw index (omega (arith, starts, most))

-- what lies before a block lies before each of its windows
pub begins_behind : (layout : Shape) (k from : ℕ) (got : List ℕ) (w : Window) → w.index ≡ k
    → length got ≤ k * block_bytes layout.s layout.r - from → length got ≤ window_offset layout w - from
begins_behind layout k from got w index before = omega (arith, before, window_offset-at layout k w index)

-- what a window ends with lies before the next one of its block, and before the end of the block
pub before_next : (layout : Shape) (k from len : ℕ) (w next : Window) → w.index ≡ k → IsWindowBehind k (w.first_row + w.rows) layout.r next
    → len ≤ window_offset layout w + w.rows * (6 * layout.s) - from → len ≤ window_offset layout next - from
before_next layout k from len w next index behind bound =
    omega (arith, bound, window_offset-at layout k w index, window_offset-at layout k next behind.index, window_behind layout.s k layout.r w next behind)

pub before_end : (layout : Shape) (k from len : ℕ) (w : Window) → w.index ≡ k → w.first_row + w.rows ≤ layout.r
    → len ≤ window_offset layout w + w.rows * (6 * layout.s) - from → len ≤ (k + 1) * block_bytes layout.s layout.r - from
before_end layout k from len w index within bound =
    let next : (k + 1) * block_bytes layout.s layout.r ≡ k * block_bytes layout.s layout.r + block_bytes layout.s layout.r = grind arith in
    omega (arith, bound, next, window_offset-at layout k w index, rows_end layout.s layout.r w.first_row w.rows within)

-- the block that a range begins in is no later than one that it touches
pub first_before : (from k size : ℕ) → from < k * size + size → from / size ≤ k + 1
first_before from k zero ends = omega (arith, ends)
first_before from k (suc size) ends =
    let next : (k + 1) * suc size ≡ k * suc size + suc size = grind arith in
    let before : from < (k + 1) * suc size = omega (arith, ends, next) in
    let less : from / suc size < k + 1 = (div-lt_iff_lt-mul (omega arith)).1 before in
    omega (arith, less)

-- a block that begins early has a number that is small
pub few_blocks : (from to k size : ℕ) → from < k * size + size → k * size < to → to ≤ MOST_FILE_BYTES → k + 1 < 2 ^ 32
few_blocks from to k zero ends starts most = absurd (omega (arith, ends))
few_blocks from to k (suc size) ends starts most = omega (arith, starts, most, mul-suc k size)
