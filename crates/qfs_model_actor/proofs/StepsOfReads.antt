-- Gets, recoveries and moves ask a bounded number of requests.
use Rattle.std.proofs.Common.{ℕ, zero, suc, ◌+◌, ◌-◌, ◌*◌, ◌/◌, ◌≤◌, min, Bool, true, false, List, [], ◌∷◌, ◌++◌, length, Option, Some, None, Ok, Err, arith, slice_get, slice_set, div-add-mod', zero-mul, mul-suc, mul_comm}
use Rattle.std.proofs.Math.Nat.{div-zero, mod-zero}
use Rattle.std.specs.Int.{div_ceil}
use Rattle.std.proofs.lemmas.Grind.{div_ceil_times}
use Rattle.std.proofs.lemmas.List.FromFn.{length-range_with_len, length-map-range_with_len}
use Rattle.qfs_base.specs.Layout.{row_bytes, block_bytes, blocks_of, window_rows, window_at, windows_of_rows, blocks_touched, windows_touched}
use Rattle.qfs_base.specs.ListLaws.{div_ceil-least}
use Rattle.qfs_base.specs.Shape.{Shape}
use Rattle.qfs_base.specs.Sizes.{SLOTS}
use Rattle.qfs_base.specs.declared.chunk.Copy.{Copy}
use Rattle.qfs_base.specs.declared.layout.Window.{Window}
use Rattle.qfs_base.specs.declared.lists.Cause.{Cause}
use Rattle.qfs_base.specs.declared.lists.SlotCause.{SlotCause}
use Rattle.qfs_base.specs.Mask.{all_slots}
use Rattle.qfs_model_actor.specs.Work.{Work}
use Rattle.qfs_model_actor.specs.Pieces.{Piece}
use Rattle.qfs_model_actor.specs.Read.{Source, Reading, go_on_or_stop, with_enough, are_too_few, at_source, read_slots, read_windows, read_block, sources_of}
use Rattle.qfs_model_actor.specs.Steps.{AsksAtMost}
use Rattle.qfs_model_actor.proofs.Steps.{more_steps, fetch-steps}

-- goes on with at most n requests, or stops with as many
with_enough-steps : (n : ℕ) (reading : Reading) (next : List Source → Work)
    → ((causes : List SlotCause) → AsksAtMost n (reading.too_few causes))
    → ((left : List Source) → AsksAtMost n (next left)) → (sources : List Source) → AsksAtMost n (with_enough reading next sources)
unfolding with_enough go_on_or_stop
with_enough-steps n reading next t h sources = choice (are_too_few sources)
  where
    choice : (b : Bool) → AsksAtMost n (go_on_or_stop reading next sources b)
    choice true = t _
    choice false = h sources

at_source-steps : (n : ℕ) (passed : Cause → Work) (read : Copy → Work) → ((c : Cause) → AsksAtMost n (passed c))
    → ((copy : Copy) → AsksAtMost n (read copy)) → (source : Option Source) → AsksAtMost n (at_source passed read source)
unfolding at_source
at_source-steps n passed read p r (Some (Ok copy)) = r copy
at_source-steps n passed read p r (Some (Err cause)) = p cause
at_source-steps n passed read p r None = p _

-- each slot of a window is asked once at most
read_slots-steps : (reading : Reading) (w : Window) (n : ℕ) (next : List Source → List Piece → Work)
    → ((causes : List SlotCause) → AsksAtMost (suc n) (reading.too_few causes))
    → ((left : List Source) (pieces : List Piece) → AsksAtMost (suc n) (next left pieces))
    → (wanted : ℕ) (slots : List ℕ) (sources : List Source) (pieces : List Piece)
    → AsksAtMost (length slots + suc n) (read_slots reading w wanted slots sources pieces next)
unfolding read_slots
read_slots-steps reading w n next t h zero slots sources pieces =
    more_steps (next sources pieces) (suc n) (length slots + suc n) (omega arith) (h sources pieces)
read_slots-steps reading w n next t h (suc wanted) [] sources pieces =
    more_steps (next sources pieces) (suc n) (0 + suc n) (omega arith) (h sources pieces)
read_slots-steps reading w n next t h (suc wanted) (slot ∷ slots) sources pieces =
    let m = length slots + n in
    let behind =
    λ (k : ℕ) (left : List Source) (more : List Piece).
    more_steps (read_slots reading w k slots left more next) (length slots + suc n) (suc m) (omega arith)
    (read_slots-steps reading w n next t h k slots left more) in
    more_steps (read_slots reading w (suc wanted) (slot ∷ slots) sources pieces next) (suc (suc m)) (length (slot ∷ slots) + suc n) (omega arith)
    (at_source-steps (suc (suc m)) _ _
    (λ cause. more_steps (read_slots reading w (suc wanted) slots sources pieces next) (suc m) (suc (suc m)) (omega arith) (behind (suc wanted) sources pieces))
    (fetch-steps m reading.hold reading.block slot _ _ _ _
    (λ room. behind wanted sources (pieces ++ record { slot = slot; bytes = room } ∷ []))
    (λ cause. with_enough-steps (suc m) reading (λ left. read_slots reading w (suc wanted) slots left pieces next)
    (λ causes. more_steps (reading.too_few causes) (suc n) (suc m) (omega arith) (t causes))
    (λ left. behind (suc wanted) left pieces)
    (slice_set sources slot (Err cause))))
    (slice_get sources slot))

read_windows-steps : (reading : Reading) (n : ℕ) (next : List ℕ → Work)
    → ((causes : List SlotCause) → AsksAtMost (suc n) (reading.too_few causes))
    → ((got : List ℕ) → AsksAtMost (suc n) (next got))
    → (windows : List Window) (sources : List Source) (got : List ℕ)
    → AsksAtMost (length windows * SLOTS + suc n) (read_windows reading windows sources got next)
unfolding read_windows
read_windows-steps reading n next t h [] sources got =
    more_steps (next got) (suc n) (0 * SLOTS + suc n) (omega arith) (h got)
read_windows-steps reading n next t h (w ∷ windows) sources got =
    let m = length windows * SLOTS + n in
    more_steps (read_windows reading (w ∷ windows) sources got next) (SLOTS + suc m) (length (w ∷ windows) * SLOTS + suc n) (omega arith)
    (read_slots-steps reading w m _
    (λ causes. more_steps (reading.too_few causes) (suc n) (suc m) (omega arith) (t causes))
    (λ left pieces.
    more_steps (read_windows reading windows left (got ++ reading.kept w pieces) next) (length windows * SLOTS + suc n) (suc m) (omega arith)
    (read_windows-steps reading n next t h windows left (got ++ reading.kept w pieces)))
    6 all_slots sources [])

-- a block is read by as many requests as its windows have slots
pub read_block-steps : (reading : Reading) (n : ℕ) (windows : List Window) (nine : List (Option Copy)) (got : List ℕ)
    (next : List ℕ → Work) → ((causes : List SlotCause) → AsksAtMost (suc n) (reading.too_few causes))
    → ((more : List ℕ) → AsksAtMost (suc n) (next more))
    → AsksAtMost (length windows * SLOTS + suc n) (read_block reading windows nine got next)
unfolding read_block
read_block-steps reading n windows nine got next t h =
    let m = length windows * SLOTS + suc n in
    with_enough-steps m reading _
    (λ causes. more_steps (reading.too_few causes) (suc n) m (omega arith) (t causes))
    (λ sources. read_windows-steps reading n next t h windows sources got)
    (sources_of nine)

-- rounded up, no quotient is more than what is divided
pub div_ceil-le_self : (a b : ℕ) → div_ceil a b ≤ a
div_ceil-le_self a zero = omega (arith, div-zero a, mod-zero a)
div_ceil-le_self a (suc b) = omega (arith, div-add-mod' a (suc b), mul-suc (a / suc b) b)

-- a part of a block has no more rows than the block
rows_in_block : (part s r : ℕ) → div_ceil (min part (6 * s * r)) (6 * s) ≤ r
rows_in_block part zero r = omega (arith, zero-mul r, div_ceil-le_self (min part (6 * 0 * r)) 0)
rows_in_block part (suc s) r =
    div_ceil-least (min part (6 * suc s * r)) (6 * suc s) r (omega arith) (omega (arith, mul_comm r (6 * suc s)))

-- no window has less than a row
pub length-windows_of_rows : (k first end : ℕ) → length (windows_of_rows k first end) ≤ div_ceil end window_rows
length-windows_of_rows k first end =
    let low = first / window_rows in
    omega (arith, length-map-range_with_len (window_at k first end) low (div_ceil end window_rows - low))

pub length-windows_touched : (layout : Shape) (from to k : ℕ) → length (windows_touched layout.s layout.r from to k) ≤ layout.r
length-windows_touched layout from to k =
    let whole = block_bytes layout.s layout.r in
    let start = k * whole in
    let end = div_ceil (min (to - start) whole) (row_bytes layout.s) in
    omega (
      arith,
      length-windows_of_rows k ((from - start) / row_bytes layout.s) end,
      div_ceil-le_self end window_rows,
      rows_in_block (to - start) layout.s layout.r,
    )

-- more of them are as many parts or more
div_ceil-mono : (a b n : ℕ) → a ≤ b → div_ceil a n ≤ div_ceil b n
div_ceil-mono a b zero h = omega (arith, h, div-zero a, mod-zero a, div-zero b, mod-zero b)
div_ceil-mono a b (suc n) h =
    div_ceil-least a (suc n) (div_ceil b (suc n)) (omega arith) (omega (arith, h, (div_ceil_times b (suc n) (omega arith)).0))

-- the bytes up to `to` touch no more blocks than a file of the greatest length has
pub length-blocks_touched : (layout : Shape) (from to most : ℕ) → to ≤ most
    → length (blocks_touched layout.s layout.r from to) ≤ blocks_of layout.s layout.r most
length-blocks_touched layout from to most h =
    let whole = block_bytes layout.s layout.r in
    let low = from / whole in
    omega (arith, length-range_with_len low (div_ceil to whole - low), div_ceil-mono to most whole h)
