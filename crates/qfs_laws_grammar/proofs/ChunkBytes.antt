-- The bytes of a file's chunks, told at once and block by block. For both laws.
use Rattle.std.proofs.Common.{◌≡◌, ◌∙◌, sym, ap, refl, arith, ℕ, zero, suc, ◌+◌, ◌-◌, ◌*◌, ◌/◌, ◌%◌, ◌<◌, ◌≤◌, min, []}
use Rattle.std.proofs.Math.Nat.{mul_comm, mul-pos, mul-le-mul_right, mul-div-le, mul-div_cancel_left, mul-mod_right, zero-div, zero-mod, mod-eq-sub-div-mul, mod-lt}
use Rattle.std.specs.Prelude.{sum_by}
use Rattle.std.specs.Int.{div_ceil}
use Rattle.std.specs.List.{range_with_len}
use Rattle.std.proofs.lemmas.List.Sums.{sum_by-cons}
use Rattle.qfs_base.specs.Layout.{row_bytes, block_bytes}
use Rattle.qfs_base.specs.Shape.{Shape}
use Rattle.qfs_base.specs.Sizes.{SLOTS}
use Rattle.qfs_model_script.specs.InScript.{blocks_in, chunk_bytes_in, chunk_bytes_of_block}
use Rattle.qfs_model_grammar.specs.SoFar.{chunk_bytes_of}

-- so many equal terms and one more
sum_equal : (term : ℕ → ℕ) (each last : ℕ) (from count : ℕ)
    → ((k : ℕ) → from ≤ k → k < from + count → term k ≡ each) → term (from + count) ≡ last
    → sum_by term (range_with_len from (suc count)) ≡ count * each + last
sum_equal term each last from zero same ends =
    sum_by-cons term from [] ∙ omega (arith, ends, ap term (from_only from))
  where
    from_only : (n : ℕ) → n ≡ n + 0
    from_only n = omega arith
sum_equal term each last from (suc count) same ends =
    let first : term from ≡ each = same from (omega arith) (omega arith) in
    let rest = sum_equal term each last (from + 1) count
    (λ k above below. same k (omega arith) (omega arith)) (ap term (moved from count) ∙ ends) in
    sum_by-cons term from (range_with_len (from + 1) (suc count)) ∙ grind (arith, first, rest)
  where
    moved : (a b : ℕ) → a + 1 + b ≡ a + suc b
    moved a b = omega arith

all_equal : (term : ℕ → ℕ) (each : ℕ) (from count : ℕ)
    → ((k : ℕ) → from ≤ k → k < from + count → term k ≡ each)
    → sum_by term (range_with_len from count) ≡ count * each
all_equal term each from zero same = omega arith
all_equal term each from (suc count) same =
    let first : term from ≡ each = same from (omega arith) (omega arith) in
    let rest = all_equal term each (from + 1) count
    (λ k above below. same k (omega arith) (omega arith)) in
    sum_by-cons term from (range_with_len (from + 1) count) ∙ grind (arith, first, rest)

-- ---- whole blocks, and what is left

whole_block : (len block k : ℕ) → k < len / block → block ≤ len - k * block
whole_block len block k inside =
    let next : suc k * block ≤ len / block * block = mul-le-mul_right block inside in
    let within : block * (len / block) ≤ len = mul-div-le len block in
    omega (arith, next, within, mul_comm block (len / block), suc_times k block)
  where
    suc_times : (q b : ℕ) → suc q * b ≡ q * b + b
    suc_times q b = grind arith

rows_of_whole : (row rows : ℕ) → 0 < row → div_ceil (row * rows) row ≡ rows
rows_of_whole row rows some = omega (arith, mul-div_cancel_left rows some, mul-mod_right row rows)

pub no_rows : (row : ℕ) → div_ceil 0 row ≡ 0
no_rows row = omega (arith, zero-div row, zero-mod row)

wide_block : (s r : ℕ) → 1 ≤ s → 1 ≤ r → 0 < block_bytes s r
wide_block s r stripe some = mul-pos (omega arith) some

-- the bytes of the chunks of a whole block, and of the one that holds what is left
module _ (layout : Shape) (len : ℕ) (stripe : 1 ≤ layout.s) (some : 1 ≤ layout.r) where
  abbrev block : ℕ
  block = block_bytes layout.s layout.r

  abbrev row : ℕ
  row = row_bytes layout.s

  abbrev whole : ℕ
  whole = SLOTS * (layout.r * layout.s)

  abbrev last : ℕ
  last = SLOTS * (div_ceil (len % block) row * layout.s)

  of_whole : (k : ℕ) → 0 ≤ k → k < 0 + len / block → chunk_bytes_of_block layout len k ≡ whole
  of_whole k above inside =
      let fits = whole_block len block k (omega (arith, inside)) in
      let all : min (len - k * block) block ≡ block = omega (arith, fits) in
      ap (λ bytes. SLOTS * (div_ceil bytes row * layout.s)) all
      ∙ ap (λ rows. SLOTS * (rows * layout.s)) (rows_of_whole row layout.r (omega (arith, stripe)))

  of_last : chunk_bytes_of_block layout len (0 + len / block) ≡ last
  of_last =
      let here : 0 + len / block ≡ len / block = omega arith in
      let left : min (len - len / block * block) block ≡ len % block =
      omega (
        arith,
        mod-eq-sub-div-mul len block,
        mod-lt len
            (wide_block layout.s layout.r stripe some),
      ) in
      ap (chunk_bytes_of_block layout len) here
      ∙ ap (λ bytes. SLOTS * (div_ceil bytes row * layout.s)) left

  in_whole_blocks : len % block ≡ 0 → chunk_bytes_in layout len ≡ chunk_bytes_of layout len
  in_whole_blocks none =
      let count : blocks_in layout len ≡ len / block = omega (arith, none) in
      ap (λ n. sum_by (chunk_bytes_of_block layout len) (range_with_len 0 n)) count
      ∙ all_equal (chunk_bytes_of_block layout len) whole 0 (len / block) of_whole
      ∙ together (len / block) layout.r layout.s
      ∙ sym (ap (λ rest. SLOTS * ((len / block * layout.r + div_ceil rest row) * layout.s)) none
      ∙ ap (λ rows. SLOTS * ((len / block * layout.r + rows) * layout.s)) (no_rows row))
    where
      together : (q r s : ℕ) → q * (SLOTS * (r * s)) ≡ SLOTS * ((q * r + 0) * s)
      together q r s = grind arith

  with_a_rest : 1 ≤ len % block → chunk_bytes_in layout len ≡ chunk_bytes_of layout len
  with_a_rest part =
      let count : blocks_in layout len ≡ suc (len / block) = omega (arith, part) in
      ap (λ n. sum_by (chunk_bytes_of_block layout len) (range_with_len 0 n)) count
      ∙ sum_equal (chunk_bytes_of_block layout len) whole last 0 (len / block) of_whole of_last
      ∙ together (len / block) layout.r layout.s (div_ceil (len % block) row)
    where
      together : (q r s rows : ℕ) → q * (SLOTS * (r * s)) + SLOTS * (rows * s) ≡ SLOTS *
          ((q * r + rows) * s)
      together q r s rows = grind arith

  by_rest : (rest : ℕ) → len % block ≡ rest → chunk_bytes_in layout len ≡ chunk_bytes_of layout len
  by_rest zero is = in_whole_blocks is
  by_rest (suc rest) is = with_a_rest (omega (arith, is))

  pub same_bytes : chunk_bytes_in layout len ≡ chunk_bytes_of layout len
  same_bytes = by_rest (len % block) refl
