-- The rows and bytes of a file's chunks are few.
use Rattle.std.proofs.Common.{◌≡◌, ◌∙◌, sym, ap, arith, ℕ, ◌+◌, ◌*◌, ◌/◌, ◌%◌, ◌<◌, ◌≤◌, ◌^◌, min}
use Rattle.std.proofs.Math.Nat.{div-le_self, mul-div-le, mul-le-mul_left, mul-le-mul_right, mod-le}
use Rattle.std.specs.Int.{div_ceil}
use Rattle.qfs_base.specs.Layout.{row_bytes, block_bytes}
use Rattle.qfs_base.specs.Shape.{Shape}
use Rattle.qfs_base.specs.Sizes.{MOST_FILE_BYTES}
use Rattle.qfs_model_grammar.specs.SoFar.{chunk_rows, chunk_bytes_of}

ceil_most : (a b : ℕ) → div_ceil a b ≤ a + 1
ceil_most a b = omega (arith, div-le_self a b)

whole_rows : (s r len : ℕ) → 16 ≤ s → len / block_bytes s r * r ≤ len
whole_rows s r len large =
    let q = len / block_bytes s r in
    let wide : 1 * r ≤ 6 * s * r = mul-le-mul_right r (omega arith) in
    let fewer : q * r ≤ q * block_bytes s r = mul-le-mul_left q (omega (arith, wide)) in
    let within : block_bytes s r * q ≤ len = mul-div-le len (block_bytes s r) in
    let turned : q * block_bytes s r ≡ block_bytes s r * q = omega arith in
    omega (arith, fewer, within, turned)

rest_rows : (s r len : ℕ) → 1 ≤ 6 * s * r → div_ceil (len % block_bytes s r) (row_bytes s) ≤ len + 1
rest_rows s r len some = omega (arith, ceil_most (len % block_bytes s r) (row_bytes s), mod_within len (block_bytes s r))
  where
    mod_within : (a b : ℕ) → a % b ≤ a
    mod_within a b = mod-le a b

pub few_rows : (layout : Shape) (len : ℕ) → 16 ≤ layout.s → 1 ≤ layout.r → len ≤ MOST_FILE_BYTES → chunk_rows layout len ≤ 2 ^ 30
few_rows layout len large some small =
    let wide : 96 * 1 ≤ 6 * layout.s * layout.r = nonzero layout.s layout.r large some in
    omega (arith, whole_rows layout.s layout.r len large, rest_rows layout.s layout.r len (omega (arith, wide)))
  where
    nonzero : (s r : ℕ) → 16 ≤ s → 1 ≤ r → 96 * 1 ≤ 6 * s * r
    nonzero s r large some =
        let first : 96 * 1 ≤ 6 * s * 1 = omega arith in
        let second : 6 * s * 1 ≤ 6 * s * r = mul-le-mul_left (6 * s) some in
        omega (arith, first, second)

pub few_bytes : (rows s : ℕ) → rows ≤ 2 ^ 30 → s ≤ 65536 → rows * s ≤ 2 ^ 46
few_bytes rows s few small =
    let first : rows * s ≤ 2 ^ 30 * s = mul-le-mul_right s few in
    omega (arith, first)
