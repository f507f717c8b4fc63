-- The rows of a block behind the end of a file: none.
use Rattle.std.proofs.Common.{◌≡◌, ◌∙◌, ◌≤◌, ◌*◌, ◌-◌, ℕ, zero, suc, min, ap, arith, refl, sym}
use Rattle.std.proofs.Math.Nat.{mul-le-mul_right}
use Rattle.std.proofs.lemmas.Grind.{div_ceil_times}
use Rattle.std.specs.Int.{div_ceil}
use Rattle.qfs_base.specs.ListLaws.{div_ceil-least}
use Rattle.qfs_base.specs.Layout.{block_bytes, blocks_of, row_bytes, rows_of}

none_left : (len index size : ℕ) → div_ceil len size ≤ index → min (len - index * size) size ≡ 0
none_left len index zero behind = omega arith
none_left len index (suc size) behind =
    let whole : len ≤ div_ceil len (suc size) * suc size =
    (div_ceil_times len (suc size) (omega arith)).0 in
    let most : div_ceil len (suc size) * suc size ≤ index * suc size =
    mul-le-mul_right (suc size) behind in
    omega (arith, whole, most)

no_parts : (size : ℕ) → div_ceil 0 size ≡ 0
no_parts zero = refl
no_parts (suc size) =
    let none : div_ceil 0 (suc size) ≤ 0 =
    div_ceil-least 0 (suc size) 0 (omega arith) (omega arith) in
    omega (arith, none)

pub behind_end : (s r len index : ℕ) → blocks_of s r len ≤ index → 0 ≡ rows_of s r len index
behind_end s r len index behind =
    sym (ap (λ bytes. div_ceil bytes (row_bytes s)) (none_left len index (block_bytes s r) behind)
    ∙ no_parts (row_bytes s))
