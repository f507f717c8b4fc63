-- The double of each lane, and its products with powers of 2.
use Rattle.std.proofs.Common.{◌≡◌, ℕ, zero, suc, ◌+◌, ◌-◌, ◌*◌, ◌%◌, ◌^◌, ◌<◌, Bool, true, false, cond, leb, List, [], ◌∷◌, map, length, replicate, bit_xor, refl, sym, ap, ap₂, ◌∙◌, arith, lit<, w8, Fits, leb-true, leb-false}
use Rattle.std.specs.Int.Bits.{xor_zero_r}
use lib.Lanes.{zip2, sel_l, top, Each1}
use Rattle.qfs_galois.specs.Field.{product}
use Rattle.qfs_galois.proofs.FieldLaws.{one-product, product_assoc, two-product_low, two-product_high}

abbrev pub sum_of_lanes : ℕ → ℕ → ℕ
sum_of_lanes a b = (a + b) % 2 ^ 8

abbrev pub at_least : ℕ → ℕ → ℕ
at_least a b = cond (leb a b) 255 0

lane : (v : ℕ) → v < 256 → bit_xor (sum_of_lanes v v) (cond (top 7 (at_least 128 v)) 29 0) ≡ product 2 v
lane v l = go (leb 128 v) refl
  where
    go : (t : Bool) → leb 128 v ≡ t → bit_xor ((v + v) % 2 ^ 8) (cond (top 7 (cond t 255 0)) 29 0) ≡ product 2 v
    go true e =
        let high = leb-true 128 v e in
        let wraps : (v + v) % 2 ^ 8 ≡ (v - 128) * 2 = omega arith in
        ap (λ s. bit_xor s 29) wraps ∙ sym (two-product_high v high l)
    go false e =
        let low : v < 128 = leb-false 128 v e in
        let fits : (v + v) % 2 ^ 8 ≡ v * 2 = omega arith in
        xor_zero_r ((v + v) % 2 ^ 8) ∙ fits ∙ sym (two-product_low v low)

pub doubled : (n : ℕ) (xs : List ℕ) → length xs ≡ n → Each1 (Fits w8) xs
    → zip2 bit_xor (zip2 sum_of_lanes xs xs) (sel_l (map (top 7) (zip2 at_least (replicate n 128) xs)) (replicate n 29) (replicate n 0)) ≡ map (product 2) xs
doubled n [] e h = refl
doubled zero (x ∷ xs) e h = absurd (omega arith)
doubled (suc n) (x ∷ xs) e h = ap₂ (λ y ys. y ∷ ys) (lane x h.0.fits) (doubled n xs (omega arith) h.1)

-- the product with 1, and that with 2 twice
pub single : (xs : List ℕ) → Each1 (Fits w8) xs → xs ≡ map (product 1) xs
single [] h = refl
single (x ∷ xs) h = ap₂ (λ v vs. v ∷ vs) (sym (one-product x h.0.fits)) (single xs h.1)

pub twice : (xs ys zs : List ℕ) → Each1 (Fits w8) xs → ys ≡ map (product 2) xs → zs ≡ map (product 2) ys
    → zs ≡ map (product (product 2 2)) xs
twice xs ys zs fits ey ez = ez ∙ ap (map (product 2)) ey ∙ both xs fits
  where
    both : (us : List ℕ) → Each1 (Fits w8) us → map (product 2) (map (product 2) us) ≡ map (product (product 2 2)) us
    both [] h = refl
    both (u ∷ us) h = ap₂ (λ v vs. v ∷ vs) (sym (product_assoc 2 2 u (lit< tt) (lit< tt) h.0.fits)) (both us h.1)
