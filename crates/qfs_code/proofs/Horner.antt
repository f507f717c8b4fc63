-- A parity byte is the value of a polynomial, and Horner's rule takes one step for each data byte, from the last.
use Rattle.std.proofs.Common.{◌≡◌, ℕ, zero, suc, ◌+◌, ◌*◌, ◌<◌, List, [], ◌∷◌, length, drop, get_or, bit_xor, true, ltb, refl, sym, ap, ◌∙◌, arith, lit<, ltb-true, suc-add, mul-suc, mul-zero, zero-add}
use Rattle.std.specs.List.{list_all}
use Rattle.std.proofs.lemmas.Bool.{and_parts}
use Rattle.std.proofs.lemmas.List.{drop_more}
use Rattle.std.proofs.lemmas.Nat.{xor_comm, xor_lt}
use Rattle.qfs_galois.specs.Field.{product, power}
use Rattle.qfs_galois.proofs.FieldLaws.{power-lt, one-product, product-lt, product_assoc, product-zero, product-xor_right, power-zero}
use Rattle.qfs_model_slot.specs.CodeWord.{weighted_sum, parity}

power_add : (m n : ℕ) → power 2 (m + n) ≡ product (power 2 m) (power 2 n)
unfolding power
power_add zero n = ap (power 2) (zero-add n) ∙ sym (one-product (power 2 n) (power-lt n))
power_add (suc m) n =
    rw suc-add (ap (product 2) (power_add m n) ∙ sym (product_assoc 2 (power 2 m) (power 2 n) (lit< tt) (power-lt m) (power-lt n)))

-- the value at g of the polynomial with these coefficients, the constant one first
unfoldable pub horner : ℕ → List ℕ → ℕ
horner g [] = 0
horner g (d ∷ ds) = bit_xor (product g (horner g ds)) d

horner-lt : (g : ℕ) → g < 256 → (ds : List ℕ) → list_all (λ x. ltb x 256) ds ≡ true → horner g ds < 256
unfolding horner
horner-lt g lg [] h = lit< tt
horner-lt g lg (d ∷ ds) h =
    let parts = and_parts (ltb d 256) (list_all (λ x. ltb x 256) ds) h in
    xor_lt 8 (product g (horner g ds)) d (product-lt g (horner g ds) lg (horner-lt g lg ds parts.1)) (ltb-true d 256 parts.0)

weighted : (e i : ℕ) (ds : List ℕ) → list_all (λ x. ltb x 256) ds ≡ true → weighted_sum e i ds ≡ product (power 2 (e * i)) (horner (power 2 e) ds)
unfolding weighted_sum horner
weighted e i [] h = sym (product-zero (power 2 (e * i)))
weighted e i (d ∷ ds) h =
    let parts = and_parts (ltb d 256) (list_all (λ x. ltb x 256) ds) h in
    let g = power 2 e in
    let p = power 2 (e * i) in
    let rest = horner g ds in
    let later : e * (i + 1) ≡ e * i + e = omega (arith, mul-suc e i) in
    let next : weighted_sum e (i + 1) ds ≡ product p (product g rest) =
    weighted e (i + 1) ds parts.1 ∙ ap (λ n. product (power 2 n) rest) later ∙ ap (λ x. product x rest) (power_add (e * i) e)
    ∙ product_assoc p g rest (power-lt (e * i)) (power-lt e) (horner-lt g (power-lt e) ds parts.1) in
    ap (bit_xor (product p d)) next ∙ xor_comm (product p d) (product p (product g rest)) ∙ sym (product-xor_right p (product g rest) d)

pub parity_is_horner : (e : ℕ) (ds : List ℕ) → list_all (λ x. ltb x 256) ds ≡ true → parity e ds ≡ horner (power 2 e) ds
unfolding parity
parity_is_horner e ds h =
    weighted e 0 ds h ∙ ap (λ n. product (power 2 n) (horner (power 2 e) ds)) (mul-zero e)
    ∙ ap (λ p. product p (horner (power 2 e) ds)) (power-zero 2) ∙ one-product (horner (power 2 e) ds) (horner-lt (power 2 e) (power-lt e) ds h)

-- one data byte more takes part
pub horner-next : (g : ℕ) (ds : List ℕ) (j before byte after : ℕ) → j < length ds → before ≡ horner g (drop (j + 1) ds) → byte ≡ get_or ds j 0
    → after ≡ bit_xor (product g before) byte → after ≡ horner g (drop j ds)
unfolding horner
horner-next g ds j before byte after inside was is stepped =
    rw (drop_more ds j 0 inside) (stepped ∙ ap (λ x. bit_xor (product g x) byte) was ∙ ap (bit_xor (product g (horner g (drop (j + 1) ds)))) is)

pub horner-none : (g j : ℕ) (ds : List ℕ) → length ds ≡ j → horner g (drop j ds) ≡ 0
unfolding horner
horner-none g zero [] long = refl
horner-none g (suc j) [] long = absurd (omega arith)
horner-none g zero (d ∷ ds) long = absurd (omega arith)
horner-none g (suc j) (d ∷ ds) long = horner-none g j ds (omega arith)
