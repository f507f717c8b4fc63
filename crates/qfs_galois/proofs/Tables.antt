-- Multiples of bytes by two look-ups: a byte is the sum of its halves.
use Rattle.std.proofs.Common.{◌≡◌, ℕ, ◌+◌, ◌*◌, ◌/◌, ◌%◌, ◌^◌, ◌<◌, List, length, get_or, replicate, bit_and, bit_xor, refl, sym, ap, ap₂, ◌∙◌, arith, w8, Fits, mul-one, pow_pos}
use Rattle.std.proofs.lemmas.Nat.{and_le_r, and_mask, xor_comm, shr_split, mod_below}
use Rattle.std.specs.Int.Bits.{xor_shifted}
use Rattle.std.proofs.lemmas.Simd.{Each1-all, Each1-weaker, Each1-zip2, Each1-get_or, Each2-splat, below_from_Fits, get_or-replicate, length-zip2, length-replicate, get_or-zip2, swz_l, length-swz_l, get_or-swz_l_below, SwzOk, SwzOk-from_below}
use lib.Lanes.{zip2, Each1}
use Rattle.qfs_galois.specs.Field.{product}
use Rattle.qfs_galois.proofs.FieldLaws.{product-xor_right}
use Rattle.qfs_galois.specs.Lanes.{IsTable, IsScaled}

abbrev pub down : ℕ → ℕ → ℕ
down a b = a / 2 ^ b

pub high_ok : (v : List ℕ) → length v ≡ 16 → Each1 (Fits w8) v → SwzOk w8 16 16 0 (zip2 down v (replicate 16 4))
high_ok v long fits =
    let small = Each1-weaker (λ a. a < 256) (λ a. a / 16 < 16) (λ a h. omega arith) v (below_from_Fits w8 v fits) in
    SwzOk-from_below w8 16 1 16 0 (zip2 down v (replicate 16 4)) refl (omega (arith, length-zip2 down v (replicate 16 4) long))
    (Each1-zip2 down (λ j. j < 16) v (replicate 16 4) (Each2-splat (λ a b. down a b < 16) v 16 4 small))

pub low_ok : (v : List ℕ) → length v ≡ 16 → SwzOk w8 16 16 0 (zip2 bit_and v (replicate 16 15))
low_ok v long =
    let small = Each1-all (λ a. bit_and a 15 < 16) (λ a. omega (arith, and_le_r a 15)) v in
    SwzOk-from_below w8 16 1 16 0 (zip2 bit_and v (replicate 16 15)) refl (omega (arith, length-zip2 bit_and v (replicate 16 15) long))
    (Each1-zip2 bit_and (λ j. j < 16) v (replicate 16 15) (Each2-splat (λ a b. bit_and a b < 16) v 16 15 small))

-- a byte is the sum of its halves, and so is its product with c
halves : (c x : ℕ) → bit_xor (product c (x % 16 * 1)) (product c (x / 16 * 16)) ≡ product c x
halves c x =
    let split : x ≡ bit_xor (x / 2 ^ 4 * 2 ^ 4) (x % 2 ^ 4) =
    sym (shr_split x 4) ∙ sym (xor_shifted (x / 2 ^ 4) 4 (x % 2 ^ 4) (mod_below x (2 ^ 4) (pow_pos 4))) in
    ap (λ y. bit_xor (product c y) (product c (x / 16 * 16))) (mul-one (x % 16)) ∙ xor_comm (product c (x % 16)) (product c (x / 16 * 16))
    ∙ sym (product-xor_right c (x / 16 * 16) (x % 16)) ∙ ap (product c) (sym split)

-- one lane of an operation with the same number in each lane
splat_lane : (f : ℕ → ℕ → ℕ) (v : List ℕ) (y i : ℕ) → length v ≡ 16 → i < 16 → get_or (zip2 f v (replicate 16 y)) i 0 ≡ f (get_or v i 0) y
splat_lane f v y i long l = get_or-zip2 f v (replicate 16 y) i 0 0 0 (omega arith) (omega (arith, length-replicate 16 y)) ∙ ap (f (get_or v i 0)) (get_or-replicate 16 i y 0 l)

-- a look-up in a table of sixteen
look_up : (t js : List ℕ) (i : ℕ) → length js ≡ 16 → i < 16 → get_or js i 0 < 16 → get_or (swz_l w8 16 t 0 js) i 0 ≡ get_or t (get_or js i 0) 0
look_up t js i long l small =
    let place : 16 * ((0 + i) / 16) + get_or js i 0 ≡ get_or js i 0 = omega arith in
    get_or-swz_l_below w8 16 t 0 js i (omega arith) small ∙ ap (λ k. get_or t k 0) place

pub lanes_scaled : (c : ℕ) (lows highs x : List ℕ) → length x ≡ 16 → Each1 (Fits w8) x → IsTable c 1 lows → IsTable c 16 highs
    → IsScaled c x (zip2 bit_xor (swz_l w8 16 lows 0 (zip2 bit_and x (replicate 16 15))) (swz_l w8 16 highs 0 (zip2 down x (replicate 16 4))))
lanes_scaled c lows highs x long fits low high =
    let ls = zip2 bit_and x (replicate 16 15) in
    let hs = zip2 down x (replicate 16 4) in
    let ll : length ls ≡ 16 = length-zip2 bit_and x (replicate 16 15) long ∙ long in
    let hl : length hs ≡ 16 = length-zip2 down x (replicate 16 4) long ∙ long in
    let sl : length (swz_l w8 16 lows 0 ls) ≡ 16 = length-swz_l w8 16 lows 0 ls ∙ ll in
    let sh : length (swz_l w8 16 highs 0 hs) ≡ 16 = length-swz_l w8 16 highs 0 hs ∙ hl in
    record {
      count = length-zip2 bit_xor (swz_l w8 16 lows 0 ls) (swz_l w8 16 highs 0 hs) (sl ∙ sym sh) ∙ sl;
      each = λ i l.
          let b = get_or x i 0 in
          let byte : b < 256 = Each1-get_or (λ a. a < 256) x i 0 (omega arith) (below_from_Fits w8 x fits) in
          let lo : get_or ls i 0 ≡ b % 16 = splat_lane bit_and x 15 i long l ∙ and_mask b 4 in
          let hi : get_or hs i 0 ≡ b / 16 = splat_lane down x 4 i long l in
          let one = look_up lows ls i ll l (omega arith) ∙ ap (λ k. get_or lows k 0) lo ∙ low.each (b % 16) (omega arith) in
          let two = look_up highs hs i hl l (omega arith) ∙ ap (λ k. get_or highs k 0) hi ∙ high.each (b / 16) (omega arith) in
          get_or-zip2 bit_xor (swz_l w8 16 lows 0 ls) (swz_l w8 16 highs 0 hs) i 0 0 0 (omega arith) (omega arith)
          ∙ ap₂ bit_xor one two ∙ halves c b;
    }
