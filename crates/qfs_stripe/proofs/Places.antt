-- A byte's place gives its offset back, and an offset its place.
use Rattle.std.proofs.Common.{◌≡◌, ◌∙◌, refl, ap, arith, ℕ, ◌+◌, ◌*◌, ◌/◌, ◌%◌, ◌<◌}
use Rattle.std.proofs.Math.Nat.{div-div-eq-div-mul, mul_comm}
use Rattle.std.proofs.lemmas.Nat.{div-add-mod', div-mul-add, mod-mul-add, mul-add-lt, mul-le, div_below, mod_below}
use Rattle.qfs_base.specs.declared.layout.Spot.{Spot}
use Rattle.qfs_base.specs.Layout.{block_bytes, row_bytes, place_of, offset_of}

abbrev spot : ℕ → ℕ → ℕ → ℕ → Spot
spot index row slot at = record { index = index; row = row; slot = slot; at = at }

-- a place by the bytes of a stripe, of a block and of a row, and an offset likewise
pub place_by_sizes : (s r o stripe block row whole : ℕ) → stripe ≡ s → block ≡ block_bytes s r → row ≡ row_bytes s → whole ≡ block_bytes s r →
    spot (o / whole) (o % block / row) (o % block / stripe % 6) (o % block / row * stripe + o % block % stripe) ≡ place_of s r o
place_by_sizes s r o stripe block row whole stripe_is block_is row_is whole_is = rw (stripe_is, block_is, row_is, whole_is) refl

pub offset_by_sizes : (s r k j a stripe index block rows row slot in_row : ℕ) →
    stripe ≡ s → index ≡ k → block ≡ block_bytes s r → rows ≡ a / stripe → row ≡ row_bytes s → slot ≡ j → in_row ≡ slot * stripe + a % stripe →
    index * block + rows * row + in_row ≡ offset_of s r k j a
offset_by_sizes s r k j a stripe index block rows row slot in_row stripe_is index_is block_is rows_is row_is slot_is in_row_is =
    rw (index_is, block_is, rows_is, row_is, in_row_is, slot_is, stripe_is) (omega arith)

-- a byte of a block by its row, its slot and its place in the stripe
row_slot_byte : (b s : ℕ) → 0 < s → b / (6 * s) * (6 * s) + b / s % 6 * s + b % s ≡ b
row_slot_byte b s some =
    let stripes : b / s * s + b % s ≡ b = div-add-mod' b s in
    let rows : b / s / 6 * 6 + b / s % 6 ≡ b / s = div-add-mod' (b / s) 6 in
    let row_is : b / s / 6 ≡ b / (6 * s) = div-div-eq-div-mul b s 6 ∙ ap (λ n. b / n) (mul_comm s 6) in
    let scaled : (b / s / 6 * 6 + b / s % 6) * s ≡ b / s * s = ap (λ n. n * s) rows in
    rw (← row_is) (omega (arith, stripes, scaled))

pub offset_of_place : (s r o : ℕ) → 0 < s → 0 < r → let spot = place_of s r o in offset_of s r spot.index spot.slot spot.at ≡ o
offset_of_place s r o some rows =
    let b = o % block_bytes s r in
    let t : b % s < s = mod_below b s some in
    let row_is : (b / (6 * s) * s + b % s) / s ≡ b / (6 * s) = div-mul-add (b / (6 * s)) s (b % s) t in
    let t_is : (b / (6 * s) * s + b % s) % s ≡ b % s = mod-mul-add (b / (6 * s)) s (b % s) t in
    let inside : b / (6 * s) * (6 * s) + b / s % 6 * s + b % s ≡ b = row_slot_byte b s some in
    let whole : o / block_bytes s r * block_bytes s r + b ≡ o = div-add-mod' o (block_bytes s r) in
    rw (row_is, t_is) (omega (arith, inside, whole))

-- the place lies in a whole chunk
pub place_within : (s r o : ℕ) → 0 < s → 0 < r → (place_of s r o).at < s * r
place_within s r o some rows =
    let b = o % block_bytes s r in
    let blocks : 0 < 6 * s * r = omega (arith, mul-le 1 1 (6 * s) r (omega arith) (omega arith)) in
    let below : o % (6 * s * r) < r * (6 * s) = omega (arith, mod_below o (6 * s * r) blocks) in
    let row : b / (6 * s) < r = div_below b (6 * s) r (omega arith) below in
    mul-add-lt (b / (6 * s)) s (b % s) r row (mod_below b s some)

same_spot : (i i' w w' j j' a a' : ℕ) → i ≡ i' → w ≡ w' → j ≡ j' → a ≡ a' → spot i w j a ≡ spot i' w' j' a'
same_spot i i' w w' j j' a a' index row slot at =
    ap (λ n. spot n w j a) index ∙ ap (λ n. spot i' n j a) row ∙ ap (λ n. spot i' w' n a) slot ∙ ap (spot i' w' j') at

-- the row, the slot and the place in the stripe, of a byte of a block that they give
inner_parts : (s row j t : ℕ) → 0 < s → j < 6 → t < s → let i = row * (6 * s) + (j * s + t) in (i / (6 * s) ≡ row) × (i / s % 6 ≡ j) × (i % s ≡ t)
inner_parts s row j t some slot inside =
    let in_row : j * s + t < 6 * s = omega (arith, mul-add-lt j s t 6 slot inside) in
    let stripes : row * (6 * s) + (j * s + t) ≡ (row * 6 + j) * s + t = omega arith in (
      div-mul-add row (6 * s) (j * s + t) in_row,
      ap (λ n. n / s % 6) stripes ∙ ap (λ n. n % 6) (div-mul-add (row * 6 + j) s t inside) ∙ mod-mul-add row 6 j slot,
      ap (λ n. n % s) stripes ∙ mod-mul-add (row * 6 + j) s t inside,
    )

pub place_of_offset : (s r k j a : ℕ) → 0 < s → j < 6 → a < s * r → place_of s r (offset_of s r k j a) ≡ record { index = k; row = a / s; slot = j; at = a }
place_of_offset s r k j a some slot within =
    let t : a % s < s = mod_below a s some in
    let row : a / s < r = div_below a s r some (omega arith) in
    let in_row : j * s + a % s < 6 * s = omega (arith, mul-add-lt j s (a % s) 6 slot t) in
    let i = a / s * (6 * s) + (j * s + a % s) in
    let in_block : i < 6 * s * r = mul-add-lt (a / s) (6 * s) (j * s + a % s) r row in_row in
    let split : offset_of s r k j a ≡ k * (6 * s * r) + i = omega arith in
    let index_is : offset_of s r k j a / (6 * s * r) ≡ k = ap (λ n. n / (6 * s * r)) split ∙ div-mul-add k (6 * s * r) i in_block in
    let inner_is : offset_of s r k j a % (6 * s * r) ≡ i = ap (λ n. n % (6 * s * r)) split ∙ mod-mul-add k (6 * s * r) i in_block in
    let parts = inner_parts s (a / s) j (a % s) some slot t in
    let row_is : offset_of s r k j a % (6 * s * r) / (6 * s) ≡ a / s = ap (λ n. n / (6 * s)) inner_is ∙ parts.0 in
    let slot_is : offset_of s r k j a % (6 * s * r) / s % 6 ≡ j = ap (λ n. n / s % 6) inner_is ∙ parts.1 in
    let t_is : offset_of s r k j a % (6 * s * r) % s ≡ a % s = ap (λ n. n % s) inner_is ∙ parts.2 in
    let at_is : offset_of s r k j a % (6 * s * r) / (6 * s) * s + offset_of s r k j a % (6 * s * r) % s ≡ a =
    ap (λ n. n * s + offset_of s r k j a % (6 * s * r) % s) row_is ∙ ap (λ n. a / s * s + n) t_is ∙ div-add-mod' a s in
    same_spot _ _ _ _ _ _ _ _ index_is row_is slot_is at_is
