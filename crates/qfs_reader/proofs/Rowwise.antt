-- The bytes of a window's rows, stripe by stripe.
use Rattle.std.proofs.Common.{◌≡◌, ◌∙◌, refl, ap, sym, arith, ℕ, zero, suc, ◌+◌, ◌-◌, ◌*◌, ◌^◌, ◌<◌, ◌≤◌, List, [], ◌∷◌, ◌++◌, length, take, drop, map, append_assoc, length-append, length-drop}
use Rattle.std.proofs.Math.Nat.{mul-le-mul_right}
use Rattle.std.proofs.lemmas.Grind.{flat_map-append}
use Rattle.std.proofs.lemmas.List.{drop-take, take-take, length-take-le, append-nil, drop-drop, map-id}
use Rattle.std.proofs.lemmas.List.FromFn.{map-range_with_len_more}
use Rattle.std.specs.List.{range_with_len, flat_map}
use Rattle.qfs_model_actor.specs.Pieces.{row_of, rows_of_file}
use Rattle.qfs_model_actor.specs.Windows.{cut_to_range}
use Rattle.qfs_reader.specs.Parts.{part_at, row_of_parts, rows_of_parts, AddsCut}
use Rattle.qfs_reader.proofs.Cutting.{cut_to_range-append, cut_to_range-nil, cut_to_range-bound}

-- ---- lists of one length, one after another

abbrev pub joined : (ℕ → List ℕ) → ℕ → List ℕ
joined f n = flat_map f (range_with_len 0 n)

range-push : (n : ℕ) → range_with_len 0 (n + 1) ≡ range_with_len 0 n ++ n ∷ []
range-push n = sym (map-id (range_with_len 0 (n + 1))) ∙ map-range_with_len_more (λ k. k) 0 n n (omega arith) ∙ ap (λ l. l ++ n ∷ []) (map-id (range_with_len 0 n))

joined-push : (f : ℕ → List ℕ) (n : ℕ) → joined f (n + 1) ≡ joined f n ++ f n
joined-push f n =
    ap (flat_map f) (range-push n)
    ∙ flat_map-append f (range_with_len 0 n) (n ∷ [])
    ∙ ap (λ more. joined f n ++ more) (append-nil (f n))

length-joined : (f : ℕ → List ℕ) (size n : ℕ) → ((k : ℕ) → k < n → length (f k) ≡ size) → length (joined f n) ≡ n * size
length-joined f size zero each = omega arith
length-joined f size (suc n) each =
    let next : suc n ≡ n + 1 = omega arith in
    let before = length-joined f size n (λ k within. each k (omega (arith, within))) in
    let last = each n (omega arith) in
    let both = length-append (joined f n) (f n) in
    ap (λ k. length (joined f k)) next ∙ ap length (joined-push f n) ∙ omega (arith, before, last, both)

-- nothing is added yet
pub nothing-joined : (from to start : ℕ) (got : List ℕ) → AddsCut from to start [] got got
nothing-joined from to start got = sym (ap (λ l. got ++ l) (cut_to_range-nil from to start) ∙ append-nil got)

-- one list more is added
pub one-joined : (from to start size n : ℕ) (f : ℕ → List ℕ) (got before after : List ℕ) → ((k : ℕ) → k < n → length (f k) ≡ size)
    → AddsCut from to start (joined f n) got before → AddsCut from to (start + n * size) (f n) before after
    → AddsCut from to start (joined f (n + 1)) got after
one-joined from to start size n f got before after each was more =
    let cut : cut_to_range from to start (joined f n ++ f n) ≡ cut_to_range from to start (joined f n) ++ cut_to_range from to (start + n * size) (f n) =
    cut_to_range-append from to start (joined f n) (f n) ∙ rw (length-joined f size n each) refl in
    more
    ∙ ap (λ l. l ++ cut_to_range from to (start + n * size) (f n)) was
    ∙ append_assoc got (cut_to_range from to start (joined f n)) (cut_to_range from to (start + n * size) (f n))
    ∙ ap (λ l. got ++ l) (sym (ap (cut_to_range from to start) (joined-push f n) ∙ cut))

-- ---- the stripes of a row

-- the stripe of a slot in a row
abbrev pub stripe_in : ℕ → ℕ → List ℕ → ℕ → ℕ → List ℕ
stripe_in stripe size nine row slot = take stripe (drop (slot * size + row * stripe) nine)

stripe_of_part : (stripe row size n : ℕ) (nine : List ℕ) → (row + 1) * stripe ≤ size
    → take stripe (drop (row * stripe) (part_at size nine n)) ≡ stripe_in stripe size nine row n
stripe_of_part stripe row size n nine inside =
    let rest : row * stripe + (size - row * stripe) ≡ size = omega (arith, inside) in
    let short : stripe ≤ size - row * stripe = omega (arith, inside) in
    let cut : drop (row * stripe) (take size (drop (n * size) nine)) ≡ take (size - row * stripe) (drop (row * stripe) (drop (n * size) nine)) =
    ap (λ m. drop (row * stripe) (take m (drop (n * size) nine))) (sym rest) ∙ drop-take (row * stripe) (size - row * stripe) (drop (n * size) nine) in
    ap (take stripe) cut
    ∙ take-take stripe (size - row * stripe) (drop (row * stripe) (drop (n * size) nine)) short
    ∙ ap (take stripe) (drop-drop (row * stripe) (n * size) nine)

pub stripes-joined : (stripe row size : ℕ) (nine slots : List ℕ) → (row + 1) * stripe ≤ size
    → row_of stripe (map (part_at size nine) slots) row ≡ flat_map (stripe_in stripe size nine row) slots
unfolding row_of
stripes-joined stripe row size nine [] inside = refl
stripes-joined stripe row size nine (n ∷ slots) inside =
    rw (stripe_of_part stripe row size n nine inside, stripes-joined stripe row size nine slots inside) refl

pub length-stripe : (stripe row size : ℕ) (nine : List ℕ) → (row + 1) * stripe ≤ size → length nine ≡ 9 * size
    → (n : ℕ) → n < 9 → length (stripe_in stripe size nine row n) ≡ stripe
length-stripe stripe row size nine inside long n within =
    let b : (n + 1) * size ≤ 9 * size = mul-le-mul_right size (omega (arith, within)) in
    let left = length-drop (n * size + row * stripe) nine in
    length-take-le stripe (drop (n * size + row * stripe) nine) (omega (arith, b, left, long, inside))

length-row : (stripe row size : ℕ) (nine : List ℕ) → (row + 1) * stripe ≤ size → length nine ≡ 9 * size
    → length (row_of_parts stripe size nine row) ≡ 6 * stripe
length-row stripe row size nine inside long =
    ap length (stripes-joined stripe row size nine (range_with_len 0 6) inside)
    ∙ length-joined (stripe_in stripe size nine row) stripe 6 (λ k within. length-stripe stripe row size nine inside long k (omega (arith, within)))

-- ---- rows

pub no-rows : (from to start stripe size : ℕ) (nine got : List ℕ) → AddsCut from to start (rows_of_parts stripe size 0 nine) got got
unfolding rows_of_file
no-rows from to start stripe size nine got = nothing-joined from to start got

-- one row more is added
pub rows-step : (from to start stripe row size : ℕ) (nine got before after : List ℕ) → (row + 1) * stripe ≤ size → length nine ≡ 9 * size
    → AddsCut from to start (rows_of_parts stripe size row nine) got before
    → AddsCut from to (start + row * (6 * stripe)) (row_of_parts stripe size nine row) before after
    → AddsCut from to start (rows_of_parts stripe size (row + 1) nine) got after
unfolding rows_of_file
rows-step from to start stripe row size nine got before after inside long was more =
    one-joined from to start (6 * stripe) row (row_of_parts stripe size nine) got before after
    (λ k within.
    let le : (k + 1) * stripe ≤ (row + 1) * stripe = mul-le-mul_right stripe (omega (arith, within)) in
    length-row stripe k size nine (omega (arith, le, inside)) long)
    was more

-- ---- what is added

-- a slice by its length
pub cut-by_length : (from to offset place stripe : ℕ) (nine result : List ℕ)
    → result ≡ cut_to_range from to offset (take (place + stripe - place) (drop place nine))
    → result ≡ cut_to_range from to offset (take stripe (drop place nine))
cut-by_length from to offset place stripe nine result is =
    let wide : place + stripe - place ≡ stripe = omega arith in
    is ∙ ap (λ n. cut_to_range from to offset (take n (drop place nine))) wide

-- how much a piece of a row or window adds at most
pub added-bound : (from to start wide : ℕ) (before bytes after : List ℕ) → length before ≤ start - from → length bytes ≡ wide
    → AddsCut from to start bytes before after → length after ≤ start + wide - from
added-bound from to start wide before bytes after short long more =
    let b = cut_to_range-bound from to start bytes in
    let both = length-append before (cut_to_range from to start bytes) in
    let all : length after ≡ length (before ++ cut_to_range from to start bytes) = ap length more in
    omega (arith, b, both, all, short, long)

-- and that it fits
pub added-fits : (from to start wide : ℕ) (before bytes : List ℕ) → length before ≤ start - from → length bytes ≡ wide → start + wide < 2 ^ 32
    → length before + length (cut_to_range from to start bytes) < 2 ^ 32
added-fits from to start wide before bytes short long fits =
    let b = cut_to_range-bound from to start bytes in omega (arith, b, short, long, fits)
