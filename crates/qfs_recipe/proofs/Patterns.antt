-- Parts of a list that is told by a function of the place.
use Rattle.std.proofs.Common.{◌≡◌, ◌∙◌, refl, sym, arith, ℕ, ◌+◌, ◌-◌, ◌<◌, ◌≤◌, List, length, map, get_or}
use Rattle.std.proofs.lemmas.List.{get_or-take, get_or-drop}
use Rattle.std.specs.List.{range_with_len, slice_range}
use Rattle.std.proofs.lemmas.Grind.{common_steps, same_number_lists}
use Rattle.std.proofs.lemmas.List.FromFn.{length-map-range_with_len, get_or-map-range_with_len}

-- a list is told by a function where each of its items is
pub told_by : (f : ℕ → ℕ) (from n : ℕ) (xs : List ℕ) → length xs ≡ n → ((k : ℕ) → k < n → get_or xs k 0 ≡ f (from + k)) → xs ≡ map f (range_with_len from n)
told_by f from n xs long each =
    same_number_lists xs _ (long ∙ sym (length-map-range_with_len f from n))
    (λ k inside. let below : k < n = omega arith in each k below ∙ sym (get_or-map-range_with_len f from n k (from + k) 0 below refl))

part_of_told : (f : ℕ → ℕ) (all i n : ℕ) → i + n ≤ all → (k : ℕ) → k < n → get_or (slice_range (map f (range_with_len 0 all)) i (i + n)) k 0 ≡ f (i + k)
part_of_told f all i n inside k below =
    let at : get_or (map f (range_with_len 0 all)) (i + k) 0 ≡ f (i + k) = get_or-map-range_with_len f 0 all (i + k) (i + k) 0 (omega arith) (omega arith) in
    let taken : k < i + n - i = omega arith in
    grind (arith, common_steps, get_or-take, get_or-drop)

-- a part of such a list is told by the same function
pub range_of_told : (f : ℕ → ℕ) (all i n : ℕ) → i + n ≤ all → slice_range (map f (range_with_len 0 all)) i (i + n) ≡ map f (range_with_len i n)
range_of_told f all i n inside =
    let whole : length (map f (range_with_len 0 all)) ≡ all = length-map-range_with_len f 0 all in
    let long : length (slice_range (map f (range_with_len 0 all)) i (i + n)) ≡ n = grind (arith, common_steps) in
    told_by f i n _ long (part_of_told f all i n inside)
