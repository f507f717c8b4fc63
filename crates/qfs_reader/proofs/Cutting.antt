-- What a range takes of bytes that stand one after another in a file.
use Rattle.std.proofs.Common.{◌≡◌, refl, ap, arith, ℕ, zero, suc, ◌+◌, ◌-◌, ◌≤◌, max, List, [], ◌∷◌, ◌++◌, length, take, drop, length-drop}
use Rattle.std.proofs.lemmas.Grind.{common_steps}
use Rattle.std.proofs.lemmas.List.{length-take}
use Rattle.qfs_model_actor.specs.Windows.{cut_to_range}

-- the first n of two lists, one after another
take-append : {X : Type 0} (n : ℕ) (xs ys : List X) → take n (xs ++ ys) ≡ take n xs ++ take (n - length xs) ys
take-append zero xs ys = let e : 0 - length xs ≡ 0 = omega arith in rw e refl
take-append (suc n) [] ys = let e : suc n - 0 ≡ suc n = omega arith in rw e refl
take-append (suc n) (x ∷ xs) ys = let e : suc n - suc (length xs) ≡ n - length xs = omega arith in rw e (ap (λ l. x ∷ l) (take-append n xs ys))

-- two lists, one after another, without the first n
drop-append : {X : Type 0} (n : ℕ) (xs ys : List X) → drop n (xs ++ ys) ≡ drop n xs ++ drop (n - length xs) ys
drop-append zero xs ys = let e : 0 - length xs ≡ 0 = omega arith in rw e refl
drop-append (suc n) [] ys = let e : suc n - 0 ≡ suc n = omega arith in rw e refl
drop-append (suc n) (x ∷ xs) ys = let e : suc n - suc (length xs) ≡ n - length xs = omega arith in rw e (drop-append n xs ys)

-- what a range takes of two lists, one after another
pub cut_to_range-append : (from to start : ℕ) (xs ys : List ℕ)
    → cut_to_range from to start (xs ++ ys) ≡ cut_to_range from to start xs ++ cut_to_range from to (start + length xs) ys
unfolding cut_to_range
cut_to_range-append from to start xs ys =
    let skipped : from - start - length xs ≡ from - (start + length xs) = omega arith in
    let long : length (drop (from - start) xs) ≡ length xs - (from - start) = length-drop (from - start) xs in
    let left : to - max from start - (length xs - (from - start)) ≡ to - max from (start + length xs) = omega arith in
    rw (drop-append (from - start) xs ys, skipped, take-append (to - max from start) (drop (from - start) xs) (drop (from - (start + length xs)) ys), long, left) refl

pub cut_to_range-nil : (from to start : ℕ) → cut_to_range from to start [] ≡ []
unfolding cut_to_range
cut_to_range-nil from to start = grind (arith, common_steps)

pub cut_to_range-bound : (from to start : ℕ) (xs : List ℕ) → length (cut_to_range from to start xs) ≤ start + length xs - max from start
unfolding cut_to_range
cut_to_range-bound from to start xs =
    let a = length-take (to - max from start) (drop (from - start) xs) in
    let b = length-drop (from - start) xs in
    omega (arith, a, b)
