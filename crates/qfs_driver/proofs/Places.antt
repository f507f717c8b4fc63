-- What stands at a place of a list.
use Rattle.std.proofs.Common.{◌≡◌, ℕ, zero, suc, ◌-◌, ◌<◌, ◌≤◌, List, [], ◌∷◌, take, drop, map, refl, sym, ◌∙◌, ap, arith, Some, None}
use Rattle.std.specs.Prelude.{slice_get, option_map}
use Rattle.std.proofs.lemmas.Option.{slice_get-map}

pub some_is : {X : Type 0} {a b : X} → Some a ≡ Some b → a ≡ b
some_is is = cc

pub some_isnt : {X : Type 0} {a : X} → None ≡ Some a → ⊥
some_isnt is = cc

-- what stands at a place of a list of so many first items
pub in_first : {X : Type 0} (n k : ℕ) (xs : List X) (x : X) → k < n → slice_get xs k ≡ Some x → slice_get (take n xs) k ≡ Some x
in_first zero k xs x below is = absurd (omega arith)
in_first (suc n) k [] x below is = cc
in_first (suc n) zero (y ∷ ys) x below is = is
in_first (suc n) (suc k) (y ∷ ys) x below is = in_first n k ys x (omega arith) is

pub mapped_at : {X Y : Type 0} (f : X → Y) (xs : List X) (k : ℕ) (x : X) → slice_get xs k ≡ Some x → slice_get (map f xs) k ≡ Some (f x)
mapped_at f xs k x is = slice_get-map f xs k ∙ ap (option_map f) is

-- what stands behind so many first items
pub behind_first : {X : Type 0} (n k : ℕ) (xs : List X) → n ≤ k → slice_get xs k ≡ slice_get (drop n xs) (k - n)
behind_first zero k xs past = let same : k - 0 ≡ k = omega arith in ap (slice_get xs) (sym same)
behind_first (suc n) zero xs past = absurd (omega (arith, past))
behind_first (suc n) (suc k) [] past = refl
behind_first (suc n) (suc k) (y ∷ ys) past =
    let less : suc k - suc n ≡ k - n = omega arith in
    behind_first n k ys (omega (arith, past)) ∙ ap (slice_get (drop n ys)) (sym less)
