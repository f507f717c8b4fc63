-- Places in lists, and what stands at a number.
use Rattle.std.proofs.Common.{◌≡◌, ℕ, suc, zero, ◌+◌, ◌<◌, ◌≤◌, Bool, true, false, List, [], ◌∷◌, length, take, drop, Some, None, refl, sym, ◌∙◌, ap, subst, arith, eqb-true, eq-eqb, true≢false, slice_get, slice_set, ◌⊎◌, inl, inr}
use Rattle.std.specs.Prelude.{map, ◌==◌, All}
use Rattle.std.proofs.lemmas.List.{set-get_or}
use Rattle.std.proofs.lemmas.Option.{get_or_from_slice_get, same_Some, slice_get_past, slice_get_within}
use Rattle.std.proofs.lemmas.List.Elements.{All-get_or}
use Rattle.qfs_model_world.specs.World.{numbered}

pub get-take : {X : Type 0} (n : ℕ) (xs : List X) (k : ℕ) (x : X) → slice_get (take n xs) k ≡ Some x → slice_get xs k ≡ Some x
get-take zero xs k x e = absurd (cc)
get-take (suc n) [] k x e = absurd (cc)
get-take (suc n) (y ∷ ys) zero x e = e
get-take (suc n) (y ∷ ys) (suc k) x e = get-take n ys k x e

pub get-drop : {X : Type 0} (n : ℕ) (xs : List X) (k : ℕ) (x : X) → slice_get (drop n xs) k ≡ Some x → slice_get xs (n + k) ≡ Some x
get-drop zero xs k x e = let same : 0 + k ≡ k = omega arith in rw same e
get-drop (suc n) [] k x e = absurd (cc)
get-drop (suc n) (y ∷ ys) k x e = let same : suc n + k ≡ suc (n + k) = omega arith in rw same (get-drop n ys k x e)

pub get-set : {X : Type 0} (xs : List X) (k : ℕ) (x y : X) → slice_get xs k ≡ Some x → slice_get (slice_set xs k y) k ≡ Some y
get-set [] k x y e = absurd (cc)
get-set (z ∷ zs) zero x y e = refl
get-set (z ∷ zs) (suc k) x y e = get-set zs k x y e

get-set-other : {X : Type 0} (xs : List X) (k j : ℕ) (y : X) → (j ≡ k → ⊥) → slice_get (slice_set xs k y) j ≡ slice_get xs j
get-set-other [] k j y apart = refl
get-set-other (z ∷ zs) zero zero y apart = absurd (apart refl)
get-set-other (z ∷ zs) zero (suc j) y apart = refl
get-set-other (z ∷ zs) (suc k) zero y apart = refl
get-set-other (z ∷ zs) (suc k) (suc j) y apart = get-set-other zs k j y (λ same. apart (ap (λ n. suc n) same))

-- to set what is there changes nothing
pub set-same : {X : Type 0} (xs : List X) (k : ℕ) (x : X) → slice_get xs k ≡ Some x → slice_set xs k x ≡ xs
set-same xs k x e = ap (slice_set xs k) (sym (get_or_from_slice_get xs k x x e)) ∙ set-get_or xs k x

-- where nothing stands, the list has ended
pub past-end : {X : Type 0} (xs : List X) (k : ℕ) → slice_get xs k ≡ None → length xs ≤ k
past-end [] k e = omega arith
past-end (x ∷ xs) zero e = absurd (cc)
past-end (x ∷ xs) (suc k) e = let rest = past-end xs k e in omega (arith, rest)

-- at every place of a list something stands
pub there-below : {X : Type 0} (xs : List X) (k : ℕ) → k < length xs → (x : X) × (slice_get xs k ≡ Some x)
there-below [] k below = absurd (omega (arith, below))
there-below (x ∷ xs) zero below = (x, refl)
there-below (x ∷ xs) (suc k) below = there-below xs k (omega (arith, below))

-- what a mapped list has at a place comes of what stands there
pub record Unmapped {X Y : Type 0} (f : X → Y) (xs : List X) (k : ℕ) (y : Y) : Type 0 where
  pub of : X
  pub there : slice_get xs k ≡ Some of
  pub is : f of ≡ y

pub unmapped-at : {X Y : Type 0} (f : X → Y) (xs : List X) (k : ℕ) (y : Y) → slice_get (map f xs) k ≡ Some y → Unmapped f xs k y
unmapped-at f [] k y e = absurd (cc)
unmapped-at f (x ∷ xs) zero y e = record { of = x; there = refl; is = same_Some (f x) y e }
unmapped-at f (x ∷ xs) (suc k) y e =
    let further = unmapped-at f xs k y e in record { of = further.of; there = further.there; is = further.is }

-- what holds of all items holds of the one at a place
pub all-at : {X : Type 0} (P : X → Type 0) (xs : List X) (k : ℕ) (x : X) → slice_get xs k ≡ Some x → All P xs → P x
all-at P xs k x e all = subst P (get_or_from_slice_get xs k x x e) (All-get_or P xs k x (slice_get_within xs k x e) all)

-- ---- by number

pub numbered-is : {X : Type 0} (xs : List X) (place : ℕ) (x : X) → slice_get xs place ≡ Some x → numbered xs (suc place) ≡ Some x
unfolding numbered
numbered-is xs place x e = e

pub numbered-set : {X : Type 0} (xs : List X) (place number : ℕ) (x : X) → (number ≡ suc place → ⊥)
    → numbered (slice_set xs place x) number ≡ numbered xs number
unfolding numbered
numbered-set xs place zero x apart = refl
numbered-set xs place (suc other) x apart = get-set-other xs place other x (λ same. apart (ap (λ n. suc n) same))

-- where nothing stands at a place of a list, nothing stands there of one that is as long
pub none-there : {X Y : Type 0} (xs : List X) (ys : List Y) (number : ℕ) → length xs ≡ length ys → numbered xs number ≡ None → numbered ys number ≡ None
unfolding numbered
none-there xs ys zero long e = refl
none-there xs ys (suc k) long e = let past = past-end xs k e in slice_get_past ys k (omega (arith, past, long))

-- ---- numbers

pub same-or-not : (m n : ℕ) → (m ≡ n) ⊎ (m ≡ n → ⊥)
same-or-not m n = by (m == n) refl
  where
    by : (b : Bool) → (m == n) ≡ b → (m ≡ n) ⊎ (m ≡ n → ⊥)
    by true e = inl (eqb-true m n e)
    by false e = inr (λ same. true≢false (sym (eq-eqb m n same) ∙ e))

pub differs : (m n : ℕ) → (m ≡ n → ⊥) → (m == n) ≡ false
differs m n apart = by (m == n) refl
  where
    by : (b : Bool) → (m == n) ≡ b → b ≡ false
    by true e = absurd (apart (eqb-true m n e))
    by false e = refl
