-- Tests of the rows of a list that agree, or follow from each other.
use Rattle.std.proofs.Common.{◌≡◌, refl, Bool, true, List, [], ◌∷◌}
use Rattle.std.specs.List.{AllByRecursion, list_all}
use Rattle.std.proofs.lemmas.Bool.{and_from, and_parts}
use Rattle.qfs_base.specs.Table.{Each}

-- what passes one test passes one that follows from it
pub all_weaker : {X : Type 0} (p q : X → Bool) → ((x : X) → p x ≡ true → q x ≡ true) → (xs : List X) → list_all p xs ≡ true → list_all q xs ≡ true
all_weaker p q weaker [] all = refl
all_weaker p q weaker (x ∷ xs) all =
    let parts = and_parts _ _ all in
    and_from _ _ (weaker x parts.0) (all_weaker p q weaker xs parts.1)

pub all_of_each : {X : Type 0} (P : X → Type 0) (q : X → Bool) → ((x : X) → P x → q x ≡ true) → (xs : List X) → Each P xs → list_all q xs ≡ true
all_of_each P q passes [] each = refl
all_of_each P q passes (x ∷ xs) each = and_from _ _ (passes x each.0) (all_of_each P q passes xs each.1)

-- two tests that agree where a fact holds
pub all_given : {X : Type 0} (P : X → Type 0) (p q : X → Bool) → ((x : X) → P x → p x ≡ q x) → (xs : List X) → AllByRecursion P xs → list_all p xs ≡ list_all q xs
all_given P p q same [] fits = refl
all_given P p q same (x ∷ xs) fits = rw (same x fits.0, all_given P p q same xs fits.1) refl

pub all_fit : {X : Type 0} (P : X → Type 0) (q : X → Bool) → ((x : X) → P x → q x ≡ true) → (xs : List X) → AllByRecursion P xs → list_all q xs ≡ true
all_fit P q passes [] fits = refl
all_fit P q passes (x ∷ xs) fits = and_from _ _ (passes x fits.0) (all_fit P q passes xs fits.1)
