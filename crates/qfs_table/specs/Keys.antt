-- Keys of the rows of a table.
use Rattle.std.specs.Prelude.{◌≡◌, Bool, true, false, cond, List, [], ◌∷◌}
use Rattle.std.specs.Ordering.{is_eq, is_ge, is_gt}
use Rattle.std.specs.declared.cmp.Ordering.{Ordering}
use Rattle.std.specs.declared.cmp.Ordering.TheVariants.{Less, Equal}

-- a key that is above a row is above those before it, and one that isn't below it isn't below them
abbrev pub Falls : Ordering → Ordering → Type 0
Falls first later = (is_gt later ≡ true → is_gt first ≡ true) ×
    (is_ge later ≡ true → is_ge first ≡ true)

-- whether the first of some rows has a key
abbrev pub starts_tied : {X : Type 0} → (X → Ordering) → List X → Bool
starts_tied order [] = false
starts_tied order (row ∷ rows) = is_eq (order row)

-- the first of the rows that pass a test is taken out
abbrev pub without_first : {X : Type 0} → (X → Bool) → List X → List X
without_first test [] = []
without_first test (row ∷ rows) = cond (test row) rows (row ∷ without_first test rows)

-- a key compares with rows as the rows compare with each other
abbrev pub Follows : {X : Type 0} → (X → X → Ordering) → (X → Ordering) → Type 0
Follows {X} cmp order = (a b : X) → cmp a b ≡ Less → Falls (order a) (order b)

-- a row behind one with the key is above the key
abbrev pub IsOnly : {X : Type 0} → (X → X → Ordering) → (X → Ordering) → Type 0
IsOnly {X} cmp order = (a b : X) → cmp a b ≡ Less → order a ≡ Equal → order b ≡ Less
