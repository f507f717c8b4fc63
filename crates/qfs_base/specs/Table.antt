-- Tables: lists of rows in the order of their keys, read and changed by tests and comparisons. They
-- compute on literals. A row is found by std's `find`, tested by `list_any` and `list_all`, and
-- counted by `count_by`.
use Rattle.std.specs.Prelude.{⊤, ◌≡◌, Bool, true, false, not, List, [], ◌∷◌, fold, filter, find, unwrap_or, Option, None}
use Rattle.std.specs.Option.{option_or}
use Rattle.std.specs.Ordering.{is_eq, is_lt}
use Rattle.std.specs.declared.cmp.Ordering.{Ordering}
use Rattle.std.specs.declared.cmp.Ordering.TheVariants.{Less, Equal, Greater}

-- what stands first of those that pass the test, or else the default
abbrev pub look : {X : Type 0} → X → (X → Bool) → List X → X
look default test rows = unwrap_or (find test rows) default

-- the rows that don't pass the test
abbrev pub without : {X : Type 0} → (X → Bool) → List X → List X
without test rows = filter (λ row. not (test row)) rows

-- a row as `change` leaves it, where it passed the test
abbrev pub change_row : {X : Type 0} → (X → X) → X → Bool → X
change_row change row true = change row
change_row change row false = row

-- each row that passes the test is changed, and the others stay
abbrev pub change_where : {X : Type 0} → (X → Bool) → (X → X) → List X → List X
change_where test change [] = []
change_where test change (row ∷ rows) =
    change_row change row (test row) ∷ change_where test change rows

-- a new row before the first row above it, in place of the one with its key, or further on
abbrev pub place_before : {X : Type 0} → X → X → List X → List X → Ordering → List X
place_before new row rows further Less = new ∷ row ∷ rows
place_before new row rows further Equal = new ∷ rows
place_before new row rows further Greater = row ∷ further

-- the table with this row at its place in the order, where it replaces the one with its key
abbrev pub place : {X : Type 0} → (X → X → Ordering) → X → List X → List X
place order new [] = new ∷ []
place order new (row ∷ rows) = place_before new row rows (place order new rows) (order new row)

-- the table with each of these rows at its place
abbrev pub place_all : {X : Type 0} → (X → X → Ordering) → List X → List X → List X
place_all order new rows = fold (λ table row. place order row table) rows new

-- whether a row has the key of an order, and whether it stands behind that key
abbrev pub has_key : {X : Type 0} → (X → Ordering) → X → Bool
has_key order row = is_eq (order row)

abbrev pub is_behind : {X : Type 0} → (X → Ordering) → X → Bool
is_behind order row = is_lt (order row)

-- the first answer that is one, of the items in order
abbrev pub first_of : {X Y : Type 0} → (X → Option Y) → List X → Option Y
first_of answer [] = None
first_of answer (x ∷ xs) = option_or (answer x) (first_of answer xs)

-- P holds of each row
abbrev pub Each : {X : Type 0} → (X → Type 0) → List X → Type 0
Each P [] = ⊤
Each P (row ∷ rows) = P row × Each P rows

-- each row comes before all later ones: the rows are in order, without repeats
abbrev pub IsRising : {X : Type 0} → (X → X → Ordering) → List X → Type 0
IsRising order [] = ⊤
IsRising order (row ∷ rows) = Each (λ later. order row later ≡ Less) rows × IsRising order rows
