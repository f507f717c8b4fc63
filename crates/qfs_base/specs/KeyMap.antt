-- A map as the list of its entries in the order of their keys, and what its calls do to that list.
use Rattle.std.specs.Prelude.{Bool, true, false, List, [], ◌∷◌, Option, is_some}
use Rattle.std.specs.declared.cmp.Ordering.{Ordering}
use Rattle.std.specs.Ordering.{is_eq}
use Rattle.std.specs.BTreeMap.{insert_entry}
use Rattle.std.specs.Map.{lookup}

-- the others, and this one before them if the test doesn't hold of it
abbrev pub unless : {X : Type 0} → Bool → X → List X → List X
unless true x others = others
unless false x others = x ∷ others

module _ {K V : Type 0} (cmp : K → K → Ordering) where
  -- what stands at a key
  abbrev pub value_at : List (K × V) → K → Option V
  value_at entries key = lookup (λ k. is_eq (cmp key k)) entries

  -- whether something stands at a key
  abbrev pub has_key : List (K × V) → K → Bool
  has_key entries key = is_some (value_at entries key)

  -- the entries with this value at the key, in the key's place
  abbrev pub with_entry : List (K × V) → K → V → List (K × V)
  with_entry entries key value = insert_entry cmp entries key value

  -- the entries of the other keys
  abbrev pub without_key : List (K × V) → K → List (K × V)
  without_key [] key = []
  without_key (e ∷ es) key = unless (is_eq (cmp key e.0)) e (without_key es key)
