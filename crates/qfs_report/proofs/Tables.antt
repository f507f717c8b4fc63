-- A table by key and the list of its keys, and rows that are placed by number as such a table.
use Rattle.std.proofs.Common.{◌≡◌, ℕ, true, false, List, [], ◌∷◌, map, refl, sym, ap, ◌∙◌, unwrap_or}
use Rattle.std.specs.BTreeMap.{insert_entry}
use Rattle.std.specs.BTreeSet.{insert_key}
use Rattle.std.specs.Cmp.{IsTotalOrder, tied_itself, ranked}
use Rattle.std.specs.List.{AllByRecursion}
use Rattle.std.specs.List.Sorted.{IsStrictlySortedBy}
use Rattle.std.specs.Map.{keys_of}
use Rattle.std.specs.Ordering.{nat_cmp, is_eq, ordering_reverse, match_ordering}
use Rattle.std.specs.declared.cmp.Ordering.{Ordering}
use Rattle.std.specs.declared.cmp.Ordering.TheVariants.{Less, Equal, Greater}
use Rattle.qfs_base.specs.KeyMap.{value_at}
use Rattle.qfs_base.specs.Table.{place, place_before}

module _ {K V : Type 0} (cmp : K → K → Ordering) where
  -- a value that is set puts its key among the others
  pub keys-inserted : (es : List (K × V)) (k : K) (v : V) → keys_of (insert_entry cmp es k v)
      ≡ insert_key cmp (keys_of es) k
  keys-inserted [] k v = refl
  keys-inserted (e ∷ es) k v =
      elim (cmp k e.0) as (λ r. keys_of
      (match_ordering r ((k, v) ∷ e ∷ es) ((e.0, v) ∷ es) (e ∷ insert_entry cmp es k v))
      ≡ match_ordering r (k ∷ e.0 ∷ keys_of es) (e.0 ∷ keys_of es)
      (e.0 ∷ insert_key cmp (keys_of es) k)) [
        | Less ↦ refl
        | Equal ↦ refl
        | Greater ↦ ap (λ ks. e.0 ∷ ks) (keys-inserted es k v)
      ]

  -- what the first entry has at keys behind its own
  passed-first : IsTotalOrder cmp → (default : V) (e : K × V) (es : List (K × V)) (ks : List K)
      → AllByRecursion (λ k. cmp e.0 k ≡ Less) ks
      → map {B = K × V} (λ k. (k, unwrap_or (value_at cmp es k) default)) ks
      ≡ map {B = K × V} (λ k. (k, unwrap_or (value_at cmp (e ∷ es) k) default)) ks
  passed-first order default e es [] above = refl
  passed-first order default e es (k ∷ ks) above =
      let apart : is_eq (cmp k e.0) ≡ false = ap is_eq
      (order.antisymm k e.0 ∙ ap ordering_reverse above.0) in
      rw apart (ap (λ rest. (k, unwrap_or (value_at cmp es k) default) ∷ rest)
      (passed-first order default e es ks above.1))

  -- a table with rising keys has each key with what is found there
  pub by-key : IsTotalOrder cmp → (default : V) (es : List (K × V))
      → IsStrictlySortedBy cmp (keys_of es)
      → es ≡ map {B = K × V} (λ k. (k, unwrap_or (value_at cmp es k) default)) (keys_of es)
  unfolding IsStrictlySortedBy
  by-key order default [] rising = refl
  by-key order default (e ∷ es) rising =
      let here : is_eq (cmp e.0 e.0) ≡ true = ap is_eq (tied_itself order e.0) in
      rw here
      (ap (λ rest. e ∷ rest) (by-key order default es rising.1
      ∙ passed-first order default e es (keys_of es) rising.0))

-- a row that is placed by its number, as an entry of a table by number
pub placed-entry : {X V : Type 0} (number : X → ℕ) (value : X → V) (new : X) (rows : List X)
    → map (λ row. (number row, value row)) (place (λ a b. nat_cmp (number a) (number b)) new rows)
    ≡ insert_entry nat_cmp (map (λ row. (number row, value row)) rows) (number new) (value new)
placed-entry number value new [] = refl
placed-entry {X} number value new (row ∷ rows) =
    let order : X → X → Ordering = λ a b. nat_cmp (number a) (number b) in
    elim (nat_cmp (number new) (number row)) as (λ r. nat_cmp (number new) (number row) ≡ r
    → map (λ (row : X). (number row, value row))
    (place_before new row rows (place order new rows) r)
    ≡ match_ordering r ((number new, value new) ∷ (number row, value row) ∷ map
    (λ (row : X). (number row, value row)) rows)
    ((number row, value new) ∷ map (λ (row : X). (number row, value row)) rows)
    ((number row, value row) ∷ insert_entry nat_cmp
    (map (λ (row : X). (number row, value row)) rows) (number new) (value new))) [
      | Less ↦ λ h. refl
      | Equal ↦ λ h.
          let same : number new ≡ number row = ranked (number new) (number row) Equal (sym h) in
          ap (λ n. (n, value new) ∷ map (λ (row : X). (number row, value row)) rows) same
      | Greater ↦ λ h. ap (λ rest. (number row, value row) ∷ rest)
          (placed-entry number value new rows)
    ] refl
