-- Rows of sorted lists: what is found, changed, placed and dropped. (These laws belong to
-- qfs_laws_tables.)
use Rattle.std.proofs.Common.{◌≡◌, ◌<◌, ◌≤◌, ◌∙◌, ap, sym, refl, arith, Bor, Option, Bool, true}
use Rattle.std.proofs.Common.{false, true≢false, not, ◌&&◌, ◌||◌, cond, List, [], ◌∷◌, ◌++◌, length}
use Rattle.std.proofs.Common.{find, filter, Some, None, suc}
use Rattle.std.proofs.lemmas.Bool.{and_parts}
use Rattle.std.specs.List.{list_any}
use Rattle.std.specs.Option.{is_some, option_copied}
use Rattle.std.specs.Cmp.{IsTotalOrder}
use Rattle.std.specs.Ordering.{is_eq, ordering_reverse}
use Rattle.std.specs.declared.cmp.Ordering.{Ordering}
use Rattle.std.specs.declared.cmp.Ordering.TheVariants.{Less, Equal, Greater}
use Rattle.qfs_base.specs.EachLaws.{each_weaker}
use Rattle.qfs_base.specs.Table.{Each, IsRising, change_row, change_where, has_key, place}
use Rattle.qfs_base.specs.Table.{place_before, without}
use Rattle.qfs_laws_tables.specs.EachRow.{none_found}
use Rattle.qfs_laws_tables.specs.SomeRow.{any_each}
use Rattle.qfs_table.specs.Keys.{IsOnly}

-- a key that some rows have and those before them are below
pub key_passes : (b : Bool) → is_eq (cond b Equal Greater) ≡ b
key_passes true = refl
key_passes false = refl

-- a look that gives a reference finds what is there
pub some_copied : {X : Type 0} (found : Option (Bor X))
    → is_some found ≡ is_some (option_copied found)
some_copied None = refl
some_copied (Some row) = refl

module _ {X : Type 0} where
  pub find_alike : (test other : X → Bool) → ((x : X) → test x ≡ other x) → (xs : List X)
      → find test xs ≡ find other xs
  find_alike test other same xs = ap (λ t. find t xs) (λ i x. same x i)

  -- what is found among the rows that are kept
  pub find_kept : (test keep : X → Bool) (xs : List X)
      → find test (filter keep xs) ≡ find (λ x. keep x && test x) xs
  find_kept test keep [] = refl
  find_kept test keep (x ∷ xs) =
      elim (keep x) as (λ b. find test (cond b (x ∷ filter keep xs) (filter keep xs))
      ≡ cond (b && test x) (Some x) (find (λ x. keep x && test x) xs)) [
        | true ↦ ap (λ rest. cond (test x) (Some x) rest) (find_kept test keep xs)
        | false ↦ find_kept test keep xs
      ]

  pub no_any : (test : X → Bool) (xs : List X) → Each (λ x. test x ≡ false) xs
      → list_any test xs ≡ true → ⊥
  no_any test [] each any = true≢false (sym any)
  no_any test (x ∷ xs) each any =
      no_any test xs each.1 (sym (ap (λ b. b || list_any test xs) each.0) ∙ any)

  -- some row that is kept passes a test
  pub any_kept : (test keep : X → Bool) (xs : List X)
      → list_any test (filter keep xs) ≡ list_any (λ x. keep x && test x) xs
  any_kept test keep [] = refl
  any_kept test keep (x ∷ xs) =
      elim (keep x) as (λ b. list_any test (cond b (x ∷ filter keep xs) (filter keep xs))
      ≡ ((b && test x) || list_any (λ x. keep x && test x) xs)) [
        | true ↦ ap (λ rest. test x || rest) (any_kept test keep xs)
        | false ↦ any_kept test keep xs
      ]

  -- two tests that answer alike for each row
  pub any_alike : (one other : X → Bool) (xs : List X) → Each (λ x. one x ≡ other x) xs
      → list_any one xs ≡ list_any other xs
  any_alike one other [] alike = refl
  any_alike one other (x ∷ xs) alike =
      ap (λ b. b || list_any one xs) alike.0
      ∙ ap (λ rest. other x || rest) (any_alike one other xs alike.1)

  pub any_none : (test : X → Bool) (xs : List X) → Each (λ x. test x ≡ false) xs
      → list_any test xs ≡ false
  any_none test [] none = refl
  any_none test (x ∷ xs) none =
      ap (λ b. b || list_any test xs) none.0 ∙ any_none test xs none.1

  -- a test that a change doesn't touch
  pub any_changed : (test changed : X → Bool) (change : X → X)
      → ((x : X) → test (change x) ≡ test x) → (xs : List X)
      → list_any test (change_where changed change xs) ≡ list_any test xs
  any_changed test changed change same [] = refl
  any_changed test changed change same (x ∷ xs) =
      elim (changed x) as (λ b.
      (test (change_row change x b) || list_any test (change_where changed change xs))
      ≡ (test x || list_any test xs)) [
        | true ↦ ap (λ b. b || list_any test (change_where changed change xs)) (same x)
            ∙ ap (λ rest. test x || rest) (any_changed test changed change same xs)
        | false ↦ ap (λ rest. test x || rest) (any_changed test changed change same xs)
      ]

  -- where some row passes two tests, some passes the first
  pub one_there : (own test : X → Bool) (xs : List X)
      → list_any (λ x. own x && test x) xs ≡ true → list_any own xs ≡ true
  one_there own test [] any = any
  one_there own test (x ∷ xs) any =
      elim (own x) as (λ b. ((b && test x) || list_any (λ x. own x && test x) xs) ≡ true
      → (b || list_any own xs) ≡ true) [
        | true ↦ λ _. refl
        | false ↦ λ any. one_there own test xs any
      ] any

  without_few : (test : X → Bool) (xs : List X) → length (without test xs) ≤ length xs
  without_few test [] = omega arith
  without_few test (x ∷ xs) =
      let few = without_few test xs in
      elim (test x) as (λ b. length (cond (not b) (x ∷ without test xs) (without test xs))
      ≤ suc (length xs)) [ true ↦ omega arith | false ↦ omega arith ]

  pub without_fewer : (test : X → Bool) (xs : List X) → list_any test xs ≡ true
      → length (without test xs) < length xs
  without_fewer test [] any = absurd (true≢false (sym any))
  without_fewer test (x ∷ xs) any =
      elim (test x) as (λ b. (b || list_any test xs) ≡ true
      → length (cond (not b) (x ∷ without test xs) (without test xs)) < suc (length xs)) [
        | true ↦ λ _. let few = without_few test xs in omega arith
        | false ↦ λ any. let few = without_fewer test xs any in omega arith
      ] any

  -- what is dropped anyway may go before
  pub without_after : (first test : X → Bool) (xs : List X)
      → Each (λ x. first x ≡ true → test x ≡ true) xs
      → without test (without first xs) ≡ without test xs
  without_after first test [] both = refl
  without_after first test (x ∷ xs) both =
      let rest = without_after first test xs both.1 in
      elim (first x) as (λ b. first x ≡ b
      → without test (cond (not b) (x ∷ without first xs) (without first xs))
      ≡ cond (not (test x)) (x ∷ without test xs) (without test xs)) [
        | true ↦ λ is. rest
            ∙ ap (λ t. cond (not t) (x ∷ without test xs) (without test xs)) (sym (both.0 is))
        | false ↦ λ is. ap (λ rest. cond (not (test x)) (x ∷ rest) rest) rest
      ] refl

  pub changed_none : (test : X → Bool) (change : X → X) (xs : List X)
      → Each (λ x. test x ≡ false) xs → change_where test change xs ≡ xs
  changed_none test change [] each = refl
  changed_none test change (x ∷ xs) each =
      ap (λ b. change_row change x b ∷ change_where test change xs) each.0
      ∙ ap (λ rest. x ∷ rest) (changed_none test change xs each.1)

  pub changed_length : (test : X → Bool) (change : X → X) (xs : List X)
      → length (change_where test change xs) ≡ length xs
  changed_length test change [] = refl
  changed_length test change (x ∷ xs) = ap suc (changed_length test change xs)

  pub without_none : (test : X → Bool) (xs : List X) → Each (λ x. test x ≡ false) xs
      → without test xs ≡ xs
  without_none test [] each = refl
  without_none test (x ∷ xs) each =
      ap (λ b. cond (not b) (x ∷ without test xs) (without test xs)) each.0
      ∙ ap (λ rest. x ∷ rest) (without_none test xs each.1)

  pub without_alike : (test other : X → Bool) (xs : List X) → Each (λ x. test x ≡ other x) xs
      → without test xs ≡ without other xs
  without_alike test other [] each = refl
  without_alike test other (x ∷ xs) each =
      ap (λ b. cond (not b) (x ∷ without test xs) (without test xs)) each.0
      ∙ ap (λ rest. cond (not (other x)) (x ∷ rest) rest) (without_alike test other xs each.1)

  -- the row with a whole key is the one that is found
  pub alone : {cmp : X → X → Ordering} (order : X → Ordering) → IsOnly cmp order → (xs : List X)
      → IsRising cmp xs → (found : X) → find (has_key order) xs ≡ Some found
      → Each (λ x. has_key order x ≡ true → x ≡ found) xs
  alone order only [] rising found at = tt
  alone order only (x ∷ xs) rising found at =
      elim (order x) as (λ o. order x ≡ o
      → cond (is_eq o) (Some x) (find (has_key order) xs) ≡ Some found
      → (is_eq o ≡ true → x ≡ found) × Each (λ x. has_key order x ≡ true → x ≡ found) xs) [
        | Equal ↦ λ is at.
            let same : x ≡ found = cc in (
              λ _. same,
              each_weaker _ (λ later. has_key order later ≡ true → later ≡ found)
                  (λ later less yes. absurd
                  (true≢false (sym yes ∙ ap is_eq (only x later less is)))) xs rising.0,
            )
        | Less ↦ λ is at. (λ no. absurd (true≢false (sym no)), alone order only xs rising.1 found at)
        | Greater ↦ λ is at.
            (λ no. absurd (true≢false (sym no)), alone order only xs rising.1 found at)
      ] refl at

  -- what is so of some row with a whole key is so of each, since there is one
  pub only_one : {cmp : X → X → Ordering} (order : X → Ordering) → IsOnly cmp order
      → (test : X → Bool) (xs : List X) → IsRising cmp xs
      → list_any (λ x. has_key order x && test x) xs ≡ true
      → Each (λ x. has_key order x ≡ true → test x ≡ true) xs
  only_one order only test xs rising any =
      elim (find (has_key order) xs) as (λ o. find (has_key order) xs ≡ o
      → Each (λ x. has_key order x ≡ true → test x ≡ true) xs) [
        | None ↦ λ none. each_weaker (λ x. has_key order x ≡ false) _
            (λ x off own. absurd (true≢false (sym own ∙ off))) xs
            (none_found (has_key order) xs none)
        | Some found ↦ λ at.
            let one = alone order only xs rising found at in
            let passes : test found ≡ true = any_each (test found ≡ true)
            (λ x. has_key order x ≡ true → x ≡ found) (λ x. has_key order x && test x)
            (λ x same both. let parts = and_parts (has_key order x) (test x) both in
            ap test (sym (same parts.0)) ∙ parts.1) xs one any in
            each_weaker _ _ (λ x same own. ap test (same own) ∙ passes) xs one
      ] refl

  module _ {cmp : X → X → Ordering} (total : IsTotalOrder cmp) where
    -- a change that leaves a row's order on one side leaves it on the other
    pub keeps_behind : (change : X → X) → ((a b : X) → cmp (change a) b ≡ cmp a b)
        → (a b : X) → cmp a (change b) ≡ cmp a b
    keeps_behind change keeps a b =
        total.antisymm a (change b) ∙ ap ordering_reverse (keeps b a) ∙ sym (total.antisymm a b)

    -- a row above all others is placed behind them
    pub placed_last : (new : X) (xs : List X) → Each (λ x. cmp x new ≡ Less) xs
        → place cmp new xs ≡ xs ++ new ∷ []
    placed_last new [] above = refl
    placed_last new (x ∷ xs) above =
        ap (place_before new x xs (place cmp new xs))
        (total.antisymm new x ∙ ap ordering_reverse above.0)
        ∙ ap (λ rest. x ∷ rest) (placed_last new xs above.1)

    behind_none : (new x : X) (o : Ordering) → cmp new x ≡ o → (o ≡ Greater → ⊥) → (xs : List X)
        → Each (λ later. cmp x later ≡ Less) xs
        → Each (λ later. is_eq (cmp new later) ≡ false) xs
    behind_none new x Less is low xs above =
        each_weaker _ _ (λ later less. ap is_eq (total.trans new x later is less)) xs above
    behind_none new x Equal is low xs above =
        each_weaker _ _ (λ later less. ap is_eq (total.congr new x later is ∙ less)) xs above
    behind_none new x Greater is low xs above = absurd (low refl)

    -- to place a row that ties with one that is there is to change that one
    pub placed_changed : (new : X) (change : X → X) (xs : List X) → IsRising cmp xs
        → Each (λ x. is_eq (cmp new x) ≡ true → change x ≡ new) xs
        → list_any (λ x. is_eq (cmp new x)) xs ≡ true
        → change_where (λ x. is_eq (cmp new x)) change xs ≡ place cmp new xs
    placed_changed new change [] rising same any = absurd (true≢false (sym any))
    placed_changed new change (x ∷ xs) rising same any =
        let tied = λ (x : X). is_eq (cmp new x) in
        elim (cmp new x) as (λ o. cmp new x ≡ o → (is_eq o || list_any tied xs) ≡ true
        → (is_eq o ≡ true → change x ≡ new)
        → change_row change x (is_eq o) ∷ change_where tied change xs
        ≡ place_before new x xs (place cmp new xs) o) [
          | Less ↦ λ is any same. absurd
              (no_any tied xs (behind_none new x Less is (λ e. absurd cc) xs rising.0) any)
          | Equal ↦ λ is any own.
              ap (λ row. row ∷ change_where tied change xs) (own refl)
              ∙ ap (λ rest. new ∷ rest) (changed_none tied change xs
              (behind_none new x Equal is (λ e. absurd cc) xs rising.0))
          | Greater ↦ λ is any own.
              ap (λ rest. x ∷ rest) (placed_changed new change xs rising.1 same.1 any)
        ] refl any same.0
