-- How the servers that are barred from a block's chunks are found, one slot after another. Cited by
-- whoever walks over the slots of a block.
use Rattle.std.proofs.Common.{◌≡◌, ◌∙◌, ℕ, ◌&&◌, ◌||◌, Bool, true, false, cond, List, [], ◌∷◌, ◌++◌, filter, refl, sym, ap}
use Rattle.std.proofs.lemmas.List.Sums.{fold-append}
use Rattle.std.specs.BTreeSet.{insert_key}
use Rattle.std.specs.Cmp.{ranked}
use Rattle.std.specs.List.{flat_map, list_any}
use Rattle.std.specs.Option.{option_to_list}
use Rattle.std.specs.Ordering.{match_ordering, nat_cmp}
use Rattle.std.specs.Prelude.{nat_eq}
use Rattle.std.specs.declared.cmp.Ordering.TheVariants.{Less, Equal, Greater}
use Rattle.qfs_base.specs.declared.chunk.BlockId.{BlockId}
use Rattle.qfs_base.specs.declared.chunk.Copy.{Copy}
use Rattle.qfs_base.specs.declared.image.ServerView.{ServerView}
use Rattle.qfs_base.specs.declared.image.SlotRow.{SlotRow}
use Rattle.qfs_base.specs.NumberSet.{has, with_member}
use Rattle.qfs_model_meta.specs.MoveRequests.{is_barred}
use Rattle.qfs_model_meta.specs.Placing.{with_live_servers, barred_for_put, barred_for_block}
use Rattle.qfs_model_meta.specs.Servers.{is_live}
use Rattle.qfs_model_meta.specs.Slots.{is_of_block, granted_copy, grants_of_block, copies_of_block}
use Rattle.qfs_laws_tables.specs.SomeRow.{any_of_append}
use Rattle.qfs_place.specs.Barred.{row_copies, is_live_at, has_live_on}

-- ---- the servers of more copies

-- the set with the server of a copy that is live
abbrev pub with_live : List ServerView → List ℕ → Copy → List ℕ
with_live servers members copy =
    cond (is_live servers copy) (with_member members copy.server) members

pub live_append : (servers : List ServerView) (set : List ℕ) (xs ys : List Copy)
    → with_live_servers servers set (xs ++ ys)
    ≡ with_live_servers servers (with_live_servers servers set xs) ys
unfolding with_live_servers
live_append servers set xs ys = fold-append (with_live servers) set xs ys

-- the copy that a slot's grant allows, and the servers of such copies of more slots
abbrev pub row_grants : SlotRow → List Copy
row_grants row = option_to_list (granted_copy row.state.grant)

pub grants_next : (servers : List ServerView) (set : List ℕ) (row : SlotRow) (rows : List SlotRow)
    → with_live_servers servers set (flat_map row_grants (row ∷ rows))
    ≡ with_live_servers servers (with_live_servers servers set (row_grants row))
    (flat_map row_grants rows)
grants_next servers set row rows =
    live_append servers set (row_grants row) (flat_map row_grants rows)

pub copies_next : (servers : List ServerView) (set : List ℕ) (row : SlotRow) (rows : List SlotRow)
    → with_live_servers servers set (flat_map (λ (r : SlotRow). row_copies r.state) (row ∷ rows))
    ≡ with_live_servers servers (with_live_servers servers set (row_copies row.state))
    (flat_map (λ (r : SlotRow). row_copies r.state) rows)
copies_next servers set row rows =
    live_append servers set (row_copies row.state)
    (flat_map (λ (r : SlotRow). row_copies r.state) rows)

-- all rows of a block bar these
pub barred_for_put_is : (servers : List ServerView) (slots : List SlotRow) (block : BlockId)
    (failed : List ℕ)
    → barred_for_put servers slots block failed
    ≡ with_live_servers servers failed (flat_map row_grants (filter (is_of_block block) slots))
unfolding barred_for_put grants_of_block
barred_for_put_is servers slots block failed = refl

pub barred_for_block_is : (servers : List ServerView) (slots : List SlotRow) (block : BlockId)
    → barred_for_block servers slots block
    ≡ with_live_servers servers []
    (flat_map (λ (row : SlotRow). row_copies row.state) (filter (is_of_block block) slots))
unfolding barred_for_block copies_of_block
barred_for_block_is servers slots block = refl

-- ---- who is barred

-- a set has the number that was put in, and those it had (this belongs to the laws of sets)
pub has_with_member : (set : List ℕ) (k n : ℕ)
    → has (with_member set k) n ≡ (nat_eq k n || has set n)
has_with_member [] k n = refl
has_with_member (x ∷ xs) k n =
    elim (nat_cmp k x) as (λ o. nat_cmp k x ≡ o
    → has (match_ordering o (k ∷ x ∷ xs) (x ∷ xs) (x ∷ insert_key nat_cmp xs k)) n
    ≡ (nat_eq k n || (nat_eq x n || has xs n))) [
      | Less ↦ λ _. refl
      | Equal ↦ λ o.
          let same : k ≡ x = ranked k x Equal (sym o) in
          twice (nat_eq x n) (has xs n)
          ∙ ap (λ m. nat_eq m n || (nat_eq x n || has xs n)) (sym same)
      | Greater ↦ λ _. ap (λ b. nat_eq x n || b) (has_with_member xs k n)
          ∙ swapped (nat_eq x n) (nat_eq k n) (has xs n)
    ] refl
  where
    twice : (a b : Bool) → (a || b) ≡ (a || (a || b))
    twice true b = refl
    twice false b = refl

    swapped : (a b c : Bool) → (a || (b || c)) ≡ (b || (a || c))
    swapped true true c = refl
    swapped true false c = refl
    swapped false true c = refl
    swapped false false c = refl

-- a number is barred where it was barred before, or one of the copies is live there
pub has_live : (servers : List ServerView) (n : ℕ) (set : List ℕ) (copies : List Copy)
    → has (with_live_servers servers set copies) n
    ≡ (has set n || list_any (is_live_at servers n) copies)
unfolding with_live_servers
has_live servers n set [] = at_end (has set n)
  where
    at_end : (b : Bool) → b ≡ (b || false)
    at_end true = refl
    at_end false = refl
has_live servers n set (copy ∷ copies) =
    has_live servers n (with_live servers set copy) copies
    ∙ elim (is_live servers copy) as (λ b.
    (has (cond b (with_member set copy.server) set) n || list_any (is_live_at servers n) copies)
    ≡ (has set n || ((nat_eq copy.server n && b) || list_any (is_live_at servers n) copies))) [
      | true ↦ ap (λ b. b || list_any (is_live_at servers n) copies)
          (has_with_member set copy.server n)
          ∙ moved (nat_eq copy.server n) (has set n) (list_any (is_live_at servers n) copies)
      | false ↦ dead (nat_eq copy.server n) (has set n) (list_any (is_live_at servers n) copies)
    ]
  where
    moved : (a b c : Bool) → ((a || b) || c) ≡ (b || ((a && true) || c))
    moved true true c = refl
    moved true false c = refl
    moved false true c = refl
    moved false false c = refl

    dead : (a b c : Bool) → (b || c) ≡ (b || ((a && false) || c))
    dead true true c = refl
    dead true false c = refl
    dead false true c = refl
    dead false false c = refl

any_rows : (servers : List ServerView) (n : ℕ) (rows : List SlotRow)
    → list_any (is_live_at servers n) (flat_map (λ (row : SlotRow). row_copies row.state) rows)
    ≡ list_any (λ (row : SlotRow). has_live_on servers n row.state) rows
any_rows servers n [] = refl
any_rows servers n (row ∷ rows) =
    let test : Copy → Bool = is_live_at servers n in
    let current : List Copy = option_to_list row.state.current in
    let granted : List Copy = option_to_list (granted_copy row.state.grant) in
    any_of_append test (row_copies row.state) (flat_map (λ (r : SlotRow). row_copies r.state) rows)
    ∙ (λ i. any_of_append test current granted i || any_rows servers n rows i)

-- a server is barred from a block's recoveries and moves where one of the block's slots has a live
-- copy or grant there
pub barred_rows : (servers : List ServerView) (slots : List SlotRow) (block : BlockId) (n : ℕ)
    → is_barred servers slots block n
    ≡ list_any (λ (row : SlotRow). has_live_on servers n row.state)
    (filter (is_of_block block) slots)
unfolding is_barred
barred_rows servers slots block n =
    let rows : List SlotRow = filter (is_of_block block) slots in
    ap (λ set. has set n) (barred_for_block_is servers slots block)
    ∙ has_live servers n [] (flat_map (λ (row : SlotRow). row_copies row.state) rows)
    ∙ any_rows servers n rows
