-- The server that a put of a slot is granted, by the census as it stands: the pending grant needs
-- no leaving out, since its server is barred anyway.
use Rattle.std.proofs.Common.{◌≡◌, ◌∙◌, ℕ, ◌+◌, ◌==◌, ◌&&◌, ◌||◌, Bool, true, false, cond, not, List, [], ◌∷◌, map, filter, Some, None, refl, sym, ap, arith, ⊎_elim}
use Rattle.std.proofs.lemmas.Bool.{cases_eq, eqb-true, true≢false}
use Rattle.std.specs.List.{reduce, enumerate_from, flat_map, list_any}
use Rattle.std.specs.Option.{option_map, option_to_list}
use Rattle.qfs_base.specs.EachLaws.{each_weaker}
use Rattle.qfs_base.specs.declared.chunk.BlockId.{BlockId}
use Rattle.qfs_base.specs.declared.chunk.Copy.{Copy}
use Rattle.qfs_base.specs.declared.image.Grant.{Grant}
use Rattle.qfs_base.specs.declared.image.Load.{Load}
use Rattle.qfs_base.specs.declared.image.ServerView.{ServerView}
use Rattle.qfs_base.specs.declared.image.SlotRecord.{SlotRecord}
use Rattle.qfs_base.specs.declared.image.SlotRow.{SlotRow}
use Rattle.qfs_base.specs.NumberSet.{has, with_member}
use Rattle.qfs_base.specs.Table.{Each, IsRising, change_row, change_where}
use Rattle.qfs_laws_slots.specs.Slots.{is_slot-is, rows-found}
use Rattle.qfs_laws_tables.specs.SomeRow.{any_of_append}
use Rattle.qfs_model_meta.specs.Placing.{Numbered, load_of, census, is_open, open_servers, lighter, choose, barred_for_put}
use Rattle.qfs_model_meta.specs.PutRequests.{failed_with, chosen_for_put}
use Rattle.qfs_model_meta.specs.Servers.{is_live}
use Rattle.qfs_model_meta.specs.Slots.{is_slot, is_of_block, slot_at, slot_cmp, never_granted, count_on, granted_copy, without_grant, change_slot, change_state, ungranted_slot}
use Rattle.qfs_place.specs.Barred.{is_live_at}
use Rattle.qfs_place.specs.BarredLaws.{row_grants, barred_for_put_is, has_live, has_with_member}
use Rattle.qfs_place.specs.ChangeLaws.{total_changed, none_granted, ungranted_takes}
use Rattle.qfs_place.specs.LoadLaws.{copies_on, copies_in, count_on_total, is_itself, load_of_same, on_no_other}

-- ---- what the choice depends on

-- two choices are alike where the same servers are open, with the same loads
abbrev AreAlike : List SlotRow → List ℕ → List SlotRow → List ℕ → Type 0
AreAlike slots barred others more =
    (n : ℕ) (server : ServerView)
    → (is_open barred (n, load_of slots n server) ≡ is_open more (n, load_of others n server))
    × (is_open more (n, load_of others n server) ≡ true
    → load_of slots n server ≡ load_of others n server)

open_alike : (slots others : List SlotRow) (barred more : List ℕ)
    → AreAlike slots barred others more
    → (number : ℕ) (servers : List ServerView)
    → filter (is_open barred) (enumerate_from number
    (map (λ (s : ℕ × ServerView). load_of slots s.0 s.1) (enumerate_from number servers)))
    ≡ filter (is_open more) (enumerate_from number
    (map (λ (s : ℕ × ServerView). load_of others s.0 s.1) (enumerate_from number servers)))
open_alike slots others barred more alike number [] = refl
open_alike slots others barred more alike number (server ∷ servers) =
    let list : List ℕ → List SlotRow → List Numbered = λ set rows. filter (is_open set)
    (enumerate_from (number + 1) (map (λ (s : ℕ × ServerView). load_of rows s.0 s.1)
    (enumerate_from (number + 1) servers))) in
    let rest : list barred slots ≡ list more others =
    open_alike slots others barred more alike (number + 1) servers in
    let same = alike number server in
    ap (λ b. cond b ((number, load_of slots number server) ∷ list barred slots)
    (list barred slots)) same.0
    ∙ elim (is_open more (number, load_of others number server)) as
    (λ b. (b ≡ true → load_of slots number server ≡ load_of others number server)
    → cond b ((number, load_of slots number server) ∷ list barred slots) (list barred slots)
    ≡ cond b ((number, load_of others number server) ∷ list more others) (list more others)) [
      | true ↦ λ load. (λ i. (number, load refl i) ∷ rest i)
      | false ↦ λ _. rest
    ] same.1

choose_alike : (servers : List ServerView) (slots others : List SlotRow) (barred more : List ℕ)
    → AreAlike slots barred others more
    → choose (census servers slots) barred ≡ choose (census servers others) more
unfolding choose census open_servers
choose_alike servers slots others barred more alike =
    ap (λ servers. option_map (λ (s : Numbered). s.0) (reduce lighter servers))
    (open_alike slots others barred more alike 1 servers)

-- ---- a slot's pending grant

-- where a slot's rows have this grant
abbrev HaveGrant : BlockId → ℕ → Grant → List SlotRow → Type 0
HaveGrant block slot grant rows =
    Each (λ (row : SlotRow). is_slot block slot row ≡ true → row.state.grant ≡ Some grant) rows

rows_have : (block : BlockId) (slot : ℕ) (grant : Grant) (slots : List SlotRow)
    → IsRising slot_cmp slots → (slot_at slots block slot).grant ≡ Some grant
    → HaveGrant block slot grant slots
rows_have block slot grant slots rising is =
    each_weaker (λ (row : SlotRow). slot_at slots row.block row.slot ≡ row.state)
    (λ (row : SlotRow). is_slot block slot row ≡ true → row.state.grant ≡ Some grant)
    (λ row found here.
    let same = is_slot-is block slot row here in
    ap (λ (state : SlotRecord). state.grant) (sym found)
    ∙ (λ i. (slot_at slots (same.0 i) (same.1 i)).grant)
    ∙ is)
    slots (rows-found slots rising)

ungranted_row : (row : SlotRow) → row_grants (change_state ungranted_slot row) ≡ []
unfolding change_state ungranted_slot granted_copy
ungranted_row row = refl

of_block_kept : (of : BlockId) (row : SlotRow) (b : Bool)
    → is_of_block of (change_row (change_state ungranted_slot) row b) ≡ is_of_block of row
unfolding is_of_block change_state
of_block_kept of row true = refl
of_block_kept of row false = refl

-- a copy on another server isn't live here
away : (servers : List ServerView) (n : ℕ) (copy : Copy) → (n ≡ copy.server → ⊥)
    → is_live_at servers n copy ≡ false
away servers n copy differs =
    elim (copy.server == n) as (λ b. (copy.server == n) ≡ b → (b && is_live servers copy) ≡ false) [
      | true ↦ λ is. absurd (differs (sym (eqb-true copy.server n is)))
      | false ↦ λ _. refl
    ] refl

granted_away : (servers : List ServerView) (n : ℕ) (grant : Grant) → (n ≡ grant.copy.server → ⊥)
    → list_any (is_live_at servers n) (option_to_list (granted_copy (Some grant))) ≡ false
unfolding granted_copy
granted_away servers n grant differs = ap (λ b. b || false) (away servers n grant.copy differs)

-- the other grants stand on the same servers but for that one's
any_ungranted : (servers : List ServerView) (n : ℕ) (of block : BlockId) (slot : ℕ) (grant : Grant)
    → (n ≡ grant.copy.server → ⊥) → (rows : List SlotRow) → HaveGrant block slot grant rows
    → list_any (is_live_at servers n) (flat_map row_grants (filter (is_of_block of)
    (change_where (is_slot block slot) (change_state ungranted_slot) rows)))
    ≡ list_any (is_live_at servers n) (flat_map row_grants (filter (is_of_block of) rows))
any_ungranted servers n of block slot grant differs [] have = refl
any_ungranted servers n of block slot grant differs (row ∷ rows) have =
    let live : Copy → Bool = is_live_at servers n in
    let any : List SlotRow → Bool = λ rs. list_any live (flat_map row_grants rs) in
    let test : SlotRow → Bool = is_slot block slot in
    let change : Bool → SlotRow = change_row (change_state ungranted_slot) row in
    let later : List SlotRow =
    filter (is_of_block of) (change_where test (change_state ungranted_slot) rows) in
    let before : List SlotRow = filter (is_of_block of) rows in
    let rest : any later ≡ any before =
    any_ungranted servers n of block slot grant differs rows have.1 in
    let head : list_any live (row_grants (change (test row))) ≡ list_any live (row_grants row) =
    elim (test row) as (λ b. (b ≡ true → row.state.grant ≡ Some grant)
    → list_any live (row_grants (change b)) ≡ list_any live (row_grants row)) [
      | true ↦ λ is. ap (list_any live) (ungranted_row row)
          ∙ sym (granted_away servers n grant differs)
          ∙ ap (λ pending. list_any live (option_to_list (granted_copy pending))) (sym (is refl))
      | false ↦ λ _. refl
    ] have.0 in
    ap (λ b. any (cond b (change (test row) ∷ later) later)) (of_block_kept of row (test row))
    ∙ elim (is_of_block of row) as
    (λ b. any (cond b (change (test row) ∷ later) later) ≡ any (cond b (row ∷ before) before)) [
      | true ↦ any_of_append live (row_grants (change (test row))) (flat_map row_grants later)
          ∙ (λ i. head i || rest i)
          ∙ sym (any_of_append live (row_grants row) (flat_map row_grants before))
      | false ↦ rest
    ]

on_no_other_grant : (n life : ℕ) (grant : Grant) → (n ≡ grant.copy.server → ⊥)
    → copies_on n life (granted_copy (Some grant)) ≡ 0
unfolding granted_copy
on_no_other_grant n life grant differs = on_no_other n life grant.copy differs

-- so the same other servers are barred
barred_ungranted : (servers : List ServerView) (slots : List SlotRow) (block : BlockId) (slot : ℕ)
    (failed : List ℕ) (grant : Grant) (n : ℕ) → (n ≡ grant.copy.server → ⊥)
    → HaveGrant block slot grant slots
    → has (barred_for_put servers (change_slot block slot ungranted_slot slots) block failed) n
    ≡ has (barred_for_put servers slots block failed) n
unfolding change_slot
barred_ungranted servers slots block slot failed grant n differs have =
    let others : List SlotRow =
    change_where (is_slot block slot) (change_state ungranted_slot) slots in
    ap (λ set. has set n) (barred_for_put_is servers others block failed)
    ∙ has_live servers n failed (flat_map row_grants (filter (is_of_block block) others))
    ∙ ap (λ b. has failed n || b)
    (any_ungranted servers n block block slot grant differs slots have)
    ∙ sym (has_live servers n failed (flat_map row_grants (filter (is_of_block block) slots)))
    ∙ ap (λ set. has set n) (sym (barred_for_put_is servers slots block failed))

-- and they have the same loads
count_ungranted : (slots : List SlotRow) (block : BlockId) (slot : ℕ) (grant : Grant) (n life : ℕ)
    → (n ≡ grant.copy.server → ⊥) → IsRising slot_cmp slots
    → (slot_at slots block slot).grant ≡ Some grant
    → count_on n life (change_slot block slot ungranted_slot slots) ≡ count_on n life slots
count_ungranted slots block slot grant n life differs rising is =
    let none = none_granted n life in
    let never = ungranted_takes n life never_granted in
    let here = ungranted_takes n life (slot_at slots block slot) in
    let gone = on_no_other_grant n life grant differs in
    let pending = ap (λ g. copies_on n life (granted_copy g)) is in
    let sums = total_changed (copies_in n life) ungranted_slot block slot slots rising
    (omega (arith, none, never)) in
    let old = count_on_total n life slots in
    let new = count_on_total n life (change_slot block slot ungranted_slot slots) in
    omega (arith, here, gone, pending, sums, old, new)

-- the server of the grant itself is barred
own_barred : (servers : List ServerView) (slots : List SlotRow) (block : BlockId) (failed : List ℕ)
    (server : ℕ)
    → has (barred_for_put servers slots block (with_member failed server)) server ≡ true
own_barred servers slots block failed server =
    let copies : List Copy = flat_map row_grants (filter (is_of_block block) slots) in
    ap (λ set. has set server) (barred_for_put_is servers slots block (with_member failed server))
    ∙ has_live servers server (with_member failed server) copies
    ∙ ap (λ b. b || list_any (is_live_at servers server) copies)
    (has_with_member failed server server ∙ ap (λ b. b || has failed server) (is_itself server))

barred_shut : (barred : List ℕ) (n : ℕ) (load : Load) → has barred n ≡ true
    → is_open barred (n, load) ≡ false
unfolding is_open
barred_shut barred n load is =
    ap (λ b. load.up && not load.leaving && not b) is ∙ shut (load.up && not load.leaving)
  where
    shut : (b : Bool) → (b && false) ≡ false
    shut true = refl
    shut false = refl

open_same : (barred more : List ℕ) (n : ℕ) (load other : Load) → has barred n ≡ has more n
    → load ≡ other → is_open barred (n, load) ≡ is_open more (n, other)
unfolding is_open
open_same barred more n load other has same =
    λ i. (same i).up && not (same i).leaving && not (has i)

ungranted_alike : (servers : List ServerView) (slots : List SlotRow) (block : BlockId) (slot : ℕ)
    (failed : List ℕ) (grant : Grant) → IsRising slot_cmp slots
    → (slot_at slots block slot).grant ≡ Some grant
    → AreAlike (change_slot block slot ungranted_slot slots)
    (barred_for_put servers (change_slot block slot ungranted_slot slots) block
    (with_member failed grant.copy.server)) slots
    (barred_for_put servers slots block (with_member failed grant.copy.server))
ungranted_alike servers slots block slot failed grant rising is n server =
    let others : List SlotRow = change_slot block slot ungranted_slot slots in
    let all : List ℕ = with_member failed grant.copy.server in
    let one : List ℕ = barred_for_put servers others block all in
    let two : List ℕ = barred_for_put servers slots block all in
    let load : Load = load_of others n server in
    let other : Load = load_of slots n server in
    ⊎_elim
    (λ (own : n ≡ grant.copy.server).
    let first : is_open one (n, load) ≡ false = barred_shut one n load
    (ap (has one) own ∙ own_barred servers others block failed grant.copy.server) in
    let second : is_open two (n, other) ≡ false = barred_shut two n other
    (ap (has two) own ∙ own_barred servers slots block failed grant.copy.server) in
    (first ∙ sym second, (λ is_so. absurd (true≢false (sym is_so ∙ second)))))
    (λ differs.
    let same : load ≡ other = load_of_same slots others n server
    (count_ungranted slots block slot grant n server.life differs rising is) in (
      open_same one two n load other (barred_ungranted servers slots block slot all grant n differs
          (rows_have block slot grant slots rising is)) same,
      (λ _. same),
    ))
    (cases_eq n grant.copy.server)

-- ---- the choice for a put

pub chosen_by_census : (servers : List ServerView) (slots : List SlotRow) (block : BlockId)
    (slot : ℕ)
    → IsRising slot_cmp slots
    → chosen_for_put block slot servers slots (slot_at slots block slot)
    ≡ choose (census servers slots)
    (barred_for_put servers slots block
    (failed_with (slot_at slots block slot).failed (slot_at slots block slot).grant))
unfolding chosen_for_put without_grant failed_with
chosen_by_census servers slots block slot rising =
    let failed : List ℕ = (slot_at slots block slot).failed in
    elim (slot_at slots block slot).grant as (λ pending. (slot_at slots block slot).grant ≡ pending
    → choose (census servers (without_grant block slot slots pending))
    (barred_for_put servers (without_grant block slot slots pending) block
    (failed_with failed pending))
    ≡ choose (census servers slots)
    (barred_for_put servers slots block (failed_with failed pending))) [
      | None ↦ λ _. refl
      | Some grant ↦ λ is. choose_alike servers (change_slot block slot ungranted_slot slots) slots
          (barred_for_put servers (change_slot block slot ungranted_slot slots) block
          (with_member failed grant.copy.server))
          (barred_for_put servers slots block (with_member failed grant.copy.server))
          (ungranted_alike servers slots block slot failed grant rising is)
    ] refl
