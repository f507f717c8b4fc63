-- The servers that are barred for a put, one slot of the block after another.
use Rattle.std.proofs.Common.{◌≡◌, ◌∙◌, ℕ, ◌+◌, ◌-◌, ◌<◌, ◌≤◌, List, find, unwrap_or, IfSome, Option, Some, None, ap, arith, refl, sym}
use Rattle.std.specs.List.{flat_map, range_with_len}
use Rattle.std.specs.Option.{option_map}
use Rattle.qfs_base.specs.declared.chunk.BlockId.{BlockId}
use Rattle.qfs_base.specs.declared.chunk.Copy.{Copy}
use Rattle.qfs_base.specs.declared.image.ServerView.{ServerView}
use Rattle.qfs_base.specs.declared.image.SlotRow.{SlotRow}
use Rattle.qfs_base.specs.Table.{Each}
use Rattle.qfs_laws_tables.specs.EachRow.{found_has}
use Rattle.qfs_model_meta.specs.Grammar.{NamesServers, IsServer}
use Rattle.qfs_model_meta.specs.Placing.{with_live_servers}
use Rattle.qfs_model_meta.specs.Slots.{granted_copy, is_slot, never_granted, slot_at}
use Rattle.qfs_place.specs.Barred.{HasNumber}
use Rattle.qfs_place.specs.BarredLaws.{live_append}
use Rattle.qfs_planning.specs.Walks.{range_next}

pub bars_next : (servers : List ServerView) (f : ℕ → List Copy) (set next whole : List ℕ)
    (at count : ℕ) → at < count
    → with_live_servers servers set (flat_map f (range_with_len at (count - at))) ≡ whole
    → next ≡ with_live_servers servers set (f at)
    → with_live_servers servers next (flat_map f (range_with_len (at + 1) (count - (at + 1))))
    ≡ whole
bars_next servers f set next whole at count within before is =
    let rest : List Copy = flat_map f (range_with_len (at + 1) (count - (at + 1))) in
    ap (λ members. with_live_servers servers members rest) is
    ∙ sym (live_append servers set (f at) rest)
    ∙ ap (λ numbers. with_live_servers servers set (flat_map f numbers))
    (sym (range_next at count within))
    ∙ before

pub bars_end : (servers : List ServerView) (f : ℕ → List Copy) (set whole : List ℕ)
    (at count : ℕ) → count ≤ at
    → with_live_servers servers set (flat_map f (range_with_len at (count - at))) ≡ whole
    → set ≡ whole
unfolding with_live_servers
bars_end servers f set whole at count end before =
    let none : count - at ≡ 0 = omega arith in
    ap (λ n. with_live_servers servers set (flat_map f (range_with_len at n))) (sym none) ∙ before

-- the server of a slot's grant has a number that servers may have
number_of : (servers : ℕ) → servers ≤ 64 → (copy : Option Copy)
    → IfSome copy (λ (c : Copy). IsServer servers c.server) → IfSome copy HasNumber
number_of servers few None it = tt
number_of servers few (Some copy) it = (it.0, omega (arith, it))

pub grant_numbered : (servers : ℕ) → servers ≤ 64 → (slots : List SlotRow)
    → Each (NamesServers servers) slots → (block : BlockId) (slot : ℕ)
    → IfSome (granted_copy (slot_at slots block slot).grant) HasNumber
unfolding slot_at never_granted granted_copy
grant_numbered servers few slots each block slot =
    (elim (find (is_slot block slot) slots) as (λ o. find (is_slot block slot) slots ≡ o
    → IfSome (granted_copy
    (unwrap_or (option_map (λ (row : SlotRow). row.state) o) never_granted).grant) HasNumber) [
      | None ↦ λ _. tt
      | Some row ↦ λ found.
          number_of servers few (granted_copy row.state.grant)
          (found_has (NamesServers servers) (is_slot block slot) slots row found each).0.granted
    ]) refl
