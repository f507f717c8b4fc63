-- What is known of closed files and of slots that were found.
use Rattle.std.proofs.Common.{◌≡◌, ◌∙◌, ℕ, ◌≤◌, List, find, unwrap_or, IfSome, Option, Some, None, ap, arith, refl, sym}
use Rattle.std.specs.Option.{option_map}
use Rattle.qfs_base.specs.declared.chunk.BlockId.{BlockId}
use Rattle.qfs_base.specs.declared.chunk.Copy.{Copy}
use Rattle.qfs_base.specs.declared.image.SlotRecord.{SlotRecord}
use Rattle.qfs_base.specs.declared.image.SlotRow.{SlotRow}
use Rattle.qfs_base.specs.declared.image.TreeRow.{TreeRow}
use Rattle.qfs_base.specs.Table.{Each}
use Rattle.qfs_laws_tables.specs.EachRow.{found_has}
use Rattle.qfs_model_meta.specs.Grammar.{NamesServers, IsServer}
use Rattle.qfs_model_meta.specs.LeasedGrants.{closed_len}
use Rattle.qfs_model_meta.specs.Slots.{granted_copy, is_slot, never_granted, slot_at}
use Rattle.qfs_namespace.specs.declared.file.KnownFile.{KnownFile}
use Rattle.qfs_namespace.specs.Joined.{known_in}
use Rattle.qfs_place.specs.Barred.{HasNumber}

-- the length of a closed file, by what is known of it
known_len : Option KnownFile → ℕ
known_len None = 0
known_len (Some known) = known.len

len_known : (found : Option TreeRow) → closed_len found ≡ known_len (option_map known_in found)
unfolding closed_len known_len
len_known None = refl
len_known (Some row) = refl

pub len_some : (found : Option TreeRow) (known : KnownFile)
    → option_map known_in found ≡ Some known → known.len ≡ closed_len found
unfolding known_len
len_some found known e = sym (len_known found ∙ ap known_len e)

pub len_none : (found : Option TreeRow) → option_map known_in found ≡ None
    → 0 ≡ closed_len found
unfolding known_len
len_none found e = sym (len_known found ∙ ap known_len e)

-- the servers of a slot's copies have numbers that servers may have
numbers_of : (servers : ℕ) → servers ≤ 64 → (copy : Option Copy)
    → IfSome copy (λ (c : Copy). IsServer servers c.server) → IfSome copy HasNumber
numbers_of servers few None it = tt
numbers_of servers few (Some copy) it = (it.0, omega (arith, it))

abbrev pub HaveNumbers : SlotRecord → Type 0
HaveNumbers state = IfSome state.current HasNumber × IfSome (granted_copy state.grant) HasNumber

pub copies_numbered : (servers : ℕ) → servers ≤ 64 → (slots : List SlotRow)
    → Each (NamesServers servers) slots → (block : BlockId) (slot : ℕ)
    → HaveNumbers (slot_at slots block slot)
unfolding slot_at never_granted granted_copy
copies_numbered servers few slots each block slot =
    (elim (find (is_slot block slot) slots) as (λ o. find (is_slot block slot) slots ≡ o
    → HaveNumbers (unwrap_or (option_map (λ (row : SlotRow). row.state) o) never_granted)) [
      | None ↦ λ _. (tt, tt)
      | Some row ↦ λ found.
          let names = (found_has (NamesServers servers) (is_slot block slot) slots row found each).0 in (
            numbers_of servers few row.state.current names.current,
            numbers_of servers few (granted_copy row.state.grant) names.granted,
          )
    ]) refl
