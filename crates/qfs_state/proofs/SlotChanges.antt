-- What the changes of slots leave: slots in order on servers that are there, condemned copies below
-- the next lease, and loads that are counted.
use Rattle.std.proofs.Common.{◌≡◌, ◌∙◌, ◌≤◌, ◌<◌, ◌+◌, ap, sym, refl, arith, ℕ, Bool, true, false, List, [], ◌∷◌, length, Option, Some, None}
use Rattle.std.specs.Option.{IfSome}
use Rattle.std.specs.declared.cmp.Ordering.{Ordering}
use Rattle.std.specs.declared.cmp.Ordering.TheVariants.{Less, Equal, Greater}
use Rattle.qfs_base.specs.declared.change.Change.{Change}
use Rattle.qfs_base.specs.declared.change.Change.TheVariants.{ConfirmSlot, EmptySlot, FailGrant, GiveUp, GrantSlot}
use Rattle.qfs_base.specs.declared.chunk.BlockId.{BlockId}
use Rattle.qfs_base.specs.declared.chunk.Copy.{Copy}
use Rattle.qfs_base.specs.declared.image.CondemnedEntry.{CondemnedEntry}
use Rattle.qfs_base.specs.declared.image.Grant.{Grant}
use Rattle.qfs_base.specs.declared.image.Load.{Load}
use Rattle.qfs_base.specs.declared.image.MetaImage.{MetaImage}
use Rattle.qfs_base.specs.declared.image.ServerView.{ServerView}
use Rattle.qfs_base.specs.declared.image.SlotRecord.{SlotRecord}
use Rattle.qfs_base.specs.declared.image.SlotRow.{SlotRow}
use Rattle.qfs_base.specs.declared.request.SlotId.{SlotId}
use Rattle.qfs_base.specs.EachLaws.{each_weaker}
use Rattle.qfs_base.specs.Sizes.{SLOTS}
use Rattle.qfs_base.specs.Table.{Each, place, place_before}
use Rattle.qfs_blocks.specs.BlockTables.{BlockTables, copy_condemned, entry_listed, grant_confirmed, grant_failed, grant_given_up, record_changed, slot_emptied}
use Rattle.qfs_blocks.specs.Entries.{new_entry}
use Rattle.qfs_blocks.specs.ImageLaws.{confirmed_is, emptied_is, failed_is, given_up_is, with_blocks}
use Rattle.qfs_laws_slots.specs.Slots.{slot_cmp_total, slot_has}
use Rattle.qfs_laws_tables.specs.EachRow.{each_change, each_place, each_push}
use Rattle.qfs_laws_tables.specs.InOrder.{change_rises, each_inserted, place_rises}
use Rattle.qfs_lease.specs.LiveLeases.{LiveLeases}
use Rattle.qfs_model_meta.specs.Apply.{apply, grant_slot, with_slots}
use Rattle.qfs_model_meta.specs.Grammar.{IsServer, NamesServers}
use Rattle.qfs_model_meta.specs.Servers.{is_live, server_at}
use Rattle.qfs_model_meta.specs.Slots.{change_slot, change_state, confirmed_slot, emptied_slot, failed_slot, granted_copy, granted_slot, never_granted, slot_at, slot_cmp, ungranted_slot, with_slot}
use Rattle.qfs_place.specs.ChangeLaws.{census_of, confirmed_census, emptied_census, failed_grant_census, gave_up_census, granted_census}
use Rattle.qfs_place.specs.Loads.{change_load, one_more, uncount_live}
use Rattle.qfs_state.specs.Held.{AreSlots, IsHeld}
use Rattle.qfs_state.specs.Planning.{MayGrant}

-- ---- what blocks have to be beside servers and leases

pub record BlocksFit (servers next : ℕ) (t : BlockTables) : Type 0 where
  pub slots : AreSlots servers t.slots
  pub below : Each (λ (entry : CondemnedEntry). entry.below ≤ next) t.condemned

-- a change of a record names no server that isn't there
abbrev pub KeepsServers : ℕ → (SlotRecord → SlotRecord) → Type 0
KeepsServers servers change =
    (row : SlotRow) → NamesServers servers row → NamesServers servers (change_state change row)

pub changed_fit : (servers next : ℕ) (block : BlockId) (slot : ℕ)
    (change : SlotRecord → SlotRecord) (t : BlockTables) → KeepsServers servers change
    → BlocksFit servers next t → BlocksFit servers next (record_changed block slot change t)
unfolding change_slot change_state slot_cmp
changed_fit servers next block slot change t keeps fit =
    record {
      slots = record {
        in_order = change_rises slot_cmp _ (change_state change) (λ a b. refl) (λ a b. refl)
            t.slots fit.slots.in_order;
        slot_numbers = each_change _ _ _ (change_state change) (λ row _ is. is) (λ row _ is. is)
            t.slots fit.slots.slot_numbers;
        on_servers = each_change _ _ _ (change_state change) (λ row _ is. keeps row is)
            (λ row _ is. is) t.slots fit.slots.on_servers;
      };
      below = fit.below;
    }

ungranted_keeps : (servers : ℕ) → KeepsServers servers ungranted_slot
unfolding change_state ungranted_slot granted_copy
ungranted_keeps servers row names =
    record { current = names.current; granted = tt; failed = names.failed }

confirmed_keeps : (servers : ℕ) → KeepsServers servers confirmed_slot
unfolding change_state confirmed_slot granted_copy
confirmed_keeps servers row names =
    record { current = names.granted; granted = tt; failed = names.failed }

emptied_keeps : (servers : ℕ) → KeepsServers servers emptied_slot
unfolding change_state emptied_slot granted_copy
emptied_keeps servers row names = record { current = tt; granted = tt; failed = names.failed }

failed_keeps : (servers server : ℕ) → IsServer servers server
    → KeepsServers servers (failed_slot server)
unfolding change_state failed_slot
failed_keeps servers server is row names =
    record {
      current = names.current;
      granted = names.granted;
      failed = each_inserted (IsServer servers) row.state.failed server is names.failed;
    }

-- a copy that is condemned now was condemned before the next lease
listed_fits : (servers next : ℕ) (block : BlockId) (slot : ℕ) (copy : Copy) (t : BlockTables)
    (live : Bool) → BlocksFit servers next t
    → BlocksFit servers next (entry_listed next block slot copy t live)
listed_fits servers next block slot copy t false fit = fit
listed_fits servers next block slot copy t true fit =
    record {
      slots = fit.slots;
      below = each_push _ t.condemned (new_entry t.next block slot copy next) fit.below
          (omega arith);
    }

pub condemned_fits : (views : List ServerView) (servers next : ℕ) (block : BlockId) (slot : ℕ)
    (t : BlockTables) (found : Option Copy) → BlocksFit servers next t
    → BlocksFit servers next (copy_condemned views next block slot t found)
condemned_fits views servers next block slot t None fit = fit
condemned_fits views servers next block slot t (Some copy) fit =
    listed_fits servers next block slot copy t (is_live views copy) fit

-- the server of a pending grant is there
pub pending_server : (servers : ℕ) (slots : List SlotRow) (block : BlockId) (slot : ℕ)
    → AreSlots servers slots
    → IfSome (slot_at slots block slot).grant
    (λ (grant : Grant). IsServer servers grant.copy.server)
unfolding never_granted granted_copy
pending_server servers slots block slot are =
    slot_has (λ state. IfSome state.grant (λ (grant : Grant). IsServer servers grant.copy.server))
    slots block slot tt
    (each_weaker _ _ (λ row names _ _. of_row row.state.grant names.granted) slots are.on_servers)
  where
    of_row : (grant : Option Grant)
        → IfSome (granted_copy grant) (λ (copy : Copy). IsServer servers copy.server)
        → IfSome grant (λ (g : Grant). IsServer servers g.copy.server)
    of_row None is = tt
    of_row (Some grant) is = is

-- a slot that gets a record names the servers that the record names
pub placed_fits : (servers : ℕ) (id : SlotId) (state : SlotRecord) (slots : List SlotRow)
    → id.slot < SLOTS
    → NamesServers servers (record { block = id.block; slot = id.slot; state = state })
    → AreSlots servers slots → AreSlots servers (with_slot id.block id.slot state slots)
unfolding with_slot
placed_fits servers id state slots small names are =
    record {
      in_order = place_rises slot_cmp_total _ slots are.in_order;
      slot_numbers = each_place _ slot_cmp _ slots small are.slot_numbers;
      on_servers = each_place _ slot_cmp _ slots names are.on_servers;
    }

-- the servers that a slot names, and that of a new grant, are there
pub grant_names : (servers server life actor lease : ℕ) (id : SlotId) (slots : List SlotRow)
    → IsServer servers server → AreSlots servers slots
    → NamesServers servers (record {
      block = id.block;
      slot = id.slot;
      state = granted_slot server life actor lease (slot_at slots id.block id.slot);
    })
unfolding granted_slot granted_copy never_granted
grant_names servers server life actor lease id slots is are =
    slot_has (λ state. NamesServers servers (record {
      block = id.block;
      slot = id.slot;
      state = granted_slot server life actor lease state;
    })) slots id.block id.slot (record { current = tt; granted = is; failed = tt })
    (each_weaker _ _ (λ row names _ _. record {
      current = names.current;
      granted = is;
      failed = names.failed;
    }) slots are.on_servers)

-- a table with a new row has at most one row more
pub placed_longer : {X : Type 0} (order : X → X → Ordering) (new : X) (rows : List X)
    → length (place order new rows) ≤ length rows + 1
placed_longer order new [] = omega arith
placed_longer order new (row ∷ rows) =
    let rest = placed_longer order new rows in
    elim (order new row) as
    (λ o. length (place_before new row rows (place order new rows) o) ≤ length (row ∷ rows) + 1) [
      | Less ↦ omega arith
      | Equal ↦ omega arith
      | Greater ↦ omega (arith, rest)
    ]

-- the tables with a grant in the life that is known of its server
abbrev pub with_grant : List ServerView → SlotId → ℕ → ℕ → ℕ → ℕ → BlockTables → BlockTables
with_grant servers id server actor lease room t =
    record t {
      slots = with_slot id.block id.slot
          (granted_slot server (server_at servers server).life actor lease
          (slot_at t.slots id.block id.slot)) t.slots;
      spare_slots = room;
    }

-- ---- the changes of a state

abbrev pub leases_in : MetaImage → ℕ → LiveLeases
leases_in m spare = record { leases = m.leases; next = m.next_lease; spare = spare }

-- a change was made of a state: its parts still fit together
pub record IsMade (m : MetaImage) (spare : ℕ) (before after : BlockTables) (later : List Load)
    (change : Change) : Type 0 where
  pub held : IsHeld m.servers after (leases_in m spare) m.dropped later
  pub image : with_blocks after m ≡ apply (with_blocks before m) change

module _ (m : MetaImage) (spare : ℕ) (before : BlockTables) (loads : List Load)
    (held : IsHeld m.servers before (leases_in m spare) m.dropped loads) where
  pub fits : BlocksFit (length m.servers) m.next_lease before
  fits = record { slots = held.slots_fit; below = held.below }

  pub made : (change : Change) (after : BlockTables) (later : List Load)
      → with_blocks after m ≡ apply (with_blocks before m) change
      → BlocksFit (length m.servers) m.next_lease after
      → later ≡ census_of (apply (with_blocks before m) change)
      → IsMade m spare before after later change
  made change after later image fit counts =
      record {
        held = record {
          servers_fit = held.servers_fit;
          slots_fit = fit.slots;
          next_lease = held.next_lease;
          below = fit.below;
          dropped_in_order = held.dropped_in_order;
          counted = counts ∙ sym (ap census_of image);
        };
        image = image;
      }

  given_up_fits : (block : BlockId) (slot : ℕ) (grant : Option Grant)
      → BlocksFit (length m.servers) m.next_lease
      (grant_given_up m.servers m.next_lease block slot before grant)
  given_up_fits block slot None = fits
  given_up_fits block slot (Some grant) =
      changed_fit (length m.servers) m.next_lease block slot ungranted_slot _
      (ungranted_keeps (length m.servers))
      (condemned_fits m.servers (length m.servers) m.next_lease block slot before
      (Some grant.copy) fits)

  pub gave_up : (block : BlockId) (slot : ℕ) → IsMade m spare before
      (grant_given_up m.servers m.next_lease block slot before
      (slot_at before.slots block slot).grant)
      (uncount_live m.servers (granted_copy (slot_at before.slots block slot).grant) loads)
      (GiveUp block slot)
  unfolding apply
  gave_up block slot =
      let grant = (slot_at before.slots block slot).grant in
      made (GiveUp block slot) _ _
      (given_up_is m m.next_lease held.next_lease block slot before grant)
      (given_up_fits block slot grant)
      (ap (uncount_live m.servers (granted_copy grant)) held.counted
      ∙ sym (gave_up_census (with_blocks before m) block slot held.slots_fit.in_order))

  pub failed : (block : BlockId) (slot : ℕ) → IsMade m spare before
      (grant_failed m.servers m.next_lease block slot before
      (slot_at before.slots block slot).grant)
      (uncount_live m.servers (granted_copy (slot_at before.slots block slot).grant) loads)
      (FailGrant block slot)
  unfolding apply
  failed block slot =
      made (FailGrant block slot) _ _
      (failed_is m m.next_lease held.next_lease block slot before
      (slot_at before.slots block slot).grant)
      (failed_fits (slot_at before.slots block slot).grant
      (pending_server (length m.servers) before.slots block slot held.slots_fit))
      (ap (uncount_live m.servers (granted_copy (slot_at before.slots block slot).grant))
      held.counted
      ∙ sym (failed_grant_census (with_blocks before m) block slot held.slots_fit.in_order))
    where
      failed_fits : (grant : Option Grant)
          → IfSome grant (λ (g : Grant). IsServer (length m.servers) g.copy.server)
          → BlocksFit (length m.servers) m.next_lease
          (grant_failed m.servers m.next_lease block slot before grant)
      failed_fits None is = fits
      failed_fits (Some grant) is =
          changed_fit (length m.servers) m.next_lease block slot (failed_slot grant.copy.server) _
          (failed_keeps (length m.servers) grant.copy.server is)
          (given_up_fits block slot (Some grant))

  pub confirmed : (block : BlockId) (slot : ℕ) → IsMade m spare before
      (grant_confirmed m.servers m.next_lease block slot before (slot_at before.slots block slot))
      (uncount_live m.servers (slot_at before.slots block slot).current loads)
      (ConfirmSlot block slot)
  unfolding apply
  confirmed block slot =
      let state = slot_at before.slots block slot in
      made (ConfirmSlot block slot) _ _
      (confirmed_is m m.next_lease held.next_lease block slot before state)
      (changed_fit (length m.servers) m.next_lease block slot confirmed_slot _
      (confirmed_keeps (length m.servers))
      (condemned_fits m.servers (length m.servers) m.next_lease block slot before state.current
      fits))
      (ap (uncount_live m.servers state.current) held.counted
      ∙ sym (confirmed_census (with_blocks before m) block slot held.slots_fit.in_order))

  pub emptied : (block : BlockId) (slot : ℕ) → IsMade m spare before
      (slot_emptied m.servers m.next_lease block slot before (slot_at before.slots block slot))
      (uncount_live m.servers (granted_copy (slot_at before.slots block slot).grant)
      (uncount_live m.servers (slot_at before.slots block slot).current loads))
      (EmptySlot block slot)
  unfolding apply
  emptied block slot =
      let state = slot_at before.slots block slot in
      made (EmptySlot block slot) _ _
      (emptied_is m m.next_lease held.next_lease block slot before state)
      (changed_fit (length m.servers) m.next_lease block slot emptied_slot _
      (emptied_keeps (length m.servers))
      (condemned_fits m.servers (length m.servers) m.next_lease block slot _
      (granted_copy state.grant)
      (condemned_fits m.servers (length m.servers) m.next_lease block slot before state.current
      fits)))
      (ap (λ of_old. uncount_live m.servers (granted_copy state.grant)
      (uncount_live m.servers state.current of_old)) held.counted
      ∙ sym (emptied_census (with_blocks before m) block slot held.slots_fit.in_order))

  pub granted : (id : SlotId) (server actor lease room : ℕ)
      → MayGrant (with_blocks before m) id server → IsMade m spare before
      (with_grant m.servers id server actor lease room before)
      (change_load one_more loads server) (GrantSlot id.block id.slot server actor lease)
  unfolding apply grant_slot with_slots
  granted id server actor lease room may =
      made (GrantSlot id.block id.slot server actor lease) _ _ refl
      (record {
        slots = placed_fits (length m.servers) id _ before.slots may.slot_number
            (grant_names (length m.servers) server _ actor lease id before.slots may.server_there
            held.slots_fit) held.slots_fit;
        below = held.below;
      })
      (ap (λ of_old. change_load one_more of_old server) held.counted
      ∙ sym (granted_census (with_blocks before m) id.block id.slot server actor lease
      held.slots_fit.in_order may.free))
