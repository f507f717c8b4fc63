-- A grant in place of a failed one is decided as if that one was condemned first: the state once
-- the server of a slot's pending grant failed the put. Proved for this crate's `grants_as_freed`,
-- and cited by the laws of the metaserver.
use Rattle.std.proofs.Common.{◌≡◌, ℕ, Bool, true, false, cond, List, [], ◌∷◌, ◌++◌, map, filter}
use Rattle.std.proofs.Common.{count_by, ◌+◌, Option, Some, None, refl, ap, ◌∙◌, sym}
use Rattle.std.specs.Prelude.{unwrap_or, find}
use Rattle.std.specs.List.{flat_map, enumerate_from}
use Rattle.std.specs.Option.{option_map, option_to_list}
use Rattle.qfs_base.specs.declared.change.Change.TheVariants.{FailGrant}
use Rattle.qfs_base.specs.declared.chunk.BlockId.{BlockId}
use Rattle.qfs_base.specs.declared.chunk.Copy.{Copy}
use Rattle.qfs_base.specs.declared.image.Grant.{Grant}
use Rattle.qfs_base.specs.declared.image.MetaImage.{MetaImage}
use Rattle.qfs_base.specs.declared.image.ServerView.{ServerView}
use Rattle.qfs_base.specs.declared.image.SlotRecord.{SlotRecord}
use Rattle.qfs_base.specs.declared.image.SlotRow.{SlotRow}
use Rattle.qfs_base.specs.Table.{change_row, change_where}
use Rattle.qfs_model_meta.specs.Apply.{apply, fail_grant, give_up, change_record, with_slots}
use Rattle.qfs_model_meta.specs.Apply.{apply_all}
use Rattle.qfs_model_meta.specs.Condemned.{condemn, condemned_row, list_if_live}
use Rattle.qfs_model_meta.specs.Placing.{load_of, census, choose, barred_for_put, with_live_servers}
use Rattle.qfs_model_meta.specs.Servers.{is_live, server_at}
use Rattle.qfs_model_meta.specs.Slots.{is_on, count_on, is_slot, is_of_block, slot_at}
use Rattle.qfs_model_meta.specs.Slots.{never_granted, grants_of_block, granted_copy, change_state}
use Rattle.qfs_model_meta.specs.Slots.{change_slot, ungranted_slot, failed_slot, without_grant}
use Rattle.qfs_base.specs.declared.reply.MetaReply.TheVariants as Told
use Rattle.qfs_base.specs.Layout.{rows_of}
use Rattle.qfs_model_meta.specs.GrantedAgain.{DecidesAsFreed, freed}
use Rattle.qfs_model_meta.specs.Lists.{new_grant, no_sources}
use Rattle.qfs_model_meta.specs.PutRequests.{failed_grant, failed_with, chosen_for_put, put_granted}

-- ---- condemning leaves the servers and the slots

condemn-servers : (block : BlockId) (slot : ℕ) (copy : Copy) (m : MetaImage)
    → (condemn block slot copy m).servers ≡ m.servers
unfolding condemn list_if_live
condemn-servers block slot copy m =
    elim (is_live m.servers copy) as
    (λ b. (list_if_live (condemned_row m.next_condemned block slot copy m.leases) m b).servers
    ≡ m.servers) [ true ↦ refl | false ↦ refl ]

condemn-slots : (block : BlockId) (slot : ℕ) (copy : Copy) (m : MetaImage)
    → (condemn block slot copy m).slots ≡ m.slots
unfolding condemn list_if_live
condemn-slots block slot copy m =
    elim (is_live m.servers copy) as
    (λ b. (list_if_live (condemned_row m.next_condemned block slot copy m.leases) m b).slots
    ≡ m.slots) [ true ↦ refl | false ↦ refl ]

-- ---- which servers failed matters neither to the loads nor to the grants

-- what is gathered of the rows, where the change of a row doesn't matter to it
gathered : {X : Type 0} (f : SlotRow → List X) (test : SlotRow → Bool) (change : SlotRow → SlotRow)
    → ((row : SlotRow) → f (change row) ≡ f row) →
    (rows : List SlotRow) → flat_map f (change_where test change rows) ≡ flat_map f rows
gathered f test change same [] = refl
gathered f test change same (row ∷ rows) =
    λ i. kept (test row) i ++ gathered f test change same rows i
  where
    kept : (b : Bool) → f (change_row change row b) ≡ f row
    kept true = same row
    kept false = refl

module _ (block : BlockId) (slot server : ℕ) where
  failed_count : (at life : ℕ) (rows : List SlotRow)
      → count_on at life (change_slot block slot (failed_slot server) rows) ≡ count_on at life rows
  unfolding count_on change_slot change_state failed_slot
  failed_count at life rows = λ i.
      count_by (is_on at life)
      (gathered (λ (row : SlotRow). option_to_list row.state.current) (is_slot block slot)
      (change_state (failed_slot server)) (λ row. refl) rows i)
      + count_by (is_on at life)
      (gathered (λ (row : SlotRow). option_to_list (granted_copy row.state.grant))
      (is_slot block slot) (change_state (failed_slot server)) (λ row. refl) rows i)

  failed_census : (servers : List ServerView) (rows : List SlotRow)
      → census servers (change_slot block slot (failed_slot server) rows) ≡ census servers rows
  unfolding census load_of
  failed_census servers rows = λ i.
      map (λ (s : ℕ × ServerView). record
      { up = s.1.up; leaving = s.1.leaving; count = failed_count s.0 s.1.life rows i })
      (enumerate_from 1 servers)

  block_kept : (of : BlockId) (row : SlotRow) (b : Bool)
      → is_of_block of (change_row (change_state (failed_slot server)) row b) ≡ is_of_block of row
  unfolding is_of_block change_state
  block_kept of row true = refl
  block_kept of row false = refl

  grant_kept : (row : SlotRow) (b : Bool)
      → option_to_list (granted_copy
      (change_row (change_state (failed_slot server)) row b).state.grant) ≡ option_to_list
      (granted_copy row.state.grant)
  unfolding change_state failed_slot
  grant_kept row true = refl
  grant_kept row false = refl

  failed_grants : (of : BlockId) (rows : List SlotRow)
      → grants_of_block of (change_slot block slot (failed_slot server) rows)
      ≡ grants_of_block of rows
  unfolding grants_of_block change_slot
  failed_grants of [] = refl
  failed_grants of (row ∷ rows) =
      let f : SlotRow → List Copy = λ row. option_to_list (granted_copy row.state.grant) in
      let here = is_slot block slot row in
      let changed : SlotRow = change_row (change_state (failed_slot server)) row here in
      let rest : List SlotRow =
      change_where (is_slot block slot) (change_state (failed_slot server)) rows in
      ap (λ b. flat_map f (cond b (changed ∷ filter (is_of_block of) rest)
      (filter (is_of_block of) rest))) (block_kept of row here)
      ∙ elim (is_of_block of row) as (λ b.
      flat_map f (cond b (changed ∷ filter (is_of_block of) rest) (filter (is_of_block of) rest))
      ≡ flat_map f (cond b (row ∷ filter (is_of_block of) rows) (filter (is_of_block of) rows))) [
        | true ↦ λ i. grant_kept row here i ++ failed_grants of rows i
        | false ↦ failed_grants of rows
      ]

-- ---- the record of a slot that changes

none_some : {X : Type 0} (x : X) → None ≡ Some x → ⊥
none_some x e = cc

module _ (block : BlockId) (slot : ℕ) where
  pub key_kept : (change : SlotRecord → SlotRecord) (row : SlotRow) (b : Bool)
      → is_slot block slot (change_row (change_state change) row b) ≡ is_slot block slot row
  unfolding is_slot change_state
  key_kept change row true = refl
  key_kept change row false = refl

  changed_at : (first then : SlotRecord → SlotRecord) (row : SlotRow) (b : Bool) →
      change_row (change_state then) (change_row (change_state first) row b) b
      ≡ change_row (change_state (λ state. then (first state))) row b
  unfolding change_state
  changed_at first then row true = refl
  changed_at first then row false = refl

  -- a slot's record changes, and then again
  change_twice : (first then : SlotRecord → SlotRecord) (slots : List SlotRow) →
      change_slot block slot then (change_slot block slot first slots) ≡ change_slot block slot
      (λ state. then (first state)) slots
  unfolding change_slot
  change_twice first then [] = refl
  change_twice first then (row ∷ rows) =
      let here = is_slot block slot row in
      let once : SlotRow = change_row (change_state first) row here in
      let head : change_row (change_state then) once (is_slot block slot once)
      ≡ change_row (change_state (λ state. then (first state))) row here =
      ap (change_row (change_state then) once) (key_kept first row here)
      ∙ changed_at first then row here in
      λ i. head i ∷ change_twice first then rows i

  known : Option SlotRow → SlotRecord
  known found = unwrap_or (option_map (λ (r : SlotRow). r.state) found) never_granted

  known_changed : (change : SlotRecord → SlotRecord) (slots : List SlotRow) (grant : Grant)
      → (slot_at slots block slot).grant ≡ Some grant →
      slot_at (change_slot block slot change slots) block slot ≡ change (slot_at slots block slot)
  unfolding change_slot slot_at never_granted known change_state
  known_changed change [] grant pending = absurd (none_some grant pending)
  known_changed change (row ∷ rows) grant pending =
      let here = is_slot block slot row in
      let changed : SlotRow = change_row (change_state change) row here in
      let rest : List SlotRow = change_where (is_slot block slot) (change_state change) rows in
      ap (λ b. known (cond b (Some changed) (find (is_slot block slot) rest)))
      (key_kept change row here)
      ∙ (elim here as (λ b. (known (cond b (Some row) (find (is_slot block slot) rows))).grant
      ≡ Some grant →
      known (cond b (Some (change_row (change_state change) row b))
      (find (is_slot block slot) rest))
      ≡ change (known (cond b (Some row) (find (is_slot block slot) rows)))) [
        | true ↦ λ _. refl
        | false ↦ λ pending. known_changed change rows grant pending
      ]) pending

  -- the state without a slot's pending grant
  failed-is : (grant : Grant) (m : MetaImage) → (slot_at m.slots block slot).grant ≡ Some grant
      →
      apply m (FailGrant block slot)
      ≡ record (condemn block slot grant.copy m) {
        slots = change_slot block slot (failed_slot grant.copy.server)
            (change_slot block slot ungranted_slot m.slots);
      }
  unfolding apply fail_grant give_up change_record with_slots
  failed-is grant m pending =
      ap (fail_grant block slot m) pending
      ∙ (λ i. record (condemn block slot grant.copy m) {
        slots = change_slot block slot (failed_slot grant.copy.server)
            (change_slot block slot ungranted_slot (condemn-slots block slot grant.copy m i));
      })

  failed_record : (grant : Grant) (slots : List SlotRow)
      → (slot_at slots block slot).grant ≡ Some grant →
      slot_at (change_slot block slot (failed_slot grant.copy.server)
      (change_slot block slot ungranted_slot slots)) block slot
      ≡ failed_slot grant.copy.server (ungranted_slot (slot_at slots block slot))
  failed_record grant slots pending =
      ap (λ slots. slot_at slots block slot)
      (change_twice ungranted_slot (failed_slot grant.copy.server) slots)
      ∙ known_changed (λ state. failed_slot grant.copy.server (ungranted_slot state)) slots grant
      pending

-- ---- the decision is that of this state

-- the server that is chosen of some servers and slots, where these failed
chosen_of : BlockId → List ServerView → List SlotRow → List ℕ → Option ℕ
chosen_of block servers slots failed =
    choose (census servers slots) (barred_for_put servers slots block failed)

first : (block : BlockId) (slot : ℕ) (m : MetaImage) → (slot_at m.slots block slot).grant ≡ None
    → DecidesAsFreed block slot m
unfolding apply_all failed_grant failed_with without_grant chosen_for_put chosen_of
first block slot m none =
    let state : SlotRecord = slot_at m.slots block slot in
    let still : m ≡ freed block slot m =
    ap (λ pending. apply_all (failed_grant block slot pending) m) (sym none) in
    record {
      chosen = ap (λ pending. chosen_of block m.servers (without_grant block slot m.slots pending)
          (failed_with state.failed pending)) none
          ∙ ap (λ (n : MetaImage). chosen_of block n.servers n.slots
          (slot_at n.slots block slot).failed) still;
      told = λ layout len server. ap (λ n. put_granted layout len block slot n server) still;
    }

again : (block : BlockId) (slot : ℕ) (m : MetaImage) (grant : Grant)
    → (slot_at m.slots block slot).grant ≡ Some grant → DecidesAsFreed block slot m
unfolding apply_all failed_grant failed_with without_grant chosen_for_put barred_for_put put_granted
    new_grant chosen_of failed_slot ungranted_slot
again block slot m grant pending =
    let state : SlotRecord = slot_at m.slots block slot in
    let server : ℕ = grant.copy.server in
    let others : List SlotRow = change_slot block slot ungranted_slot m.slots in
    let slots : List SlotRow = change_slot block slot (failed_slot server) others in
    let after : MetaImage = record (condemn block slot grant.copy m) { slots = slots } in
    let is : freed block slot m ≡ after =
    ap (λ pending. apply_all (failed_grant block slot pending) m) pending
    ∙ failed-is block slot grant m pending in
    let servers = condemn-servers block slot grant.copy m in
    let record_is = failed_record block slot grant m.slots pending in
    record {
      chosen = ap (λ pending. chosen_of block m.servers (without_grant block slot m.slots pending)
          (failed_with state.failed pending)) pending
          ∙ (λ i. choose (sym (failed_census block slot server m.servers others) i)
          (with_live_servers m.servers (sym record_is i).failed
          (sym (failed_grants block slot server block others) i)))
          ∙ (λ i. chosen_of block (sym servers i) slots (slot_at slots block slot).failed)
          ∙ ap (λ (n : MetaImage). chosen_of block n.servers n.slots
          (slot_at n.slots block slot).failed) (sym is);
      told = λ layout len to.
          (λ i. Told.Granted (record {
            block = block;
            slot = slot;
            version = (sym record_is i).next;
            server = to;
            life = (server_at (sym servers i) to).life;
            lease = 0;
            sources = no_sources;
            rows = rows_of layout.s layout.r len block.index;
          }))
          ∙ ap (λ n. put_granted layout len block slot n to) (sym is);
    }

pub decides_as_freed : (block : BlockId) (slot : ℕ) (m : MetaImage) → DecidesAsFreed block slot m
decides_as_freed block slot m =
    elim (slot_at m.slots block slot).grant as (λ pending. (slot_at m.slots block slot).grant
    ≡ pending → DecidesAsFreed block slot m) [
      | None ↦ λ none. first block slot m none
      | Some grant ↦ λ pending. again block slot m grant pending
    ] refl
