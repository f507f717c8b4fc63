-- A put is granted a server for a slot. For the law of the first path.
use Rattle.std.proofs.Common.{◌≡◌, ℕ, ◌+◌, ◌*◌, ◌<◌, ◌≤◌, nat_lt, Bool, true, false, List, [], ◌∷◌}
use Rattle.std.proofs.Common.{length, Some, None, refl, sym, ap, subst, ◌∙◌, arith, inl, inr}
use Rattle.std.proofs.lemmas.Bool.{cases_lt}
use Rattle.std.proofs.lemmas.Bool.Decides.{nat_tests}
use Rattle.std.specs.Prelude.{is_none}
use Rattle.qfs_base.specs.Layout.{rows_of}
use Rattle.qfs_base.specs.Rules.{rules_of}
use Rattle.qfs_base.specs.Shape.{Shape}
use Rattle.qfs_base.specs.Sizes.{SLOTS}
use Rattle.qfs_base.specs.declared.chunk.BlockId.{BlockId}
use Rattle.qfs_base.specs.declared.history.Outcome.TheVariants as Ended
use Rattle.qfs_base.specs.declared.image.MetaImage.{MetaImage}
use Rattle.qfs_base.specs.declared.image.ServerView.{ServerView}
use Rattle.qfs_base.specs.declared.image.SlotRecord.{SlotRecord}
use Rattle.qfs_base.specs.declared.image.SlotRow.{SlotRow}
use Rattle.qfs_base.specs.declared.image.TreeRow.{TreeRow}
use Rattle.qfs_base.specs.declared.reply.Granted.{Granted}
use Rattle.qfs_base.specs.declared.reply.MetaReply.TheVariants as Told
use Rattle.qfs_base.specs.declared.request.MetaRequest.TheVariants as Ask
use Rattle.qfs_base.specs.declared.script.Script.{Script}
use Rattle.qfs_model_meta.specs.Apply.{with_slots, grant_slot, apply, apply_all}
use Rattle.qfs_base.specs.declared.change.Change.TheVariants.{GrantSlot}
use Rattle.qfs_model_meta.specs.Decide.{decide, decide_request}
use Rattle.qfs_model_meta.specs.Decision.{Makes, refuse, unless, need}
use Rattle.qfs_model_meta.specs.Lists.{no_sources, block_count, new_grant}
use Rattle.qfs_model_meta.specs.Placing.{census, choose, barred_for_put, with_live_servers}
use Rattle.qfs_model_meta.specs.PutRequests.{taken_refusal, failed_grant, failed_with}
use Rattle.qfs_model_meta.specs.PutRequests.{chosen_for_put, put_granted, grant_for_put, grant_in}
use Rattle.qfs_model_meta.specs.PutRequests.{decide_grant, lacks_grant}
use Rattle.qfs_model_meta.specs.Range.{in_range, is_slot_number}
use Rattle.qfs_model_meta.specs.Servers.{server_at}
use Rattle.qfs_model_meta.specs.Slots.{slot_id, never_granted, is_slot, is_of_file, slot_at}
use Rattle.qfs_model_meta.specs.Slots.{grants_of_block, granted_slot, with_slot, without_grant}
use Rattle.qfs_model_meta.specs.Step.{first_server, next_turn, meta_step}
use Rattle.qfs_model_meta.specs.TreeRows.{file_row, has_file}
use Rattle.qfs_model_server.specs.Server.{Server}
use Rattle.qfs_model_slot.specs.Slot.{slot_of}
use Rattle.qfs_laws_first.proofs.Chosen.{IsChosen, choose-first, barred-few}
use Rattle.qfs_laws_first.proofs.Kept.{closed-elsewhere, file-kept, each_with, view-first}
use Rattle.qfs_laws_first.proofs.MetaSteps.{AreFew, step-makes}
use Rattle.qfs_laws_first.proofs.Reading.{IsOfOneRow, blocks_of-one}
use Rattle.qfs_laws_first.proofs.States.{first_block, granted_once, IsGranted, IsRow, Target}
use Rattle.qfs_laws_first.proofs.States.{target_row, InPut}
use Rattle.qfs_laws_first.proofs.Tables.{each_with_slot, grants-more, is_slot-other}
use Rattle.qfs_base.specs.EachLaws.{each_weaker}
use Rattle.qfs_laws_slots.specs.Slots.{is_slot-is, placed-other, placed-same}

-- the grant of a slot on a server
abbrev pub grant_on : Shape → ℕ → ℕ → ℕ → ℕ → Granted
grant_on layout len file slot server = record {
  block = first_block file;
  slot = slot;
  version = 1;
  server = server;
  life = 1;
  lease = 0;
  sources = no_sources;
  rows = rows_of layout.s layout.r len 0;
}

-- the state once a slot is granted on a server
abbrev pub granted_state : MetaImage → ℕ → ℕ → ℕ → MetaImage
granted_state m file slot server =
    next_turn (apply_all (GrantSlot (first_block file) slot server 1 0 ∷ []) m)

module _ (script : Script) (servers : List Server) (m : MetaImage) (commands : ℕ) (t : Target)
    (slot : ℕ)
    (p : InPut script servers m commands t slot slot) (below : slot < 9) where
  never : slot_at m.slots (first_block t.file) slot ≡ never_granted
  never = p.ungranted slot (omega arith)

  -- some server is granted
  pub grant-chosen : 9 ≤ script.servers
      → IsChosen script.servers
      (chosen_for_put (first_block t.file) slot m.servers m.slots never_granted)
  unfolding chosen_for_put barred_for_put never_granted without_grant failed_with
  grant-chosen enough =
      let barred : List ℕ =
      with_live_servers m.servers [] (grants_of_block (first_block t.file) m.slots) in
      let few : length barred < script.servers =
      omega (
        arith,
        barred-few m.servers [] (grants_of_block (first_block t.file) m.slots),
        p.few_grants,
        enough,
      ) in
      subst (λ views. IsChosen script.servers (choose (census views m.slots) barred))
      (sym p.steady.as_first)
      (choose-first m.slots script.servers barred few)

  known-life : (server : ℕ) → 1 ≤ server → server ≤ script.servers
      → (server_at m.servers server).life ≡ 1
  unfolding first_server
  known-life server first last =
      ap (λ views. (server_at views server).life) p.steady.as_first
      ∙ ap (λ (v : ServerView). v.life) (view-first script.servers server first last)

  granted-record : (server : ℕ) → 1 ≤ server → server ≤ script.servers
      → granted_slot server (server_at m.servers server).life 1 0
      (slot_at m.slots (first_block t.file) slot) ≡ granted_once server
  unfolding granted_slot never_granted
  granted-record server first last = rw (known-life server first last, never) refl

  -- what is told of the grant
  told : (server : ℕ) → 1 ≤ server → server ≤ script.servers
      → new_grant script.layout (length t.bytes) (first_block t.file) slot server 0 no_sources m
      ≡ grant_on script.layout (length t.bytes) t.file slot server
  unfolding new_grant never_granted
  told server first last = rw (known-life server first last, never) refl

  grant-decided : (server : ℕ) → IsOfOneRow script.layout (length t.bytes) → 1 ≤ server
      → server ≤ script.servers
      → chosen_for_put (first_block t.file) slot m.servers m.slots never_granted ≡ Some server
      → decide (rules_of script) 1 m (Ask.Grant t.file 0 slot false)
      ≡ Makes (GrantSlot (first_block t.file) slot server 1 0 ∷ [])
      (Told.Granted (grant_on script.layout (length t.bytes) t.file slot server))
  unfolding rules_of decide in_range is_slot_number unless decide_request decide_grant need grant_in
      refuse taken_refusal failed_grant grant_for_put put_granted never_granted file_row
  grant-decided server short first last chosen =
      let layout : Shape = script.layout in
      let len : ℕ = length t.bytes in
      let block : BlockId = first_block t.file in
      let in_order : nat_lt slot SLOTS ≡ true = grind (arith, nat_tests) in
      let some : nat_lt 0 (block_count layout len) ≡ true =
      ap (nat_lt 0) (blocks_of-one layout len short) in
      ap (λ b. unless b Told.Nothing
      (decide_request (rules_of script) 1 m (Ask.Grant t.file 0 slot false))) in_order
      ∙ ap (need Told.Gone (grant_in layout 1 block slot false m (slot_at m.slots block slot)))
      p.target.unclosed
      ∙ ap (λ state. grant_in layout 1 block slot false m state (target_row commands t)) never
      ∙ ap (λ b. unless b Told.NoBlock
      (need (Told.NoServer block slot) (grant_for_put layout 1 len block slot m None)
      (chosen_for_put block slot m.servers m.slots never_granted))) some
      ∙ ap (need (Told.NoServer block slot) (grant_for_put layout 1 len block slot m None)) chosen
      ∙ ap (λ g. Makes (GrantSlot block slot server 1 0 ∷ []) (Told.Granted g))
      (told server first last)

  grant-few : (server : ℕ)
      → AreFew (2 * commands + 2)
      (apply_all (GrantSlot (first_block t.file) slot server 1 0 ∷ []) m)
  unfolding apply_all apply grant_slot with_slots
  grant-few server = p.steady.few

  pub grant-served : (server : ℕ) → IsOfOneRow script.layout (length t.bytes) → commands ≤ 4096
      → 1 ≤ server → server ≤ script.servers
      → chosen_for_put (first_block t.file) slot m.servers m.slots never_granted ≡ Some server
      → meta_step (rules_of script) 1 (Ask.Grant t.file 0 slot false) Ended.Done m
      ≡ record {
        meta = granted_state m t.file slot server;
        reply =
            Told.Granted (grant_on script.layout (length t.bytes) t.file slot server);
      }
  grant-served server short few first last chosen =
      step-makes (rules_of script) m (Ask.Grant t.file 0 slot false) p.steady.none_dropped
      (GrantSlot (first_block t.file) slot server 1 0 ∷ [])
      (Told.Granted (grant_on script.layout (length t.bytes) t.file slot server)) (2 * commands + 2)
      (grant-decided server short first last chosen) (grant-few server) (omega (arith, few))

  -- ---- the slots then

  -- the slots once it is granted
  abbrev pub new_slots : ℕ → List SlotRow
  new_slots server = with_slot (first_block t.file) slot
      (granted_slot server (server_at m.servers server).life 1 0
      (slot_at m.slots (first_block t.file) slot)) m.slots

  stays-other : (server file number : ℕ) → (t.file ≡ file → slot ≡ number → ⊥)
      → slot_at (new_slots server) (first_block file) number ≡ slot_at m.slots
      (first_block file) number
  stays-other server file number differ =
      placed-other (first_block t.file) (first_block file) slot number _ m.slots
      (is_slot-other (first_block t.file) (first_block file) slot number _ differ)

  pub granted-now : (server : ℕ) → 1 ≤ server → server ≤ script.servers
      → slot_at (new_slots server) (first_block t.file) slot ≡ granted_once server
  granted-now server first last = placed-same (first_block t.file) slot _ m.slots
      ∙ granted-record server first last

  row-kept : (server : ℕ) (row : TreeRow) → IsRow script servers m.slots m.next_file row
      → (has_file t.file row ≡ true → row ≡ target_row commands t)
      → IsRow script servers (new_slots server) m.next_file row
  row-kept server row is own = record {
    above = is.above;
    below = is.below;
    whole = λ closed. file-kept script.layout script.servers servers servers m.slots
        (new_slots server) row.file row.len _
        (λ number within. stays-other server row.file number
        (λ same one. closed-elsewhere commands t row own closed (sym same))) (λ server number. refl)
        (is.whole closed);
  }

  grant-one : (server number : ℕ) → 1 ≤ server → server ≤ script.servers → number < slot + 1
      → IsGranted script.servers servers (new_slots server) t.file number
      (slot_of script.layout t.bytes 0 number) (number < slot)
  grant-one server number first last within =
      elim (cases_lt number slot) [
        | inl less ↦
            let old = p.grants number less in
            record {
              server = old.server;
              first = old.first;
              last = old.last;
              granted = stays-other server t.file number (λ same one. omega (arith, one, less))
                  ∙ old.granted;
              stored = old.stored;
            }
        | inr more ↦
            let here : slot ≡ number = omega arith in
            record {
              server = server;
              first = first;
              last = last;
              granted = subst (λ number. slot_at (new_slots server) (first_block t.file) number
                  ≡ granted_once server) here (granted-now server first last);
              stored = λ less. absurd (omega (arith, less, here));
            }
      ]

  lacks-none : (server : ℕ) → 1 ≤ server → server ≤ script.servers → (row : SlotRow)
      → (is_of_file t.file row ≡ true → lacks_grant m.slots (slot_id row) ≡ false)
      → is_of_file t.file row ≡ true → lacks_grant (new_slots server) (slot_id row) ≡ false
  unfolding lacks_grant slot_id is_slot
  lacks-none server first last row old own =
      at (is_slot row.block row.slot
      (record { block = first_block t.file; slot = slot; state = granted_once server })) refl
    where
      at : (b : Bool) → is_slot row.block row.slot
          (record { block = first_block t.file; slot = slot; state = granted_once server }) ≡ b
          → is_none (slot_at (new_slots server) row.block row.slot).grant ≡ false
      at true is =
          let same = is_slot-is row.block row.slot
          (record { block = first_block t.file; slot = slot; state = granted_once server })
          is in
          let found : slot_at (new_slots server) row.block row.slot ≡ granted_once server =
          rw (← same.0, ← same.1) (granted-now server first last) in
          ap (λ (r : SlotRecord). is_none r.grant) found
      at false is =
          ap (λ (r : SlotRecord). is_none r.grant)
          (placed-other (first_block t.file) row.block slot row.slot _ m.slots is) ∙ old own

  new-has : (server : ℕ) → 1 ≤ server → server ≤ script.servers
      → lacks_grant (new_slots server) (record { block = first_block t.file; slot = slot }) ≡ false
  unfolding lacks_grant
  new-has server first last =
      ap (λ (r : SlotRecord). is_none r.grant) (granted-now server first last)

  -- the put has one slot more
  pub put-granted : (server : ℕ) → 1 ≤ server → server ≤ script.servers
      → InPut script servers (granted_state m t.file slot server) commands t (slot + 1) slot
  unfolding next_turn apply_all apply grant_slot with_slots slot_id
  put-granted server first last = record {
    steady = record {
      as_first = p.steady.as_first;
      none_dropped = p.steady.none_dropped;
      up = p.steady.up;
      few = p.steady.few;
      written = p.steady.written;
      rows = each_with (IsRow script servers m.slots m.next_file) _
          (IsRow script servers (new_slots server) m.next_file) m.tree
          (row-kept server) p.steady.rows p.target.own;
      slots_below = each_with_slot (λ (row : SlotRow). row.block.file < m.next_file)
          (first_block t.file) slot _ m.slots (omega (arith, p.target.next)) p.steady.slots_below;
      none_to_come = p.steady.none_to_come;
    };
    target = p.target;
    grants = λ number within. grant-one server number first last within;
    ungranted = λ number above. stays-other server t.file number
        (λ same one. omega (arith, one, above)) ∙ p.ungranted number (omega (arith, above));
    all_granted = each_with_slot (λ (row : SlotRow). is_of_file t.file row ≡ true
        → lacks_grant (new_slots server) (slot_id row) ≡ false) (first_block t.file) slot _ m.slots
        (λ own. new-has server first last)
        (each_weaker _ _ (lacks-none server first last) m.slots p.all_granted);
    few_grants = omega (
      arith,
      grants-more (first_block t.file) (first_block t.file) slot
          (granted_slot server (server_at m.servers server).life 1 0
          (slot_at m.slots (first_block t.file) slot)) m.slots,
      p.few_grants,
    );
    unstored = p.unstored;
  }
