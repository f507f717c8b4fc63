-- A put stores a slot on the server of its grant. For the law of the first path.
use Rattle.std.proofs.Common.{◌≡◌, ℕ, ◌+◌, ◌<◌, ◌≤◌, true, List, None, refl, ap, subst, ◌∙◌, arith}
use Rattle.std.proofs.Common.{inl, inr}
use Rattle.std.proofs.lemmas.Bool.{cases_lt}
use Rattle.qfs_base.specs.declared.chunk.ChunkKey.{ChunkKey}
use Rattle.qfs_base.specs.declared.image.MetaImage.{MetaImage}
use Rattle.qfs_base.specs.declared.image.TreeRow.{TreeRow}
use Rattle.qfs_base.specs.declared.script.Script.{Script}
use Rattle.qfs_base.specs.Key.{key_cmp}
use Rattle.qfs_base.specs.KeyMap.{value_at}
use Rattle.qfs_model_meta.specs.Slots.{slot_at}
use Rattle.qfs_model_meta.specs.TreeRows.{has_file}
use Rattle.qfs_model_server.specs.Server.{Server}
use Rattle.qfs_model_slot.specs.Slot.{slot_of}
use Rattle.qfs_model_world.specs.World.{renumbered}
use Rattle.qfs_laws_first.proofs.Kept.{closed-elsewhere, file-kept, each_with}
use Rattle.qfs_laws_first.proofs.Servers.{IsUp, with_copy, stored_at, stored-here, stored-own}
use Rattle.qfs_laws_first.proofs.Servers.{stored-other, are_up-changed}
use Rattle.qfs_laws_first.proofs.States.{first_block, first_key, granted_once, IsGranted, IsRow}
use Rattle.qfs_laws_first.proofs.States.{Target, target_row, InPut}

-- keys of different files, or of different slots
apart_files : (key : ChunkKey) (file slot : ℕ) → (key.block.file ≡ file → ⊥)
    → key ≡ first_key file slot → ⊥
apart_files key file slot differ same = differ (ap (λ (k : ChunkKey). k.block.file) same)

apart_slots : (file slot number : ℕ) → (number ≡ slot → ⊥)
    → first_key file number ≡ first_key file slot → ⊥
apart_slots file slot number differ same = differ (ap (λ (k : ChunkKey). k.slot) same)

module _ (script : Script) (servers : List Server) (m : MetaImage) (commands : ℕ) (t : Target)
    (slot : ℕ)
    (p : InPut script servers m commands t (slot + 1) slot) (server : ℕ) (first : 1 ≤ server)
    (last : server ≤ script.servers)
    (granted : slot_at m.slots (first_block t.file) slot ≡ granted_once server)
    (u : IsUp servers server) where
  abbrev bytes_here : List ℕ
  bytes_here = slot_of script.layout t.bytes 0 slot

  abbrev new_servers : List Server
  new_servers = renumbered servers server (with_copy u.server (first_key t.file slot) bytes_here)

  -- the server has no such copy yet
  pub none-stored : value_at key_cmp u.server.copies (first_key t.file slot) ≡ None
  none-stored = stored-here servers server u.server (first_key t.file slot) None u.there
      (p.unstored server slot (omega arith))

  stays : (other : ℕ) (key : ChunkKey) → (key ≡ first_key t.file slot → ⊥)
      → stored_at new_servers other key ≡ stored_at servers other key
  stays other key differ =
      stored-other servers server other u.server (first_key t.file slot) key bytes_here u.there
      differ

  row-kept : (row : TreeRow) → IsRow script servers m.slots m.next_file row
      → (has_file t.file row ≡ true → row ≡ target_row commands t)
      → IsRow script new_servers m.slots m.next_file row
  row-kept row is own = record {
    above = is.above;
    below = is.below;
    whole = λ closed. file-kept script.layout script.servers servers new_servers m.slots m.slots
        row.file row.len _ (λ number within. refl)
        (λ other number. stays other (first_key row.file number)
        (apart_files (first_key row.file number) t.file slot
        (closed-elsewhere commands t row own closed))) (is.whole closed);
  }

  grant-one : (number : ℕ) → number < slot + 1
      → IsGranted script.servers new_servers m.slots t.file number
      (slot_of script.layout t.bytes 0 number) (number < slot + 1)
  grant-one number within =
      elim (cases_lt number slot) [
        | inl less ↦
            let old = p.grants number (omega (arith, less)) in
            record {
              server = old.server;
              first = old.first;
              last = old.last;
              granted = old.granted;
              stored = λ more. stays old.server (first_key t.file number)
                  (apart_slots t.file slot number (λ same. omega (arith, same, less)))
                  ∙ old.stored less;
            }
        | inr more ↦
            let here : slot ≡ number = omega arith in
            subst (λ number. IsGranted script.servers new_servers m.slots t.file number
            (slot_of script.layout t.bytes 0 number) (number < slot + 1)) here
            (record {
              server = server;
              first = first;
              last = last;
              granted = granted;
              stored = λ more. stored-own servers server u.server (first_key t.file slot) bytes_here
                  u.there;
            })
      ]

  -- the slot is stored
  pub put-stored : InPut script new_servers m commands t (slot + 1) (slot + 1)
  put-stored = record {
    steady = record {
      as_first = p.steady.as_first;
      none_dropped = p.steady.none_dropped;
      up = are_up-changed servers server u (with_copy u.server (first_key t.file slot) bytes_here)
          u.up u.life u.form script.servers p.steady.up;
      few = p.steady.few;
      written = p.steady.written;
      rows = each_with (IsRow script servers m.slots m.next_file) _
          (IsRow script new_servers m.slots m.next_file) m.tree row-kept p.steady.rows p.target.own;
      slots_below = p.steady.slots_below;
      none_to_come = λ other key above.
          stays other key (apart_files key t.file slot
          (λ same. omega (arith, same, above, p.target.next)))
          ∙ p.steady.none_to_come other key above;
    };
    target = p.target;
    grants = grant-one;
    ungranted = p.ungranted;
    all_granted = p.all_granted;
    few_grants = p.few_grants;
    unstored = λ other number above. stays other (first_key t.file number)
        (apart_slots t.file slot number (λ same. omega (arith, same, above)))
        ∙ p.unstored other number (omega (arith, above));
  }
