-- A put whose nine slots are stored closes its file. For the law of the first path.
use Rattle.std.proofs.Common.{◌≡◌, ℕ, ◌+◌, ◌*◌, ◌<◌, ◌≤◌, ◌&&◌, true, false, List, [], ◌∷◌, ◌++◌}
use Rattle.std.proofs.Common.{length, map, filter, Some, None, refl, sym, ap, subst, ◌∙◌, arith}
use Rattle.std.proofs.lemmas.List.{length-append}
use Rattle.std.specs.Prelude.{is_none}
use Rattle.std.proofs.lemmas.Bool.{eq-eqb}
use Rattle.qfs_base.specs.EachLaws.{each_append, each_filter, each_weaker}
use Rattle.qfs_base.specs.Rules.{rules_of}
use Rattle.qfs_base.specs.Table.{Each}
use Rattle.qfs_base.specs.declared.history.Entry.TheVariants as Wrote
use Rattle.qfs_base.specs.declared.history.Outcome.TheVariants as Ended
use Rattle.qfs_base.specs.declared.image.MetaImage.{MetaImage}
use Rattle.qfs_base.specs.declared.image.SlotRecord.{SlotRecord}
use Rattle.qfs_base.specs.declared.image.SlotRow.{SlotRow}
use Rattle.qfs_base.specs.declared.image.TreeRow.{TreeRow}
use Rattle.qfs_base.specs.declared.reply.MetaReply.TheVariants as Told
use Rattle.qfs_base.specs.declared.request.MetaRequest.TheVariants as Ask
use Rattle.qfs_base.specs.declared.request.SlotId.{SlotId}
use Rattle.qfs_base.specs.declared.script.Script.{Script}
use Rattle.qfs_model_meta.specs.Apply.{write_entry, with_slots, apply, apply_all}
use Rattle.qfs_base.specs.declared.change.Change.TheVariants.{CloseFile}
use Rattle.qfs_model_meta.specs.Decide.{decide, decide_request}
use Rattle.qfs_model_meta.specs.Decision.{Makes, refuse, unless, need}
use Rattle.qfs_base.specs.Mask.{all_slots}
use Rattle.qfs_model_meta.specs.Lists.{block_count}
use Rattle.qfs_model_meta.specs.PutRequests.{decide_close, close_complete, incomplete}
use Rattle.qfs_model_meta.specs.PutRequests.{first_ungranted, block_slots, file_slots, lacks_grant}
use Rattle.qfs_model_meta.specs.Range.{in_range}
use Rattle.qfs_model_meta.specs.Slots.{slot_id, is_of_file, slots_of, granted_copy, sealed_slot}
use Rattle.qfs_model_meta.specs.Slots.{change_state, seal_file}
use Rattle.qfs_model_meta.specs.Step.{next_turn, meta_step}
use Rattle.qfs_model_meta.specs.TreeRows.{file_row, close_row, close_file, has_file, unclosed_file}
use Rattle.qfs_model_meta.specs.TreeRows.{is_unclosed_of}
use Rattle.qfs_model_server.specs.Server.{Server}
use Rattle.qfs_model_slot.specs.Slot.{slot_of}
use Rattle.qfs_model_world.specs.Puts.{puts_of}
use Rattle.qfs_laws_first.proofs.Histories.{written-closed}
use Rattle.qfs_laws_first.proofs.Kept.{file-kept}
use Rattle.qfs_laws_first.proofs.MetaSteps.{AreFew, step-makes}
use Rattle.qfs_laws_first.proofs.Reading.{IsOfOneRow, blocks_of-one}
use Rattle.qfs_laws_first.proofs.States.{first_block, first_copy, granted_once, HasCurrent, IsFile}
use Rattle.qfs_laws_first.proofs.States.{IsRow, Between, Target, target_row, InPut}
use Rattle.qfs_laws_first.proofs.Tables.{slot_at-sealed, slot_at-unsealed}
use Rattle.qfs_laws_tables.specs.EachRow.{each-range, each_both, each_change, each_map, each_passes}
use Rattle.qfs_laws_tables.specs.EachRow.{find_none}
use Rattle.qfs_laws_tables.specs.SomeRow.{found-any}
use Rattle.qfs_laws_slots.specs.RowKeys.{has_file-is}
use Rattle.qfs_laws_tree.specs.History.{IsUnclosedFile}

-- the state once the file is closed
abbrev pub closed_state : MetaImage → ℕ → ℕ → MetaImage
closed_state m file command = next_turn (apply_all (CloseFile file 1 command ∷ []) m)

module _ (script : Script) (servers : List Server) (m : MetaImage) (commands : ℕ) (t : Target)
    (p : InPut script servers m commands t 9 9) where
  lacks-at : (slot : ℕ) → slot < 9
      → lacks_grant m.slots (record { block = first_block t.file; slot = slot }) ≡ false
  unfolding lacks_grant
  lacks-at slot below = ap (λ (r : SlotRecord). is_none r.grant) (p.grants slot below).granted

  all-granted : IsOfOneRow script.layout (length t.bytes)
      → first_ungranted t.file (block_count script.layout (length t.bytes)) m.slots ≡ None
  unfolding first_ungranted file_slots block_slots slots_of
  all-granted short =
      let id : ℕ → SlotId = λ slot. record { block = first_block t.file; slot = slot } in
      let ids : List SlotId = map id all_slots in
      let more : List SlotId = map slot_id (filter (is_of_file t.file) m.slots) in
      let Granted : SlotId → Type 0 = λ id. lacks_grant m.slots id ≡ false in
      let in_block : Each Granted ids =
      each_map (λ slot. Granted (id slot)) Granted id (λ slot has. has) all_slots
      (each-range (λ slot. Granted (id slot)) 0 9
      (λ slot above below. lacks-at slot (omega (arith, below)))) in
      let in_table : Each Granted more =
      each_map (λ (row : SlotRow). (is_of_file t.file row ≡ true)
      × (is_of_file t.file row ≡ true → Granted (slot_id row))) Granted slot_id
      (λ row both. both.1 both.0) (filter (is_of_file t.file) m.slots)
      (each_both _ _ (filter (is_of_file t.file) m.slots)
      (each_passes (is_of_file t.file) m.slots)
      (each_filter _ (is_of_file t.file) m.slots p.all_granted)) in
      rw (blocks_of-one script.layout (length t.bytes) short)
      (find_none (lacks_grant m.slots) ((ids ++ []) ++ more)
      (each_append Granted (ids ++ []) more (each_append Granted ids [] in_block tt) in_table))

  close-decided : IsOfOneRow script.layout (length t.bytes)
      → decide (rules_of script) 1 m (Ask.Close t.file)
      ≡ Makes (CloseFile t.file 1 (commands + 1) ∷ []) (Told.Done (length m.history))
  unfolding rules_of decide in_range unless decide_request decide_close need close_complete refuse
      incomplete file_row
  close-decided short =
      ap (need Told.Gone (close_complete script.layout 1 t.file m)) p.target.unclosed
      ∙ ap (λ found. refuse (incomplete found)
      (Makes (CloseFile t.file 1 (commands + 1) ∷ []) (Told.Done (length m.history))))
      (all-granted short)

  close-few : AreFew (2 * (commands + 1) + 1) (apply_all (CloseFile t.file 1 (commands + 1) ∷ []) m)
  unfolding apply_all apply write_entry with_slots
  close-few =
      let few = p.steady.few in
      let long = length-append m.history (Wrote.Closed t.file 1 (commands + 1) ∷ []) in
      record {
        files = omega (arith, few.files);
        leases = omega (arith, few.leases);
        condemned =
            omega (arith, few.condemned);
        entries = omega (arith, few.entries, long);
      }

  pub close-served : IsOfOneRow script.layout (length t.bytes) → commands ≤ 4096
      → meta_step (rules_of script) 1 (Ask.Close t.file) Ended.Done m
      ≡ record { meta = closed_state m t.file (commands + 1); reply = Told.Done (length m.history) }
  close-served short few =
      step-makes (rules_of script) m (Ask.Close t.file) p.steady.none_dropped
      (CloseFile t.file 1 (commands + 1) ∷ []) (Told.Done (length m.history))
      (2 * (commands + 1) + 1) (close-decided short) close-few (omega (arith, few))

  -- ---- the files then

  sealed-current : (server : ℕ)
      → (sealed_slot (granted_once server)).current ≡ Some (first_copy server)
  unfolding sealed_slot granted_copy
  sealed-current server = refl

  has-current : (slot : ℕ) → slot < 9
      → HasCurrent script.servers servers (seal_file t.file m.slots) t.file slot
      (slot_of script.layout t.bytes 0 slot)
  has-current slot below =
      let g = p.grants slot below in
      record {
        server = g.server;
        first = g.first;
        last = g.last;
        current = ap (λ (r : SlotRecord). r.current)
            (slot_at-sealed t.file (first_block t.file) slot m.slots refl
            ∙ ap sealed_slot g.granted) ∙ sealed-current g.server;
        stored = g.stored below;
      }

  is-file : (bytes : List ℕ) → bytes ≡ t.bytes
      → IsFile script.layout script.servers servers (seal_file t.file m.slots) t.file
      (length t.bytes) bytes
  is-file bytes same =
      subst (IsFile script.layout script.servers servers (seal_file t.file m.slots) t.file
      (length t.bytes)) (sym same)
      (record {
        length_is = refl;
        some = p.target.some;
        most = p.target.most;
        copies =
            has-current;
      })

  row-closed : (row : TreeRow) → has_file t.file row ≡ true
      → (IsRow script servers m.slots m.next_file row)
      × (has_file t.file row ≡ true → row ≡ target_row commands t)
      → IsRow script servers (seal_file t.file m.slots) m.next_file (close_row row)
  unfolding has_file close_row file_row
  row-closed row is both =
      let same : row ≡ target_row commands t = both.1 is in
      record {
        above = both.0.above;
        below = both.0.below;
        whole = λ closed. subst
            (λ (row : TreeRow). IsFile script.layout script.servers servers
            (seal_file t.file m.slots) row.file row.len (puts_of script row.actor row.command))
            (sym same)
            (is-file (puts_of script 1 (commands + 1)) p.target.bytes_are);
      }

  row-other : (row : TreeRow) → has_file t.file row ≡ false
      → (IsRow script servers m.slots m.next_file row)
      × (has_file t.file row ≡ true → row ≡ target_row commands t)
      → IsRow script servers (seal_file t.file m.slots) m.next_file row
  unfolding has_file
  row-other row is both = record {
    above = both.0.above;
    below = both.0.below;
    whole = λ closed. file-kept script.layout script.servers servers servers m.slots
        (seal_file t.file m.slots) row.file row.len _
        (λ slot within. slot_at-unsealed t.file (first_block row.file) slot m.slots
        (sym (has_file-is t.file row) ∙ is)) (λ server slot. refl) (both.0.whole closed);
  }

  -- the row of the file is that of the put, and unclosed
  own-row : Each (λ (row : TreeRow). row.file ≡ t.file → row ≡ target_row commands t) m.tree
  own-row =
      each_weaker (λ (row : TreeRow). has_file t.file row ≡ true → row ≡ target_row commands t) _
      (λ row own same. own (has_file-is t.file row ∙ eq-eqb row.file t.file same)) m.tree
      p.target.own

  is-unclosed : IsUnclosedFile t.file m.tree
  unfolding unclosed_file file_row
  is-unclosed = record {
    some = omega (arith, p.target.above);
    unclosed = each_weaker _ _ (λ row own same. ap (λ (r : TreeRow). r.closed) (own same)) m.tree
        own-row;
    there = found-any (λ (row : TreeRow). is_unclosed_of 1 row && has_file t.file row)
        (has_file t.file) m.tree (target_row commands t) p.target.unclosed (has-own t.file refl);
  }
    where
      has-own : (file : ℕ) → file ≡ t.file → has_file file (target_row commands t) ≡ true
      has-own file same = has_file-is file (target_row commands t) ∙ eq-eqb t.file file (sym same)

  own-put : Each (λ (row : TreeRow). row.file ≡ t.file → (row.actor ≡ 1)
      × (row.command ≡ commands + 1)) m.tree
  unfolding file_row
  own-put =
      each_weaker _ _ (λ row own same. (
        ap (λ (r : TreeRow). r.actor) (own same),
        ap (λ (r : TreeRow). r.command) (own same),
      )) m.tree own-row

  sealed-key : (row : SlotRow) → row.block.file < m.next_file
      → (change_state sealed_slot row).block.file < m.next_file
  unfolding change_state
  sealed-key row below = below

  -- the world is between two commands
  pub put-closed : Between script servers (closed_state m t.file (commands + 1)) (commands + 1)
  unfolding next_turn apply_all apply write_entry with_slots close_file seal_file
  put-closed =
      record {
        as_first = p.steady.as_first;
        none_dropped = p.steady.none_dropped;
        up = p.steady.up;
        few = close-few;
        written = written-closed script m commands t.file t.path p.steady.written is-unclosed
            own-put
            p.target.created p.target.path_is;
        rows = each_change (λ row. (IsRow script servers m.slots m.next_file row)
            × (has_file t.file row ≡ true → row ≡ target_row commands t))
            (IsRow script servers (seal_file t.file m.slots) m.next_file)
            (has_file t.file) close_row row-closed row-other m.tree
            (each_both (IsRow script servers m.slots m.next_file)
            (λ (row : TreeRow). has_file t.file row ≡ true → row ≡ target_row commands t) m.tree
            p.steady.rows p.target.own);
        slots_below = each_change (λ (row : SlotRow). row.block.file < m.next_file)
            (λ (row : SlotRow). row.block.file < m.next_file) (is_of_file t.file)
            (change_state sealed_slot) (λ row is below. sealed-key row below)
            (λ row is below. below) m.slots p.steady.slots_below;
        none_to_come = p.steady.none_to_come;
      }
