-- A put creates its file. For the law of the first path.
use Rattle.std.proofs.Common.{◌≡◌, ℕ, zero, suc, ◌+◌, ◌*◌, ◌<◌, ◌≤◌, nat_le, ◌&&◌, true, false}
use Rattle.std.proofs.Common.{List, [], ◌∷◌, length, Some, None, refl, ap, ◌∙◌, arith}
use Rattle.std.proofs.lemmas.Bool.Decides.{nat_tests}
use Rattle.std.proofs.lemmas.List.{length-append}
use Rattle.std.specs.Cmp.{Equal-is}
use Rattle.std.proofs.lemmas.Bool.{and_right, false_from_ne_true}
use Rattle.qfs_base.specs.NameTree.{PathNames, row_cmp, added, add_refusal}
use Rattle.qfs_base.specs.KeyLaws.{block_cmp-Equal}
use Rattle.qfs_base.specs.Sizes.{MOST_FILE_BYTES}
use Rattle.qfs_base.specs.declared.chunk.BlockId.{BlockId}
use Rattle.qfs_base.specs.declared.history.Entry.TheVariants as Wrote
use Rattle.qfs_base.specs.declared.history.Outcome.TheVariants as Ended
use Rattle.qfs_base.specs.declared.image.MetaImage.{MetaImage}
use Rattle.qfs_base.specs.declared.image.SlotRow.{SlotRow}
use Rattle.qfs_base.specs.declared.image.TreeRow.{TreeRow}
use Rattle.qfs_base.specs.declared.reply.MetaReply.TheVariants as Told
use Rattle.qfs_base.specs.declared.reply.TreeRefusal.{TreeRefusal}
use Rattle.qfs_base.specs.declared.request.MetaRequest.TheVariants as Ask
use Rattle.qfs_base.specs.declared.rules.Rules.{Rules}
use Rattle.qfs_base.specs.declared.script.Script.{Script}
use Rattle.qfs_model_meta.specs.Apply.{write_entry, add_file, apply, apply_all}
use Rattle.qfs_base.specs.declared.change.Change.TheVariants.{AddFile}
use Rattle.qfs_model_meta.specs.Decide.{decide, decide_request}
use Rattle.qfs_model_meta.specs.Decision.{unless}
use Rattle.qfs_model_meta.specs.PutRequests.{decide_create, lacks_grant}
use Rattle.qfs_model_meta.specs.Range.{in_range}
use Rattle.qfs_model_meta.specs.Slots.{is_of_block, is_of_file, is_slot, slot_id}
use Rattle.qfs_model_meta.specs.Step.{next_turn, meta_step}
use Rattle.qfs_model_meta.specs.TreeRows.{standing, kind_of, file_row, row_path, add_row}
use Rattle.qfs_model_meta.specs.TreeRows.{unclosed_file, is_unclosed, is_unclosed_row}
use Rattle.qfs_model_meta.specs.TreeRows.{is_unclosed_of, has_file}
use Rattle.qfs_model_server.specs.Server.{Server}
use Rattle.qfs_model_world.specs.Puts.{put_path, puts_of}
use Rattle.qfs_laws_first.proofs.Histories.{written-created, created-now}
use Rattle.qfs_laws_first.proofs.MetaSteps.{refused-file, accepted-file, AreFew, step-makes}
use Rattle.qfs_laws_first.proofs.MetaSteps.{step-tells}
use Rattle.qfs_laws_first.proofs.States.{first_block, IsRow, Between, InPut}
use Rattle.qfs_laws_first.proofs.Tables.{grants-none}
use Rattle.qfs_laws_first.proofs.Tests.{own-key, same-key, apart-key}
use Rattle.qfs_base.specs.EachLaws.{each_weaker}
use Rattle.qfs_laws_slots.specs.Slots.{is_slot-is, slot_at-none}
use Rattle.qfs_laws_tables.specs.EachRow.{each_place}
use Rattle.qfs_laws_tables.specs.Placed.{find-placed}

-- the state once the file is there
abbrev pub created_state : MetaImage → PathNames → ℕ → ℕ → MetaImage
created_state m path command len = next_turn (apply_all (AddFile path 1 command len ∷ []) m)

module _ (rules : Rules) (m : MetaImage) (path : PathNames) (command len : ℕ)
    (none : m.dropped ≡ []) (most : len ≤ 32) where
  create-decided : decide rules 1 m (Ask.Create path command len) ≡ decide_create 1 path command len
      m
  unfolding decide in_range unless decide_request
  create-decided =
      let small : nat_le len MOST_FILE_BYTES ≡ true = grind (arith, nat_tests) in
      ap (λ b. unless b Told.Nothing (decide_create 1 path command len m)) small

  pub create-refused : (why : TreeRefusal) → add_refusal (standing m.tree) path ≡ Some why
      → meta_step rules 1 (Ask.Create path command len) Ended.Done m
      ≡ record { meta = m; reply = Told.Refused why (length m.history) }
  unfolding decide_create
  create-refused why refused =
      step-tells rules m (Ask.Create path command len) none (Told.Refused why (length m.history))
      (create-decided ∙ refused-file (length m.history) _ why _ refused)

  pub create-made : (bound : ℕ) → add_refusal (standing m.tree) path ≡ None
      → AreFew bound (apply_all (AddFile path 1 command len ∷ []) m) → bound ≤ 100000
      → meta_step rules 1 (Ask.Create path command len) Ended.Done m
      ≡ record {
        meta = created_state m path command len;
        reply =
            Told.Created m.next_file (length m.history);
      }
  unfolding decide_create
  create-made bound free few small =
      step-makes rules m (Ask.Create path command len) none (AddFile path 1 command len ∷ [])
      (Told.Created m.next_file (length m.history)) bound
      (create-decided ∙ accepted-file (length m.history) _ _ free) few small

module _ (script : Script) (servers : List Server) (m : MetaImage) (commands : ℕ) (path : PathNames)
    (bytes : List ℕ) (b : Between script servers m commands) where
  pub create-few : AreFew (2 * commands + 2)
      (apply_all (AddFile path 1 (commands + 1) (length bytes) ∷ []) m)
  unfolding apply_all apply add_file write_entry
  create-few =
      let long = length-append m.history (Wrote.Created m.next_file path ∷ []) in
      record {
        files = omega (arith, b.few.files);
        leases = omega (arith, b.few.leases);
        condemned =
            omega (arith, b.few.condemned);
        entries = omega (arith, b.few.entries, long);
      }

  -- no slot of the new file has a row
  not-slot : (slot : ℕ) (row : SlotRow) → row.block.file < m.next_file
      → is_slot (first_block m.next_file) slot row ≡ false
  not-slot slot row below =
      false_from_ne_true _
      (λ is. omega (
        arith,
        below,
        ap (λ (k : BlockId). k.file) (is_slot-is (first_block m.next_file) slot row is).0,
      ))

  not-block : (row : SlotRow) → row.block.file < m.next_file
      → is_of_block (first_block m.next_file) row ≡ false
  unfolding is_of_block
  not-block row below =
      false_from_ne_true _
      (λ is. omega (
        arith,
        below,
        ap (λ (k : BlockId). k.file)
            (block_cmp-Equal (first_block m.next_file) row.block ((Equal-is _).0 is)),
      ))

  not-unclosed : (row : TreeRow) → row.file < m.next_file
      → (is_unclosed_of 1 row && has_file m.next_file row) ≡ false
  unfolding has_file
  not-unclosed row below =
      let other = apart-key m.next_file row.file (λ same. omega (arith, same, below)) in
      and_right (is_unclosed_of 1 row) _ other

  own-unclosed : (file : ℕ) → 1 ≤ file
      → (is_unclosed_of 1 (file_row path file 1 (commands + 1) (length bytes)) && has_file file
      (file_row path file 1 (commands + 1) (length bytes))) ≡ true
  unfolding file_row has_file is_unclosed_of is_unclosed_row is_unclosed kind_of
  own-unclosed zero above = absurd (omega arith)
  own-unclosed (suc k) above = own-key (suc k)

  -- the put has its file, and no slot of it yet
  pub put-created : add_refusal (standing m.tree) path ≡ None
      → put_path script 1 (commands + 1) ≡ Some path → puts_of script 1 (commands + 1) ≡ bytes
      → 1 ≤ length bytes → length bytes ≤ 32
      → InPut script servers (created_state m path (commands + 1) (length bytes)) commands
      (record { file = m.next_file; path = path; bytes = bytes }) 0 0
  unfolding next_turn apply_all apply add_file write_entry add_row added unclosed_file file_row
      has_file is_of_file
  put-created free path_is bytes_are some most =
      let row : TreeRow = file_row path m.next_file 1 (commands + 1) (length bytes) in
      let none = b.written.unborn m.next_file (omega arith) in
      let some_file : 1 ≤ m.next_file = omega (arith, b.written.count) in
      record {
        steady = record {
          as_first = b.as_first;
          none_dropped = b.none_dropped;
          up = b.up;
          few = create-few;
          written = written-created script m commands (commands + 1) (length bytes) path b.written
              free;
          rows = each_place (IsRow script servers m.slots (m.next_file + 1)) (row_cmp row_path) row
              m.tree
              (record { above = some_file; below = omega arith; whole = λ closed. absurd (cc) })
              (each_weaker (IsRow script servers m.slots m.next_file)
              (IsRow script servers m.slots (m.next_file + 1))
              (λ row is. record {
                above = is.above;
                below = omega (arith, is.below);
                whole =
                    is.whole;
              })
              m.tree b.rows);
          slots_below = each_weaker _ _
              (λ (row : SlotRow) (below : row.block.file < m.next_file). omega (arith, below))
              m.slots b.slots_below;
          none_to_come = λ server key above. b.none_to_come server key (omega (arith, above));
        };
        target = record {
          above = some_file;
          next = refl;
          created = created-now m.next_file path m.history none;
          path_is = path_is;
          bytes_are = bytes_are;
          some = some;
          most = most;
          own = each_place (λ (r : TreeRow). has_file m.next_file r ≡ true → r ≡ row)
              (row_cmp row_path) row m.tree (λ is. refl)
              (each_weaker (IsRow script servers m.slots m.next_file) _
              (λ r is own. absurd (omega (arith, is.below, same-key m.next_file r.file own)))
              m.tree b.rows);
          unclosed = find-placed (row_cmp row_path)
              (λ (r : TreeRow). is_unclosed_of 1 r && has_file m.next_file r) row m.tree
              (own-unclosed m.next_file some_file)
              (each_weaker (IsRow script servers m.slots m.next_file) _
              (λ r is _. not-unclosed r is.below) m.tree b.rows);
        };
        grants = λ slot below. absurd (omega arith);
        ungranted = λ slot above. slot_at-none (first_block m.next_file) slot m.slots
            (each_weaker _ _ (not-slot slot) m.slots b.slots_below);
        all_granted = each_weaker _ (λ (r : SlotRow). is_of_file m.next_file r ≡ true
            → lacks_grant m.slots (slot_id r) ≡ false)
            (λ (r : SlotRow) (below : r.block.file < m.next_file) own. absurd
            (omega (arith, below, same-key m.next_file r.block.file own)))
            m.slots b.slots_below;
        few_grants =
            let zero = grants-none (first_block m.next_file) m.slots
            (each_weaker _ _ not-block m.slots b.slots_below) in omega (arith, zero);
        unstored = λ server slot above. b.none_to_come server _ (omega arith);
      }
