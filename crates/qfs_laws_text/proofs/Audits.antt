-- The audit that is made of the metaserver's state and the lives of the servers is that of the
-- world, and so is the text.
use Rattle.std.proofs.Common.{◌≡◌, ℕ, Bool, true, false, List, length, map, sum_by, Some, refl, sym, ap, ◌∙◌}
use Rattle.std.specs.Bool.{then_some}
use Rattle.qfs_base.specs.EachLaws.{each_weaker}
use Rattle.qfs_base.specs.Mask.{all_slots}
use Rattle.qfs_base.specs.Table.{Each}
use Rattle.qfs_base.specs.declared.chunk.BlockId.{BlockId}
use Rattle.qfs_base.specs.declared.history.Step.{Step}
use Rattle.qfs_base.specs.declared.image.TreeRow.{TreeRow}
use Rattle.qfs_base.specs.declared.script.Script.{Script}
use Rattle.qfs_model_meta.specs.Grammar.{IsImage}
use Rattle.qfs_model_meta.specs.Slots.{slot_at}
use Rattle.qfs_model_promises.specs.Along.{SlotsFit}
use Rattle.qfs_model_promises.specs.Letters.{is_slot_of_life}
use Rattle.qfs_model_promises.specs.SoundWorld.{IsSoundAt}
use Rattle.qfs_model_text.specs.Audit.{Audit}
use Rattle.qfs_model_text.specs.Output.{output}
use Rattle.qfs_model_world.specs.Audit.{audit_if, audit_of, blocks_in, closed_rows, current_copies, is_right_slot, summary_of}
use Rattle.qfs_model_world.specs.Audit.{audit_of_block as world_line, audit_of_file as world_lines, standing_blocks as world_blocks}
use Rattle.qfs_model_world.specs.Events.{Event, events}
use Rattle.qfs_model_world.specs.Made.{made}
use Rattle.qfs_model_world.specs.Text.{lines_of_world, printed, text}
use Rattle.qfs_model_world.specs.World.{World, after}
use Rattle.qfs_report.specs.AuditOfImage.{audit_of_image, audit_of_block, audit_of_file, blocks_of_file, is_live_slot, output_of_parts, standing_blocks, summary_of_image}
use Rattle.qfs_laws_text.proofs.Files.{HasItsBlocks, closed_have_blocks}
use Rattle.qfs_laws_text.proofs.Letters.{letter_tells, live_is}
use Rattle.qfs_laws_text.proofs.Ranges.{flat_map_each}
use Rattle.qfs_laws_text.specs.Agree.{AuditsAgree, PlainTextsAgree, TextsAgree, lives_of, output_of_world}

-- ---- what the metaserver's state alone tells

module _ (world : World) (image : IsImage world.meta) (fits : SlotsFit world.rules world.meta) where
  have_blocks : Each (HasItsBlocks world.rules.layout world.meta) (closed_rows world.meta.tree)
  have_blocks = closed_have_blocks world.rules world.meta image fits

  blocks_stand : standing_blocks world.meta ≡ world_blocks world
  unfolding standing_blocks world_blocks blocks_in
  blocks_stand =
      flat_map_each (λ (row : TreeRow). blocks_of_file world.meta.slots row.file) (blocks_in world)
      (closed_rows world.meta.tree) have_blocks

  pub summary_is : (taken : ℕ) → summary_of_image world.meta taken ≡ summary_of world taken
  unfolding summary_of_image summary_of
  summary_is taken = (λ i. record (summary_of world taken) {
    blocks = length (blocks_stand i);
    copies = sum_by (current_copies world.meta) (blocks_stand i);
  })

-- ---- the letters

module _ (script : Script) (bytes : ℕ → List ℕ) (steps : List Event) (world : World)
    (sound : IsSoundAt script bytes steps world) (fits : SlotsFit world.rules world.meta) where
  letter : (block : BlockId) (slot : ℕ)
      → is_live_slot (lives_of world) world.meta.slots block slot
      ≡ is_right_slot world bytes block slot
  unfolding is_live_slot is_slot_of_life
  letter block slot =
      live_is world (slot_at world.meta.slots block slot).current
      ∙ sym (letter_tells script bytes steps world sound block slot)

  file_lines : (row : TreeRow) → HasItsBlocks world.rules.layout world.meta row
      → audit_of_file (lives_of world) world.meta.slots row ≡ world_lines world bytes row
  unfolding audit_of_file audit_of_block world_lines world_line blocks_in
  file_lines row has = (λ i. map (λ (block : BlockId). record {
    path = row.path;
    index = block.index;
    right = map (λ slot. letter block slot i) all_slots;
  }) (has i))

  pub audit_is : (taken : ℕ)
      → audit_of_image world.meta (lives_of world) taken ≡ audit_of world bytes taken
  unfolding audit_of_image audit_of
  audit_is taken =
      let lines = flat_map_each (audit_of_file (lives_of world) world.meta.slots)
      (world_lines world bytes) (closed_rows world.meta.tree)
      (each_weaker (HasItsBlocks world.rules.layout world.meta)
      (λ row. audit_of_file (lives_of world) world.meta.slots row ≡ world_lines world bytes row)
      file_lines (closed_rows world.meta.tree) (have_blocks world sound.image fits)) in
      (λ i. record { lines = lines i; summary = summary_is world sound.image fits taken i })

pub audits_agree : AuditsAgree
audits_agree script bytes steps world sound fits taken =
    audit_is script bytes steps world sound fits taken

-- what is printed of a world behind these steps
pub printed_is : (script : Script) (order : List Step) (steps : List Event) (world : World)
    → IsSoundAt script (made script (events script order)) steps world
    → SlotsFit world.rules world.meta
    → output_of_world world script.audit order ≡ printed script order world
unfolding output_of_parts printed audit_if
printed_is script order steps world sound fits =
    ap (λ audit. output (lines_of_world world) world.meta.history audit order) (asked script.audit)
  where
    asked : (audit : Bool)
        → then_some audit (audit_of_image world.meta (lives_of world) (length order))
        ≡ audit_if script order world audit
    asked true = ap (λ (audit : Audit). Some audit)
        (audit_is script (made script (events script order)) steps world sound fits (length order))
    asked false = refl

pub texts_agree : TextsAgree
unfolding text
texts_agree script order sound fits =
    printed_is script order (events script order) (after script order) sound fits

pub plain_texts_agree : PlainTextsAgree
unfolding text output_of_parts printed audit_if
plain_texts_agree script order none =
    ap (λ audit. output (lines_of_world (after script order)) (after script order).meta.history
    audit order) (asked script.audit none)
  where
    asked : (audit : Bool) → audit ≡ false
        → then_some audit
        (audit_of_image (after script order).meta (lives_of (after script order)) (length order))
        ≡ audit_if script order (after script order) audit
    asked true is = absurd (cc)
    asked false is = refl
