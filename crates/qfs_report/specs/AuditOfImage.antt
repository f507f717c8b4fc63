-- The audit of a run, as the metaserver's state and the lives of the servers tell it: no device is
-- read for it. A copy counts as right where its server is still in the life in which it was made.
use Rattle.std.specs.Prelude.{ℕ, ◌==◌, Bool, false, List, [], length, fold, map, filter, flat_map, count_by, sum_by, Option, Some, None}
use Rattle.std.specs.Bool.{then_some}
use Rattle.std.specs.BTreeSet.{insert_key}
use Rattle.qfs_base.specs.Key.{block_cmp}
use Rattle.qfs_base.specs.Mask.{all_slots}
use Rattle.qfs_base.specs.declared.chunk.BlockId.{BlockId}
use Rattle.qfs_base.specs.declared.chunk.Copy.{Copy}
use Rattle.qfs_base.specs.declared.command.ReplyLine.{ReplyLine}
use Rattle.qfs_base.specs.declared.history.Step.{Step}
use Rattle.qfs_base.specs.declared.image.MetaImage.{MetaImage}
use Rattle.qfs_base.specs.declared.image.SlotRow.{SlotRow}
use Rattle.qfs_base.specs.declared.image.TreeRow.{TreeRow}
use Rattle.qfs_model_meta.specs.Slots.{slot_at}
use Rattle.qfs_model_meta.specs.TreeRows.{is_closed_row}
use Rattle.qfs_model_text.specs.Audit.{AuditLine, Summary, Audit}
use Rattle.qfs_model_text.specs.Output.{output}
use Rattle.qfs_model_world.specs.Audit.{closed_rows, current_copies}
use Rattle.qfs_model_world.specs.World.{numbered}

-- the blocks that the metaserver has a slot of, each once, by file and index
unfoldable pub blocks_of : List SlotRow → List BlockId
blocks_of slots = fold (λ blocks (row : SlotRow). insert_key block_cmp blocks row.block) [] slots

-- those of a file
unfoldable pub blocks_of_file : List SlotRow → ℕ → List BlockId
blocks_of_file slots file = filter (λ (block : BlockId). block.file == file) (blocks_of slots)

-- whether a server's life is this one
unfoldable pub is_life : ℕ → Option ℕ → Bool
is_life life None = false
is_life life (Some now) = now == life

-- whether there is a copy whose server is in the life in which it was made
unfoldable pub is_live : List ℕ → Option Copy → Bool
is_live lives None = false
is_live lives (Some copy) = is_life copy.life (numbered lives copy.server)

-- whether the current copy of a slot is live
unfoldable pub is_live_slot : List ℕ → List SlotRow → BlockId → ℕ → Bool
is_live_slot lives slots block slot = is_live lives (slot_at slots block slot).current

-- the line of a block of a file, and those of its blocks
unfoldable pub audit_of_block : List ℕ → List SlotRow → TreeRow → BlockId → AuditLine
audit_of_block lives slots row block =
    record {
      path = row.path;
      index = block.index;
      right = map (is_live_slot lives slots block)
          all_slots;
    }

unfoldable pub audit_of_file : List ℕ → List SlotRow → TreeRow → List AuditLine
audit_of_file lives slots row = map (audit_of_block lives slots row) (blocks_of_file slots row.file)

-- the blocks of the closed files, by file and index
unfoldable pub standing_blocks : MetaImage → List BlockId
standing_blocks image =
    flat_map (λ (row : TreeRow). blocks_of_file image.slots row.file) (closed_rows image.tree)

-- the summary after so many steps
unfoldable pub summary_of_image : MetaImage → ℕ → Summary
summary_of_image image steps = record {
  files = count_by is_closed_row image.tree;
  dirs = count_by (λ (row : TreeRow). row.file == 0) image.tree;
  blocks = length (standing_blocks image);
  copies = sum_by (current_copies image) (standing_blocks image);
  condemned = length image.condemned;
  steps = steps;
}

-- the audit after so many steps
unfoldable pub audit_of_image : MetaImage → List ℕ → ℕ → Audit
audit_of_image image lives steps = record {
  lines = flat_map (audit_of_file lives image.slots) (closed_rows image.tree);
  summary = summary_of_image image steps;
}

-- the whole output of a run with these replies, this state at its end, these lives of the servers
-- from server 1 on, and this order of steps
unfoldable pub output_of_parts : List ReplyLine → MetaImage → List ℕ → Bool → List Step → List ℕ
output_of_parts replies image lives audit order =
    output replies image.history
    (then_some audit (audit_of_image image lives (length order)))
    order
