-- The audit of a world: which standing chunks have their right copy, and a summary.
use Rattle.std.specs.Prelude.{ℕ, ◌==◌, ◌&&◌, Bool, true, false, List, [], length, map, filter, flat_map, count_by, sum_by, Option, Some, None, is_some, nat_eq}
use Rattle.std.specs.Cmp.Lexicographic.{pointwise}
use Rattle.std.specs.List.{range_with_len}
use Rattle.std.specs.Ordering.{nat_cmp}
use Rattle.std.specs.declared.cmp.Ordering.{Ordering}
use Rattle.qfs_base.specs.Key.{key_cmp}
use Rattle.qfs_base.specs.KeyMap.{value_at}
use Rattle.qfs_base.specs.Table.{place_all}
use Rattle.qfs_base.specs.declared.chunk.BlockId.{BlockId}
use Rattle.qfs_base.specs.declared.chunk.ChunkKey.{ChunkKey}
use Rattle.qfs_base.specs.declared.chunk.Copy.{Copy}
use Rattle.qfs_base.specs.declared.history.Step.{Step}
use Rattle.qfs_base.specs.declared.image.MetaImage.{MetaImage}
use Rattle.qfs_base.specs.declared.image.TreeRow.{TreeRow}
use Rattle.qfs_base.specs.declared.script.Script.{Script}
use Rattle.qfs_base.specs.Mask.{all_slots}
use Rattle.qfs_model_meta.specs.Lists.{block_count}
use Rattle.qfs_model_meta.specs.Slots.{slot_at}
use Rattle.qfs_model_meta.specs.TreeRows.{is_closed_row}
use Rattle.qfs_model_server.specs.Chunk.{Chunk}
use Rattle.qfs_model_server.specs.Server.{Server}
use Rattle.qfs_model_text.specs.Audit.{AuditLine, Summary, Audit}
use Rattle.qfs_model_world.specs.Events.{events}
use Rattle.qfs_model_world.specs.Made.{made, right_bytes}
use Rattle.qfs_model_world.specs.World.{World, numbered}

-- the closed files, by number
unfoldable pub by_file : TreeRow → TreeRow → Ordering
by_file a b = nat_cmp a.file b.file

unfoldable pub closed_rows : List TreeRow → List TreeRow
closed_rows tree = place_all by_file (filter is_closed_row tree) []

-- the blocks of a closed file
unfoldable pub blocks_in : World → TreeRow → List BlockId
blocks_in world row =
    map (λ index. record { file = row.file; index = index }) (range_with_len 0 (block_count world.rules.layout row.len))

-- the chunks that stand: the slots of the blocks of closed files
unfoldable pub standing_blocks : World → List BlockId
standing_blocks world = flat_map (blocks_in world) (closed_rows world.meta.tree)

-- the key that a copy of a slot is stored under
abbrev pub key_at : BlockId → ℕ → Copy → ChunkKey
key_at block slot copy = record { block = block; slot = slot; version = copy.version }

-- whether what stands under a key is a copy of these bytes
unfoldable pub are_bytes : List ℕ → Option Chunk → Bool
are_bytes bytes None = false
are_bytes bytes (Some chunk) = pointwise nat_eq chunk.bytes bytes

-- whether a server, up or not, has in this life a copy of these bytes under this key
unfoldable pub has_copy : ℕ → ChunkKey → List ℕ → Option Server → Bool
has_copy life key bytes None = false
has_copy life key bytes (Some server) = (server.life == life) && are_bytes bytes (value_at key_cmp server.copies key)

-- whether a copy of a slot is on its server now and right, where the files have these bytes
unfoldable pub is_right_copy : World → (ℕ → List ℕ) → BlockId → ℕ → Option Copy → Bool
is_right_copy world bytes block slot None = false
is_right_copy world bytes block slot (Some copy) =
    has_copy copy.life (key_at block slot copy) (right_bytes world.rules.layout bytes (key_at block slot copy))
    (numbered world.servers copy.server)

-- whether the current copy of a chunk is right
unfoldable pub is_right_slot : World → (ℕ → List ℕ) → BlockId → ℕ → Bool
is_right_slot world bytes block slot =
    is_right_copy world bytes block slot (slot_at world.meta.slots block slot).current

-- the line of a block of a file, and those of its blocks
unfoldable pub audit_of_block : World → (ℕ → List ℕ) → TreeRow → BlockId → AuditLine
audit_of_block world bytes row block =
    record { path = row.path; index = block.index; right = map (is_right_slot world bytes block) all_slots }

unfoldable pub audit_of_file : World → (ℕ → List ℕ) → TreeRow → List AuditLine
audit_of_file world bytes row = map (audit_of_block world bytes row) (blocks_in world row)

-- how many slots of a block have a current copy
unfoldable pub current_copies : MetaImage → BlockId → ℕ
current_copies m block = count_by (λ slot. is_some (slot_at m.slots block slot).current) all_slots

-- the summary of a world after so many steps
unfoldable pub summary_of : World → ℕ → Summary
summary_of world steps = record {
  files = count_by is_closed_row world.meta.tree;
  dirs = count_by (λ (row : TreeRow). row.file == 0) world.meta.tree;
  blocks = length (standing_blocks world);
  copies = sum_by (current_copies world.meta) (standing_blocks world);
  condemned = length world.meta.condemned;
  steps = steps;
}

-- the audit of a world after so many steps, where the files have these bytes
unfoldable pub audit_of : World → (ℕ → List ℕ) → ℕ → Audit
audit_of world bytes steps = record {
  lines = flat_map (audit_of_file world bytes) (closed_rows world.meta.tree);
  summary = summary_of world steps;
}

-- the audit of the world after an order, if it is asked for
unfoldable pub audit_if : Script → List Step → World → Bool → Option Audit
audit_if script order world false = None
audit_if script order world true = Some (audit_of world (made script (events script order)) (length order))
