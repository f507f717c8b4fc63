-- The tables that the audit is made from in one pass over the metaserver's slots: what the slots of
-- each block hold, and the closed file of each number.
use Rattle.std.specs.Prelude.{ℕ, Bool, true, false, ◌||◌, not, ltb, cond, List, [], ◌∷◌, map, flat_map, fold, count_by, sum_by, Option, Some, None, is_some, unwrap_or}
use Rattle.std.specs.Borrow.{Bor}
use Rattle.std.specs.Ordering.{nat_cmp}
use Rattle.qfs_base.specs.Key.{block_cmp}
use Rattle.qfs_base.specs.KeyMap.{value_at, with_entry}
use Rattle.qfs_base.specs.Mask.{all_slots, has_slot, insert_slot}
use Rattle.qfs_base.specs.NameTree.{PathNames}
use Rattle.qfs_base.specs.declared.chunk.BlockId.{BlockId}
use Rattle.qfs_base.specs.declared.image.SlotRow.{SlotRow}
use Rattle.qfs_base.specs.declared.image.TreeRow.{TreeRow}
use Rattle.qfs_model_meta.specs.TreeRows.{is_closed_row}
use Rattle.qfs_model_text.specs.Audit.{AuditLine}
use Rattle.qfs_report.specs.AuditOfImage.{is_live}
use Rattle.qfs_report.specs.declared.held.Held.{Held}

-- the slots, and this one if the test holds
unfoldable pub with_if : Bool → ℕ → List ℕ → List ℕ
with_if true slot slots = insert_slot slot slots
with_if false slot slots = slots

-- a block of which nothing is known
unfoldable pub nothing_held : Held
nothing_held = record { known = []; current = []; live = [] }

-- what a block's slots hold with a row more, unless that is none of its slots or they have one
unfoldable pub held_unless : Bool → List ℕ → Held → SlotRow → Held
held_unless true lives held row = held
held_unless false lives held row = record {
  known = insert_slot row.slot held.known;
  current = with_if (is_some row.state.current) row.slot held.current;
  live = with_if (is_live lives row.state.current) row.slot held.live;
}

unfoldable pub held_with : List ℕ → Held → SlotRow → Held
held_with lives held row = held_unless (not (ltb row.slot 9) || has_slot held.known row.slot) lives
    held row

-- a table of blocks with a row more
unfoldable pub table_with : List ℕ → List (BlockId × Held) → SlotRow → List (BlockId × Held)
table_with lives table row =
    with_entry block_cmp table row.block
    (held_with lives (unwrap_or (value_at block_cmp table row.block) nothing_held) row)

-- with these rows more
unfoldable pub table_of : List ℕ → List (BlockId × Held) → List SlotRow → List (BlockId × Held)
table_of lives table rows = fold (table_with lives) table rows

-- the paths of the closed files, by number, with this row more
unfoldable pub closed_with : List (ℕ × PathNames) → TreeRow → List (ℕ × PathNames)
closed_with files row = cond (is_closed_row row) (with_entry nat_cmp files row.file row.path) files

-- with these rows more
unfoldable pub closed_of : List (ℕ × PathNames) → List TreeRow → List (ℕ × PathNames)
closed_of files tree = fold closed_with files tree

-- the line of a block, if its file is closed
unfoldable pub line_if : Option PathNames → BlockId → Held → List AuditLine
line_if None block held = []
line_if (Some path) block held =
    record { path = path; index = block.index; right = map (has_slot held.live) all_slots } ∷ []

-- the lines of the blocks of closed files
unfoldable pub lines_of : List (ℕ × PathNames) → List (BlockId × Held) → List AuditLine
lines_of files table =
    flat_map (λ (e : BlockId × Held). line_if (value_at nat_cmp files e.0.file) e.0 e.1) table

-- a block, if its file is closed
unfoldable pub standing_if : Option PathNames → BlockId × Held → List (BlockId × Held)
standing_if None e = []
standing_if (Some path) e = e ∷ []

-- the blocks of closed files
unfoldable pub standing_of : List (ℕ × PathNames) → List (BlockId × Held) → List (BlockId × Held)
standing_of files table =
    flat_map (λ (e : BlockId × Held). standing_if (value_at nat_cmp files e.0.file) e) table

-- how many slots of a block have a current copy
unfoldable pub current_of : Held → ℕ
current_of held = count_by (has_slot held.current) all_slots

-- how many slots of these blocks do
unfoldable pub copies_of : List (BlockId × Held) → ℕ
copies_of table = sum_by (λ (e : BlockId × Held). current_of e.1) table

-- the paths that are lent under their files' numbers
unfoldable pub paths_of : List (ℕ × Bor PathNames) → List (ℕ × PathNames)
paths_of closed = map (λ (e : ℕ × Bor PathNames). (e.0, e.1.now)) closed
