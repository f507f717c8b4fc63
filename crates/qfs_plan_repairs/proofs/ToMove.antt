-- The slots whose copies are to move away from a server.
use Rattle.std.proofs.Common.{◌≡◌, ◌∙◌, ℕ, ◌<◌, Bool, true, false, ◌&&◌, nat_lt, cond, find, filter, List, [], ◌∷◌, Option, Some, None, ap, refl, sym}
use Rattle.std.proofs.lemmas.Bool.{and_parts}
use Rattle.std.specs.Option.{option_map}
use Rattle.qfs_base.specs.declared.image.MetaImage.{MetaImage}
use Rattle.qfs_base.specs.declared.image.SlotRecord.{SlotRecord}
use Rattle.qfs_base.specs.declared.image.SlotRow.{SlotRow}
use Rattle.qfs_base.specs.declared.image.TreeRow.{TreeRow}
use Rattle.qfs_base.specs.declared.request.SlotId.{SlotId}
use Rattle.qfs_base.specs.Shape.{Shape}
use Rattle.qfs_base.specs.Sizes.{SLOTS}
use Rattle.qfs_blocks.specs.Records.{is_after}
use Rattle.qfs_laws_slots.specs.Slots.{rows-found}
use Rattle.qfs_laws_tables.specs.EachRow.{each_both, found_has, none-is}
use Rattle.qfs_model_meta.specs.LeasedGrants.{has_block, is_at_rest}
use Rattle.qfs_model_meta.specs.Lists.{block_count}
use Rattle.qfs_model_meta.specs.MoveRequests.{is_to_move, next_to_move}
use Rattle.qfs_model_meta.specs.Slots.{slot_at}
use Rattle.qfs_namespace.specs.declared.file.KnownFile.{KnownFile}
use Rattle.qfs_namespace.specs.Joined.{known_in}
use Rattle.qfs_state.specs.Held.{AreSlots}

-- whether a file has a block, by what is known of the file
has_known : Shape → ℕ → Option KnownFile → Bool
has_known layout index None = false
has_known layout index (Some known) = nat_lt index (block_count layout known.len)

block_known : (layout : Shape) (index : ℕ) (found : Option TreeRow)
    → has_block layout index found ≡ has_known layout index (option_map known_in found)
unfolding has_block has_known
block_known layout index None = refl
block_known layout index (Some row) = refl

pub block_some : (layout : Shape) (index count : ℕ) (found : Option TreeRow) (known : KnownFile)
    → option_map known_in found ≡ Some known → count ≡ block_count layout known.len
    → nat_lt index count ≡ has_block layout index found
unfolding has_known
block_some layout index count found known e is =
    ap (nat_lt index) is
    ∙ sym (block_known layout index found ∙ ap (has_known layout index) e)

pub block_none : (layout : Shape) (index : ℕ) (found : Option TreeRow)
    → option_map known_in found ≡ None → false ≡ has_block layout index found
unfolding has_known
block_none layout index found e =
    sym (block_known layout index found ∙ ap (has_known layout index) e)

-- what is found among the rows that are kept
find_kept : {X : Type 0} (test keep : X → Bool) (rows : List X)
    → find test (filter keep rows) ≡ find (λ row. keep row && test row) rows
find_kept test keep [] = refl
find_kept test keep (row ∷ rows) =
    elim (keep row) as (λ b. find test (cond b (row ∷ filter keep rows) (filter keep rows))
    ≡ cond (b && test row) (Some row) (find (λ r. keep r && test r) rows)) [
      | true ↦ ap (λ rest. cond (test row) (Some row) rest) (find_kept test keep rows)
      | false ↦ find_kept test keep rows
    ]

-- the first row behind a slot that is to move is the next to move
pub first_is_next : (layout : Shape) (server : ℕ) (after : Option SlotId) (m : MetaImage)
    (found : Option SlotRow)
    → found ≡ find (is_to_move layout server m) (filter (is_after after) m.slots)
    → next_to_move layout server after m ≡ found
unfolding next_to_move
first_is_next layout server after m found is =
    sym (is ∙ find_kept (is_to_move layout server m) (is_after after) m.slots)

rest_free : (layout : Shape) (tree : List TreeRow) (row : SlotRow)
    → is_at_rest layout tree row ≡ true → row.state.grant ≡ None
unfolding is_at_rest
rest_free layout tree row rests = none-is row.state.grant (and_parts _ _ rests).0

to_move_free : (layout : Shape) (server : ℕ) (m : MetaImage) (row : SlotRow)
    → is_to_move layout server m row ≡ true → row.state.grant ≡ None
unfolding is_to_move
to_move_free layout server m row moves = rest_free layout m.tree row (and_parts _ _ moves).0

-- the next to move is one of a block's slots, and no grant of it is pending
pub next_is_free : (layout : Shape) (servers server : ℕ) (after : Option SlotId) (m : MetaImage)
    (row : SlotRow) → AreSlots servers m.slots → next_to_move layout server after m ≡ Some row
    → (row.slot < SLOTS) × ((slot_at m.slots row.block row.slot).grant ≡ None)
unfolding next_to_move
next_is_free layout servers server after m row fit found =
    let has = found_has
    (λ (r : SlotRow). (r.slot < SLOTS) × (slot_at m.slots r.block r.slot ≡ r.state)) _ m.slots row
    found (each_both _ _ m.slots fit.slot_numbers (rows-found m.slots fit.in_order)) in (
      has.0.0,
      ap (λ (state : SlotRecord). state.grant) has.0.1
          ∙ to_move_free layout server m row (and_parts _ _ has.1).1,
    )
