-- Which grants count as answers to a request.
use Rattle.std.specs.Prelude.{ℕ, ◌==◌, ◌&&◌, Bool, true, false, List, [], ◌∷◌, Option, Some, None, filter_map, option_map, nat_lt, nat_le}
use Rattle.std.specs.List.{enumerate_from}
use Rattle.qfs_base.specs.Sizes.{SLOTS, MOST_ROWS}
use Rattle.qfs_base.specs.declared.chunk.Copy.{Copy}
use Rattle.qfs_base.specs.declared.reply.Granted.{Granted}
use Rattle.qfs_base.specs.declared.request.SlotId.{SlotId}
use Rattle.qfs_model_actor.specs.Work.{Work}
use Rattle.qfs_model_actor.specs.Hold.{unnamed}

-- the slot of a grant
abbrev pub slot_of_grant : Granted → SlotId
slot_of_grant g = record { block = g.block; slot = g.slot }

-- a grant of the block and slot that were asked for
unfoldable pub is_grant_of : ℕ → ℕ → Granted → Bool
is_grant_of index slot g = g.block.index == index && g.slot == slot

-- goes on with a grant where it is the one that was meant
unfoldable pub if_meant : (Granted → Work) → Granted → Bool → Work
if_meant next g true = next g
if_meant next g false = unnamed

-- goes on with a grant of the block and slot that were asked for
unfoldable pub with_grant_of : ℕ → ℕ → (Granted → Work) → Granted → Work
with_grant_of index slot next g = if_meant next g (is_grant_of index slot g)

-- a grant of one of nine slots, of no more rows than a chunk can have
unfoldable pub is_in_range : Granted → Bool
is_in_range g = nat_lt g.slot SLOTS && nat_le g.rows MOST_ROWS

-- goes on with a grant whose numbers are in their ranges
unfoldable pub with_proper : (Granted → Work) → Granted → Work
with_proper next g = if_meant next g (is_in_range g)

-- a slot and its copy, where it is listed
abbrev pub listed_at : ℕ → Option Copy → Option (ℕ × Copy)
listed_at slot listed = option_map (λ copy. (slot, copy)) listed

-- each listed slot with its copy
abbrev pub listed_slots : List (Option Copy) → List (ℕ × Copy)
listed_slots nine = filter_map (λ (slot, listed). listed_at slot listed) (enumerate_from 0 nine)

-- a copy where a test holds
unfoldable pub copy_if : Copy → Bool → Option Copy
copy_if copy true = Some copy
copy_if copy false = None

-- the copy of a slot that is listed alone
unfoldable pub sole_copy : ℕ → List (ℕ × Copy) → Option Copy
sole_copy slot [] = None
sole_copy slot (first ∷ []) = copy_if first.1 (first.0 == slot)
sole_copy slot (first ∷ second ∷ rest) = None

-- the source of a move: its grant lists its own slot alone
unfoldable pub source_of : Granted → Option Copy
source_of g = sole_copy g.slot (listed_slots g.sources)

-- goes on with the source of a move, where its grant has one
unfoldable pub with_source : (Copy → Work) → Option Copy → Work
with_source next (Some source) = next source
with_source next None = unnamed
