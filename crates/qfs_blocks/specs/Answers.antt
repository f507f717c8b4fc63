-- What the calls on blocks answer.
use Rattle.std.specs.Prelude.{ℕ, ◌==◌, Bool, true, false, List, Option, Some, None, Result}
use Rattle.std.specs.Prelude.{Ok, Err}
use Rattle.std.specs.List.{list_any}
use Rattle.qfs_base.specs.declared.chunk.BlockId.{BlockId}
use Rattle.qfs_base.specs.declared.chunk.Copy.{Copy}
use Rattle.qfs_base.specs.declared.image.Grant.{Grant}
use Rattle.qfs_base.specs.declared.image.SlotRow.{SlotRow}
use Rattle.qfs_model_meta.specs.Slots.{is_of_block, slot_at}
use Rattle.qfs_blocks.specs.declared.error.BlockError.{BlockError}
use Rattle.qfs_blocks.specs.declared.error.BlockError.TheVariants as Told

-- why a slot isn't granted: a grant is pending, or else there was no memory
abbrev pub grant_error : Option Grant → BlockError
grant_error None = Told.NoMemory
grant_error (Some grant) = Told.Taken grant.copy.version

-- the copy that a pending grant of a version allows, or why there is none
abbrev pub copy_if : Grant → ℕ → Bool → Result Copy BlockError
copy_if grant given true = Ok grant.copy
copy_if grant given false = Err (Told.Stale (Some grant.copy.version) given)

abbrev pub granted_as : ℕ → Option Grant → Result Copy BlockError
granted_as given None = Err (Told.Stale None given)
granted_as given (Some grant) = copy_if grant given (grant.copy.version == given)

abbrev pub pending_if : ℕ → Option Grant → Bool → Result Copy BlockError
pending_if given grant true = granted_as given grant
pending_if given grant false = Err Told.Gone

-- the same of a slot, whose block may not be there
abbrev pub pending_copy : BlockId → ℕ → ℕ → List SlotRow → Result Copy BlockError
pending_copy block slot given slots =
    pending_if given (slot_at slots block slot).grant (list_any (is_of_block block) slots)
