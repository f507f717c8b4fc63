-- The next slot that a block is read from.
use Rattle.std.specs.Prelude.{◌≡◌, ℕ, suc, ◌<◌, ◌≤◌, List, length, take, count_by, is_ok, Some, Ok, slice_get}
use Rattle.qfs_base.specs.declared.chunk.Copy.{Copy}
use Rattle.qfs_base.specs.declared.layout.Window.{Window}
use Rattle.qfs_model_actor.specs.Pieces.{Piece}
use Rattle.qfs_model_actor.specs.Put.{slots_from}
use Rattle.qfs_model_actor.specs.Read.{Source, Reading, read_slots}
use Rattle.qfs_model_actor.specs.Work.{Work}

-- a read that comes to one slot goes on from another
abbrev pub PassesTo : List Source → ℕ → ℕ → Type 0
PassesTo sources slot next =
    (reading : Reading) (w : Window) (wanted : ℕ) (pieces : List Piece)
    (behind : List Source → List Piece → Work)
    → read_slots reading w (suc wanted) (slots_from slot) sources pieces behind
    ≡ read_slots reading w (suc wanted) (slots_from next) sources pieces behind

-- the first slot from one on that can be read
pub record IsNext (sources : List Source) (slot next : ℕ) (copy : Copy) : Type 0 where
  pub nine : length sources ≡ 9
  pub within : next < 9
  pub from : slot ≤ next
  pub listed : slice_get sources next ≡ Some (Ok copy)
  pub before : count_by is_ok (take next sources) ≡ count_by is_ok (take slot sources)
  pub passed : PassesTo sources slot next
