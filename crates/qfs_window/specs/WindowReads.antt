-- What is left of a command that reads a window of a block from six of its nine slots.
use Rattle.std.specs.Prelude.{◌≡◌, ℕ, suc, ◌+◌, ◌-◌, ◌*◌, ◌<◌, ◌≤◌, ◌==◌, List, [], length, take, count_by, is_ok, false, Some, Ok, Err, slice_get, slice_set, ⊤, ◌⊎◌}
use Rattle.qfs_base.specs.Sizes.{DATA_SLOTS, SLOTS, WINDOW_ROWS}
use Rattle.qfs_base.specs.declared.chunk.Copy.{Copy}
use Rattle.qfs_base.specs.declared.layout.Window.{Window}
use Rattle.qfs_base.specs.declared.lists.Cause.{Cause}
use Rattle.qfs_base.specs.declared.reply.ChunkReply.{ChunkReply}
use Rattle.qfs_base.specs.declared.request.ChunkRequest.TheVariants as Serve
use Rattle.qfs_base.specs.declared.request.NodeRequest.{NodeRequest}
use Rattle.qfs_base.specs.declared.request.NodeRequest.TheVariants as To
use Rattle.qfs_machine.specs.Endings.{report_of_ending}
use Rattle.qfs_model_actor.specs.Ask.{after_fetch, filled}
use Rattle.qfs_model_actor.specs.Hold.{end_with}
use Rattle.qfs_model_actor.specs.Pieces.{Piece}
use Rattle.qfs_model_actor.specs.Put.{slots_from}
use Rattle.qfs_model_actor.specs.Read.{Source, Reading, are_too_few, causes_of, read_slots, with_enough}
use Rattle.qfs_model_actor.specs.Work.{Work, ends}
use Rattle.qfs_window.specs.Parts.{pieces_of, with_piece, AreBelow}
use Rattle.qfs_window.specs.declared.window_read.WindowRead.{WindowRead}
use Rattle.qfs_window.specs.declared.window_read.WindowStep.{WindowStep}
use Rattle.qfs_window.specs.declared.window_read.WindowStep.TheVariants as Comes

-- what comes behind a window, where these slots can be read and these pieces were
abbrev pub Behind : Type 0
Behind = List Source → List Piece → Work

-- how many bytes a slot gives in the window
abbrev pub slot_bytes : ℕ → WindowRead → ℕ
slot_bytes stripe r = r.window.rows * stripe

-- what its slots gave so far
abbrev pub pieces_in : ℕ → WindowRead → List Piece
pieces_in stripe r = pieces_of (slot_bytes stripe r) r.nine.items r.have

-- what is left of a read from a slot on
abbrev pub rest_of_slots : Reading → Behind → WindowRead → ℕ → ℕ → List Source → List Piece → Work
rest_of_slots reading behind r wanted slot sources pieces =
    read_slots reading r.window wanted (slots_from slot) sources pieces behind

unfoldable pub rest_from_slot : Reading → Behind → WindowRead → ℕ → Work
rest_from_slot reading behind r slot =
    rest_of_slots reading behind r (DATA_SLOTS - length r.have) slot r.sources
    (pieces_in reading.stripe r)

-- what is left of a read that waits for the bytes of a slot
abbrev pub rest_of_read : Reading → Behind → WindowRead → Work
rest_of_read reading behind r = rest_from_slot reading behind r r.slot

-- what is left once the slot gave its bytes, and once it failed
unfoldable pub rest_with_piece : Reading → Behind → WindowRead → List ℕ → Work
rest_with_piece reading behind r room =
    rest_of_slots reading behind r (5 - length r.have) (r.slot + 1) r.sources
    (with_piece (pieces_in reading.stripe r) r.slot room)

-- and where a room came back that may not be as long as it was asked for
unfoldable pub rest_if_filled : Reading → Behind → WindowRead → List ℕ → Work
rest_if_filled reading behind r room =
    filled (rest_with_piece reading behind r) room (length room == slot_bytes reading.stripe r)

unfoldable pub rest_without : Reading → Behind → WindowRead → Cause → Work
rest_without reading behind r cause =
    with_enough reading
    (λ left. rest_of_slots reading behind r (suc (5 - length r.have)) (r.slot + 1) left
    (pieces_in reading.stripe r))
    (slice_set r.sources r.slot (Err cause))

-- what becomes of a server's answer to the request for them, which doesn't end every command
abbrev pub after_slot : Reading → Behind → WindowRead → ChunkReply → Work
after_slot reading behind r reply =
    after_fetch (slot_bytes reading.stripe r) (rest_with_piece reading behind r)
    (rest_without reading behind r) reply.room reply.answer

-- what is left behind an answer
unfoldable pub rest_of_step : Reading → Behind → WindowStep → Work
rest_of_step reading behind (Comes.Goes r) = rest_of_read reading behind r
rest_of_step reading behind (Comes.Six r) = behind r.sources (pieces_in reading.stripe r)
rest_of_step reading behind (Comes.TooFew r) = reading.too_few (causes_of r.sources)
rest_of_step reading behind (Comes.GivesUp ending) =
    end_with reading.hold (report_of_ending ending)
rest_of_step reading behind (Comes.Ended ending) = ends (report_of_ending ending)

-- ---- what holds while a window is read

-- the room for what its slots give
abbrev pub HasRoom : ℕ → WindowRead → Type 0
HasRoom stripe r = length r.nine.items ≡ SLOTS * slot_bytes stripe r

-- those of the slots before one that can be read have given their bytes, and are too few; with the
-- slots behind them there are enough
pub record WantsMore (sources : List Source) (have : List ℕ) (slot : ℕ) : Type 0 where
  pub before : count_by is_ok (take slot sources) ≡ length have
  pub enough : DATA_SLOTS ≤ count_by is_ok sources
  pub few : length have < DATA_SLOTS
  pub below : AreBelow slot have

-- this slot is the next one that can be read
pub record IsReadable (sources : List Source) (have : List ℕ) (j : ℕ) (copy : Copy) : Type 0 where
  pub slot : j < SLOTS
  pub listed : slice_get sources j ≡ Some (Ok copy)
  pub nine : length sources ≡ SLOTS
  pub more : WantsMore sources have j

abbrev pub IsAtSlot : WindowRead → Type 0
IsAtSlot r = IsReadable r.sources r.have r.slot r.copy

abbrev pub HasRoomOnceGiven : ℕ → WindowRead → Type 0
HasRoomOnceGiven stripe r = (r.have ≡ []) ⊎ HasRoom stripe r

-- a slot of a window is read
pub record IsRead (stripe : ℕ) (r : WindowRead) : Type 0 where
  pub readable : IsAtSlot r
  pub rows : r.window.rows ≤ WINDOW_ROWS
  pub room : HasRoomOnceGiven stripe r

-- six slots of a window were read, and enough can be read in the next one
pub record IsSix (stripe : ℕ) (r : WindowRead) : Type 0 where
  pub have : DATA_SLOTS ≤ length r.have
  pub below : AreBelow SLOTS r.have
  pub room : HasRoom stripe r
  pub enough : are_too_few r.sources ≡ false

abbrev pub IsWindowStep : ℕ → WindowStep → Type 0
IsWindowStep stripe (Comes.Goes r) = IsRead stripe r
IsWindowStep stripe (Comes.Six r) = IsSix stripe r
IsWindowStep stripe other = ⊤

-- this window is read still
abbrev pub IsStepOf : Window → WindowStep → Type 0
IsStepOf w (Comes.Goes r) = r.window ≡ w
IsStepOf w (Comes.Six r) = r.window ≡ w
IsStepOf w other = ⊤

-- a request for bytes of a slot
abbrev pub IsFetch : NodeRequest → Type 0
IsFetch (To.Meta request) = ⊥
IsFetch (To.Chunk server (Serve.Fetch key life from room)) = ⊤
IsFetch (To.Chunk server request) = ⊥
