-- How a reader stands, and what holds at each of its stages.
use Rattle.std.specs.Prelude.{◌≡◌, ℕ, ◌-◌, ◌*◌, ◌<◌, ◌≤◌, List, [], ◌∷◌, length, take, count_by, is_ok, Some, Ok, slice_get, ⊤, ◌⊎◌, IsSome, IfSome}
use Rattle.qfs_base.specs.Sizes.{SLOTS, DATA_SLOTS, MOST_FILE_BYTES}
use Rattle.qfs_base.specs.Shape.{Shape}
use Rattle.qfs_base.specs.declared.chunk.Copy.{Copy}
use Rattle.qfs_base.specs.declared.command.Excerpt.{Excerpt}
use Rattle.qfs_base.specs.declared.command.Reply.{Reply}
use Rattle.qfs_base.specs.declared.layout.Window.{Window}
use Rattle.qfs_machine.specs.declared.machine.Readiness.{Readiness}
use Rattle.qfs_machine.specs.declared.machine.Readiness.TheVariants.{Unready, Ready, Out}
use Rattle.qfs_model_actor.specs.Read.{Source}
use Rattle.qfs_model_actor.specs.Shown.{kept_report}
use Rattle.qfs_model_actor.specs.Windows.{window_offset}
use Rattle.qfs_model_actor.specs.Work.{Work}
use Rattle.qfs_stripe.specs.Touched.{IsTouched, AreInOrder}
use Rattle.qfs_reader.specs.Parts.{AreBelow}
use Rattle.qfs_reader.specs.Rest.{rest_of_get, report_of_get, window_bytes}
use Rattle.qfs_reader.specs.declared.stage.Attempt.{Attempt}
use Rattle.qfs_reader.specs.declared.stage.Get.{Get}
use Rattle.qfs_reader.specs.declared.stage.GetEnding.{GetEnding}
use Rattle.qfs_reader.specs.declared.stage.Position.{Position}
use Rattle.qfs_reader.specs.declared.stage.Stage.{Stage}
use Rattle.qfs_reader.specs.declared.stage.Stage.TheVariants as At

-- what is wanted, what the get waits for, and how it stands to its next request
pub record ReaderState : Type 0 where
  pub get : Get
  pub stage : Stage
  pub readiness : Readiness

-- what is left of the get
abbrev pub rest_of_reader : ReaderState → Work
rest_of_reader standing = rest_of_get standing.get standing.stage

-- a range of a file that isn't empty
pub record IsReadRange (from to : ℕ) : Type 0 where
  pub some : from < to
  pub most : to ≤ MOST_FILE_BYTES

-- the bytes that were read lie before byte `start`
abbrev pub IsBefore : Attempt → ℕ → Type 0
IsBefore attempt start = length attempt.got ≤ start - attempt.from

-- the window of block k that the bytes from `from` up to `to` touch, with those behind it in their
-- order; `len` bytes were read before it
pub record IsWindowOf (l : Shape) (from to len k : ℕ) (w : Window) (ws : List Window) : Type 0 where
  pub range : IsReadRange from to
  pub block : IsTouched l.s l.r from to k
  pub order : AreInOrder k w.first_row l.r (w ∷ ws)
  pub got : len ≤ window_offset l w - from

-- an attempt has come to this window of a block, and then comes to these
abbrev pub IsAtWindow : Get → Attempt → ℕ → Window → List Window → Type 0
IsAtWindow get attempt block w windows =
    IsWindowOf get.layout attempt.from attempt.to (length attempt.got) block w windows

abbrev pub IsInWindow : Get → Attempt → Position → Type 0
IsInWindow get attempt position =
    IsAtWindow get attempt position.block position.window position.windows

-- these hold nine parts of `size` bytes, and one more
pub record IsRoom (size : ℕ) (parts part : List ℕ) : Type 0 where
  pub nine : length parts ≡ SLOTS * size
  pub spare : length part ≡ size

-- the room for the slots of a window
abbrev pub HasWindowRoom : Get → Attempt → Window → Type 0
HasWindowRoom get attempt w =
    IsRoom (window_bytes get.layout w) attempt.nine.items attempt.spare.items

-- those of the slots before one that can be read have given their bytes, and are too few; with the
-- slots behind them there are enough
pub record WantsMore (sources : List Source) (have : List ℕ) (slot : ℕ) : Type 0 where
  pub before : count_by is_ok (take slot sources) ≡ length have
  pub enough : DATA_SLOTS ≤ count_by is_ok sources
  pub few : length have < DATA_SLOTS
  pub below : AreBelow slot have

-- this slot is the next one that can be read
pub record IsReadable (sources : List Source) (have : List ℕ) (j : ℕ) (copy : Copy) : Type 0 where
  pub slot : j < SLOTS
  pub listed : slice_get sources j ≡ Some (Ok copy)
  pub nine : length sources ≡ SLOTS
  pub more : WantsMore sources have j

-- an attempt wants more slots of its window from this one on
abbrev pub WantsFrom : Position → ℕ → Type 0
WantsFrom position slot = WantsMore position.sources position.have slot

-- and waits for one that can be read
abbrev pub IsAtSlot : Position → Type 0
IsAtSlot position = IsReadable position.sources position.have position.slot position.copy

-- the room for what the slots give is there, once one gave its bytes
abbrev pub HasRoomOnceGiven : Get → Attempt → Position → Type 0
HasRoomOnceGiven get attempt position =
    (position.have ≡ []) ⊎ HasWindowRoom get attempt position.window

-- a slot of a window is read
pub record IsPosition (get : Get) (attempt : Attempt) (position : Position) : Type 0 where
  pub window : IsInWindow get attempt position
  pub readable : IsAtSlot position
  pub room : HasRoomOnceGiven get attempt position

-- what is kept of the report of a get that ends so
abbrev pub IsKeptOf : GetEnding → Reply Excerpt → Type 0
IsKeptOf ending kept = kept ≡ kept_report (report_of_get ending)

-- what holds at a stage
abbrev pub IsGetStage : Get → Stage → Type 0
IsGetStage get (At.Opening more) = ⊤
IsGetStage get (At.Reading attempt position) = IsPosition get attempt position
IsGetStage get (At.Releasing lease ending kept) = IfSome kept (IsKeptOf ending)
IsGetStage get (At.Retrying lease more) = ⊤
IsGetStage get (At.Ended ending kept) = IsKeptOf ending kept

-- the memory for the reply to a stage's request is there: room for a slot's bytes, or the report to
-- end with
abbrev pub IsSupplied : Get → Stage → Type 0
IsSupplied get (At.Opening more) = ⊤
IsSupplied get (At.Reading attempt position) = HasWindowRoom get attempt position.window
IsSupplied get (At.Releasing lease ending kept) = IsSome kept
IsSupplied get (At.Retrying lease more) = ⊤
IsSupplied get (At.Ended ending kept) = ⊤

-- the memory for the reply is there while a request is prepared or out
abbrev pub IsSuppliedWhile : Readiness → Get → Stage → Type 0
IsSuppliedWhile Unready get stage = ⊤
IsSuppliedWhile Ready get stage = IsSupplied get stage
IsSuppliedWhile Out get stage = IsSupplied get stage

-- the get has ended
abbrev pub IsEnd : Stage → Type 0
IsEnd (At.Opening more) = ⊥
IsEnd (At.Reading attempt position) = ⊥
IsEnd (At.Releasing lease ending kept) = ⊥
IsEnd (At.Retrying lease more) = ⊥
IsEnd (At.Ended ending kept) = ⊤
