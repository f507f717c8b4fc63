-- Why a get or a recovery found too few copies of a block: each of the slots that it couldn't read has its cause in the
-- command's own steps.
use Rattle.std.specs.Prelude.{◌≡◌, ℕ, ◌<◌, ◌-◌, nat_lt, ◌==◌, Bool, true, false, List, filter_map, length, count_by, slice_get, Option, Some, None, IsTrue, unwrap_or}
use Rattle.std.specs.Option.{option_map}
use Rattle.std.specs.List.{list_any}
use Rattle.qfs_base.specs.Mask.{all_slots}
use Rattle.qfs_base.specs.NameTree.{PathNames}
use Rattle.qfs_base.specs.Rules.{tries_of}
use Rattle.qfs_base.specs.Sizes.{SLOTS, DATA_SLOTS}
use Rattle.qfs_base.specs.Table.{Each, first_of}
use Rattle.qfs_base.specs.declared.chunk.BlockId.{BlockId}
use Rattle.qfs_base.specs.declared.chunk.Copy.{Copy}
use Rattle.qfs_base.specs.declared.command.Command.TheVariants as Does
use Rattle.qfs_base.specs.declared.command.FileCommand.TheVariants as File
use Rattle.qfs_base.specs.declared.command.Range.{Range}
use Rattle.qfs_base.specs.declared.command.Reply.TheVariants as Says
use Rattle.qfs_base.specs.declared.history.Step.{Step}
use Rattle.qfs_base.specs.declared.lists.Cause.{Cause}
use Rattle.qfs_base.specs.declared.lists.Cause.TheVariants as Because
use Rattle.qfs_base.specs.declared.lists.SlotCause.{SlotCause}
use Rattle.qfs_base.specs.declared.reply.ChunkAnswer.{ChunkAnswer}
use Rattle.qfs_base.specs.declared.reply.ChunkAnswer.TheVariants as Did
use Rattle.qfs_base.specs.declared.reply.Granted.{Granted}
use Rattle.qfs_base.specs.declared.reply.MetaReply.{MetaReply}
use Rattle.qfs_base.specs.declared.reply.MetaReply.TheVariants as Told
use Rattle.qfs_base.specs.declared.reply.NodeReply.{NodeReply}
use Rattle.qfs_base.specs.declared.reply.NodeReply.TheVariants as From
use Rattle.qfs_base.specs.declared.reply.Opened.{Opened}
use Rattle.qfs_base.specs.declared.script.Script.{Script}
use Rattle.qfs_model_actor.specs.Get.{listed_in, range_of}
use Rattle.qfs_model_actor.specs.Work.{Report}
use Rattle.qfs_model_meta.specs.Lists.{NineCopies}
use Rattle.qfs_model_world.specs.Events.{Event, events, steps_of}
use Rattle.qfs_model_world.specs.EveryGet.{blocks_of_range}
use Rattle.qfs_model_world.specs.HeldBlock.{is_fetch_of, steps_within}
use Rattle.qfs_model_world.specs.Openings.{IsOpening, IsLastOpening}
use Rattle.qfs_model_world.specs.Puts.{command_of}
use Rattle.qfs_model_world.specs.Reports.{report_of}
use Rattle.qfs_model_world.specs.World.{after}
use Rattle.qfs_model_promises.specs.Closing.{IsClosedWell}

-- ---- a slot that can't be read

-- the cause that an answer of a chunk server is, if it is one
unfoldable pub cause_in : ChunkAnswer → Option Cause
cause_in Did.Down = Some Because.Down
cause_in (Did.Lost asked now) = Some (Because.Lost asked now)
cause_in Did.Absent = Some Because.Absent
cause_in Did.Fault = Some Because.Fault
cause_in answer = None

unfoldable pub cause_told : NodeReply → Option Cause
cause_told (From.Chunk reply) = cause_in reply.answer
cause_told (From.Meta reply) = None

unfoldable pub cause_if : NodeReply → Bool → Option Cause
cause_if reply true = cause_told reply
cause_if reply false = None

-- why a Fetch of a slot failed in these steps, if one did
unfoldable pub cause_fetched : BlockId → ℕ → List Event → Option Cause
cause_fetched block slot own =
    first_of (λ (event : Event). cause_if event.reply (is_fetch_of block slot event.request)) own

-- why a slot can't be read behind these steps, if it can't: it wasn't listed, or a Fetch of it failed
unfoldable pub cause_met : BlockId → ℕ → List Event → Option Copy → Option Cause
cause_met block slot own None = Some Because.Unlisted
cause_met block slot own (Some copy) = cause_fetched block slot own

-- the copy that is listed of a slot, if one is
abbrev pub copy_listed : NineCopies → ℕ → Option Copy
copy_listed nine slot = unwrap_or (slice_get nine slot) None

-- a slot with its cause, if it has one
unfoldable pub slot_with_cause : BlockId → NineCopies → List Event → ℕ → Option SlotCause
slot_with_cause block nine own slot =
    option_map (λ cause. record { slot = slot; cause = cause }) (cause_met block slot own (copy_listed nine slot))

-- each slot of a block that can't be read, in order, with its cause
unfoldable pub causes_met : BlockId → NineCopies → List Event → List SlotCause
causes_met block nine own = filter_map (slot_with_cause block nine own) all_slots

-- whether fewer than six slots are left
unfoldable pub leave_too_few : List SlotCause → Bool
leave_too_few causes = nat_lt (SLOTS - DATA_SLOTS) (length causes)

-- ---- gets

-- the causes that an attempt of a get met in a block of the file that it opened
unfoldable pub causes_of_block : Opened → List Event → ℕ → List SlotCause
causes_of_block o attempt index =
    causes_met (record { file = o.file; index = index }) (listed_in o index) attempt

-- whether an attempt found too few slots of a block
unfoldable pub finds_too_few : Opened → List Event → ℕ → Bool
finds_too_few o attempt index = leave_too_few (causes_of_block o attempt index)

-- of the blocks of a range this is the first of which an attempt found too few slots, for these causes
pub record IsFirstTooFew (blocks : List ℕ) (o : Opened) (attempt : List Event) (index : ℕ) (causes : List SlotCause) : Type 0 where
  pub touched : IsTrue (list_any (λ k. k == index) blocks)
  pub few : IsTrue (finds_too_few o attempt index)
  pub are : causes ≡ causes_of_block o attempt index
  pub first : Each (λ k. k < index → finds_too_few o attempt k ≡ false) blocks

-- whether a step opened a file, and how many of these did
unfoldable pub tells_opened : MetaReply → Bool
tells_opened (Told.Opened o) = true
tells_opened reply = false

unfoldable pub is_opened : NodeReply → Bool
is_opened (From.Meta reply) = tells_opened reply
is_opened (From.Chunk reply) = false

unfoldable pub attempts_made : List Event → ℕ
attempts_made own = count_by (λ (event : Event). is_opened event.reply) own

-- a command of an actor is a get of this range, and ended with this report
pub record IsGet (script : Script) (order : List Step) (actor number : ℕ) (range : Option Range) (report : Report) : Type 0 where
  pub path : PathNames
  pub get : command_of script actor number ≡ Some (Does.File (File.Get path range))
  pub ended : report_of (after script order) actor number ≡ Some report

module _ (script : Script) (order : List Step) (actor number : ℕ) (range : Option Range) where
  -- the blocks of the range of a file that was opened
  abbrev pub wanted : Opened → List ℕ
  wanted o = blocks_of_range script.layout (range_of range) o.len

  -- as many attempts were made as may be, and each found too few slots of a block
  pub record TriedAll : Type 0 where
    pub tries : attempts_made (steps_of actor number (events script order)) ≡ tries_of script
    pub each : (i j : ℕ) (o : Opened) → IsOpening (events script order) actor number i j o
        → IsTrue (list_any (finds_too_few o (steps_within actor number i j (events script order))) (wanted o))

  -- the last of them opened its file at this place, and found this block first, for these causes
  pub record LastFound (place index : ℕ) (causes : List SlotCause) : Type 0 where
    pub i : ℕ
    pub j : ℕ
    pub o : Opened
    pub opening : IsOpening (events script order) actor number i j o
    pub is_last : IsLastOpening (events script order) actor number j
    pub place_is : place ≡ o.place
    pub first : IsFirstTooFew (wanted o) o (steps_within actor number i j (events script order)) index causes

-- a get replies that there are too few exactly where each of its attempts found too few, with what the last one found
pub record TooFewInGets (script : Script) (order : List Step) : Type 0 where
  pub told : (actor number place index : ℕ) (causes : List SlotCause)
      → report_of (after script order) actor number ≡ Some (Says.ReadTooFew place index causes)
      → (range : Option Range)
      × IsGet script order actor number range (Says.ReadTooFew place index causes)
      × TriedAll script order actor number range
      × LastFound script order actor number range place index causes
  pub tells : (actor number : ℕ) (range : Option Range) (report : Report)
      → IsGet script order actor number range report
      → TriedAll script order actor number range
      → IsClosedWell (steps_of actor number (events script order))
      → (place : ℕ) × (index : ℕ) × (causes : List SlotCause) × (report ≡ Says.ReadTooFew place index causes)

-- ---- recoveries

-- a command of an actor recovers a slot under this grant, and ended with this report
pub record IsRecovery (script : Script) (order : List Step) (actor number : ℕ) (g : Granted) (report : Report) : Type 0 where
  pub path : PathNames
  pub index : ℕ
  pub slot : ℕ
  pub event : Event
  pub recovers : command_of script actor number ≡ Some (Does.Recover path index slot)
  pub first : slice_get (steps_of actor number (events script order)) 0 ≡ Some event
  pub granted : event.reply ≡ From.Meta (Told.Granted g)
  pub ended : report_of (after script order) actor number ≡ Some report

-- the causes that a recovery met in its block. Its own slot isn't listed
abbrev pub causes_in_recovery : Granted → List Event → List SlotCause
causes_in_recovery g own = causes_met g.block g.sources own

-- a recovery replies that there are too few exactly where fewer than six slots are left
pub record TooFewInRecoveries (script : Script) (order : List Step) : Type 0 where
  pub told : (actor number index : ℕ) (causes : List SlotCause)
      → report_of (after script order) actor number ≡ Some (Says.TooFew index causes)
      → (g : Granted)
      × IsRecovery script order actor number g (Says.TooFew index causes)
      × (index ≡ g.block.index)
      × (causes ≡ causes_in_recovery g (steps_of actor number (events script order)))
      × IsTrue (leave_too_few causes)
  pub tells : (actor number : ℕ) (g : Granted) (report : Report)
      → IsRecovery script order actor number g report
      → IsTrue (leave_too_few (causes_in_recovery g (steps_of actor number (events script order))))
      → IsClosedWell (steps_of actor number (events script order))
      → report ≡ Says.TooFew g.block.index (causes_in_recovery g (steps_of actor number (events script order)))
