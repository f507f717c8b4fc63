-- Every get reads the bytes of its file, as long as six copies of each of its blocks are readable at each opening.
use Rattle.std.specs.Prelude.{◌≡◌, ℕ, ◌&&◌, nat_lt, not, Bool, true, false, List, [], slice_get, Option, Some, None, IsTrue}
use Rattle.std.specs.List.{list_all, list_any}
use Rattle.qfs_base.specs.FileReplies.{reply_at}
use Rattle.qfs_base.specs.Layout.{blocks_touched}
use Rattle.qfs_base.specs.NameTree.{PathNames}
use Rattle.qfs_base.specs.Shape.{Shape}
use Rattle.qfs_base.specs.declared.command.Command.TheVariants as Does
use Rattle.qfs_base.specs.declared.command.FileCommand.TheVariants as File
use Rattle.qfs_base.specs.declared.command.Range.{Range}
use Rattle.qfs_base.specs.declared.command.Reply.TheVariants as Says
use Rattle.qfs_base.specs.declared.history.FileReply.TheVariants as Told
use Rattle.qfs_base.specs.declared.history.Outcome.TheVariants as Ended
use Rattle.qfs_base.specs.declared.history.Step.{Step}
use Rattle.qfs_base.specs.declared.reply.Opened.{Opened}
use Rattle.qfs_base.specs.declared.request.NodeRequest.{NodeRequest}
use Rattle.qfs_base.specs.declared.request.NodeRequest.TheVariants as To
use Rattle.qfs_base.specs.declared.script.Script.{Script}
use Rattle.qfs_model_actor.specs.Get.{range_of}
use Rattle.qfs_model_actor.specs.Work.{Report}
use Rattle.qfs_model_meta.specs.Dropped.{dropped_at}
use Rattle.qfs_model_text.specs.Order.{same_outcome}
use Rattle.qfs_model_world.specs.Agrees.{end_of_range}
use Rattle.qfs_model_world.specs.Events.{Event, events, steps_of, place_before}
use Rattle.qfs_model_world.specs.HeldBlock.{is_held}
use Rattle.qfs_model_world.specs.Openings.{IsOpening, IsLastOpening}
use Rattle.qfs_model_world.specs.Puts.{command_of, puts_of}
use Rattle.qfs_model_world.specs.Reports.{report_of}
use Rattle.qfs_model_world.specs.World.{after}

-- whether a request goes to the metaserver
unfoldable pub is_to_meta : NodeRequest → Bool
is_to_meta (To.Meta request) = true
is_to_meta (To.Chunk server request) = false

-- whether a step found no memory, and whether the log's disks failed in it
unfoldable pub wants_memory_in : Event → Bool
wants_memory_in event = same_outcome event.outcome Ended.NoMemory

unfoldable pub fails_at_meta : Event → Bool
fails_at_meta event = is_to_meta event.request && same_outcome event.outcome Ended.Failed

-- the blocks of a range, in a file of so many bytes
unfoldable pub blocks_if_any : Shape → Range → ℕ → Bool → List ℕ
blocks_if_any layout range end true = blocks_touched layout.s layout.r range.from end
blocks_if_any layout range end false = []

unfoldable pub blocks_of_range : Shape → Range → ℕ → List ℕ
blocks_of_range layout range len =
    blocks_if_any layout range (end_of_range range len) (nat_lt range.from (end_of_range range len))

-- in each attempt of a get each block of its range of the file that was opened there is held
abbrev pub AreBlocksHeld : Shape → List Event → ℕ → ℕ → Option Range → Type 0
AreBlocksHeld layout steps actor number range =
    (i j : ℕ) (o : Opened) → IsOpening steps actor number i j o
    → IsTrue (list_all (is_held steps actor number i j o) (blocks_of_range layout (range_of range) o.len))

-- an actor isn't dropped when it takes step j
abbrev pub IsThereAt : List Event → ℕ → ℕ → Type 0
IsThereAt steps actor j =
    (event : Event) → slice_get steps j ≡ Some event → dropped_at actor event.before.meta.dropped ≡ None

-- a get is served well: memory was found, the log's disks didn't fail in it, its actor wasn't dropped when it released its
-- file for the last time, at step j, and its blocks are held
pub record IsServedWell (script : Script) (steps : List Event) (actor number j : ℕ) (range : Option Range) : Type 0 where
  pub memory : IsTrue (not (list_any wants_memory_in (steps_of actor number steps)))
  pub log_disk : IsTrue (not (list_any fails_at_meta (steps_of actor number steps)))
  pub not_dropped : IsThereAt steps actor j
  pub readable : AreBlocksHeld script.layout steps actor number range

-- a get that opened its file at step i replies with the bytes that its path has at the place of that opening, which is the
-- length of the history just before
pub record ReadsRight (script : Script) (order : List Step) (i : ℕ) (o : Opened) (path : PathNames) (range : Option Range) (report : Report) : Type 0 where
  pub bytes : List ℕ
  pub reply : report ≡ Says.Read o.place bytes
  pub right : reply_at (puts_of script) (after script order).meta.history o.place (File.Get path range) ≡ Told.Read bytes
  pub place : (event : Event) → slice_get (events script order) i ≡ Some event → o.place ≡ place_before event

-- every get that has ended, whose last opening was answered, and that was served well, reads right
abbrev pub EveryGet : Script → List Step → Type 0
EveryGet script order =
    (actor number i j : ℕ) (o : Opened) (path : PathNames) (range : Option Range) (report : Report)
    → command_of script actor number ≡ Some (Does.File (File.Get path range))
    → report_of (after script order) actor number ≡ Some report
    → IsOpening (events script order) actor number i j o
    → IsLastOpening (events script order) actor number j
    → IsServedWell script (events script order) actor number j range
    → ReadsRight script order i o path range report
