-- What a command comes to where nothing stands in its way. A get reads: that is every get's own statement.
use Rattle.std.specs.Prelude.{◌≡◌, ℕ, ⊤, ◌≤◌, ◌&&◌, not, Bool, true, false, List, length, count_by, slice_get, Option, Some, None}
use Rattle.std.specs.List.{list_all}
use Rattle.qfs_base.specs.Mask.{all_slots}
use Rattle.qfs_base.specs.NameTree.{PathNames, add_refusal}
use Rattle.qfs_base.specs.Recipe.{bytes_of}
use Rattle.qfs_base.specs.Sizes.{SLOTS, DATA_SLOTS}
use Rattle.qfs_base.specs.Table.{Each}
use Rattle.qfs_base.specs.declared.chunk.BlockId.{BlockId}
use Rattle.qfs_base.specs.declared.chunk.Copy.{Copy}
use Rattle.qfs_base.specs.declared.command.Command.{Command}
use Rattle.qfs_base.specs.declared.command.Command.TheVariants as Does
use Rattle.qfs_base.specs.declared.command.FileCommand.{FileCommand}
use Rattle.qfs_base.specs.declared.command.FileCommand.TheVariants as File
use Rattle.qfs_base.specs.declared.command.Reply.TheVariants as Says
use Rattle.qfs_base.specs.declared.history.Outcome.TheVariants as Ended
use Rattle.qfs_base.specs.declared.history.Step.{Step}
use Rattle.qfs_base.specs.declared.recipe.Form.{Form}
use Rattle.qfs_base.specs.declared.reply.ChunkAnswer.{ChunkAnswer}
use Rattle.qfs_base.specs.declared.reply.ChunkAnswer.TheVariants as Did
use Rattle.qfs_base.specs.declared.reply.Granted.{Granted}
use Rattle.qfs_base.specs.declared.reply.MetaReply.TheVariants as Told
use Rattle.qfs_base.specs.declared.reply.NodeReply.{NodeReply}
use Rattle.qfs_base.specs.declared.reply.NodeReply.TheVariants as From
use Rattle.qfs_base.specs.declared.request.ChunkRequest.{ChunkRequest}
use Rattle.qfs_base.specs.declared.script.Script.{Script}
use Rattle.qfs_model_actor.specs.Grants.{source_of}
use Rattle.qfs_model_actor.specs.Work.{Report}
use Rattle.qfs_model_meta.specs.Dropped.{dropped_at}
use Rattle.qfs_model_meta.specs.Servers.{takes_chunks}
use Rattle.qfs_model_meta.specs.TreeRows.{standing, file_stands}
use Rattle.qfs_model_world.specs.Events.{Event, events, steps_of}
use Rattle.qfs_model_world.specs.EveryGet.{EveryGet}
use Rattle.qfs_model_world.specs.HeldBlock.{is_fetch_of}
use Rattle.qfs_model_world.specs.Puts.{command_of}
use Rattle.qfs_model_world.specs.Reports.{report_of}
use Rattle.qfs_model_world.specs.World.{after}
use Rattle.qfs_model_promises.specs.Requests.{is_put, is_fetch, is_create, is_grant, is_confirm, asks_meta, asks_chunk}
use Rattle.qfs_model_promises.specs.TooFew.{IsRecovery, copy_listed}

-- a step found its memory, no device or disk failed in it, and its actor hadn't been dropped
pub record GoesWell (event : Event) : Type 0 where
  pub done : event.outcome ≡ Ended.Done
  pub there : dropped_at event.actor event.before.meta.dropped ≡ None

-- each request that passes the test was answered so
abbrev pub IsAnswered : NodeReply → ChunkAnswer → Type 0
IsAnswered (From.Chunk reply) answer = reply.answer ≡ answer
IsAnswered (From.Meta reply) answer = ⊥

abbrev pub AllAnswered : (ChunkRequest → Bool) → ChunkAnswer → List Event → Type 0
AllAnswered test answer own =
    Each (λ (event : Event). asks_chunk test event.request ≡ true → IsAnswered event.reply answer) own

-- ---- puts

-- at a put's Create its path is free and lies in a directory; and at its Grants nine servers take chunks
abbrev pub IsFreeAt : PathNames → Event → Type 0
IsFreeAt path event =
    asks_meta is_create event.request ≡ true → add_refusal (standing event.before.meta.tree) path ≡ None

abbrev pub HasServersAt : Event → Type 0
HasServersAt event =
    asks_meta is_grant event.request ≡ true → SLOTS ≤ count_by takes_chunks event.before.meta.servers

pub record IsPutWell (own : List Event) (path : PathNames) : Type 0 where
  pub well : Each GoesWell own
  pub free : Each (IsFreeAt path) own
  pub servers : Each HasServersAt own
  pub stored : AllAnswered is_put Did.Stored own

abbrev pub PutsStore : Script → List Step → Type 0
PutsStore script order =
    (actor number : ℕ) (path : PathNames) (recipe : Form) (report : Report)
    → command_of script actor number ≡ Some (Does.File (File.Put path recipe))
    → report_of (after script order) actor number ≡ Some report
    → IsPutWell (steps_of actor number (events script order)) path
    → (place : ℕ) × (report ≡ Says.Stored place (length (bytes_of recipe)))

-- ---- recoveries and moves

-- the grant is stored, and its file stands when it is confirmed
abbrev pub StandsAt : Granted → Event → Type 0
StandsAt g event =
    asks_meta is_confirm event.request ≡ true → file_stands g.block.file event.before.meta.tree ≡ true

pub record IsSettled (own : List Event) (g : Granted) : Type 0 where
  pub well : Each GoesWell own
  pub stored : AllAnswered is_put Did.Stored own
  pub stands : Each (StandsAt g) own

unfoldable pub is_bytes : ChunkAnswer → Bool
is_bytes Did.Fetched = true
is_bytes answer = false

-- whether a listed slot answered each Fetch of it with bytes
unfoldable pub is_fetched : NodeReply → Bool
is_fetched (From.Chunk reply) = is_bytes reply.answer
is_fetched (From.Meta reply) = false

unfoldable pub fetches_well : BlockId → ℕ → Event → Bool
fetches_well block slot event = not (is_fetch_of block slot event.request && not (is_fetched event.reply))

unfoldable pub answers_fetches : BlockId → ℕ → List Event → Option Copy → Bool
answers_fetches block slot own None = false
answers_fetches block slot own (Some copy) = list_all (fetches_well block slot) own

-- six listed slots did
abbrev pub SixAnswer : List Event → Granted → Type 0
SixAnswer own g =
    DATA_SLOTS ≤ count_by (λ slot. answers_fetches g.block slot own (copy_listed g.sources slot)) all_slots

abbrev pub RecoveriesEnd : Script → List Step → Type 0
RecoveriesEnd script order =
    (actor number : ℕ) (g : Granted) (report : Report)
    → IsRecovery script order actor number g report
    → IsSettled (steps_of actor number (events script order)) g
    → SixAnswer (steps_of actor number (events script order)) g
    → report ≡ Says.Recovered g.block g.slot g.server g.version

-- a command of an actor moves a copy under this grant, and ended with this report
pub record IsMove (script : Script) (order : List Step) (actor number : ℕ) (g : Granted) (report : Report) : Type 0 where
  pub path : PathNames
  pub index : ℕ
  pub slot : ℕ
  pub to : ℕ
  pub event : Event
  pub moves : command_of script actor number ≡ Some (Does.Move path index slot to)
  pub first : slice_get (steps_of actor number (events script order)) 0 ≡ Some event
  pub granted : event.reply ≡ From.Meta (Told.Granted g)
  pub ended : report_of (after script order) actor number ≡ Some report

abbrev pub MovesEnd : Script → List Step → Type 0
MovesEnd script order =
    (actor number : ℕ) (g : Granted) (report : Report)
    → IsMove script order actor number g report
    → IsSettled (steps_of actor number (events script order)) g
    → AllAnswered is_fetch Did.Fetched (steps_of actor number (events script order))
    → (source : Copy) × (source_of g ≡ Some source)
    × (report ≡ Says.Moved g.block g.slot source.server g.server g.version)

-- ---- the other commands of one request

abbrev pub IsDoneOrRefused : Report → Type 0
IsDoneOrRefused (Says.Done place) = ⊤
IsDoneOrRefused (Says.Refused place refusal) = ⊤
IsDoneOrRefused report = ⊥

abbrev pub IsListedOrRefused : Report → Type 0
IsListedOrRefused (Says.Listed place names) = ⊤
IsListedOrRefused (Says.Refused place refusal) = ⊤
IsListedOrRefused report = ⊥

-- such a command ends with its success, or with a refusal of the name tree
abbrev pub EndsNamedFile : FileCommand → Report → Type 0
EndsNamedFile (File.Mkdir path) report = IsDoneOrRefused report
EndsNamedFile (File.Rmdir path) report = IsDoneOrRefused report
EndsNamedFile (File.Remove path) report = IsDoneOrRefused report
EndsNamedFile (File.Rename from to) report = IsDoneOrRefused report
EndsNamedFile (File.List path) report = IsListedOrRefused report
EndsNamedFile (File.Put path recipe) report = ⊤
EndsNamedFile (File.Get path range) report = ⊤

abbrev pub EndsNamed : Command → Report → Type 0
EndsNamed (Does.File command) report = EndsNamedFile command report
EndsNamed Does.Tick report = (now : ℕ) × (report ≡ Says.Clock now)
EndsNamed (Does.Drop actor) report = report ≡ Says.DropDone
EndsNamed Does.Checkpoint report = (turn : ℕ) × (report ≡ Says.Saved turn)
EndsNamed Does.Restart report = (turn : ℕ) × (report ≡ Says.Restarted turn)
EndsNamed command report = ⊤

abbrev pub OthersEnd : Script → List Step → Type 0
OthersEnd script order =
    (actor number : ℕ) (command : Command) (report : Report)
    → command_of script actor number ≡ Some command
    → report_of (after script order) actor number ≡ Some report
    → Each GoesWell (steps_of actor number (events script order))
    → EndsNamed command report

-- ---- all commands

pub record CommandsSucceed (script : Script) (order : List Step) : Type 0 where
  pub puts : PutsStore script order
  pub gets : EveryGet script order
  pub recoveries : RecoveriesEnd script order
  pub moves : MovesEnd script order
  pub others : OthersEnd script order
