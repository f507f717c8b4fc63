-- Where no server is left for a chunk: a put, a recovery, a heal or an evacuation is told so exactly where there is none.
use Rattle.std.specs.Prelude.{◌≡◌, ◌≢◌, ℕ, ⊤, ◌==◌, ◌&&◌, ◌||◌, not, Bool, true, false, List, [], take, slice_get, Option, Some, None}
use Rattle.std.specs.List.{list_all, list_any, enumerate_from}
use Rattle.qfs_base.specs.NameTree.{PathNames}
use Rattle.qfs_base.specs.NumberSet.{has}
use Rattle.qfs_base.specs.declared.chunk.BlockId.{BlockId}
use Rattle.qfs_base.specs.declared.command.Command.{Command}
use Rattle.qfs_base.specs.declared.command.Command.TheVariants as Does
use Rattle.qfs_base.specs.declared.command.FileCommand.TheVariants as File
use Rattle.qfs_base.specs.declared.command.Reply.TheVariants as Says
use Rattle.qfs_base.specs.declared.history.Step.{Step}
use Rattle.qfs_base.specs.declared.image.MetaImage.{MetaImage}
use Rattle.qfs_base.specs.declared.image.ServerView.{ServerView}
use Rattle.qfs_base.specs.declared.recipe.Form.{Form}
use Rattle.qfs_base.specs.declared.reply.ChunkAnswer.{ChunkAnswer}
use Rattle.qfs_base.specs.declared.reply.ChunkAnswer.TheVariants as Did
use Rattle.qfs_base.specs.declared.reply.Granted.{Granted}
use Rattle.qfs_base.specs.declared.reply.MetaReply.TheVariants as Told
use Rattle.qfs_base.specs.declared.reply.NodeReply.{NodeReply}
use Rattle.qfs_base.specs.declared.reply.NodeReply.TheVariants as From
use Rattle.qfs_base.specs.declared.request.ChunkRequest.{ChunkRequest}
use Rattle.qfs_base.specs.declared.request.ChunkRequest.TheVariants as Serve
use Rattle.qfs_base.specs.declared.request.MetaRequest.TheVariants as Ask
use Rattle.qfs_base.specs.declared.request.NodeRequest.{NodeRequest}
use Rattle.qfs_base.specs.declared.request.NodeRequest.TheVariants as To
use Rattle.qfs_base.specs.declared.script.Script.{Script}
use Rattle.qfs_model_actor.specs.Work.{Report}
use Rattle.qfs_model_meta.specs.Placing.{census, choose, barred_for_block, with_live_servers}
use Rattle.qfs_model_meta.specs.Servers.{takes_chunks}
use Rattle.qfs_model_meta.specs.Slots.{same_block, grants_of_block}
use Rattle.qfs_model_world.specs.Events.{Event, events, steps_of}
use Rattle.qfs_model_world.specs.Puts.{command_of}
use Rattle.qfs_model_world.specs.Reports.{report_of}
use Rattle.qfs_model_world.specs.World.{after}
use Rattle.qfs_model_promises.specs.Closing.{IsClosedWell}
use Rattle.qfs_model_promises.specs.Requests.{asks_server}

-- ---- a put

-- whether a request is a Put of a slot
unfoldable pub puts_slot : BlockId → ℕ → ChunkRequest → Bool
puts_slot block slot (Serve.Put key life bytes) = same_block key.block block && (key.slot == slot)
puts_slot block slot request = false

-- whether a Put failed: its server was down, in another life, or its device failed
unfoldable pub is_failure : ChunkAnswer → Bool
is_failure Did.Down = true
is_failure (Did.Lost asked now) = true
is_failure Did.Fault = true
is_failure answer = false

unfoldable pub tells_failure : NodeReply → Bool
tells_failure (From.Chunk reply) = is_failure reply.answer
tells_failure (From.Meta reply) = false

unfoldable pub is_failed_put : BlockId → ℕ → ℕ → Event → Bool
is_failed_put block slot server event = asks_server (puts_slot block slot) server event.request && tells_failure event.reply

-- whether a server may get no chunk of a slot that these steps of a put were to store: it is down or leaving, has a live grant
-- of the block, or failed a Put of the slot
unfoldable pub has_live_grant : MetaImage → BlockId → ℕ → Bool
has_live_grant m block server = has (with_live_servers m.servers [] (grants_of_block block m.slots)) server

unfoldable pub is_closed_to : MetaImage → BlockId → ℕ → List Event → ℕ × ServerView → Bool
is_closed_to m block slot own server =
    not (takes_chunks server.1)
    || has_live_grant m block server.0
    || list_any (is_failed_put block slot server.0) own

unfoldable pub has_no_server : MetaImage → BlockId → ℕ → List Event → Bool
has_no_server m block slot own = list_all (is_closed_to m block slot own) (enumerate_from 1 m.servers)

-- a step that asks for a server for a slot is told that there is none exactly where there is none, by the steps of its
-- command before it
pub record GrantTells (own : List Event) (event : Event) (block : BlockId) (slot : ℕ) : Type 0 where
  pub told : event.reply ≡ From.Meta (Told.NoServer block slot)
      → has_no_server event.before.meta block slot own ≡ true
  pub tells : (g : Granted) → event.reply ≡ From.Meta (Told.Granted g)
      → has_no_server event.before.meta block slot own ≡ false

-- ---- recoveries, heals and evacuations

-- the server that is chosen for another copy of a block, if one is left
abbrev pub chosen_for : MetaImage → BlockId → Option ℕ
chosen_for m block = choose (census m.servers m.slots) (barred_for_block m.servers m.slots block)

-- a step that asks for the next slot to recover or to evacuate is told that there is none exactly where placement finds none
pub record RepairTells (event : Event) : Type 0 where
  pub told : (block : BlockId) (slot : ℕ) → event.reply ≡ From.Meta (Told.NoServer block slot)
      → chosen_for event.before.meta block ≡ None
  pub tells : (g : Granted) → event.reply ≡ From.Meta (Told.Granted g)
      → chosen_for event.before.meta g.block ≢ None

-- ---- all steps

abbrev pub ServerIsTold : List Event → Event → NodeRequest → Type 0
ServerIsTold own event (To.Meta (Ask.Grant file index slot again)) =
    GrantTells own event (record { file = file; index = index }) slot
ServerIsTold own event (To.Meta (Ask.RecoverAt path index slot)) = RepairTells event
ServerIsTold own event (To.Meta (Ask.HealNext after)) = RepairTells event
ServerIsTold own event (To.Meta (Ask.EvacNext server after)) = RepairTells event
ServerIsTold own event request = ⊤

-- each step that asks for a server is answered so
abbrev pub ServersAreTold : Script → List Step → Type 0
ServersAreTold script order =
    (i : ℕ) (event : Event) → slice_get (events script order) i ≡ Some event
    → ServerIsTold (steps_of event.actor event.command (take i (events script order))) event event.request

-- ---- replies

-- one of these steps was told that there is no server for this slot
pub record WasTold (own : List Event) (block : BlockId) (slot : ℕ) : Type 0 where
  pub i : ℕ
  pub event : Event
  pub at : slice_get own i ≡ Some event
  pub told : event.reply ≡ From.Meta (Told.NoServer block slot)

-- a put that replies so was told so, and a put that is told so replies so
pub record NoServerInPuts (script : Script) (order : List Step) : Type 0 where
  pub told : (actor number place index slot : ℕ)
      → report_of (after script order) actor number ≡ Some (Says.PutNoServer place index slot)
      → (file : ℕ)
      × WasTold (steps_of actor number (events script order)) (record { file = file; index = index }) slot
  pub tells : (actor number : ℕ) (path : PathNames) (recipe : Form) (report : Report) (block : BlockId) (slot : ℕ)
      → command_of script actor number ≡ Some (Does.File (File.Put path recipe))
      → report_of (after script order) actor number ≡ Some report
      → WasTold (steps_of actor number (events script order)) block slot
      → IsClosedWell (steps_of actor number (events script order))
      → (place : ℕ) × (report ≡ Says.PutNoServer place block.index slot)

-- whether a command recovers slots or moves them off a server
unfoldable pub asks_for_servers : Command → Bool
asks_for_servers (Does.Recover path index slot) = true
asks_for_servers (Does.Heal budget) = true
asks_for_servers (Does.Evacuate server budget) = true
asks_for_servers command = false

-- a report says that there is no server for a slot of a closed file
abbrev pub SaysNoServer : BlockId → ℕ → Report → Type 0
SaysNoServer block slot (Says.NoServer at of_slot) = (at ≡ block) × (of_slot ≡ slot)
SaysNoServer block slot (Says.HealNoServer healed failed at of_slot) = (at ≡ block) × (of_slot ≡ slot)
SaysNoServer block slot (Says.EvacNoServer moved failed at of_slot) = (at ≡ block) × (of_slot ≡ slot)
SaysNoServer block slot report = ⊥

-- such a command that replies so was told so, and one that is told so replies so: it ends with that answer
pub record NoServerInRepairs (script : Script) (order : List Step) : Type 0 where
  pub told : (actor number : ℕ) (report : Report) (block : BlockId) (slot : ℕ)
      → report_of (after script order) actor number ≡ Some report
      → SaysNoServer block slot report
      → WasTold (steps_of actor number (events script order)) block slot
  pub tells : (actor number : ℕ) (command : Command) (report : Report) (block : BlockId) (slot : ℕ)
      → command_of script actor number ≡ Some command
      → asks_for_servers command ≡ true
      → report_of (after script order) actor number ≡ Some report
      → WasTold (steps_of actor number (events script order)) block slot
      → SaysNoServer block slot report
