-- What a file's bytes are, and when a copy of one of its chunks is right.
use Rattle.std.specs.Prelude.{ℕ, ◌==◌, List, [], find, filter_map, Option, Some, None, unwrap_or}
use Rattle.std.specs.Option.{option_map}
use Rattle.qfs_base.specs.Shape.{Shape}
use Rattle.qfs_base.specs.declared.chunk.ChunkKey.{ChunkKey}
use Rattle.qfs_base.specs.declared.reply.MetaReply.{MetaReply}
use Rattle.qfs_base.specs.declared.reply.MetaReply.TheVariants as Told
use Rattle.qfs_base.specs.declared.reply.NodeReply.{NodeReply}
use Rattle.qfs_base.specs.declared.reply.NodeReply.TheVariants as From
use Rattle.qfs_base.specs.declared.script.Script.{Script}
use Rattle.qfs_model_slot.specs.Slot.{slot_of}
use Rattle.qfs_model_world.specs.Events.{Event}
use Rattle.qfs_model_world.specs.Puts.{puts_of}

-- a file was created by a command of an actor
pub record Creation : Type 0 where
  pub file : ℕ
  pub actor : ℕ
  pub command : ℕ

-- the file that a step created
unfoldable pub created_by : ℕ → ℕ → MetaReply → Option Creation
created_by actor command (Told.Created file place) =
    Some (record { file = file; actor = actor; command = command })
created_by actor command reply = None

unfoldable pub creation_told : ℕ → ℕ → NodeReply → Option Creation
creation_told actor command (From.Meta reply) = created_by actor command reply
creation_told actor command (From.Chunk reply) = None

unfoldable pub creations : List Event → List Creation
creations steps = filter_map (λ (event : Event). creation_told event.actor event.command event.reply) steps

-- who created a file in these steps
unfoldable pub creation_of : ℕ → List Event → Option Creation
creation_of file steps = find (λ (c : Creation). c.file == file) (creations steps)

-- the bytes of a file: those of the put whose creation it was
unfoldable pub made : Script → List Event → ℕ → List ℕ
made script steps file =
    unwrap_or (option_map (λ (c : Creation). puts_of script c.actor c.command) (creation_of file steps)) []

-- the right bytes of a copy under a key, where the files have these bytes
unfoldable pub right_bytes : Shape → (ℕ → List ℕ) → ChunkKey → List ℕ
right_bytes layout bytes key = slot_of layout (bytes key.block.file) key.block.index key.slot
