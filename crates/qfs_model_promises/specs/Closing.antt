-- How a command closes: a request behind its failure gives back what it holds. Where that request finds no memory, no log or
-- a dropped actor, its answer is the reply of the command.
use Rattle.std.specs.Prelude.{◌≡◌, ◌-◌, Bool, true, false, List, length, slice_get, Some}
use Rattle.qfs_base.specs.declared.reply.MetaReply.{MetaReply}
use Rattle.qfs_base.specs.declared.reply.MetaReply.TheVariants as Told
use Rattle.qfs_base.specs.declared.reply.NodeReply.{NodeReply}
use Rattle.qfs_base.specs.declared.reply.NodeReply.TheVariants as From
use Rattle.qfs_model_world.specs.Events.{Event}

-- whether an answer ends every command
unfoldable pub ends_command : MetaReply → Bool
ends_command (Told.Dropped turn) = true
ends_command Told.LogFault = true
ends_command Told.NoMemory = true
ends_command reply = false

unfoldable pub is_ending : NodeReply → Bool
is_ending (From.Meta reply) = ends_command reply
is_ending (From.Chunk reply) = false

-- the last of a command's steps wasn't answered so
abbrev pub IsClosedWell : List Event → Type 0
IsClosedWell own = (event : Event) → slice_get own (length own - 1) ≡ Some event → is_ending event.reply ≡ false
