-- How many requests a command asks at most, whatever the nodes answer.
use Rattle.std.specs.Prelude.{ℕ, zero, suc, ◌+◌, ◌-◌, ◌*◌, ◌≤◌, length, drop, sum_by, Option, Some, None, ⊤}
use Rattle.qfs_base.specs.Layout.{blocks_of}
use Rattle.qfs_base.specs.Recipe.{IsRecipe, bytes_of}
use Rattle.qfs_base.specs.Shape.{Shape}
use Rattle.qfs_base.specs.Sizes.{SLOTS, MOST_FILE_BYTES}
use Rattle.qfs_base.specs.declared.command.Command.{Command}
use Rattle.qfs_base.specs.declared.command.Command.TheVariants as Does
use Rattle.qfs_base.specs.declared.command.FileCommand.{FileCommand}
use Rattle.qfs_base.specs.declared.command.FileCommand.TheVariants as File
use Rattle.qfs_base.specs.declared.reply.NodeReply.{NodeReply}
use Rattle.qfs_base.specs.declared.request.NodeRequest.{NodeRequest}
use Rattle.qfs_base.specs.declared.rules.Rules.{Rules}
use Rattle.qfs_model_actor.specs.Work.{Work, ends, asks}
use Rattle.qfs_model_actor.specs.Put.{MOST_GRANTS}
use Rattle.qfs_model_actor.specs.Actor.{Actor, request_of}

-- the work asks at most n more requests
abbrev pub AsksAtMost : ℕ → Work → Type 0
AsksAtMost n (ends report) = ⊤
AsksAtMost zero (asks request next) = ⊥
AsksAtMost (suc n) (asks request next) = (reply : NodeReply) → AsksAtMost n (next reply)

-- a slot of a put: each grant with its Put, a grant that is none any more, and the Abort
abbrev pub steps_of_slot : ℕ
steps_of_slot = 2 * MOST_GRANTS + 2

-- a put: Create, the slots of all blocks, Close and Abort
abbrev pub steps_of_put : Shape → ℕ → ℕ
steps_of_put layout len = blocks_of layout.s layout.r len * (SLOTS * steps_of_slot) + 3

-- an attempt of a get: OpenFile, each slot of each window of each block, and no window has less than a row, and Release
abbrev pub steps_of_attempt : Shape → ℕ
steps_of_attempt layout = blocks_of layout.s layout.r MOST_FILE_BYTES * (layout.r * SLOTS) + 2

-- a get: its first attempt, and as many more as it may make
abbrev pub steps_of_get : Shape → ℕ → ℕ
steps_of_get layout tries = (tries - 1) * steps_of_attempt layout + steps_of_attempt layout

-- the most windows of a chunk
abbrev pub MOST_WINDOWS : ℕ
MOST_WINDOWS = 64

-- a slot that is recovered: its grant, each slot of each window, Put, Confirm and Abandon
abbrev pub steps_of_recovery : ℕ
steps_of_recovery = MOST_WINDOWS * SLOTS + 4

-- a slot that is moved: its grant, each window, Put, Confirm and Abandon
abbrev pub steps_of_move : ℕ
steps_of_move = MOST_WINDOWS + 4

unfoldable pub most_file_steps : Rules → FileCommand → ℕ
most_file_steps rules (File.Put path recipe) = steps_of_put rules.layout (length (bytes_of recipe))
most_file_steps rules (File.Get path range) = steps_of_get rules.layout rules.tries
most_file_steps rules other = 1

-- how many requests a command asks at most
unfoldable pub most_steps : Rules → Command → ℕ
most_steps rules (Does.File command) = most_file_steps rules command
most_steps rules (Does.Recover path index slot) = steps_of_recovery
most_steps rules (Does.Move path index slot server) = steps_of_move
most_steps rules (Does.Heal budget) = budget * steps_of_recovery
most_steps rules (Does.Rebalance budget) = budget * steps_of_move
most_steps rules (Does.Evacuate server budget) = budget * steps_of_move + 2
most_steps rules (Does.Sweep budget) = budget * 3
most_steps rules (Does.Stop server) = 2
most_steps rules (Does.Start server) = 3
most_steps rules (Does.Wipe server) = 3
most_steps rules (Does.Hibernate server ticks) = 2
most_steps rules (Does.Upgrade server) = 1
most_steps rules Does.Tick = 1
most_steps rules (Does.Drop actor) = 1
most_steps rules Does.Checkpoint = 1
most_steps rules Does.Restart = 1

-- how many requests the commands that haven't ended ask at most, but for those that the present one has asked
abbrev pub steps_ahead : Actor → ℕ
steps_ahead actor =
    sum_by (most_steps actor.rules) (drop (length actor.ended) actor.commands) - length actor.heard

unfoldable pub if_asking : ℕ → Option NodeRequest → ℕ
if_asking steps None = 0
if_asking steps (Some request) = steps

-- how many steps an actor has left at most; none where it has finished
unfoldable pub left : Actor → ℕ
left actor = if_asking (steps_ahead actor) (request_of actor)

-- what a script bounds: the bytes of a put, and the budgets
abbrev pub IsFileInRange : FileCommand → Type 0
IsFileInRange (File.Put path recipe) = IsRecipe recipe
IsFileInRange other = ⊤

abbrev pub IsBudget : ℕ → Type 0
IsBudget budget = budget ≤ 100000

abbrev pub IsInRange : Command → Type 0
IsInRange (Does.File command) = IsFileInRange command
IsInRange (Does.Heal budget) = IsBudget budget
IsInRange (Does.Rebalance budget) = IsBudget budget
IsInRange (Does.Evacuate server budget) = IsBudget budget
IsInRange (Does.Sweep budget) = IsBudget budget
IsInRange other = ⊤
