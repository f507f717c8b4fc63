-- Which scripts there are: the ranges of the numbers in them, and the limits on how much they ask for. The limits on the bytes
-- and lines of a script's text are those of reading it, and no script that was read says more than they allow.
use Rattle.std.specs.Prelude.{ℕ, ⊤, ◌*◌, ◌<◌, ◌≤◌, ◌^◌, List, length, flat_map, filter_map, sum_by, Option, Some, None, IfSome}
use Rattle.std.specs.List.{range_with_len}
use Rattle.qfs_base.specs.Layout.{blocks_of, rows_of}
use Rattle.qfs_base.specs.Path.{IsPath}
use Rattle.qfs_base.specs.Recipe.{IsRecipe, bytes_of}
use Rattle.qfs_base.specs.Shape.{Shape, IsStripe, IsRowCount}
use Rattle.qfs_base.specs.Sizes.{SLOTS, MOST_FILE_BYTES, MOST_SERVERS}
use Rattle.qfs_base.specs.Table.{Each}
use Rattle.qfs_base.specs.declared.command.Command.{Command}
use Rattle.qfs_base.specs.declared.command.Command.TheVariants as Does
use Rattle.qfs_base.specs.declared.command.FileCommand.{FileCommand}
use Rattle.qfs_base.specs.declared.command.FileCommand.TheVariants as File
use Rattle.qfs_base.specs.declared.command.Range.{Range}
use Rattle.qfs_base.specs.declared.history.Step.{Step}
use Rattle.qfs_base.specs.declared.recipe.Form.{Form}
use Rattle.qfs_base.specs.declared.script.Script.{Script}
use Rattle.qfs_model_script.specs.Limits.{MOST_PHASES, MOST_ACTORS, MOST_COMMANDS, MOST_BLOCKS_OF_PUT, MOST_BLOCKS, MOST_BYTES_OF_CHUNKS, LAST_INDEX, MOST_BUDGET, MOST_TICKS}

-- ---- the numbers of a command

-- a number from 1 up to a last one
abbrev pub IsFromOne : ℕ → ℕ → Type 0
IsFromOne last number = (1 ≤ number) × (number ≤ last)

-- the index of a block, and a slot of it
abbrev pub IsIndex : ℕ → Type 0
IsIndex index = index ≤ LAST_INDEX

abbrev pub IsSlot : ℕ → Type 0
IsSlot slot = slot < SLOTS

-- how often a heal, rebalance, evacuation or sweep goes on at most, how long a server hibernates, and an actor's number
abbrev pub IsBudget : ℕ → Type 0
IsBudget budget = IsFromOne MOST_BUDGET budget

abbrev pub IsTicks : ℕ → Type 0
IsTicks ticks = IsFromOne MOST_TICKS ticks

abbrev pub IsActorNumber : ℕ → Type 0
IsActorNumber actor = IsFromOne MOST_ACTORS actor

-- a range of a file's bytes
abbrev pub IsRange : Range → Type 0
IsRange range = (range.from ≤ MOST_FILE_BYTES) × (range.count ≤ MOST_FILE_BYTES)

-- the bytes and numbers of a recipe
abbrev pub IsByte : ℕ → Type 0
IsByte byte = byte < 256

abbrev pub HasBytes : Form → Type 0
HasBytes (Form.Hex bytes) = Each IsByte bytes
HasBytes (Form.Fill byte len) = IsByte byte
HasBytes (Form.Pattern start len) = start < 2 ^ 32

-- ---- commands

abbrev pub IsFileCommand : FileCommand → Type 0
IsFileCommand (File.Mkdir path) = IsPath path
IsFileCommand (File.Rmdir path) = IsPath path
IsFileCommand (File.Remove path) = IsPath path
IsFileCommand (File.Rename from to) = IsPath from × IsPath to
IsFileCommand (File.List path) = IsPath path
IsFileCommand (File.Put path recipe) = IsPath path × IsRecipe recipe × HasBytes recipe
IsFileCommand (File.Get path range) = IsPath path × IfSome range IsRange

-- a command of a script with so many servers
abbrev pub IsCommand : ℕ → Command → Type 0
IsCommand servers (Does.File command) = IsFileCommand command
IsCommand servers (Does.Recover path index slot) = IsPath path × IsIndex index × IsSlot slot
IsCommand servers (Does.Move path index slot server) =
    IsPath path × IsIndex index × IsSlot slot × IsFromOne servers server
IsCommand servers (Does.Heal budget) = IsBudget budget
IsCommand servers (Does.Rebalance budget) = IsBudget budget
IsCommand servers (Does.Evacuate server budget) = IsFromOne servers server × IsBudget budget
IsCommand servers (Does.Sweep budget) = IsBudget budget
IsCommand servers (Does.Stop server) = IsFromOne servers server
IsCommand servers (Does.Start server) = IsFromOne servers server
IsCommand servers (Does.Wipe server) = IsFromOne servers server
IsCommand servers (Does.Hibernate server ticks) = IsFromOne servers server × IsTicks ticks
IsCommand servers (Does.Upgrade server) = IsFromOne servers server
IsCommand servers Does.Tick = ⊤
IsCommand servers (Does.Drop actor) = IsActorNumber actor
IsCommand servers Does.Checkpoint = ⊤
IsCommand servers Does.Restart = ⊤

-- ---- how much a script asks for

-- the actors' commands, by number
abbrev pub actors_of : Script → List (List Command)
actors_of script = flat_map (λ phase. phase) script.phases

-- how many bytes a command puts, if it is a put; and the puts of all actors
unfoldable pub len_put : Command → Option ℕ
len_put (Does.File (File.Put path recipe)) = Some (length (bytes_of recipe))
len_put command = None

abbrev pub lens_put : Script → List ℕ
lens_put script = filter_map len_put (flat_map (λ commands. commands) (actors_of script))

-- how many blocks a file of so many bytes has, and how many bytes its chunks have together, with the parity slots and with the
-- zeros that fill its last row
abbrev pub blocks_in : Shape → ℕ → ℕ
blocks_in layout len = blocks_of layout.s layout.r len

abbrev pub chunk_bytes_of_block : Shape → ℕ → ℕ → ℕ
chunk_bytes_of_block layout len index = SLOTS * (rows_of layout.s layout.r len index * layout.s)

abbrev pub chunk_bytes_in : Shape → ℕ → ℕ
chunk_bytes_in layout len = sum_by (chunk_bytes_of_block layout len) (range_with_len 0 (blocks_in layout len))

-- ---- scripts

-- a term of 0 ticks says that leases last
pub record IsScript (script : Script) : Type 0 where
  pub stripe : IsStripe script.layout.s
  pub rows : IsRowCount script.layout.r
  pub servers : IsFromOne MOST_SERVERS script.servers
  pub term : script.term ≤ MOST_TICKS
  pub phases : IsFromOne MOST_PHASES (length script.phases)
  pub few_actors : length (actors_of script) ≤ MOST_ACTORS
  pub few_commands : Each (λ commands. length commands ≤ MOST_COMMANDS) (actors_of script)
  pub commands : Each (Each (IsCommand script.servers)) (actors_of script)
  pub blocks_of_put : Each (λ len. blocks_in script.layout len ≤ MOST_BLOCKS_OF_PUT) (lens_put script)
  pub blocks : sum_by (blocks_in script.layout) (lens_put script) ≤ MOST_BLOCKS
  pub chunk_bytes : sum_by (chunk_bytes_in script.layout) (lens_put script) ≤ MOST_BYTES_OF_CHUNKS
  pub order : IfSome script.order (Each (λ (step : Step). IsActorNumber step.actor))
