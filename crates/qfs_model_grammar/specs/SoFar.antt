-- What was read of a script so far, and how one more line goes on.
use Rattle.std.specs.Prelude.{ℕ, ◌+◌, ◌*◌, ◌/◌, ◌%◌, ◌&&◌, nat_lt, nat_le, Bool, true, false, List, [], ◌∷◌, ◌++◌, length, Some, None, Ok}
use Rattle.std.specs.Int.{div_ceil}
use Rattle.qfs_base.specs.Layout.{row_bytes, block_bytes}
use Rattle.qfs_base.specs.Order.{steps_of_runs}
use Rattle.qfs_base.specs.Shape.{Shape}
use Rattle.qfs_base.specs.Sizes.{SLOTS, MOST_ROWS, MOST_SERVERS}
use Rattle.qfs_base.specs.declared.command.Command.{Command}
use Rattle.qfs_base.specs.declared.command.Command.TheVariants as Does
use Rattle.qfs_base.specs.declared.command.FileCommand.TheVariants as File
use Rattle.qfs_base.specs.declared.recipe.Form.{Form}
use Rattle.qfs_base.specs.declared.recipe.Form.TheVariants as Told
use Rattle.qfs_base.specs.declared.script.Script.{Script}
use Rattle.qfs_base.specs.declared.script.ScriptCause.TheVariants as Cause
use Rattle.qfs_model_script.specs.InScript.{blocks_in}
use Rattle.qfs_model_script.specs.Limits.{MOST_PHASES, MOST_ACTORS, MOST_COMMANDS, MOST_BLOCKS_OF_PUT, MOST_BLOCKS, MOST_BYTES_OF_CHUNKS, MOST_TICKS}
use Rattle.qfs_model_text.specs.Line.{Words}
use Rattle.qfs_model_grammar.specs.CommandLines.{command_of}
use Rattle.qfs_model_grammar.specs.CommandWord.{CommandWord}
use Rattle.qfs_model_grammar.specs.Counts.{no_word, one_word, two_words}
use Rattle.qfs_model_grammar.specs.FirstWord.{FirstWord}
use Rattle.qfs_model_grammar.specs.FirstWord as First
use Rattle.qfs_model_grammar.specs.Kinds.{number_in, stripe_in, run_in}
use Rattle.qfs_model_grammar.specs.LinePlace.{LinePlace}
use Rattle.qfs_model_grammar.specs.LinePlace as Behind
use Rattle.qfs_model_grammar.specs.Said.{Said, ◌>>=◌, if_kept, read_each}

-- the script that the lines so far say, behind which of them the next one stands, and what the limits are on:
-- the actors of all phases, the commands of the last actor, and the blocks and chunk bytes of all puts
pub record SoFar : Type 0 where
  pub place : LinePlace
  pub script : Script
  pub actors : ℕ
  pub commands : ℕ
  pub blocks : ℕ
  pub chunk_bytes : ℕ

-- before the first line; what the first lines say stands here as if they said the least
abbrev pub nothing_yet : SoFar
nothing_yet = record {
  place = Behind.Start;
  script = record {
    layout = record { s = 16; r = 1 };
    servers = 1;
    term = 0;
    audit = false;
    phases = [];
    order = None;
  };
  actors = 0;
  commands = 0;
  blocks = 0;
  chunk_bytes = 0;
}

-- ---- the lines of the head

-- with another last line, and another script
unfoldable pub with_head : SoFar → LinePlace → Script → SoFar
with_head so_far place script = record so_far { place = place; script = script }

-- `qfs 1`
unfoldable pub take_qfs : SoFar → Words → Said SoFar
take_qfs so_far words = do
  word ← one_word words
  version ← number_in 1 1 word
  Ok (with_head so_far Behind.Qfs so_far.script)

-- `layout S R`
unfoldable pub take_layout : SoFar → Words → Said SoFar
take_layout so_far words = do
  words ← two_words words
  stripe ← stripe_in words.0
  rows ← number_in 1 MOST_ROWS words.1
  Ok (with_head so_far Behind.Layout (record so_far.script { layout = record { s = stripe; r = rows } }))

-- `servers N`
unfoldable pub take_servers : SoFar → Words → Said SoFar
take_servers so_far words = do
  word ← one_word words
  servers ← number_in 1 MOST_SERVERS word
  Ok (with_head so_far Behind.Servers (record so_far.script { servers = servers }))

-- `term T`
unfoldable pub take_term : SoFar → Words → Said SoFar
take_term so_far words = do
  word ← one_word words
  ticks ← number_in 1 MOST_TICKS word
  Ok (with_head so_far Behind.Term (record so_far.script { term = ticks }))

-- `audit`
unfoldable pub take_audit : SoFar → Words → Said SoFar
take_audit so_far words = do
  none ← no_word words
  Ok (with_head so_far Behind.Audit (record so_far.script { audit = true }))

-- ---- phases, actors and commands

-- a list whose last item is changed
abbrev pub change_last : {X : Type 0} → (X → X) → List X → List X
change_last change [] = []
change_last change (x ∷ []) = change x ∷ []
change_last change (x ∷ next ∷ xs) = x ∷ change_last change (next ∷ xs)

-- phases with an actor more in the last of them, and with a command more of the last actor
unfoldable pub with_actor : List (List (List Command)) → List (List (List Command))
with_actor phases = change_last (λ phase. phase ++ [] ∷ []) phases

unfoldable pub with_command : Command → List (List (List Command)) → List (List (List Command))
with_command command phases =
    change_last (λ phase. change_last (λ commands. commands ++ command ∷ []) phase) phases

-- `phase`
unfoldable pub take_phase : SoFar → Words → Said SoFar
take_phase so_far words = do
  none ← no_word words
  if_kept (nat_lt (length so_far.script.phases) MOST_PHASES) Cause.Limit
      (with_head so_far Behind.Phase (record so_far.script { phases = so_far.script.phases ++ [] ∷ [] }))

-- with one actor more, who has no commands yet
unfoldable pub with_next_actor : SoFar → SoFar
with_next_actor so_far = record so_far {
  place = Behind.Actor;
  script = record so_far.script { phases = with_actor so_far.script.phases };
  actors = so_far.actors + 1;
  commands = 0;
}

-- `actor A`, with the next number
unfoldable pub take_actor : SoFar → Words → Said SoFar
take_actor so_far words = do
  word ← one_word words
  number ← number_in (so_far.actors + 1) (so_far.actors + 1) word
  if_kept (nat_lt so_far.actors MOST_ACTORS) Cause.Limit (with_next_actor so_far)

-- how many bytes a recipe has, and a command puts: none, if it is no put
unfoldable pub recipe_len : Form → ℕ
recipe_len (Told.Hex bytes) = length bytes
recipe_len (Told.Fill byte len) = len
recipe_len (Told.Pattern start len) = len

unfoldable pub put_len : Command → ℕ
put_len (Does.File (File.Put path recipe)) = recipe_len recipe
put_len command = 0

-- how many bytes the chunks of a file of so many bytes have together: each slot has the rows of the whole
-- blocks, and those of the rest
abbrev pub chunk_rows : Shape → ℕ → ℕ
chunk_rows layout len =
    let block = block_bytes layout.s layout.r in
    len / block * layout.r + div_ceil (len % block) (row_bytes layout.s)

abbrev pub chunk_bytes_of : Shape → ℕ → ℕ
chunk_bytes_of layout len = SLOTS * (chunk_rows layout len * layout.s)

-- with one command more, whose bytes are counted if it is a put
unfoldable pub with_next_command : SoFar → Command → SoFar
with_next_command so_far command = record so_far {
  place = Behind.Actor;
  script = record so_far.script { phases = with_command command so_far.script.phases };
  commands = so_far.commands + 1;
  blocks = so_far.blocks + blocks_in so_far.script.layout (put_len command);
  chunk_bytes = so_far.chunk_bytes + chunk_bytes_of so_far.script.layout (put_len command);
}

-- whether all limits are kept with this command, which is the last
unfoldable pub keeps_limits : SoFar → Command → Bool
keeps_limits now command =
    nat_le now.commands MOST_COMMANDS
    && nat_le (blocks_in now.script.layout (put_len command)) MOST_BLOCKS_OF_PUT
    && nat_le now.blocks MOST_BLOCKS
    && nat_le now.chunk_bytes MOST_BYTES_OF_CHUNKS

-- a command of the last actor
unfoldable pub take_command : SoFar → CommandWord → Words → Said SoFar
take_command so_far word words = do
  command ← command_of so_far.script.servers word words
  if_kept (keeps_limits (with_next_command so_far command) command) Cause.Limit (with_next_command so_far command)

-- `order` and any number of runs
unfoldable pub take_order : SoFar → Words → Said SoFar
take_order so_far words = do
  runs ← read_each run_in words
  Ok (with_head so_far Behind.Order (record so_far.script { order = Some (steps_of_runs runs) }))

-- ---- any line

-- what is read with a line of this first word, and with the words behind it
unfoldable pub take_line : SoFar → FirstWord → Words → Said SoFar
take_line so_far First.Qfs words = take_qfs so_far words
take_line so_far First.Layout words = take_layout so_far words
take_line so_far First.Servers words = take_servers so_far words
take_line so_far First.Term words = take_term so_far words
take_line so_far First.Audit words = take_audit so_far words
take_line so_far First.Phase words = take_phase so_far words
take_line so_far First.Actor words = take_actor so_far words
take_line so_far First.Order words = take_order so_far words
take_line so_far (First.Command word) words = take_command so_far word words
