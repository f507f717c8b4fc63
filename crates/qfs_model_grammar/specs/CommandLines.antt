-- What command a line says, by the words behind its first one.
use Rattle.std.specs.Prelude.{ℕ, ◌-◌, List, [], ◌∷◌, slice_index, codes, if◌then◌else◌, Some, None, Ok, Err}
use Rattle.std.specs.Str.{bytes_eq}
use Rattle.qfs_base.specs.NameTree.{PathNames}
use Rattle.qfs_base.specs.Sizes.{SLOTS, MOST_FILE_BYTES, LAST_U32}
use Rattle.qfs_base.specs.declared.command.Command.{Command}
use Rattle.qfs_base.specs.declared.command.Command.TheVariants as Does
use Rattle.qfs_base.specs.declared.command.FileCommand.TheVariants as File
use Rattle.qfs_base.specs.declared.recipe.Form.TheVariants as Told
use Rattle.qfs_base.specs.declared.script.ScriptCause.TheVariants as Cause
use Rattle.qfs_model_script.specs.Limits.{MOST_ACTORS, LAST_INDEX, MOST_BUDGET, MOST_TICKS}
use Rattle.qfs_model_text.specs.Line.{Words}
use Rattle.qfs_model_grammar.specs.CommandWord.{CommandWord}
use Rattle.qfs_model_grammar.specs.CommandWord as Word
use Rattle.qfs_model_grammar.specs.Counts.{no_word, one_word, two_words, three_words, four_words}
use Rattle.qfs_model_grammar.specs.Kinds.{number_in, path_in, bytes_in}
use Rattle.qfs_model_grammar.specs.Said.{Said, ◌>>=◌}

-- ---- words of ranges that several commands share

unfoldable pub index_in : List ℕ → Said ℕ
index_in word = number_in 0 LAST_INDEX word

unfoldable pub slot_in : List ℕ → Said ℕ
slot_in word = number_in 0 (SLOTS - 1) word

unfoldable pub server_in : ℕ → List ℕ → Said ℕ
server_in servers word = number_in 1 servers word

unfoldable pub budget_in : List ℕ → Said ℕ
budget_in word = number_in 1 MOST_BUDGET word

unfoldable pub len_in : List ℕ → Said ℕ
len_in word = number_in 0 MOST_FILE_BYTES word

-- ---- commands of one path, of nothing, of a budget and of a server

unfoldable pub path_command : (PathNames → Command) → Words → Said Command
path_command command words = do
  word ← one_word words
  path ← path_in word
  Ok (command path)

unfoldable pub bare_command : Command → Words → Said Command
bare_command command words = do
  none ← no_word words
  Ok command

unfoldable pub budget_command : (ℕ → Command) → Words → Said Command
budget_command command words = do
  word ← one_word words
  budget ← budget_in word
  Ok (command budget)

unfoldable pub server_command : ℕ → (ℕ → Command) → Words → Said Command
server_command servers command words = do
  word ← one_word words
  server ← server_in servers word
  Ok (command server)

-- ---- the others

-- `rename P Q`
unfoldable pub rename_command : Words → Said Command
rename_command words = do
  words ← two_words words
  from ← path_in words.0
  to ← path_in words.1
  Ok (Does.File (File.Rename from to))

-- `get P` or `get P FROM COUNT`
unfoldable pub get_whole : List ℕ → Said Command
get_whole word = do
  path ← path_in word
  Ok (Does.File (File.Get path None))

unfoldable pub get_range : List ℕ → List ℕ → List ℕ → Said Command
get_range word from count = do
  path ← path_in word
  from ← len_in from
  count ← len_in count
  Ok (Does.File (File.Get path (Some (record { from = from; count = count }))))

unfoldable pub get_command : Words → Said Command
get_command (path ∷ []) = get_whole path
get_command (path ∷ from ∷ count ∷ []) = get_range path from count
get_command _ = Err Cause.Count

-- `put P hex H`, `put P fill BB LEN` or `put P pattern P LEN`; behind `put`, the path and the word for the
-- recipe's kind
unfoldable pub hex_put : List ℕ → Words → Said Command
hex_put path words = do
  digits ← one_word words
  path ← path_in path
  bytes ← bytes_in 1 32 digits
  Ok (Does.File (File.Put path (Told.Hex bytes)))

unfoldable pub fill_put : List ℕ → Words → Said Command
fill_put path words = do
  words ← two_words words
  path ← path_in path
  bytes ← bytes_in 1 1 words.0
  len ← len_in words.1
  Ok (Does.File (File.Put path (Told.Fill (slice_index bytes 0) len)))

unfoldable pub pattern_put : List ℕ → Words → Said Command
pattern_put path words = do
  words ← two_words words
  path ← path_in path
  start ← number_in 0 LAST_U32 words.0
  len ← len_in words.1
  Ok (Does.File (File.Put path (Told.Pattern start len)))

-- a kind of recipe that is unknown is a bad word, however many words there are
unfoldable pub put_command : Words → Said Command
put_command (path ∷ kind ∷ words) =
    if bytes_eq kind (codes "hex") then hex_put path words
    else if bytes_eq kind (codes "fill") then fill_put path words
    else if bytes_eq kind (codes "pattern") then pattern_put path words
    else Err Cause.Word
put_command _ = Err Cause.Count

-- `recover P INDEX SLOT`
unfoldable pub recover_command : Words → Said Command
recover_command words = do
  words ← three_words words
  path ← path_in words.0
  index ← index_in words.1
  slot ← slot_in words.2
  Ok (Does.Recover path index slot)

-- `move P INDEX SLOT S`
unfoldable pub move_command : ℕ → Words → Said Command
move_command servers words = do
  words ← four_words words
  path ← path_in words.0
  index ← index_in words.1
  slot ← slot_in words.2
  server ← server_in servers words.3
  Ok (Does.Move path index slot server)

-- `evacuate S BUDGET`
unfoldable pub evacuate_command : ℕ → Words → Said Command
evacuate_command servers words = do
  words ← two_words words
  server ← server_in servers words.0
  budget ← budget_in words.1
  Ok (Does.Evacuate server budget)

-- `hibernate S TICKS`
unfoldable pub hibernate_command : ℕ → Words → Said Command
hibernate_command servers words = do
  words ← two_words words
  server ← server_in servers words.0
  ticks ← number_in 1 MOST_TICKS words.1
  Ok (Does.Hibernate server ticks)

-- `drop A`
unfoldable pub drop_command : Words → Said Command
drop_command words = do
  word ← one_word words
  actor ← number_in 1 MOST_ACTORS word
  Ok (Does.Drop actor)

-- the command of a script with so many servers
unfoldable pub command_of : ℕ → CommandWord → Words → Said Command
command_of servers Word.Mkdir words = path_command (λ path. Does.File (File.Mkdir path)) words
command_of servers Word.Rmdir words = path_command (λ path. Does.File (File.Rmdir path)) words
command_of servers Word.Remove words = path_command (λ path. Does.File (File.Remove path)) words
command_of servers Word.Rename words = rename_command words
command_of servers Word.List words = path_command (λ path. Does.File (File.List path)) words
command_of servers Word.Put words = put_command words
command_of servers Word.Get words = get_command words
command_of servers Word.Recover words = recover_command words
command_of servers Word.Move words = move_command servers words
command_of servers Word.Heal words = budget_command (λ budget. Does.Heal budget) words
command_of servers Word.Rebalance words = budget_command (λ budget. Does.Rebalance budget) words
command_of servers Word.Evacuate words = evacuate_command servers words
command_of servers Word.Sweep words = budget_command (λ budget. Does.Sweep budget) words
command_of servers Word.Stop words = server_command servers (λ server. Does.Stop server) words
command_of servers Word.Start words = server_command servers (λ server. Does.Start server) words
command_of servers Word.Wipe words = server_command servers (λ server. Does.Wipe server) words
command_of servers Word.Hibernate words = hibernate_command servers words
command_of servers Word.Upgrade words = server_command servers (λ server. Does.Upgrade server) words
command_of servers Word.Tick words = bare_command Does.Tick words
command_of servers Word.Drop words = drop_command words
command_of servers Word.Checkpoint words = bare_command Does.Checkpoint words
command_of servers Word.Restart words = bare_command Does.Restart words
