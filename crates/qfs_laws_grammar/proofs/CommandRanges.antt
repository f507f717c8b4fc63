-- The ranges of what command lines say. For the law `read_texts_are_scripts`.
use Rattle.std.proofs.Common.{ℕ, ◌-◌, ◌≤◌, arith, List, [], ◌∷◌}
use Rattle.std.specs.Prelude.{⊤, IfOk, slice_index, codes, if◌then◌else◌, Bool, true, false}
use Rattle.std.specs.Str.{bytes_eq}
use Rattle.qfs_base.specs.NameTree.{PathNames}
use Rattle.qfs_base.specs.Path.{IsPath}
use Rattle.qfs_base.specs.Sizes.{SLOTS, MOST_FILE_BYTES, LAST_U32}
use Rattle.qfs_base.specs.declared.command.Command.{Command}
use Rattle.qfs_base.specs.declared.command.Command.TheVariants as Does
use Rattle.qfs_base.specs.declared.command.FileCommand.TheVariants as File
use Rattle.qfs_model_script.specs.InScript.{IsCommand, IsBudget, IsFromOne, IsIndex, IsSlot, IsByte, IsTicks, IsActorNumber}
use Rattle.qfs_model_script.specs.Limits.{MOST_ACTORS, LAST_INDEX, MOST_BUDGET, MOST_TICKS}
use Rattle.qfs_model_text.specs.Line.{Words}
use Rattle.qfs_model_grammar.specs.CommandWord.{CommandWord}
use Rattle.qfs_model_grammar.specs.CommandWord as Word
use Rattle.qfs_model_grammar.specs.CommandLines.{index_in, slot_in, server_in, budget_in, len_in, path_command, bare_command, budget_command, server_command, rename_command, get_whole, get_range, get_command, hex_put, fill_put, pattern_put, put_command, recover_command, move_command, evacuate_command, hibernate_command, drop_command, command_of}
use Rattle.qfs_model_grammar.specs.Counts.{no_word, one_word, two_words, three_words, four_words}
use Rattle.qfs_model_grammar.specs.Kinds.{number_in, path_in, bytes_in}
use Rattle.qfs_model_grammar.specs.Said.{Said, ◌>>=◌}
use Rattle.qfs_laws_grammar.proofs.Steps.{gives, gives_any, gives_weaker}
use Rattle.qfs_laws_grammar.proofs.WordRanges.{IsIn, AreBytes, number_gives, path_gives, bytes_give}

-- of the words of a line nothing needs to be known
words_then : {A : Type 0} (Q : Command → Type 0) (words : Said A) (next : A → Said Command)
    → ((found : A) → IfOk (next found) Q) → IfOk (words >>= next) Q
words_then Q words next behind = gives (λ found. ⊤) Q words next (gives_any words)
    (λ found known. behind found)

-- ---- kinds of words

abbrev Path : List (List ℕ) → Type 0
Path names = IsPath names

slot_gives : (word : List ℕ) → IfOk (slot_in word) IsSlot
unfolding slot_in
slot_gives word = gives_weaker (IsIn 0 (SLOTS - 1)) IsSlot (number_in 0 (SLOTS - 1) word)
    (λ slot within. omega (arith, within.1)) (number_gives 0 (SLOTS - 1) word)

index_gives : (word : List ℕ) → IfOk (index_in word) IsIndex
unfolding index_in
index_gives word = gives_weaker (IsIn 0 LAST_INDEX) IsIndex (number_in 0 LAST_INDEX word)
    (λ index within. within.1) (number_gives 0 LAST_INDEX word)

len_gives : (word : List ℕ) → IfOk (len_in word) (λ len. len ≤ MOST_FILE_BYTES)
unfolding len_in
len_gives word = gives_weaker (IsIn 0 MOST_FILE_BYTES) (λ len. len ≤ MOST_FILE_BYTES)
    (number_in 0 MOST_FILE_BYTES word) (λ len within. within.1)
    (number_gives 0 MOST_FILE_BYTES word)

budget_gives : (word : List ℕ) → IfOk (budget_in word) IsBudget
unfolding budget_in
budget_gives word = number_gives 1 MOST_BUDGET word

server_gives : (servers : ℕ) (word : List ℕ) → IfOk (server_in servers word) (IsFromOne servers)
unfolding server_in
server_gives servers word = number_gives 1 servers word

-- ---- commands

module _ (servers : ℕ) where
  abbrev Is : Command → Type 0
  Is command = IsCommand servers command

  path_commands : (command : PathNames → Command)
      → ((path : PathNames) → IsPath path → Is (command path)) → (words : Words)
      → IfOk (path_command command words) Is
  unfolding path_command
  path_commands command are words =
      words_then Is (one_word words) _
      (λ word. gives Path Is (path_in word) _ (path_gives word) are)

  bare_commands : (command : Command) → Is command → (words : Words)
      → IfOk (bare_command command words) Is
  unfolding bare_command
  bare_commands command is words = words_then Is (no_word words) _ (λ none. is)

  budget_commands : (command : ℕ → Command) → ((budget : ℕ) → IsBudget budget → Is (command budget))
      → (words : Words)
      → IfOk (budget_command command words) Is
  unfolding budget_command
  budget_commands command are words =
      words_then Is (one_word words) _
      (λ word. gives IsBudget Is (budget_in word) _ (budget_gives word) are)

  server_commands : (command : ℕ → Command)
      → ((server : ℕ) → IsFromOne servers server → Is (command server)) → (words : Words)
      → IfOk (server_command servers command words) Is
  unfolding server_command
  server_commands command are words =
      words_then Is (one_word words) _
      (λ word. gives (IsFromOne servers) Is (server_in servers word) _
      (server_gives servers word) are)

  rename_commands : (words : Words) → IfOk (rename_command words) Is
  unfolding rename_command
  rename_commands words =
      words_then Is (two_words words) _
      (λ words. gives Path Is (path_in words.0) _ (path_gives words.0)
      (λ from is_from. gives Path Is (path_in words.1) _ (path_gives words.1)
      (λ to is_to. (is_from, is_to))))

  whole_gets : (word : List ℕ) → IfOk (get_whole word) Is
  unfolding get_whole
  whole_gets word = gives Path Is (path_in word) _ (path_gives word) (λ path is. (is, tt))

  range_gets : (word from count : List ℕ) → IfOk (get_range word from count) Is
  unfolding get_range
  range_gets word from count =
      gives Path Is (path_in word) _ (path_gives word)
      (λ path is. gives (λ len. len ≤ MOST_FILE_BYTES) Is (len_in from) _ (len_gives from)
      (λ first low. gives (λ len. len ≤ MOST_FILE_BYTES) Is (len_in count) _ (len_gives count)
      (λ many few. (is, (low, few)))))

  get_commands : (words : Words) → IfOk (get_command words) Is
  unfolding get_command
  get_commands [] = tt
  get_commands (path ∷ []) = whole_gets path
  get_commands (path ∷ from ∷ []) = tt
  get_commands (path ∷ from ∷ count ∷ []) = range_gets path from count
  get_commands (path ∷ from ∷ count ∷ more ∷ words) = tt

  hex_puts : (path : List ℕ) (words : Words) → IfOk (hex_put path words) Is
  unfolding hex_put
  hex_puts path words =
      words_then Is (one_word words) _
      (λ digits. gives Path Is (path_in path) _ (path_gives path)
      (λ names is. gives (AreBytes 1 32) Is (bytes_in 1 32 digits) _ (bytes_give 1 32 digits)
      (λ bytes are. (is, (are.enough, are.few), are.each))))

  first_byte : (bytes : List ℕ) → AreBytes 1 1 bytes → IsByte (slice_index bytes 0)
  first_byte [] are = absurd (omega (arith, are.enough))
  first_byte (byte ∷ bytes) are = are.each.0

  fill_puts : (path : List ℕ) (words : Words) → IfOk (fill_put path words) Is
  unfolding fill_put
  fill_puts path words =
      words_then Is (two_words words) _
      (λ words. gives Path Is (path_in path) _ (path_gives path)
      (λ names is. gives (AreBytes 1 1) Is (bytes_in 1 1 words.0) _ (bytes_give 1 1 words.0)
      (λ bytes are. gives (λ len. len ≤ MOST_FILE_BYTES) Is (len_in words.1) _ (len_gives words.1)
      (λ len few. (is, few, first_byte bytes are)))))

  pattern_puts : (path : List ℕ) (words : Words) → IfOk (pattern_put path words) Is
  unfolding pattern_put
  pattern_puts path words =
      words_then Is (two_words words) _
      (λ words. gives Path Is (path_in path) _ (path_gives path)
      (λ names is. gives (IsIn 0 LAST_U32) Is (number_in 0 LAST_U32 words.0) _
      (number_gives 0 LAST_U32 words.0)
      (λ start fits. gives (λ len. len ≤ MOST_FILE_BYTES) Is (len_in words.1) _ (len_gives words.1)
      (λ len few. (is, few, omega (arith, fits.1))))))

  either : (test : Bool) (first second : Said Command) → IfOk first Is → IfOk second Is
      → IfOk (if test then first else second) Is
  either true first second of_first of_second = of_first
  either false first second of_first of_second = of_second

  put_commands : (words : Words) → IfOk (put_command words) Is
  unfolding put_command
  put_commands [] = tt
  put_commands (path ∷ []) = tt
  put_commands (path ∷ kind ∷ words) =
      either (bytes_eq kind (codes "hex")) _ _ (hex_puts path words)
      (either (bytes_eq kind (codes "fill")) _ _ (fill_puts path words)
      (either (bytes_eq kind (codes "pattern")) _ _ (pattern_puts path words) tt))

  recover_commands : (words : Words) → IfOk (recover_command words) Is
  unfolding recover_command
  recover_commands words =
      words_then Is (three_words words) _
      (λ words. gives Path Is (path_in words.0) _ (path_gives words.0)
      (λ path is. gives IsIndex Is (index_in words.1) _ (index_gives words.1)
      (λ index low. gives IsSlot Is (slot_in words.2) _ (slot_gives words.2)
      (λ slot few. (is, low, few)))))

  move_commands : (words : Words) → IfOk (move_command servers words) Is
  unfolding move_command
  move_commands words =
      words_then Is (four_words words) _
      (λ words. gives Path Is (path_in words.0) _ (path_gives words.0)
      (λ path is. gives IsIndex Is (index_in words.1) _ (index_gives words.1)
      (λ index low. gives IsSlot Is (slot_in words.2) _ (slot_gives words.2)
      (λ slot few. gives (IsFromOne servers) Is (server_in servers words.3) _
      (server_gives servers words.3)
      (λ server there. (is, low, few, there))))))

  evacuate_commands : (words : Words) → IfOk (evacuate_command servers words) Is
  unfolding evacuate_command
  evacuate_commands words =
      words_then Is (two_words words) _
      (λ words. gives (IsFromOne servers) Is (server_in servers words.0) _
      (server_gives servers words.0)
      (λ server there. gives IsBudget Is (budget_in words.1) _ (budget_gives words.1)
      (λ budget few. (there, few))))

  hibernate_commands : (words : Words) → IfOk (hibernate_command servers words) Is
  unfolding hibernate_command
  hibernate_commands words =
      words_then Is (two_words words) _
      (λ words. gives (IsFromOne servers) Is (server_in servers words.0) _
      (server_gives servers words.0)
      (λ server there. gives IsTicks Is (number_in 1 MOST_TICKS words.1) _
      (number_gives 1 MOST_TICKS words.1) (λ ticks few. (there, few))))

  drop_commands : (words : Words) → IfOk (drop_command words) Is
  unfolding drop_command
  drop_commands words =
      words_then Is (one_word words) _
      (λ word. gives IsActorNumber Is (number_in 1 MOST_ACTORS word) _
      (number_gives 1 MOST_ACTORS word) (λ actor there. there))

  pub command_gives : (word : CommandWord) (words : Words) → IfOk (command_of servers word words) Is
  unfolding command_of
  command_gives Word.Mkdir words = path_commands (λ path. Does.File (File.Mkdir path))
      (λ path is. is) words
  command_gives Word.Rmdir words = path_commands (λ path. Does.File (File.Rmdir path))
      (λ path is. is) words
  command_gives Word.Remove words = path_commands (λ path. Does.File (File.Remove path))
      (λ path is. is) words
  command_gives Word.Rename words = rename_commands words
  command_gives Word.List words = path_commands (λ path. Does.File (File.List path)) (λ path is. is)
      words
  command_gives Word.Put words = put_commands words
  command_gives Word.Get words = get_commands words
  command_gives Word.Recover words = recover_commands words
  command_gives Word.Move words = move_commands words
  command_gives Word.Heal words = budget_commands (λ budget. Does.Heal budget) (λ budget is. is)
      words
  command_gives Word.Rebalance words = budget_commands (λ budget. Does.Rebalance budget)
      (λ budget is. is) words
  command_gives Word.Evacuate words = evacuate_commands words
  command_gives Word.Sweep words = budget_commands (λ budget. Does.Sweep budget) (λ budget is. is)
      words
  command_gives Word.Stop words = server_commands (λ server. Does.Stop server) (λ server is. is)
      words
  command_gives Word.Start words = server_commands (λ server. Does.Start server) (λ server is. is)
      words
  command_gives Word.Wipe words = server_commands (λ server. Does.Wipe server) (λ server is. is)
      words
  command_gives Word.Hibernate words = hibernate_commands words
  command_gives Word.Upgrade words = server_commands (λ server. Does.Upgrade server)
      (λ server is. is) words
  command_gives Word.Tick words = bare_commands Does.Tick tt words
  command_gives Word.Drop words = drop_commands words
  command_gives Word.Checkpoint words = bare_commands Does.Checkpoint tt words
  command_gives Word.Restart words = bare_commands Does.Restart tt words
