-- The script that the program makes by itself of a number: eight actors write files; one empties a server and heals, one reads
-- and one evens out and sweeps; then the metaserver restarts and eight actors read all files.
use Rattle.std.specs.Prelude.{ℕ, zero, suc, ◌+◌, ◌-◌, ◌*◌, ◌%◌, true, List, [], ◌∷◌, ◌++◌, codes, decimal, length, map, take, drop, slice_index, None}
use Rattle.std.specs.List.{range_with_len}
use Rattle.rand_pcg.specs.Lcg.{Lcg, started, increment_of}
use Rattle.rand_pcg.specs.Pcg.{multiplier_64, pcg32}
use Rattle.qfs_base.specs.NameTree.{PathNames}
use Rattle.qfs_base.specs.declared.command.Command.{Command}
use Rattle.qfs_base.specs.declared.command.Command.TheVariants as Does
use Rattle.qfs_base.specs.declared.command.FileCommand.TheVariants as File
use Rattle.qfs_base.specs.declared.recipe.Form.TheVariants as Form
use Rattle.qfs_base.specs.declared.script.Script.{Script}
use Rattle.qfs_model_text.specs.Line.{line}
use Rattle.qfs_model_script.specs.ScriptText.{script_lines, script_text}

-- ---- what is drawn

-- the generator of a number, and its stream for scripts
abbrev pub script_stream : ℕ
script_stream = 12

unfoldable pub script_generator : ℕ → Lcg
script_generator number = started 64 multiplier_64 number (increment_of 64 script_stream)

-- the next words of a generator
unfoldable pub words_from : ℕ → Lcg → List ℕ
words_from zero generator = []
words_from (suc count) generator = (pcg32 generator).0 ∷ words_from count (pcg32 generator).1

-- how many files each writer puts, and how many words these take: where its pattern starts, and how long it is
abbrev pub files_each : ℕ
files_each = 60

abbrev pub words_each : ℕ
words_each = 2 * files_each

abbrev pub writers : ℕ
writers = 8

-- all words of a made script: those of the files, and that of the server which is emptied
unfoldable pub words_of : ℕ → List ℕ
words_of number = words_from (writers * words_each + 1) (script_generator number)

-- ---- the commands

-- a directory by its number, and a file in it: /cA and /cA/fK
abbrev pub directory : ℕ → PathNames
directory a = (codes "c" ++ decimal a) ∷ []

abbrev pub file_in : ℕ → ℕ → PathNames
file_in a k = (codes "c" ++ decimal a) ∷ (codes "f" ++ decimal k) ∷ []

-- the puts into a directory, from file k on, as the words say
unfoldable pub puts_from : ℕ → ℕ → List ℕ → List Command
puts_from a k (start ∷ len ∷ words) =
    Does.File (File.Put (file_in a k) (Form.Pattern start (len % 40001))) ∷ puts_from a (k + 1) words
puts_from a k (word ∷ []) = []
puts_from a k [] = []

-- the words of writer a
abbrev pub words_of_writer : List ℕ → ℕ → List ℕ
words_of_writer words a = take words_each (drop ((a - 1) * words_each) words)

-- a writer makes its directory and puts its files
unfoldable pub writer : List ℕ → ℕ → List Command
writer words a = Does.File (File.Mkdir (directory a)) ∷ puts_from a 1 (words_of_writer words a)

-- all files of a directory are read
unfoldable pub reader : ℕ → List Command
reader a = map (λ k. Does.File (File.Get (file_in a k) None)) (range_with_len 1 files_each)

-- ---- the script

abbrev pub made_servers : ℕ
made_servers = 12

-- the server that is emptied, by the word behind those of the files
unfoldable pub emptied_server : List ℕ → ℕ
emptied_server words = 1 + slice_index words (writers * words_each) % made_servers

unfoldable pub writing_phase : List ℕ → List (List Command)
writing_phase words = map (writer words) (range_with_len 1 writers)

unfoldable pub repairing_phase : List ℕ → List (List Command)
repairing_phase words =
    (Does.Wipe (emptied_server words) ∷ Does.Heal 100000 ∷ [])
    ∷ reader 1
    ∷ (Does.Rebalance 200 ∷ Does.Sweep 100000 ∷ [])
    ∷ []

unfoldable pub reading_phase : List (List Command)
reading_phase = (Does.Checkpoint ∷ Does.Restart ∷ []) ∷ map reader (range_with_len 1 writers)

unfoldable pub script_of_words : List ℕ → Script
script_of_words words = record {
  layout = record { s = 256; r = 8 };
  servers = made_servers;
  term = 0;
  audit = true;
  phases = writing_phase words ∷ repairing_phase words ∷ reading_phase ∷ [];
  order = None;
}

-- the script that is made of a number
unfoldable pub made_script : ℕ → Script
made_script number = script_of_words (words_of number)

-- the first line that the program writes of it: how many lines and bytes its text has
unfoldable pub made_line : ℕ → List ℕ
made_line number =
    line (codes "made") (
    decimal number
    ∷ codes "lines" ∷ decimal (length (script_lines (made_script number)))
    ∷ codes "bytes" ∷ decimal (length (script_text (made_script number)))
    ∷ [])
