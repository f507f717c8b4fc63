-- A made script keeps the ranges and limits of scripts: it has twenty actors with at most 121 commands each, and each of its puts
-- has at most 40,000 bytes.
use Rattle.std.proofs.Common.{◌≡◌, ℕ, zero, suc, ◌+◌, ◌-◌, ◌*◌, ◌%◌, ◌^◌, ◌<◌, ◌≤◌, List, [], ◌∷◌, length, take, drop, map, min, get_or, None, refl, arith, All, length-take}
use Rattle.std.specs.Prelude.{flat_map}
use Rattle.std.specs.Int.{div_ceil}
use Rattle.std.specs.List.{range_with_len}
use Rattle.std.proofs.lemmas.Grind.{div_ceil_times}
use Rattle.std.proofs.lemmas.List.Concat.{length-flat_map}
use Rattle.std.proofs.lemmas.List.FromFn.{length-map-range_with_len, length-range_with_len}
use Rattle.std.proofs.lemmas.List.Sums.{sum_by-le}
use Rattle.qfs_base.specs.EachLaws.{each_all, each_weaker}
use Rattle.qfs_base.specs.Recipe.{pattern_byte}
use Rattle.qfs_base.specs.Shape.{Shape}
use Rattle.qfs_base.specs.Table.{Each}
use Rattle.qfs_base.specs.declared.command.Command.{Command}
use Rattle.qfs_base.specs.declared.command.Command.TheVariants as Does
use Rattle.qfs_base.specs.declared.command.FileCommand.TheVariants as File
use Rattle.qfs_base.specs.declared.script.Script.{Script}
use Rattle.qfs_model_script.specs.InScript.{IsCommand, IsScript, actors_of, len_put, lens_put, blocks_in, chunk_bytes_of_block, chunk_bytes_in}
use Rattle.qfs_model_script.specs.MadeScript.{file_in, files_each, words_each, writers, words_of_writer, puts_from, writer, reader, emptied_server, writing_phase, repairing_phase, reading_phase, script_of_words, words_of, script_generator, made_script}
use Rattle.qfs_model_script.proofs.MadeNames.{directory_path, file_path, IsWord, words_fit}
use Rattle.qfs_model_script.proofs.SmallPuts.{each_flat, IsSmall, lens_small, length-lens}
use lib.Count.{ones}

-- ---- what holds of each

each_range : {X : Type 0} (P : X → Type 0) (f : ℕ → X) (a n : ℕ) → ((k : ℕ) → a ≤ k → k < a + n → P (f k)) → Each P (map f (range_with_len a n))
each_range P f a zero holds = tt
each_range P f a (suc n) holds =
    (holds a (omega arith) (omega arith), each_range P f (a + 1) n (λ k from to. holds k (omega (arith, from)) (omega (arith, to))))

each_take : {X : Type 0} (P : X → Type 0) (n : ℕ) (xs : List X) → Each P xs → Each P (take n xs)
each_take P zero xs each = tt
each_take P (suc n) [] each = tt
each_take P (suc n) (x ∷ xs) each = (each.0, each_take P n xs each.1)

each_drop : {X : Type 0} (P : X → Type 0) (n : ℕ) (xs : List X) → Each P xs → Each P (drop n xs)
each_drop P zero xs each = each
each_drop P (suc n) [] each = tt
each_drop P (suc n) (x ∷ xs) each = each_drop P n xs each.1

-- ---- commands

-- the commands of an actor are few, in range and small
record AreFew (commands : List Command) : Type 0 where
  few : length commands ≤ 121
  ranges : Each (IsCommand 12) commands
  small : Each (IsSmall 40000) commands

length-puts_from : (a k : ℕ) (words : List ℕ) → length (puts_from a k words) ≤ length words
unfolding puts_from
length-puts_from a k [] = omega arith
length-puts_from a k (word ∷ []) = omega arith
length-puts_from a k (start ∷ len ∷ words) = omega (arith, length-puts_from a (k + 1) words)

puts_ranges : (a k : ℕ) (words : List ℕ) → a < 10 ^ 9 → k + length words < 10 ^ 9 → Each IsWord words → Each (IsCommand 12) (puts_from a k words)
unfolding puts_from
puts_ranges a k [] small few each = tt
puts_ranges a k (word ∷ []) small few each = tt
puts_ranges a k (start ∷ len ∷ words) small few each =
    ((file_path a k small (omega (arith, few)), omega arith, each.0), puts_ranges a (k + 1) words small (omega (arith, few)) each.1.1)

puts_small : (a k : ℕ) (words : List ℕ) → Each (IsSmall 40000) (puts_from a k words)
unfolding puts_from len_put
puts_small a k [] = tt
puts_small a k (word ∷ []) = tt
puts_small a k (start ∷ len ∷ words) =
    (omega (arith, length-map-range_with_len (pattern_byte start) 0 (len % 40001)), puts_small a (k + 1) words)

writer_few : (words : List ℕ) (a : ℕ) → a < 10 ^ 9 → Each IsWord words → AreFew (writer words a)
unfolding writer len_put
writer_few words a small each =
    let own : List ℕ = words_of_writer words a in
    let short : length own ≤ 120 = omega (arith, length-take words_each (drop ((a - 1) * words_each) words)) in
    record {
      few = omega (arith, short, length-puts_from a 1 own);
      ranges = (directory_path a small, puts_ranges a 1 own small (omega (arith, short)) (each_take IsWord words_each (drop ((a - 1) * words_each) words) (each_drop IsWord ((a - 1) * words_each) words each)));
      small = (tt, puts_small a 1 own);
    }

-- the get of a file
abbrev pub get_of : ℕ → ℕ → Command
get_of a k = Does.File (File.Get (file_in a k) None)

get_range : (a k : ℕ) → a < 10 ^ 9 → k < 10 ^ 9 → IsCommand 12 (get_of a k)
get_range a k small few = (file_path a k small few, tt)

reader_few : (a : ℕ) → a < 10 ^ 9 → AreFew (reader a)
unfolding reader len_put
reader_few a small =
    record {
      few = omega arith;
      ranges = each_range (IsCommand 12) (get_of a) 1 files_each (λ k from to. get_range a k small (omega (arith, to)));
      small = each_range (IsSmall 40000) (get_of a) 1 files_each (λ k from to. tt);
    }

actors_few : (words : List ℕ) → Each IsWord words → Each AreFew (actors_of (script_of_words words))
unfolding script_of_words writing_phase repairing_phase reading_phase emptied_server len_put
actors_few words each =
    each_flat AreFew (writing_phase words ∷ repairing_phase words ∷ reading_phase ∷ []) (
      each_range AreFew (writer words) 1 writers (λ a from to. writer_few words a (omega (arith, to)) each),
      (
        (
          record { few = omega arith; ranges = ((omega arith, omega arith), ((omega arith, omega arith), tt)); small = (tt, (tt, tt)) },
          (
            reader_few 1 (omega arith),
            (record { few = omega arith; ranges = ((omega arith, omega arith), ((omega arith, omega arith), tt)); small = (tt, (tt, tt)) }, tt),
          ),
        ),
        (
          (
            record { few = omega arith; ranges = (tt, (tt, tt)); small = (tt, (tt, tt)) },
            each_range AreFew reader 1 writers (λ a from to. reader_few a (omega (arith, to))),
          ),
          tt,
        ),
      ),
    )

-- ---- puts

-- the layout of made scripts
abbrev pub made_layout : Shape
made_layout = record { s = 256; r = 8 }

few_blocks : (len : ℕ) → len ≤ 40000 → blocks_in made_layout len ≤ 4
few_blocks len most = omega (arith, most, (div_ceil_times len 12288 (omega arith)).1)

few_rows : (part : ℕ) → div_ceil (min part 12288) 1536 ≤ 8
few_rows part = omega (arith, (div_ceil_times (min part 12288) 1536 (omega arith)).1)

few_bytes_of_block : (len index : ℕ) → chunk_bytes_of_block made_layout len index ≤ 18432
few_bytes_of_block len index = omega (arith, few_rows (len - index * 12288))

few_bytes : (len : ℕ) → len ≤ 40000 → chunk_bytes_in made_layout len ≤ 73728
few_bytes len most =
    let block = chunk_bytes_of_block made_layout len in
    let blocks = blocks_in made_layout len in
    let each : All (λ index. block index ≤ 18432) (range_with_len 0 blocks) = λ k d inside. few_bytes_of_block len (get_or (range_with_len 0 blocks) k d) in
    omega (arith, few_blocks len most, sum_by-le block 18432 (range_with_len 0 blocks) each, length-range_with_len 0 blocks)

-- ---- all limits

module _ (words : List ℕ) (each : Each IsWord words) where
  script : Script
  script = script_of_words words

  actors : List (List Command)
  actors = actors_of script

  few : Each AreFew actors
  unfolding actors script
  few = actors_few words each

  length-actors : length actors ≡ 20
  unfolding actors script script_of_words writing_phase repairing_phase reading_phase
  length-actors = refl

  commands_few : length (flat_map (λ commands. commands) actors) ≤ 2420
  commands_few =
      let short : All (λ commands. length commands ≤ 121) actors =
      each_all (λ commands. length commands ≤ 121) actors (each_weaker AreFew (λ commands. length commands ≤ 121) (λ commands is. is.few) actors few) in
      omega (arith, length-actors, length-flat_map (λ commands. commands) actors, sum_by-le length 121 actors short)

  small_puts : Each (λ len. len ≤ 40000) (lens_put script)
  unfolding actors
  small_puts =
      lens_small 40000 (flat_map (λ commands. commands) actors)
      (each_flat (IsSmall 40000) actors (each_weaker AreFew (Each (IsSmall 40000)) (λ commands is. is.small) actors few))

  few_puts : length (lens_put script) ≤ 2420
  unfolding actors
  few_puts = omega (arith, commands_few, length-lens (flat_map (λ commands. commands) actors))

  pub limits : IsScript (script_of_words words)
  unfolding actors script script_of_words ones writing_phase repairing_phase reading_phase
  limits =
      let all_small = each_all (λ len. len ≤ 40000) (lens_put script) small_puts in
      record {
        stripe = (omega arith, omega arith, refl);
        rows = (omega arith, omega arith);
        servers = (omega arith, omega arith);
        term = omega arith;
        phases = (omega arith, omega arith);
        few_actors = omega (arith, length-actors);
        few_commands = each_weaker AreFew (λ commands. length commands ≤ 4096) (λ commands is. omega (arith, is.few)) actors few;
        commands = each_weaker AreFew (Each (IsCommand 12)) (λ commands is. is.ranges) actors few;
        blocks_of_put = each_weaker (λ len. len ≤ 40000) (λ len. blocks_in made_layout len ≤ 65536) (λ len most. omega (arith, few_blocks len most)) (lens_put script) small_puts;
        blocks = omega (arith, few_puts, sum_by-le (blocks_in made_layout) 4 (lens_put script) (λ k d inside. few_blocks _ (all_small k d inside)));
        chunk_bytes = omega (arith, few_puts, sum_by-le (chunk_bytes_in made_layout) 73728 (lens_put script) (λ k d inside. few_bytes _ (all_small k d inside)));
        order = tt;
      }

pub made_limits : (number : ℕ) → IsScript (made_script number)
unfolding made_script words_of
made_limits number = limits (words_of number) (words_fit (writers * words_each + 1) (script_generator number))
