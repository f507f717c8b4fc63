-- The kinds of words that stand behind the first one of a line: numbers, paths, hexadecimal digits and runs. A
-- word that isn't of its kind, or out of its range, is refused with the cause of the kind.
use Rattle.std.specs.Prelude.{ℕ, ◌==◌, ◌&&◌, nat_le, not, if◌then◌else◌, Bool, List, [], ◌∷◌, length, drop, take_while, find, codes, decimal, Option, Some, None, Ok, Err, ok_or}
use Rattle.std.specs.Int.{is_power_of_two}
use Rattle.std.specs.List.{slice_split, list_all}
use Rattle.std.specs.Result.{result_ok}
use Rattle.std.specs.Str.{bytes_eq}
use Rattle.std.specs.Str.Parse.{digits_value}
use Rattle.hex.specs.Hex.{decode_of}
use Rattle.qfs_base.specs.NameTree.{PathNames}
use Rattle.qfs_base.specs.Path.{slash, split_names}
use Rattle.qfs_base.specs.Sizes.{LONGEST_RUN}
use Rattle.qfs_base.specs.declared.history.Outcome.{Outcome}
use Rattle.qfs_base.specs.declared.history.Outcome.TheVariants as Ended
use Rattle.qfs_base.specs.declared.order.StepRun.{StepRun}
use Rattle.qfs_base.specs.declared.script.ScriptCause.TheVariants as Cause
use Rattle.qfs_model_script.specs.Limits.{MOST_ACTORS}
use Rattle.qfs_model_text.specs.Line.{Words}
use Rattle.qfs_model_text.specs.Order.{outcome_mark}
use Rattle.qfs_model_grammar.specs.Said.{Said, ◌>>=◌, if_kept}

-- ---- numbers

-- the number that a word writes in decimal digits, without a sign and without leading zeros: its digits are
-- the word
unfoldable pub number_of : List ℕ → Option ℕ
number_of word = let number = digits_value 10 word in if bytes_eq (decimal number) word then Some number else None

-- a number from the first to the last
unfoldable pub number_in : ℕ → ℕ → List ℕ → Said ℕ
number_in first last word = do
  number ← ok_or (number_of word) Cause.Number
  if_kept (nat_le first number && nat_le number last) Cause.Number number

-- the bytes of a stripe: a power of two from 16 to 65,536
unfoldable pub stripe_in : List ℕ → Said ℕ
stripe_in word = do
  stripe ← number_in 16 65536 word
  if_kept (is_power_of_two stripe) Cause.Number stripe

-- ---- paths

-- a byte of a name is visible in ASCII, and no slash
abbrev pub is_name_byte : ℕ → Bool
is_name_byte byte = nat_le 33 byte && nat_le byte 126 && not (byte == slash)

-- a name has 1 to 255 bytes, and is neither `.` nor `..`
abbrev pub is_name : List ℕ → Bool
is_name name = nat_le 1 (length name) && nat_le (length name) 255 && list_all is_name_byte name
    && not (bytes_eq name (codes ".")) && not (bytes_eq name (codes ".."))

-- at most 32 names
abbrev pub few_names : List (List ℕ) → Option PathNames
few_names names = if nat_le (length names) 32 && list_all is_name names then Some names else None

-- the path of what stands behind the first slash, which is nothing at the root
unfoldable pub path_below : List ℕ → Option PathNames
path_below [] = Some []
path_below (byte ∷ bytes) = few_names (split_names (byte ∷ bytes))

-- the path that a word spells
unfoldable pub path_of : List ℕ → Option PathNames
path_of [] = None
path_of (byte ∷ below) = if byte == slash then path_below below else None

unfoldable pub path_in : List ℕ → Said PathNames
path_in word = ok_or (path_of word) Cause.Path

-- ---- bytes

-- so many bytes, each of which is told by two hexadecimal digits of either case
unfoldable pub bytes_in : ℕ → ℕ → List ℕ → Said (List ℕ)
bytes_in least most word = do
  bytes ← ok_or (result_ok (decode_of word)) Cause.Hex
  if_kept (nat_le least (length bytes) && nat_le (length bytes) most) Cause.Hex bytes

-- ---- runs

abbrev pub is_digit : ℕ → Bool
is_digit byte = nat_le 48 byte && nat_le byte 57

abbrev pub is_times : ℕ → Bool
is_times byte = byte == 120

-- how steps ended that have this mark: `f`, `m` or none
unfoldable pub outcome_of_mark : List ℕ → Option Outcome
outcome_of_mark mark =
    find (λ outcome. bytes_eq (outcome_mark outcome) mark) (Ended.Done ∷ Ended.Failed ∷ Ended.NoMemory ∷ [])

-- a run of this actor's steps: behind the actor a mark, an `x` and a count
unfoldable pub run_of : List ℕ → Words → Said StepRun
run_of actor (mark ∷ count ∷ []) = do
  actor ← number_in 1 MOST_ACTORS actor
  outcome ← ok_or (outcome_of_mark mark) Cause.Number
  count ← number_in 1 LONGEST_RUN count
  Ok (record { step = record { actor = actor; outcome = outcome }; count = count })
run_of actor _ = Err Cause.Number

unfoldable pub run_in : List ℕ → Said StepRun
run_in word =
    let actor = take_while is_digit word in
    run_of actor (slice_split is_times (drop (length actor) word))
