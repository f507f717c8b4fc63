-- The ranges of what words say. For both laws.
use Rattle.std.proofs.Common.{◌≡◌, refl, ℕ, zero, suc, ◌<◌, ◌≤◌, List, [], ◌∷◌, length, get_or, Option, Some, None, Result, Ok, Err}
use Rattle.std.specs.Prelude.{⊤, ok_or, take_while, drop, IfOk, IfSome, replicate}
use Rattle.std.specs.List.{slice_split}
use Rattle.std.specs.Int.{is_power_of_two}
use Rattle.std.specs.Result.{result_ok}
use Rattle.std.proofs.lemmas.Bool.{leb-true, and_parts}
use Rattle.hex.specs.Hex.{decode_of}
use Rattle.hex.specs.declared.error.FromHexError.{FromHexError}
use Rattle.hex.proofs.HexLemmas.{decode_of-ok}
use Rattle.qfs_base.specs.EachLaws.{each_append}
use Rattle.qfs_base.specs.Order.{steps_of_runs}
use Rattle.qfs_base.specs.Path.{IsPath}
use Rattle.qfs_base.specs.Shape.{IsStripe}
use Rattle.qfs_base.specs.Sizes.{LONGEST_RUN}
use Rattle.qfs_base.specs.Table.{Each}
use Rattle.qfs_base.specs.declared.history.Step.{Step}
use Rattle.qfs_base.specs.declared.order.StepRun.{StepRun}
use Rattle.qfs_base.specs.declared.script.ScriptCause.TheVariants as Cause
use Rattle.qfs_lexer.proofs.PathWords.{spells}
use Rattle.qfs_model_script.specs.InScript.{IsByte, IsActorNumber}
use Rattle.qfs_model_script.specs.Limits.{MOST_ACTORS}
use Rattle.qfs_model_text.specs.Line.{Words}
use Rattle.qfs_model_grammar.specs.Kinds.{number_of, number_in, stripe_in, path_of, path_in, bytes_in, is_digit, is_times, outcome_of_mark, run_of, run_in}
use Rattle.qfs_laws_grammar.proofs.Steps.{gives, gives_kept, gives_some, gives_any}

-- ---- numbers

abbrev pub IsIn : ℕ → ℕ → ℕ → Type 0
IsIn first last number = (first ≤ number) × (number ≤ last)

pub number_gives : (first last : ℕ) (word : List ℕ)
    → IfOk (number_in first last word) (IsIn first last)
unfolding number_in
number_gives first last word =
    gives (λ number. ⊤) (IsIn first last) (ok_or (number_of word) Cause.Number) _
    (gives_any (ok_or (number_of word) Cause.Number))
    (λ number known. gives_kept (IsIn first last) _ Cause.Number number
    (λ tested. let parts = and_parts _ _ tested in (leb-true _ _ parts.0, leb-true _ _ parts.1)))

pub stripe_gives : (word : List ℕ) → IfOk (stripe_in word) IsStripe
unfolding stripe_in
stripe_gives word =
    gives (IsIn 16 65536) IsStripe (number_in 16 65536 word) _ (number_gives 16 65536 word)
    (λ stripe within. gives_kept IsStripe (is_power_of_two stripe) Cause.Number stripe
    (λ tested. (within.0, within.1, tested)))

-- ---- paths

path_found : (word : List ℕ) (found : Option (List (List ℕ))) → path_of word ≡ found
    → IfSome found IsPath
path_found word (Some names) is = (spells word names is).0
path_found word None is = tt

pub path_gives : (word : List ℕ) → IfOk (path_in word) IsPath
unfolding path_in
path_gives word = gives_some IsPath (path_of word) Cause.Path (path_found word (path_of word) refl)

-- ---- bytes

each_byte : (bytes : List ℕ) → ((k : ℕ) → get_or bytes k 0 < 256) → Each IsByte bytes
each_byte [] are = tt
each_byte (byte ∷ bytes) are = (are 0, each_byte bytes (λ k. are (suc k)))

bytes_found : (word : List ℕ) (found : Result (List ℕ) FromHexError) → decode_of word ≡ found
    → IfSome (result_ok found) (Each IsByte)
bytes_found word (Ok bytes) is = each_byte bytes (λ k. (decode_of-ok word bytes is).3 k)
bytes_found word (Err error) is = tt

pub record AreBytes (least most : ℕ) (bytes : List ℕ) : Type 0 where
  pub enough : least ≤ length bytes
  pub few : length bytes ≤ most
  pub each : Each IsByte bytes

pub bytes_give : (least most : ℕ) (word : List ℕ)
    → IfOk (bytes_in least most word) (AreBytes least most)
unfolding bytes_in
bytes_give least most word =
    gives (Each IsByte) (AreBytes least most) (ok_or (result_ok (decode_of word)) Cause.Hex) _
    (gives_some (Each IsByte) (result_ok (decode_of word)) Cause.Hex
    (bytes_found word (decode_of word) refl))
    (λ bytes are. gives_kept (AreBytes least most) _ Cause.Hex bytes
    (λ tested. let parts = and_parts _ _ tested in
    record { enough = leb-true _ _ parts.0; few = leb-true _ _ parts.1; each = are }))

-- ---- runs

abbrev pub RunsActor : StepRun → Type 0
RunsActor run = IsActorNumber run.step.actor

run_of_gives : (actor : List ℕ) (words : Words) → IfOk (run_of actor words) RunsActor
unfolding run_of
run_of_gives actor [] = tt
run_of_gives actor (mark ∷ []) = tt
run_of_gives actor (mark ∷ count ∷ []) =
    gives IsActorNumber RunsActor (number_in 1 MOST_ACTORS actor) _
    (number_gives 1 MOST_ACTORS actor)
    (λ number within. gives (λ outcome. ⊤) RunsActor (ok_or (outcome_of_mark mark) Cause.Number) _
    (gives_any (ok_or (outcome_of_mark mark) Cause.Number))
    (λ outcome known. gives (IsIn 1 LONGEST_RUN) RunsActor (number_in 1 LONGEST_RUN count) _
    (number_gives 1 LONGEST_RUN count)
    (λ counted fits. within)))
run_of_gives actor (mark ∷ count ∷ more ∷ words) = tt

pub run_gives : (word : List ℕ) → IfOk (run_in word) RunsActor
unfolding run_in
run_gives word = run_of_gives (take_while is_digit word)
    (slice_split is_times (drop (length (take_while is_digit word)) word))

-- the steps of an order are of actors
abbrev pub OfActor : Step → Type 0
OfActor step = IsActorNumber step.actor

each_same : (count : ℕ) (step : Step) → OfActor step → Each OfActor (replicate count step)
each_same zero step is = tt
each_same (suc count) step is = (is, each_same count step is)

pub steps_give : (runs : List StepRun) → Each RunsActor runs → Each OfActor (steps_of_runs runs)
unfolding steps_of_runs
steps_give [] each = tt
steps_give (run ∷ runs) each =
    each_append OfActor (replicate run.count run.step) (steps_of_runs runs)
    (each_same run.count run.step each.0) (steps_give runs each.1)
