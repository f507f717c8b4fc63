-- What is read of a text is a script. The law `read_texts_are_scripts`.
use Rattle.std.proofs.Common.{◌≡◌, refl, ℕ, ◌+◌, Bool, true, false, List, [], ◌∷◌, length, Option, Some, None, Ok, Err}
use Rattle.std.specs.Prelude.{⊤, IfOk, IsSome, ok_or, nat_le, not, is_none, ◌&&◌, if◌then◌else◌}
use Rattle.qfs_base.specs.declared.script.ScriptCause.TheVariants as Cause
use Rattle.qfs_base.specs.declared.history.Step.{Step}
use Rattle.qfs_model_script.specs.Limits.{MOST_TEXT_BYTES, MOST_LINES}
use Rattle.qfs_model_text.specs.Line.{Words}
use Rattle.qfs_model_grammar.specs.FirstWords.{first_word, may_stand, may_be_last}
use Rattle.qfs_model_grammar.specs.Laws.{IsRead, GivesScripts}
use Rattle.qfs_model_grammar.specs.LinePlace.{LinePlace}
use Rattle.qfs_model_grammar.specs.Lines.{text_lines, is_text, line_words, begins_remark}
use Rattle.qfs_model_grammar.specs.ReadScript.{at_line, first_in, first_and_more, read_words, read_line, read_lines, whole_script, script_of_lines, read_script}
use Rattle.qfs_model_grammar.specs.Said.{Said, ◌>>=◌, if_kept}
use Rattle.qfs_model_grammar.specs.SoFar.{SoFar, nothing_yet}
use Rattle.qfs_laws_grammar.proofs.Sound.{Sound, sound_start, line_sound, script_of}
use Rattle.qfs_laws_grammar.proofs.Steps.{gives, gives_kept, gives_any, given}

-- ---- one line

first_gives : (place : LinePlace) (word : List ℕ)
    → IfOk (first_in place word) (λ first. may_stand place first ≡ true)
unfolding first_in
first_gives place word =
    gives (λ first. ⊤) (λ first. may_stand place first ≡ true) (ok_or (first_word word) Cause.Word)
    _ (gives_any (ok_or (first_word word) Cause.Word))
    (λ first known. gives_kept (λ first. may_stand place first ≡ true) (may_stand place first)
    Cause.Word first (λ stands. stands))

more_sound : (so : SoFar) (word : List ℕ) (words : Words) → Sound so
    → IfOk (first_and_more so word words) Sound
unfolding first_and_more
more_sound so word words sound =
    gives (λ first. may_stand so.place first ≡ true) Sound (first_in so.place word) _
    (first_gives so.place word)
    (λ first stands. line_sound so first words sound stands)

either : (test : Bool) (first second : Said SoFar) → IfOk first Sound → IfOk second Sound
    → IfOk (if test then first else second) Sound
either true first second of_first of_second = of_first
either false first second of_first of_second = of_second

words_sound : (so : SoFar) (words : Words) → Sound so → IfOk (read_words so words) Sound
unfolding read_words
words_sound so [] sound = sound
words_sound so (word ∷ words) sound = either (begins_remark word) (Ok so)
    (first_and_more so word words) sound (more_sound so word words sound)

read_sound : (so : SoFar) (number : ℕ) (line : List ℕ) → Sound so
    → IfOk (read_line so number line) Sound
unfolding read_line
read_sound so number line sound =
    gives (λ text. ⊤) Sound (if_kept (is_text line) Cause.NotText line) _
    (gives_any (if_kept (is_text line) Cause.NotText line))
    (λ text known. gives Sound Sound (read_words so (line_words text)) _
    (words_sound so (line_words text) sound)
    (λ next holds. gives_kept Sound (nat_le number MOST_LINES) Cause.Limit next (λ few. holds)))

-- ---- all lines

at_its_line : {A : Type 0} (P : A → Type 0) (number : ℕ) (said : Said A) → IfOk said P
    → IfOk (at_line number said) P
at_its_line P number (Ok value) holds = holds
at_its_line P number (Err cause) holds = tt

lines_sound : (so : SoFar) (number : ℕ) (lines : List (List ℕ)) → Sound so
    → IfOk (read_lines so number lines) Sound
unfolding read_lines
lines_sound so number [] sound = sound
lines_sound so number (line ∷ lines) sound =
    gives Sound Sound (at_line number (read_line so number line)) _
    (at_its_line Sound number (read_line so number line) (read_sound so number line sound))
    (λ next holds. lines_sound next (number + 1) lines holds)

some_order : (replays : Bool) (order : Option (List Step)) → not (replays && is_none order) ≡ true
    → replays ≡ true → IsSome order
some_order true (Some steps) tested replayed = refl
some_order true None tested replayed = cc
some_order false order tested replayed = cc

ended : (replays : Bool) (so : SoFar) → Sound so → IfOk (whole_script replays so) (IsRead replays)
unfolding whole_script if_kept
ended replays so sound = at_end (may_be_last so.place) refl
  where
    at_end : (last : Bool) → may_be_last so.place ≡ last
        → IfOk (if_kept last Cause.Word so.script >>=
        (λ ended. if_kept (not (replays && is_none ended.order)) Cause.NoOrder ended))
        (IsRead replays)
    at_end true is =
        gives_kept (IsRead replays) (not (replays && is_none so.script.order)) Cause.NoOrder
        so.script
        (λ tested. record {
          is_script = script_of so sound is;
          order =
              some_order replays so.script.order tested;
        })
    at_end false is = tt

lines_give : (replays : Bool) (lines : List (List ℕ))
    → IfOk (script_of_lines replays lines) (IsRead replays)
unfolding script_of_lines
lines_give replays lines =
    gives Sound (IsRead replays) (read_lines nothing_yet 1 lines) _
    (lines_sound nothing_yet 1 lines sound_start)
    (λ so sound. at_its_line (IsRead replays) (length lines + 1) (whole_script replays so)
    (ended replays so sound))

text_gives : (replays : Bool) (text : List ℕ) → IfOk (read_script replays text) (IsRead replays)
unfolding read_script
text_gives replays text =
    gives (λ small. ⊤) (IsRead replays)
    (at_line 0 (if_kept (nat_le (length text) MOST_TEXT_BYTES) Cause.TooBig text)) _
    (gives_any (at_line 0 (if_kept (nat_le (length text) MOST_TEXT_BYTES) Cause.TooBig text)))
    (λ small known. lines_give replays (text_lines small))

pub gives_scripts : GivesScripts
gives_scripts replays text script is = given (IsRead replays) (read_script replays text) script
    (text_gives replays text) is
