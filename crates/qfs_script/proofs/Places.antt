-- First words, and whether they may stand at a place.
use Rattle.std.proofs.Common.{◌≡◌, ◌∙◌, sym, ap, refl, ℕ, Bool, true, false, List, Option, Some, None, Result, Ok, Err}
use Rattle.std.specs.Prelude.{ok_or}
use Rattle.std.specs.Option.{option_map}
use Rattle.qfs_base.specs.declared.script.ScriptCause.TheVariants as Cause
use Rattle.qfs_words.specs.Meant.{first_meant}
use Rattle.qfs_words.specs.declared.words.FirstWord as F
use Rattle.qfs_model_grammar.specs.FirstWord.{FirstWord}
use Rattle.qfs_model_grammar.specs.FirstWords.{first_word, may_stand}
use Rattle.qfs_model_grammar.specs.LinePlace.{LinePlace}
use Rattle.qfs_model_grammar.specs.ReadScript.{first_in}
use Rattle.qfs_model_grammar.specs.Said.{Said, ◌>>=◌, if_kept}

tested : (place : LinePlace) (word : List ℕ) (first : F.FirstWord) (may : Bool) → Some (first_meant first) ≡ first_word word
    → may_stand place (first_meant first) ≡ may → first_in place word ≡ if_kept may Cause.Word (first_meant first)
unfolding first_in
tested place word first may found is =
    ap (λ (f : Option FirstWord). ok_or f Cause.Word >>= (λ first. if_kept (may_stand place first) Cause.Word first)) (sym found)
    ∙ ap (λ b. if_kept b Cause.Word (first_meant first)) is

pub first_stands : (place : LinePlace) (word : List ℕ) (first : F.FirstWord) → Some (first_meant first) ≡ first_word word
    → may_stand place (first_meant first) ≡ true → first_in place word ≡ Ok (first_meant first)
unfolding if_kept
first_stands place word first found is = tested place word first true found is

pub first_bars : (place : LinePlace) (word : List ℕ) (first : F.FirstWord) → Some (first_meant first) ≡ first_word word
    → may_stand place (first_meant first) ≡ false → first_in place word ≡ Err Cause.Word
unfolding if_kept
first_bars place word first found is = tested place word first false found is

pub no_first : (place : LinePlace) (word : List ℕ) → None ≡ first_word word → first_in place word ≡ Err Cause.Word
unfolding first_in
no_first place word none =
    ap (λ (f : Option FirstWord). ok_or f Cause.Word >>= (λ first. if_kept (may_stand place first) Cause.Word first)) (sym none)
