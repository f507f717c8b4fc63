-- How many words stand behind the first one of a line.
use Rattle.std.specs.Prelude.{ℕ, List, [], ◌∷◌, Ok, Err}
use Rattle.qfs_base.specs.declared.script.ScriptCause.TheVariants as Cause
use Rattle.qfs_model_text.specs.Line.{Words}
use Rattle.qfs_model_grammar.specs.Said.{Said}

unfoldable pub no_word : Words → Said (Unit {0})
no_word [] = Ok tt
no_word (word ∷ words) = Err Cause.Count

unfoldable pub one_word : Words → Said (List ℕ)
one_word (word ∷ []) = Ok word
one_word _ = Err Cause.Count

unfoldable pub two_words : Words → Said (List ℕ × List ℕ)
two_words (first ∷ second ∷ []) = Ok (first, second)
two_words _ = Err Cause.Count

unfoldable pub three_words : Words → Said (List ℕ × List ℕ × List ℕ)
three_words (first ∷ second ∷ third ∷ []) = Ok (first, second, third)
three_words _ = Err Cause.Count

unfoldable pub four_words : Words → Said (List ℕ × List ℕ × List ℕ × List ℕ)
four_words (first ∷ second ∷ third ∷ fourth ∷ []) = Ok (first, second, third, fourth)
four_words _ = Err Cause.Count
