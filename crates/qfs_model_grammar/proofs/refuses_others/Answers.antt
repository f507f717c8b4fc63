use Rattle.std.proofs.Common.{refl}
use Rattle.qfs_model_grammar.proofs.OnLiterals.{grammar_on_literals}
use Rattle.qfs_model_grammar.proofs.refuses_others.Goals as goal

pub returns : goal.returns
unfolding grammar_on_literals
returns c = record { put_of_too_many_blocks = refl; too_many_bytes = refl; number_for_a_path = refl; one_digit = refl; tab_in_a_word = refl; zero_byte = refl; line_tab = refl }
