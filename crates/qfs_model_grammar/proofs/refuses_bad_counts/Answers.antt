use Rattle.std.proofs.Common.{refl}
use Rattle.qfs_model_grammar.proofs.OnLiterals.{grammar_on_literals}
use Rattle.qfs_model_grammar.proofs.refuses_bad_counts.Goals as goal

pub returns : goal.returns
unfolding grammar_on_literals
returns c = record { word_behind_put = refl; word_behind_phase = refl; rmdir_of_nothing = refl; number_behind_phase = refl; range_without_count = refl; path_behind_heal = refl; no_remark_behind_words = refl }
