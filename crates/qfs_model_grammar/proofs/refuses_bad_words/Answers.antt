use Rattle.std.proofs.Common.{refl}
use Rattle.qfs_model_grammar.proofs.OnLiterals.{grammar_on_literals}
use Rattle.qfs_model_grammar.proofs.refuses_bad_words.Goals as goal

pub returns : goal.returns
unfolding grammar_on_literals
returns c = record { run_as_command = refl; recipe_without_path = refl; command_for_layout = refl; drop_for_layout = refl; early_end = refl; number_as_word = refl; number_among_commands = refl }
