use Rattle.std.proofs.Common.{refl}
use Rattle.qfs_model_grammar.proofs.OnLiterals.{grammar_on_literals}
use Rattle.qfs_model_grammar.proofs.reads_a_whole_script.Goals as goal

pub returns : goal.returns
unfolding grammar_on_literals
returns c = record { said = refl; again = refl }
