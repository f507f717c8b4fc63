use Rattle.std.proofs.Common.{refl}
use Rattle.qfs_model_grammar.proofs.OnLiterals.{grammar_on_literals}
use Rattle.qfs_model_grammar.proofs.refuses_bad_numbers.Goals as goal

pub returns : goal.returns
unfolding grammar_on_literals
returns c = record { start_too_high = refl; put_too_long = refl; no_such_actor = refl }
