use Rattle.std.proofs.Common.{refl}
use Rattle.qfs_model_grammar.proofs.OnLiterals.{grammar_on_literals}
use Rattle.qfs_model_grammar.proofs.misses_an_order.Goals as goal

pub returns : goal.returns
unfolding grammar_on_literals
returns c = record { missing = refl; there = refl; bad = refl; early = refl }
