use Rattle.std.proofs.Common.{ap, refl, arith}
use Rattle.qfs_script.specs.Meant.{place_meant}
use Rattle.qfs_script.proofs.Taken.{start_with}
use Rattle.qfs_model_grammar.proofs.OnLiterals.{grammar_on_literals}
use Rattle.qfs_script.proofs.so_far.SoFar.nothing_yet.Goals as goal

pub invariant_of-result : goal.invariant_of-result
unfolding grammar_on_literals
invariant_of-result c = ((omega arith, omega arith, refl), (omega arith, omega arith))

pub returns : goal.returns
unfolding place_meant
returns c = ap start_with c.new.ensures
