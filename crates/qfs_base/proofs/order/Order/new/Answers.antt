use Rattle.std.proofs.Common.{ap, None, subst, sym}
use Rattle.qfs_base.specs.Order.{AreRuns, all_steps, steps_of_runs}
use Rattle.qfs_base.proofs.order.Order.new.Goals as goal

pub invariant_of-result : goal.invariant_of-result
unfolding AreRuns
invariant_of-result c = (λ _. c.new.ensures, subst AreRuns (sym c.new.ensures) tt)

pub returns : goal.returns
unfolding steps_of_runs
returns c = ap (λ runs. all_steps runs None) c.new.ensures
