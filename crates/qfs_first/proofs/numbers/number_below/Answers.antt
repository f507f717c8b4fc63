use Rattle.std.proofs.Common.{arith, ◌∙◌}
use Rattle.qfs_first.proofs.NumberTexts.{found_below, found_above, found_nowhere}
use Rattle.qfs_first.proofs.numbers.number_below.Goals as goal

pub returns-in_err-number-clause-value : goal.returns-in_err-number-clause-value
returns-in_err-number-clause-value c = c.from_residual.ensures ∙ found_nowhere _ _ (omega arith) c.in_err-number.ensures

pub returns-then-number-from-clause-value : goal.returns-then-number-from-clause-value
returns-then-number-from-clause-value c = found_below _ _ _ (omega arith) (omega arith) c.in_ok-number.ensures

pub returns-else-number-from-clause-value : goal.returns-else-number-from-clause-value
returns-else-number-from-clause-value c = found_above _ c.in_ok-number.number _ (omega arith) (omega arith) c.in_ok-number.ensures
