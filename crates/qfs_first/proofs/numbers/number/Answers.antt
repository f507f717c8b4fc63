use Rattle.std.proofs.Common.{arith, ◌∙◌, sym}
use Rattle.qfs_first.proofs.NumberTexts.{written, written_otherwise, not_written}
use Rattle.qfs_first.proofs.numbers.number.Goals as goal

pub returns-in_err-number : goal.returns-in_err-number
returns-in_err-number c = c.from_residual.ensures ∙ not_written _ _ c.in_err-number.was c.parsed.ensures

pub returns-then-is_decimal : goal.returns-then-is_decimal
returns-then-is_decimal c = written _ _ (omega arith) (sym c.is_decimal.ensures ∙ c.if-is_decimal.true)

pub returns-else-is_decimal : goal.returns-else-is_decimal
returns-else-is_decimal c = written_otherwise _ _ c.in_ok-number.ensures (sym c.is_decimal.ensures ∙ c.if-is_decimal.false)
