use Rattle.std.proofs.Common.{arith, rules}
use Rattle.std.proofs.lemmas.Grind.{common_steps}
use Rattle.qfs_lexer.proofs.RunWords.{mark_done, no_mark}
use Rattle.qfs_lexer.proofs.runs.outcome_of_mark.Goals as goal

pub returns-then-is_empty : goal.returns-then-is_empty
returns-then-is_empty c = mark_done _ (grind (arith, common_steps))

pub returns-else-eq-2 : goal.returns-else-eq-2
returns-else-eq-2 c = no_mark _ (λ none. grind (arith, common_steps)) (search rules) (search rules)
