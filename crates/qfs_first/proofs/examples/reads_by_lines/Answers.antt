use Rattle.std.proofs.Common.{refl}
use Rattle.qfs_first.proofs.OnLiterals.{script_on_literals}
use Rattle.qfs_first.proofs.examples.reads_by_lines.Goals as goal

pub returns-clause-good : goal.returns-clause-good
unfolding script_on_literals
returns-clause-good c = refl

pub returns-clause-bad : goal.returns-clause-bad
unfolding script_on_literals
returns-clause-bad c = refl
