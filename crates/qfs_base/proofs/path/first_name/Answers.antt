use Rattle.std.proofs.Common.{sym}
use Rattle.qfs_base.proofs.PathTexts.{split_at_slash, split_without_slash}
use Rattle.qfs_base.proofs.path.first_name.Goals as goal

pub returns-in-Some-clause-names : goal.returns-in-Some-clause-names
returns-in-Some-clause-names c = split_at_slash _ _ (sym c.in-Some.ensures)

pub returns-in-None-clause-names : goal.returns-in-None-clause-names
returns-in-None-clause-names c = split_without_slash _ (sym c.in-None.ensures)
