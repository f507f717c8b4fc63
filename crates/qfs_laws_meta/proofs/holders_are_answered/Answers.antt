use Rattle.qfs_laws_meta.specs.HeldAnswers.{held-are-answered}
use Rattle.qfs_laws_meta.proofs.holders_are_answered.Goals as goal

pub returns : goal.returns
returns c = held-are-answered
