use Rattle.qfs_laws_meta.specs.StepParts.{lives-are-told}
use Rattle.qfs_laws_meta.proofs.lives_are_told.Goals as goal

pub returns : goal.returns
returns c = lives-are-told
