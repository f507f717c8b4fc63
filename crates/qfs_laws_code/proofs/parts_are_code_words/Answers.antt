use Rattle.qfs_laws_code.proofs.Parted.{part_words}
use Rattle.qfs_laws_code.proofs.parts_are_code_words.Goals as goal

pub returns : goal.returns
returns c = part_words
