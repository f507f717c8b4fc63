use Rattle.qfs_laws_text.proofs.Letters.{letters_tell_lives}
use Rattle.qfs_laws_text.proofs.letters_tell_lives.Goals as goal

pub returns : goal.returns
returns c = letters_tell_lives
