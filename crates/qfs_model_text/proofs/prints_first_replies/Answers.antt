use Rattle.std.proofs.Common.{refl}
use Rattle.qfs_model_text.proofs.OnLiterals.{text_on_literals}
use Rattle.qfs_model_text.proofs.prints_first_replies.Goals as goal

pub returns : goal.returns
unfolding text_on_literals
returns c = refl
