use Rattle.qfs_code.proofs.Encoding.{encoded}
use Rattle.qfs_code.proofs.laws.slots_with_parity_are_code_words.Goals as goal

pub returns : goal.returns
returns c = encoded
