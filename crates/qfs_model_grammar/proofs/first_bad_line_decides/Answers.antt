use Rattle.qfs_model_grammar.proofs.FirstBad.{first_bad}
use Rattle.qfs_model_grammar.proofs.first_bad_line_decides.Goals as goal

pub returns : goal.returns
returns c = first_bad
