use Rattle.qfs_model_grammar.proofs.FirstBad.{long_text}
use Rattle.qfs_model_grammar.proofs.refuses_long_texts.Goals as goal

pub returns : goal.returns
returns c = long_text
