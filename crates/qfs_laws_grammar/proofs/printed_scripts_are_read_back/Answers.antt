use Rattle.qfs_laws_grammar.proofs.ReadsBack.{reads_back}
use Rattle.qfs_laws_grammar.proofs.printed_scripts_are_read_back.Goals as goal

pub returns : goal.returns
returns c = reads_back
