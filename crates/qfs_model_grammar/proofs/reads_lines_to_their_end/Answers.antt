use Rattle.std.proofs.Common.{refl}
use Rattle.qfs_model_grammar.proofs.OnLiterals.{grammar_on_literals}
use Rattle.qfs_model_grammar.proofs.reads_lines_to_their_end.Goals as goal

pub returns : goal.returns
unfolding grammar_on_literals
returns c = record { whole = refl; unended = refl; empty = refl; one_end = refl; ordered = refl; unread = refl }
