use Rattle.std.proofs.Common.{refl}
use Rattle.qfs_model_grammar.proofs.OnLiterals.{grammar_on_literals}
use Rattle.qfs_model_grammar.proofs.refuses_past_limits.Goals as goal

pub returns : goal.returns
unfolding grammar_on_literals
returns c = record { phases = refl; actors = refl; numbered_on = refl; commands = refl; bad_command = refl; lines = refl; last_line = refl; bad_line = refl; blocks = refl; chunk_bytes = refl }
