use Rattle.std.proofs.Common.{refl}
use Rattle.qfs_model_grammar.proofs.OnLiterals.{grammar_on_literals}
use Rattle.qfs_model_grammar.proofs.refuses_heads_and_runs.Goals as goal

pub returns : goal.returns
unfolding grammar_on_literals
returns c = record { term_behind_audit = refl; second_term = refl; no_ticks = refl; too_many_ticks = refl; other_version = refl; odd_stripe = refl; actor_in_head = refl; command_in_phase = refl; run_of_none = refl; run_of_no_actor = refl; run_of_65 = refl; run_too_long = refl; other_mark = refl }
