use Rattle.std.proofs.Common.{refl}
use Rattle.qfs_model_grammar.proofs.OnLiterals.{grammar_on_literals}
use Rattle.qfs_model_grammar.proofs.tries_causes_in_order.Goals as goal

pub returns : goal.returns
unfolding grammar_on_literals
returns c = record { bare_put = refl; put_of_path = refl; put_of_unknown = refl; put_of_many = refl; count_before_path = refl; path_first = refl; hex_next = refl; number_last = refl; text_first = refl; text_in_remark = refl; leading_zero = refl; number_with_sign = refl; server_too_high = refl; odd_digits = refl; dots = refl; slash_at_end = refl }
