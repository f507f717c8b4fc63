-- What an answer unfolds to compute a text on literals.
use Rattle.std.specs.Prelude.{⊤}
use Rattle.std.specs.Fmt.{digits}
use Rattle.hex.proofs.OnLiterals.{hex_on_literals}
use Rattle.qfs_model_text.specs.Audit.{audit_letter}
use Rattle.qfs_model_text.specs.Reply.{refusal_word, cause_word, name_mark, shown_words, side_word, reply_words}
use Rattle.qfs_model_text.specs.History.{entry_words, history_lines_from}
use Rattle.qfs_model_text.specs.Order.{same_outcome, outcome_mark, runs_after, runs}
use Rattle.qfs_model_text.specs.Output.{asked_audit, output}

unfoldable pub text_on_literals : ⊤
unfolding digits hex_on_literals refusal_word cause_word name_mark shown_words side_word reply_words entry_words history_lines_from audit_letter same_outcome outcome_mark runs_after runs asked_audit output
text_on_literals = tt
