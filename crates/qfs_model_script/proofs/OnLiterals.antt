-- What an answer unfolds to compute scripts and their texts on literals.
use Rattle.std.specs.Prelude.{⊤}
use Rattle.qfs_model_text.proofs.OnLiterals.{text_on_literals}
use Rattle.qfs_model_script.specs.InScript.{len_put}
use Rattle.qfs_model_script.specs.MadeScript.{script_generator, words_from, words_of, puts_from, writer, reader, emptied_server, writing_phase, repairing_phase, reading_phase, script_of_words, made_script, made_line}
use Rattle.qfs_model_script.specs.ScriptText.{recipe_words, range_words, file_command_line, command_line, term_word, audit_word, head_lines, actor_lines, phase_lines, order_lines, script_lines, script_text}

unfoldable pub scripts_on_literals : ⊤
unfolding text_on_literals len_put script_generator words_from words_of puts_from writer reader emptied_server writing_phase repairing_phase reading_phase script_of_words made_script made_line recipe_words range_words file_command_line command_line term_word audit_word head_lines actor_lines phase_lines order_lines script_lines script_text
scripts_on_literals = tt
