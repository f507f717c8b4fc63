-- What an answer unfolds to compute what a text says on literals.
use Rattle.std.specs.Prelude.{⊤}
use lib.Count.{ones}
use Rattle.qfs_base.specs.Order.{steps_of_runs}
use Rattle.qfs_model_script.proofs.OnLiterals.{scripts_on_literals}
use Rattle.qfs_model_grammar.specs.Lines.{without_empty_end, text_lines, is_text, line_words, begins_remark}
use Rattle.qfs_model_grammar.specs.Said.{if_kept, read_each}
use Rattle.qfs_model_grammar.specs.Kinds.{number_of, number_in, stripe_in, path_below, path_of, path_in, bytes_in, outcome_of_mark, run_of, run_in}
use Rattle.qfs_model_grammar.specs.FirstWords.{first_word, may_stand, may_be_last}
use Rattle.qfs_model_grammar.specs.Counts.{no_word, one_word, two_words, three_words, four_words}
use Rattle.qfs_model_grammar.specs.CommandLines.{index_in, slot_in, server_in, budget_in, len_in, path_command, bare_command, budget_command, server_command, rename_command, get_whole, get_range, get_command, hex_put, fill_put, pattern_put, put_command, recover_command, move_command, evacuate_command, hibernate_command, drop_command, command_of}
use Rattle.qfs_model_grammar.specs.SoFar.{with_head, take_qfs, take_layout, take_servers, take_term, take_audit, with_actor, with_command, take_phase, with_next_actor, take_actor, recipe_len, put_len, with_next_command, keeps_limits, take_command, take_order, take_line}
use Rattle.qfs_model_grammar.specs.ReadScript.{first_in, first_and_more, read_words, read_line, read_lines, whole_script, script_of_lines, read_script}

unfoldable pub grammar_on_literals : ⊤
unfolding scripts_on_literals ones steps_of_runs without_empty_end text_lines is_text line_words begins_remark if_kept read_each number_of number_in stripe_in path_below path_of path_in bytes_in outcome_of_mark run_of run_in first_word may_stand may_be_last no_word one_word two_words three_words four_words index_in slot_in server_in budget_in len_in path_command bare_command budget_command server_command rename_command get_whole get_range get_command hex_put fill_put pattern_put put_command recover_command move_command evacuate_command hibernate_command drop_command command_of with_head take_qfs take_layout take_servers take_term take_audit with_actor with_command take_phase with_next_actor take_actor recipe_len put_len with_next_command keeps_limits take_command take_order take_line first_in first_and_more read_words read_line read_lines whole_script script_of_lines read_script
grammar_on_literals = tt
