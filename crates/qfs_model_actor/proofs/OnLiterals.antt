-- What an answer unfolds to compute the work of a command on literals.
use Rattle.std.specs.Prelude.{⊤}
use Rattle.qfs_galois.specs.Field.{inverse}
use Rattle.qfs_model_slot.proofs.OnLiterals.{chunks_on_literals}
use Rattle.qfs_model_actor.specs.Work.{goes_on, follow, request_in, asked, node_of_request, for_each}
use Rattle.qfs_model_actor.specs.Hold.{on_answer, on_meta, ask_or, was_given_back, was_released, give_back, end_with}
use Rattle.qfs_model_actor.specs.Ask.{ask, on_served, on_chunk, ask_server, after_store, filled, after_fetch, fetch}
use Rattle.qfs_model_actor.specs.Grants.{is_grant_of, if_meant, with_grant_of, is_in_range, with_proper, copy_if, sole_copy, source_of, with_source}
use Rattle.qfs_model_actor.specs.Tree.{refused, changed, listed, change_work, list_work}
use Rattle.qfs_model_actor.specs.Put.{aborted, chosen, ask_grant, store, store_slot, store_slots, store_blocks, closed, close_file, put_blocks_from, put_slots_from, created, put_work}
use Rattle.qfs_model_actor.specs.Windows.{window_offset, cut_to_range}
use Rattle.qfs_model_actor.specs.Pieces.{piece_of, restored_slot, given_or_restored, data_of, row_of, rows_of_file}
use Rattle.qfs_model_actor.specs.Read.{source_of_listed, sources_of, cause_at, causes_of, are_too_few, go_on_or_stop, with_enough, at_source, read_slots, read_windows, read_block}
use Rattle.qfs_model_actor.specs.Get.{reading_of, read_blocks, read_if_any, read_range, is_whole, read_if_whole, was_opened, attempt, attempts, range_of, get_work}
use Rattle.qfs_model_actor.specs.Repair.{after_confirm, confirm, give_up, store_granted}
use Rattle.qfs_model_actor.specs.Recover.{reading_for, restore_chunk, recover_slot, after_recover_at, recover_work, after_heal_next, heal_on, heal_work}
use Rattle.qfs_model_actor.specs.Move.{copy_windows, copy_chunk, move_slot, after_move_at, move_work, after_balance_next, rebalance_on, rebalance_work, evacuated, count_left, after_evac_next, evacuate_on, after_leave, evacuate_work}
use Rattle.qfs_model_actor.specs.Sweep.{say_swept, after_erase, erase, after_order, sweep_on, sweep_work}
use Rattle.qfs_model_actor.specs.Servers.{after_bye, after_stop, stop_work, after_hello, after_inventory, tell_copies, after_start, start_work, after_wipe, wipe_work, after_rest, after_hibernate, hibernate_work, after_upgrade, upgrade_work}
use Rattle.qfs_model_actor.specs.System.{ticked, dropped, saved, restarted, tick_work, drop_work, checkpoint_work, restart_work}
use Rattle.qfs_model_actor.specs.Command.{file_work, work_of}
use Rattle.qfs_model_actor.specs.Actor.{starting, work_left, request_of, node_of, has_finished, moved_on, after_reply, after_replies}
use Rattle.qfs_model_actor.specs.Shown.{shown_reply, shown_if_few, excerpt_of, lines_from}
use Rattle.qfs_model_actor.specs.Steps.{most_file_steps, most_steps, if_asking, left}
use Rattle.qfs_base.specs.Mask.{has_slot}
use Rattle.qfs_model_slot.specs.CodeWord.{column}
use Rattle.qfs_model_slot.specs.Restored.{dot, weighed, counts, counts_of, minor, cross, without_slots, last_besides, is_spare, first_spare, left_out, scaled_to, combination, equation, weight, weights_by, weights, restored}

unfoldable pub work_on_literals : ⊤
unfolding inverse chunks_on_literals goes_on follow request_in asked node_of_request for_each on_answer on_meta ask_or was_given_back was_released give_back end_with ask on_served on_chunk ask_server after_store filled after_fetch fetch is_grant_of if_meant with_grant_of is_in_range with_proper copy_if sole_copy source_of with_source refused changed listed change_work list_work aborted chosen ask_grant store store_slot store_slots store_blocks closed close_file put_blocks_from put_slots_from created put_work window_offset cut_to_range piece_of restored_slot given_or_restored data_of row_of rows_of_file source_of_listed sources_of cause_at causes_of are_too_few go_on_or_stop with_enough at_source read_slots read_windows read_block reading_of read_blocks read_if_any read_range is_whole read_if_whole was_opened attempt attempts range_of get_work after_confirm confirm give_up store_granted reading_for restore_chunk recover_slot after_recover_at recover_work after_heal_next heal_on heal_work copy_windows copy_chunk move_slot after_move_at move_work after_balance_next rebalance_on rebalance_work evacuated count_left after_evac_next evacuate_on after_leave evacuate_work say_swept after_erase erase after_order sweep_on sweep_work after_bye after_stop stop_work after_hello after_inventory tell_copies after_start start_work after_wipe wipe_work after_rest after_hibernate hibernate_work after_upgrade upgrade_work ticked dropped saved restarted tick_work drop_work checkpoint_work restart_work file_work work_of starting work_left request_of node_of has_finished moved_on after_reply after_replies shown_reply shown_if_few excerpt_of lines_from most_file_steps most_steps if_asking left has_slot dot column weighed counts counts_of minor cross without_slots last_besides is_spare first_spare left_out scaled_to combination equation weight weights_by weights restored
work_on_literals = tt
