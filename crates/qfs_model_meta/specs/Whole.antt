-- All definitions of the metaserver under one name, for what is shown by computing: a proof that
-- unfolds `whole_metaserver` unfolds each of them.
use Rattle.std.specs.Prelude.{⊤}
use Rattle.qfs_base.specs.Files.{kind_of_content, files_standing, is_unclosed_content, is_unclosed_entry, close_entry, files_after, files_of, path_of_unclosed, may_follow, creates, created_count, closing_command, closing_commands}
use Rattle.qfs_base.specs.NameTree.{kind_at, through_refusal, parents_refusal, new_refusal, file_refusal, source_refusal, is_filled, add_refusal, directory_refusal, rmdir_refusal, look_refusal, grows_too_deep, rename_refusal, only_name, name_in, names_below, added, taken, renamed}
use Rattle.qfs_base.specs.Outcome.{meta_outcome, chunk_outcome, outcome_of}
use Rattle.qfs_model_meta.specs.Apply.{write_entry, add_file, with_slots, change_record, grant_slot, give_up, fail_grant, confirm_slot, empty_slot, finish_lease, is_that_copy, is_known_copy, condemn_unknown, condemn_stray, bring_up, apply, apply_all}
use Rattle.qfs_model_meta.specs.Condemned.{condemned_row, list_if_live, condemn, condemn_any, is_numbered, is_on_server, is_copy_of, is_unblocked, may_go, next_to_go, unblock, unblock_all, mark_ordered, sweep, forget_if_risen}
use Rattle.qfs_model_meta.specs.Counters.{counters_fit}
use Rattle.qfs_model_meta.specs.Decide.{decide_request, decide}
use Rattle.qfs_model_meta.specs.Decision.{refuse, unless, need, refuse_file, refuse_path}
use Rattle.qfs_model_meta.specs.DropRequest.{is_granted_to, is_recovery_of, recovery_changes, unclosed_changes, drop_changes, changes_unless_dropped, decide_drop}
use Rattle.qfs_model_meta.specs.Dropped.{dropped_at, dropped_cmp, add_dropped}
use Rattle.qfs_model_meta.specs.GetRequests.{opened, decide_open, decide_release}
use Rattle.qfs_model_meta.specs.LeasedGrants.{pending_refusal, comes_after, has_block, is_at_rest, is_live_on, closed_len, lease_and_grant, grant_leased, grant_chosen, grant_recovery, move_source}
use Rattle.qfs_model_meta.specs.Leases.{is_lease, is_live_lease, holds_lease, lease_end, give_lease, end_lease, has_run_out, leases_on, leases_of, leases_over}
use Rattle.qfs_model_meta.specs.Lists.{no_sources, one_source, listed_nine, listed_others, listed_blocks, new_grant}
use Rattle.qfs_model_meta.specs.MoveRequests.{is_barred, may_get, move_copy, decide_move, is_to_move, next_to_move, evacuate_slot, decide_evacuate, fits_move, move_slot, even_out, give_to_lightest, decide_balance}
use Rattle.qfs_model_meta.specs.Placing.{load_of, census, is_open, open_servers, lighter, heavier, choose, with_live_servers, barred_for_put, barred_for_block}
use Rattle.qfs_model_meta.specs.PutRequests.{decide_create, taken_refusal, failed_grant, failed_with, chosen_for_put, put_granted, grant_for_put, grant_in, decide_grant, block_slots, file_slots, lacks_grant, first_ungranted, incomplete, close_complete, decide_close, abort_changes, abort_unclosed, decide_abort}
use Rattle.qfs_model_meta.specs.Range.{is_server, is_slot_number, is_slot_behind, in_range}
use Rattle.qfs_model_meta.specs.RepairRequests.{is_expected, is_missing, decide_recover, slots_of_closed, closed_slots, is_to_heal, next_to_heal, heal_slot, decide_heal}
use Rattle.qfs_model_meta.specs.ServerRequests.{decide_hello, decide_bye, decide_leave, decide_hibernate, decide_tick, decide_left_on}
use Rattle.qfs_model_meta.specs.Servers.{no_server, server_at, change_server, is_live, is_listed, listed_copy, hibernates, takes_chunks, server_up, server_down, server_leaving, server_asleep, reading_after}
use Rattle.qfs_model_meta.specs.SettleRequests.{is_own_grant, pending_version, end_live_lease, end_own_lease, may_confirm, confirm_grant, decide_confirm, give_up_own, abandon_changes, decide_abandon}
use Rattle.qfs_model_meta.specs.Slots.{never_granted, same_block, same_copy, slot_id, slot_cmp, is_slot, is_of_block, is_of_file, slot_at, slots_of, granted_copy, grants_of_block, copies_of_block, granted_slot, ungranted_slot, failed_slot, confirmed_slot, sealed_slot, emptied_slot, change_state, with_slot, change_slot, without_grant, seal_file, forget_file, count_on}
use Rattle.qfs_model_meta.specs.Step.{stays, next_turn, take_step, carry_out, fail_disks, end_step, serve_unless_dropped, meta_step, first_server, opening}
use Rattle.qfs_model_meta.specs.SweepRequests.{order_row, decide_order, decide_swept}
use Rattle.qfs_model_meta.specs.TreeRequests.{decide_mkdir, decide_rmdir, remove_changes, decide_remove, decide_rename, decide_list}
use Rattle.qfs_model_meta.specs.TreeRows.{kind_of, standing, directory_row, file_row, row_at, is_unclosed, is_closed, has_file, is_unclosed_row, is_closed_row, is_unclosed_of, unclosed_file, rising_files, unclosed_files, closed_file, file_stands, close_row, add_row, take_path, take_file, close_file, move_path}

unfoldable pub whole_metaserver : ⊤
unfolding kind_of_content files_standing is_unclosed_content is_unclosed_entry close_entry files_after files_of path_of_unclosed may_follow creates created_count closing_command closing_commands kind_at through_refusal parents_refusal new_refusal file_refusal source_refusal is_filled add_refusal directory_refusal rmdir_refusal look_refusal grows_too_deep rename_refusal only_name name_in names_below added taken renamed meta_outcome chunk_outcome outcome_of write_entry add_file with_slots change_record grant_slot give_up fail_grant confirm_slot empty_slot finish_lease is_that_copy is_known_copy condemn_unknown condemn_stray bring_up apply apply_all condemned_row list_if_live condemn condemn_any is_numbered is_on_server is_copy_of is_unblocked may_go next_to_go unblock unblock_all mark_ordered sweep forget_if_risen counters_fit decide_request decide refuse unless need refuse_file refuse_path is_granted_to is_recovery_of recovery_changes unclosed_changes drop_changes changes_unless_dropped decide_drop dropped_at dropped_cmp add_dropped opened decide_open decide_release pending_refusal comes_after has_block is_at_rest is_live_on closed_len lease_and_grant grant_leased grant_chosen grant_recovery move_source is_lease is_live_lease holds_lease lease_end give_lease end_lease has_run_out leases_on leases_of leases_over no_sources one_source listed_nine listed_others listed_blocks new_grant is_barred may_get move_copy decide_move is_to_move next_to_move evacuate_slot decide_evacuate fits_move move_slot even_out give_to_lightest decide_balance load_of census is_open open_servers lighter heavier choose with_live_servers barred_for_put barred_for_block decide_create taken_refusal failed_grant failed_with chosen_for_put put_granted grant_for_put grant_in decide_grant block_slots file_slots lacks_grant first_ungranted incomplete close_complete decide_close abort_changes abort_unclosed decide_abort is_server is_slot_number is_slot_behind in_range is_expected is_missing decide_recover slots_of_closed closed_slots is_to_heal next_to_heal heal_slot decide_heal decide_hello decide_bye decide_leave decide_hibernate decide_tick decide_left_on no_server server_at change_server is_live is_listed listed_copy hibernates takes_chunks server_up server_down server_leaving server_asleep reading_after is_own_grant pending_version end_live_lease end_own_lease may_confirm confirm_grant decide_confirm give_up_own abandon_changes decide_abandon never_granted same_block same_copy slot_id slot_cmp is_slot is_of_block is_of_file slot_at slots_of granted_copy grants_of_block copies_of_block granted_slot ungranted_slot failed_slot confirmed_slot sealed_slot emptied_slot change_state with_slot change_slot without_grant seal_file forget_file count_on stays next_turn take_step carry_out fail_disks end_step serve_unless_dropped meta_step first_server opening order_row decide_order decide_swept decide_mkdir decide_rmdir remove_changes decide_remove decide_rename decide_list kind_of standing directory_row file_row row_at is_unclosed is_closed has_file is_unclosed_row is_closed_row is_unclosed_of unclosed_file rising_files unclosed_files closed_file file_stands close_row add_row take_path take_file close_file move_path
whole_metaserver = tt
