-- What an answer unfolds to compute worlds and texts on literals.
use Rattle.std.specs.Prelude.{⊤}
use Rattle.qfs_base.specs.FileReplies.{refused_or, bytes_of_content, bytes_at, wanted_bytes, file_reply, reply_at}
use Rattle.qfs_model_slot.proofs.OnLiterals.{chunks_on_literals}
use Rattle.qfs_model_meta.specs.Past.{no_past, granted_slot_copy, listed_copy_of, listed_in, listed_in_file, with_lease, with_copy, is_of_put, with_grant, remember}
use Rattle.qfs_model_meta.specs.Whole.{whole_metaserver}
use Rattle.qfs_model_actor.proofs.OnLiterals.{work_on_literals}
use Rattle.qfs_model_actor.specs.Shown.{shown_reply}
use Rattle.qfs_model_text.proofs.OnLiterals.{text_on_literals}
use Rattle.qfs_model_server.specs.Server.{has_range, unless_away, chunk_refusal, room_of, start_reads, chunk_served, chunk_attempted, chunk_decided, server_step}
use Rattle.qfs_model_world.specs.World.{numbered_actors, start, numbered, renumbered, meta_turned, chunk_turned, chunk_turn, node_turn, handed_over, move_asking, move_actor, move, after}
use Rattle.qfs_model_world.specs.Fits.{unfinished, by_phase, first_filled, turn, chunk_may_fail, meta_may_fail, may_fail, chunk_may_want, may_want_memory, may_end, is_possible, is_possible_for, is_possible_of, may_come, fits_from, fits, is_over, is_whole}
use Rattle.qfs_model_world.specs.Puts.{command_of, put_in, put_of, put_path, puts_of}
use Rattle.qfs_model_world.specs.FileHistory.{files_left, path_if, created_in, created_path}
use Rattle.qfs_model_world.specs.Events.{event_asking, event_by, event_in, events_from, events, is_step_of, steps_of, remember_reply, past_of}
use Rattle.qfs_model_world.specs.Made.{created_by, creation_told, creations, creation_of, made, right_bytes}
use Rattle.qfs_model_world.specs.Audit.{by_file, closed_rows, blocks_in, standing_blocks, are_bytes, has_copy, is_right_copy, is_right_slot, audit_of_block, audit_of_file, current_copies, summary_of, audit_of, audit_if}
use Rattle.qfs_model_world.specs.Text.{lines_of_actor, lines_of_world, printed, text}
use Rattle.qfs_model_world.specs.Drawn.{generator_of, drawn_of, is_by, drawn_from, is_drawn}
use Rattle.qfs_model_world.specs.GivenOrder.{is_done, may_be_given, bad_end, bad_from, bad_place}
use Rattle.qfs_model_world.specs.Agrees.{place_of_report, own_entry, wrote_at, is_creation_by, content_at}
use Rattle.qfs_model_world.specs.Deletion.{ordered_copy, erased_if, erased_copy, erased_at, deleted_by, deleted_in, current_of}
use Rattle.qfs_model_world.specs.Reports.{report_of}
use Rattle.qfs_model_world.specs.Replayed.{was_logged, says_saved, says_restarted, has_saved, has_restarted, meta_request, requests_in, behind_if, behind_last, logged_since_checkpoint, settles, uncertain}
use Rattle.qfs_base.specs.Rules.{all_commands, may_take_away, tries_of, rules_of}
use Rattle.qfs_model_world.specs.HeldBlock.{is_up_in, is_readable, is_readable_slot, fetches_slot, is_fetch_of, is_failed_fetch, holds_slot, holds_block, steps_within, held_from, is_held}
use Rattle.qfs_model_world.specs.Openings.{asks_open, is_release, opens_anew}
use Rattle.qfs_model_world.specs.EveryGet.{is_to_meta, wants_memory_in, fails_at_meta, blocks_if_any, blocks_of_range}
use Rattle.qfs_model_world.specs.Headline.{is_sure, is_failed_at, failed_at}

unfoldable pub world_on_literals : ⊤
unfolding refused_or bytes_of_content bytes_at wanted_bytes file_reply reply_at chunks_on_literals no_past granted_slot_copy listed_copy_of listed_in listed_in_file with_lease with_copy is_of_put with_grant remember whole_metaserver work_on_literals shown_reply text_on_literals has_range unless_away chunk_refusal room_of start_reads chunk_served chunk_attempted chunk_decided server_step numbered_actors start numbered renumbered meta_turned chunk_turned chunk_turn node_turn handed_over move_asking move_actor move after unfinished by_phase first_filled turn chunk_may_fail meta_may_fail may_fail chunk_may_want may_want_memory may_end is_possible is_possible_for is_possible_of may_come fits_from fits is_over is_whole command_of put_in put_of put_path puts_of files_left path_if created_in created_path event_asking event_by event_in events_from events is_step_of steps_of remember_reply past_of created_by creation_told creations creation_of made right_bytes by_file closed_rows blocks_in standing_blocks are_bytes has_copy is_right_copy is_right_slot audit_of_block audit_of_file current_copies summary_of audit_of audit_if lines_of_actor lines_of_world printed text generator_of drawn_of is_by drawn_from is_drawn is_done may_be_given bad_end bad_from bad_place place_of_report own_entry wrote_at is_creation_by content_at ordered_copy erased_if erased_copy erased_at deleted_by deleted_in current_of report_of was_logged says_saved says_restarted has_saved has_restarted meta_request requests_in behind_if behind_last logged_since_checkpoint settles uncertain all_commands may_take_away tries_of rules_of is_up_in is_readable is_readable_slot fetches_slot is_fetch_of is_failed_fetch holds_slot holds_block steps_within held_from is_held asks_open is_release opens_anew is_to_meta wants_memory_in fails_at_meta blocks_if_any blocks_of_range is_sure is_failed_at failed_at
world_on_literals = tt
