-- All definitions of the disks under one name, for what is shown by computing: a proof that unfolds `whole_disks` unfolds
-- each of them.
use Rattle.std.specs.Prelude.{⊤}
use Rattle.qfs_model_meta.specs.Grammar.{files_in}
use Rattle.qfs_model_disks.specs.Image.{entry_text, entry_by, entry_reader, entry_at}
use Rattle.qfs_model_disks.specs.LogRecord.{request_text, fields_at, numbered_reader, request_at, whole_body, log_record_at}
use Rattle.qfs_model_disks.specs.Spelled.{is_checkpoint, epoch_of, takes_right, with_record, records_behind, records_from, found_log, found_image, found_on, found_in, after_record, spelled_by, spelled}
use Rattle.qfs_model_disks.specs.Tests.{are_rising, are_distinct, if_any, is_directory, has_parents, is_plain, has_maker, is_row, is_tree, is_server_of, is_copy_on, is_grant_under, is_slot_row, is_slot_table, is_lease_row, is_lease_list, are_first, is_condemned_row, is_condemned_list, is_dropped_list, is_entry, starts_from_one, has_servers, is_image}
use Rattle.qfs_model_disks.specs.Values.{is_name_byte, is_name, path_of_names, path_below, path_of_text, path_at}

unfoldable pub whole_disks : ⊤
unfolding files_in entry_text entry_by entry_reader entry_at request_text fields_at numbered_reader request_at whole_body log_record_at is_checkpoint epoch_of takes_right with_record records_behind records_from found_log found_image found_on found_in after_record spelled_by spelled are_rising are_distinct if_any is_directory has_parents is_plain has_maker is_row is_tree is_server_of is_copy_on is_grant_under is_slot_row is_slot_table is_lease_row is_lease_list are_first is_condemned_row is_condemned_list is_dropped_list is_entry starts_from_one has_servers is_image is_name_byte is_name path_of_names path_below path_of_text path_at
whole_disks = tt
