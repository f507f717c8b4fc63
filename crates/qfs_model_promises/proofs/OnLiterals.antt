-- What an answer unfolds to compute the words of the promises on literals.
use Rattle.std.specs.Prelude.{⊤}
use Rattle.qfs_model_world.proofs.OnLiterals.{world_on_literals}
use Rattle.qfs_model_promises.specs.Requests.{is_put, is_fetch, is_create, is_grant, is_confirm, asks_meta, asks_chunk, asks_server}
use Rattle.qfs_model_meta.specs.Holding.{is_same_slot, with_grant_held, with_lease_of, taken_up, says_done, says_released, says_settled, gives_back, held_unless_back, held_after, is_tick, is_given}
use Rattle.qfs_model_promises.specs.Heard.{exchanges_in, exchanges_of, held_behind, holding_of, inventory_in, inventory_of, inventories_of}
use Rattle.qfs_model_promises.specs.TickedLeases.{ends_at_tick, was_ended_by_tick}
use Rattle.qfs_model_promises.specs.SoundWorld.{is_key, puts_key, put_stored, stores_copy, was_stored}
use Rattle.qfs_model_promises.specs.Along.{is_of_row, server_told, server_granted, server_heard, servers_tried}
use Rattle.qfs_model_promises.specs.Closing.{ends_command, is_ending}
use Rattle.qfs_model_promises.specs.Never.{was_dropped, lease_held, confirmed_if}
use Rattle.qfs_model_promises.specs.TooFew.{cause_in, cause_told, cause_if, cause_fetched, cause_met, slot_with_cause, causes_met, leave_too_few, causes_of_block, finds_too_few, tells_opened, is_opened, attempts_made}
use Rattle.qfs_model_promises.specs.NoServer.{puts_slot, is_failure, tells_failure, is_failed_put, has_live_grant, is_closed_to, has_no_server, asks_for_servers}
use Rattle.qfs_model_promises.specs.Letters.{has_life, is_of_life, is_slot_of_life}
use Rattle.qfs_model_promises.specs.Tries.{takes_server, takes_lease, takes_away, steps_between}
use Rattle.qfs_model_promises.specs.Redundancy.{live_copies}

unfoldable pub promises_on_literals : ⊤
unfolding world_on_literals is_put is_fetch is_create is_grant is_confirm is_tick asks_meta asks_chunk asks_server exchanges_in exchanges_of is_same_slot with_grant_held with_lease_of taken_up says_done says_released says_settled gives_back held_unless_back held_after held_behind holding_of inventory_in inventory_of inventories_of ends_at_tick was_ended_by_tick is_key puts_key put_stored stores_copy was_stored is_given is_of_row server_told server_granted server_heard servers_tried ends_command is_ending was_dropped lease_held confirmed_if cause_in cause_told cause_if cause_fetched cause_met slot_with_cause causes_met leave_too_few causes_of_block finds_too_few tells_opened is_opened attempts_made puts_slot is_failure tells_failure is_failed_put has_live_grant is_closed_to has_no_server asks_for_servers has_life is_of_life is_slot_of_life takes_server takes_lease takes_away steps_between live_copies
promises_on_literals = tt
