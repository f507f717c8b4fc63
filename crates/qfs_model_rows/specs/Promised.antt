-- What some worked runs are by the words of the promises: what actors heard and hold, why copies or servers were wanting, and what
-- was taken away meanwhile.
use Rattle.std.specs.Prelude.{◌≡◌, ℕ, Bool, true, false, List, [], ◌∷◌, ◌++◌, map, filter_map, length, take, slice_get, Option, Some}
use Rattle.std.specs.Option.{option_map}
use Rattle.qfs_base.specs.Mask.{all_slots}
use Rattle.qfs_base.specs.declared.chunk.BlockId.{BlockId}
use Rattle.qfs_base.specs.declared.history.Step.{Step}
use Rattle.qfs_base.specs.declared.image.SlotRow.{SlotRow}
use Rattle.qfs_base.specs.declared.lists.Cause.{Cause}
use Rattle.qfs_base.specs.declared.lists.Cause.TheVariants as Because
use Rattle.qfs_base.specs.declared.lists.SlotCause.{SlotCause}
use Rattle.qfs_base.specs.declared.script.Script.{Script}
use Rattle.qfs_model_actor.specs.Actor.{Actor, command_number}
use Rattle.qfs_model_world.specs.Events.{Event, events, steps_of}
use Rattle.qfs_model_world.specs.HeldBlock.{steps_within}
use Rattle.qfs_model_world.specs.World.{after}
use Rattle.qfs_model_promises.specs.Along.{servers_tried}
use Rattle.qfs_model_promises.specs.Heard.{Exchange, exchanges_of}
use Rattle.qfs_model_promises.specs.HeardSteps.{exchange_in}
use Rattle.qfs_model_promises.specs.Letters.{is_slot_of_life}
use Rattle.qfs_model_promises.specs.Never.{lease_held}
use Rattle.qfs_model_promises.specs.NoServer.{has_no_server}
use Rattle.qfs_model_promises.specs.Redundancy.{live_copies}
use Rattle.qfs_model_promises.specs.TickedLeases.{was_ended_by_tick}
use Rattle.qfs_model_promises.specs.TooFew.{causes_of_block, attempts_made}
use Rattle.qfs_model_promises.specs.Tries.{takes_away, steps_between}
use Rattle.qfs_model_rows.specs.Audits.{wiped_during_get}
use Rattle.qfs_model_rows.specs.Failures.{stopped_in_get, stopping_order, put_and_get, put_alone}
use Rattle.qfs_model_rows.specs.Leases.{lease_runs_out, run_out_order}
use Rattle.qfs_model_rows.specs.Meanings.{opened_in, midst}
use Rattle.qfs_model_rows.specs.Repairs.{moved_in_get}
use Rattle.qfs_model_rows.specs.Scripts.{steps, failing_steps}

-- the first block of file 1
abbrev pub first_block : BlockId
first_block = record { file = 1; index = 0 }

-- ---- what actors heard

-- the exchanges of each actor's present command, as it heard them and as its steps say
abbrev pub heard_in : Script → List Step → List (List Exchange)
heard_in script order = map exchanges_of (after script order).actors

abbrev pub steps_heard : List Event → Actor → List Exchange
steps_heard all actor = map exchange_in (steps_of actor.number (command_number actor) all)

abbrev pub steps_in : Script → List Step → List (List Exchange)
steps_in script order = map (steps_heard (events script order)) (after script order).actors

-- the servers that the first actor was granted for each slot
abbrev pub tried_in : Script → List Step → List (Option (List ℕ))
tried_in script order =
    map
    (λ (row : SlotRow). option_map (λ actor. servers_tried actor row) (slice_get (after script order).actors 0))
    (after script order).meta.slots

-- in the midst of a get and a move; and of a put whose third server failed
pub record HeardWords : Type 0 where
  pub two_actors : heard_in moved_in_get midst ≡ steps_in moved_in_get midst
  pub third_fails : tried_in put_alone (steps 1 6 ++ failing_steps 1 1 ++ steps 1 2)
      ≡ Some (1 ∷ []) ∷ Some (2 ∷ []) ∷ Some (3 ∷ 4 ∷ []) ∷ []

-- ---- too few copies

-- the causes that a get met in the first block from its opening at step i to its release at step j
unfoldable pub causes_in : List Event → ℕ → ℕ → Event → List (List SlotCause)
causes_in all i j event =
    filter_map
    (λ reply. option_map (λ o. causes_of_block o (steps_within 1 2 i j all) 0) (opened_in reply))
    (event.reply ∷ [])

abbrev pub causes_met_in : Script → List Step → ℕ → ℕ → Option (List (List SlotCause))
causes_met_in script order i j =
    option_map (causes_in (events script order) i j) (slice_get (events script order) i)

-- the slots of the servers 1, 4, 8 and 9, for one cause
abbrev pub four_slots : Cause → List SlotCause
four_slots cause = map (λ slot. record { slot = slot; cause = cause }) (0 ∷ 3 ∷ 7 ∷ 8 ∷ [])

-- four servers go down in the first attempt of a get, which makes five
pub record TooFewWords : Type 0 where
  pub first : causes_met_in stopped_in_get stopping_order 20 38 ≡ Some (four_slots Because.Down ∷ [])
  pub second : causes_met_in stopped_in_get stopping_order 39 40 ≡ Some (four_slots Because.Unlisted ∷ [])
  pub tries : attempts_made (steps_of 1 2 (events stopped_in_get stopping_order)) ≡ 5
  pub taken_away : map
      (λ (event : Event). takes_away event.reply)
      (steps_between 20 38 (take 25 (events stopped_in_get stopping_order)))
      ≡ true ∷ false ∷ true ∷ false ∷ []

-- ---- no server

-- whether no server is left for slot 8 in the world before a step, by the steps of the put before it
abbrev pub none_left_at : Script → List Step → ℕ → Option Bool
none_left_at script order i =
    option_map
    (λ (event : Event). has_no_server event.before.meta first_block 8 (steps_of 1 1 (take i (events script order))))
    (slice_get (events script order) i)

-- the last Put of nine fails: before it was granted there was a server, and none is left behind it
abbrev pub last_fails : List Step
last_fails = steps 1 18 ++ failing_steps 1 1 ++ steps 1 1

pub record NoServerWords : Type 0 where
  pub granted : none_left_at put_and_get last_fails 17 ≡ Some false
  pub failed : none_left_at put_and_get last_fails 19 ≡ Some true

-- ---- leases that run out

-- a get holds its lease when it releases it, though the clock has ended it
pub record LeaseWords : Type 0 where
  pub held : option_map lease_held (slice_get (events lease_runs_out run_out_order) 38)
      ≡ Some (Some (record { lease = 1; actor = 1; file = 1 }))
  pub ended : was_ended_by_tick 1 (take 27 (events lease_runs_out run_out_order)) ≡ true
  pub before : was_ended_by_tick 1 (take 26 (events lease_runs_out run_out_order)) ≡ false

-- ---- copies

-- a server was emptied: its copy is of a life that is over, and the other eight are live
pub record CopyWords : Type 0 where
  pub letters : map (is_slot_of_life (after wiped_during_get (steps 1 21 ++ steps 2 3)) first_block) all_slots
      ≡ false ∷ true ∷ true ∷ true ∷ true ∷ true ∷ true ∷ true ∷ true ∷ []
  pub live : length (live_copies (after wiped_during_get (steps 1 21 ++ steps 2 3)) first_block) ≡ 8
