-- A node's step is a step of the world of the definitions, and the order that has it at its end fits and has its event.
use Rattle.std.proofs.Common.{◌≡◌, ℕ, true, List, [], ◌∷◌, ◌++◌, Option, Some, None, refl, sym, ◌∙◌, ap}
use Rattle.std.specs.Prelude.{◌==◌, IsTrue, fold}
use Rattle.std.specs.List.{cons_option, list_any}
use Rattle.std.proofs.lemmas.Bool.{and_from}
use Rattle.std.specs.Option.{option_and_then}
use Rattle.qfs_base.specs.Outcome.{outcome_of}
use Rattle.qfs_base.specs.declared.history.Outcome.{Outcome}
use Rattle.qfs_base.specs.declared.history.Outcome.TheVariants as Ended
use Rattle.qfs_base.specs.declared.history.Step.{Step}
use Rattle.qfs_base.specs.declared.reply.NodeReply.{NodeReply}
use Rattle.qfs_base.specs.declared.request.NodeRequest.{NodeRequest}
use Rattle.qfs_base.specs.declared.script.Script.{Script}
use Rattle.qfs_model_actor.specs.Actor.{Actor, command_number, request_of, after_reply}
use Rattle.qfs_model_text.specs.Order.{same_outcome}
use Rattle.qfs_model_world.specs.Events.{Event, event_asking, event_by, event_in, events_from, events}
use Rattle.qfs_model_world.specs.World.{World, Turned, start, numbered, renumbered, node_turn, handed_over, move_asking, move_actor, move, after}
use Rattle.qfs_model_world.specs.Fits.{turn, may_end, is_possible, is_possible_for, is_possible_of, may_come, fits}
use Rattle.qfs_model_world.proofs.Orders.{after-snoc, fits-snoc}
use Rattle.qfs_world.specs.View.{turn_of}

same-self : (outcome : Outcome) → same_outcome outcome outcome ≡ true
unfolding same_outcome
same-self Ended.Done = refl
same-self Ended.Failed = refl
same-self Ended.NoMemory = refl

-- an order with one step more has that step's event behind the others
events_from-snoc : (world : World) (order : List Step) (step : Step)
    → events_from world (order ++ step ∷ []) ≡ events_from world order ++ cons_option (event_in (fold move world order) step) []
unfolding events_from
events_from-snoc world [] step = refl
events_from-snoc world (first ∷ rest) step =
    ap (cons_option (event_in world first)) (events_from-snoc (move world first) rest step)
    ∙ cons-append (event_in world first) (events_from (move world first) rest) (cons_option (event_in (fold move (move world first) rest) step) [])
  where
    cons-append : (found : Option Event) (xs ys : List Event) → cons_option found (xs ++ ys) ≡ cons_option found xs ++ ys
    cons-append None xs ys = refl
    cons-append (Some event) xs ys = refl

events-snoc : (script : Script) (order : List Step) (step : Step)
    → events script (order ++ step ∷ []) ≡ events script order ++ cons_option (event_in (after script order) step) []
unfolding events after
events-snoc script order step = events_from-snoc (start script) order step

module _ (script : Script) (order : List Step) (world : World) (number : ℕ) (actor : Actor) (request : NodeRequest)
    (is : after script order ≡ world)
    (found : numbered world.actors number ≡ Some actor)
    (asked : request_of actor ≡ Some request) where
  module _ (outcome : Outcome) (served : World) (reply : NodeReply)
      (turned : node_turn world number outcome request ≡ record { world = served; reply = reply }) where
    -- the world after the step
    pub step-is : move world (record { actor = number; outcome = outcome })
        ≡ record served { actors = renumbered served.actors number (after_reply actor reply) }
    unfolding move move_actor move_asking handed_over
    step-is =
        ap (move_actor world number outcome) found
        ∙ ap (move_asking world number outcome actor) asked
        ∙ ap (handed_over number actor) turned

    pub world-after : after script (order ++ record { actor = number; outcome = outcome } ∷ [])
        ≡ record served { actors = renumbered served.actors number (after_reply actor reply) }
    world-after =
        after-snoc script order (record { actor = number; outcome = outcome })
        ∙ ap (λ w. move w (record { actor = number; outcome = outcome })) is
        ∙ step-is

    -- the event of the step
    abbrev pub event : Event
    event = record { before = world; actor = number; command = command_number actor; outcome = outcome; request = request; reply = reply }

    pub events-after : events script (order ++ record { actor = number; outcome = outcome } ∷ []) ≡ events script order ++ event ∷ []
    unfolding event_in event_by event_asking
    events-after =
        let step : Step = record { actor = number; outcome = outcome } in
        let is_event : event_in world step ≡ Some event =
        ap (option_and_then (λ a. event_by world step a (request_of a))) found
        ∙ ap (event_by world step actor) asked
        ∙ ap (λ (t : Turned). Some (record event { reply = t.reply })) turned in
        events-snoc script order step
        ∙ ap (λ w. events script order ++ cons_option (event_in w step) []) is
        ∙ ap (λ e. events script order ++ cons_option e []) is_event

    module _ (ends : outcome ≡ outcome_of reply) (may : may_end outcome request ≡ true)
        (turns : IsTrue (list_any (λ n. n == number) (turn_of script world.actors))) where
      possible : is_possible_of world number outcome (numbered world.actors number) ≡ true
      unfolding is_possible_of is_possible_for is_possible
      possible =
          ap (is_possible_of world number outcome) found
          ∙ ap (is_possible_for world number outcome) asked
          ∙ and_from (may_end outcome request) (same_outcome (outcome_of (node_turn world number outcome request).reply) outcome)
          may
          (ap (λ (t : Turned). same_outcome (outcome_of t.reply) outcome) turned
          ∙ ap (λ o. same_outcome o outcome) (sym ends) ∙ same-self outcome)

      comes : may_come script world (record { actor = number; outcome = outcome }) ≡ true
      unfolding may_come turn
      comes = and_from (list_any (λ n. n == number) (turn_of script world.actors)) _ turns possible

      pub fits-after : IsTrue (fits script order) → IsTrue (fits script (order ++ record { actor = number; outcome = outcome } ∷ []))
      fits-after fitting =
          fits-snoc script order (record { actor = number; outcome = outcome })
          ∙ and_from (fits script order) _ fitting
          (ap (λ w. may_come script w (record { actor = number; outcome = outcome })) is ∙ comes)
