-- Actors by number.
use Rattle.std.proofs.Common.{◌≡◌, ℕ, suc, zero, ◌+◌, ◌<◌, false, List, [], ◌∷◌, length, Option, Some, None, refl, sym, ◌∙◌, ap, subst, arith, slice_get, slice_set}
use Rattle.std.specs.Prelude.{option_map, is_none, IsSome}
use Rattle.std.proofs.lemmas.Option.{slice_get_within, slice_get-map, get_or_from_slice_get}
use Rattle.std.proofs.lemmas.List.Sums.{sum_by-set}
use Rattle.qfs_actor.specs.Standing.{Standing}
use Rattle.qfs_base.specs.declared.reply.NodeReply.{NodeReply}
use Rattle.qfs_base.specs.declared.request.NodeRequest.{NodeRequest}
use Rattle.qfs_machine.specs.Asking.{IsOut}
use Rattle.qfs_model_actor.specs.Actor.{Actor, request_of, has_finished, moved_on, after_reply, work_left}
use Rattle.qfs_model_actor.specs.Steps.{left}
use Rattle.qfs_model_actor.specs.Work.{Work, ends, asks, goes_on}
use Rattle.qfs_model_actor.proofs.Left.{left-falls}
use Rattle.qfs_world.specs.AtWork.{AreNumbered}
use Rattle.qfs_nodes.specs.Actors.{actors_of}
use Rattle.qfs_world.specs.View.{steps_left}
use Rattle.std.proofs.lemmas.List.{map-set}

-- an actor keeps its number
number-moved : (actor : Actor) (reply : NodeReply) (work : Option Work) → (moved_on actor reply work).number ≡ actor.number
unfolding moved_on
number-moved actor reply None = refl
number-moved actor reply (Some (ends report)) = refl
number-moved actor reply (Some (asks request next)) = refl

pub number-kept : (actor : Actor) (reply : NodeReply) → (after_reply actor reply).number ≡ actor.number
unfolding after_reply
number-kept actor reply = number-moved actor reply (option_map (λ work. goes_on work reply) (work_left actor))

-- how an actor of a number stands
pub record IsNumbered (number : ℕ) (it : Standing) : Type 0 where
  pub number_is : it.actor.number ≡ number
  pub rests : IsOut it.readiness → ⊥

pub number-at : (number : ℕ) (actors : List Standing) (k : ℕ) (it : Standing) → AreNumbered number actors
    → slice_get actors k ≡ Some it → IsNumbered (number + k) it
number-at number [] k it all e = absurd (cc)
number-at number (first ∷ rest) zero it all e =
    let same : first ≡ it = cc in
    let none : number + 0 ≡ number = omega arith in
    record {
      number_is = ap (λ (s : Standing). s.actor.number) (sym same) ∙ all.0 ∙ sym none;
      rests = subst (λ (s : Standing). IsOut s.readiness → ⊥) same all.1;
    }
number-at number (first ∷ rest) (suc k) it all e =
    let behind = number-at (number + 1) rest k it all.2 e in
    let same : number + 1 + k ≡ number + suc k = omega arith in
    record { number_is = behind.number_is ∙ same; rests = behind.rests }

pub standings-set : (number : ℕ) (actors : List Standing) (k : ℕ) (it next : Standing) → AreNumbered number actors
    → slice_get actors k ≡ Some it → next.actor.number ≡ it.actor.number → (IsOut next.readiness → ⊥)
    → AreNumbered number (slice_set actors k next)
standings-set number [] k it next all e same rests = absurd (cc)
standings-set number (first ∷ rest) zero it next all e same rests =
    let first_is : first ≡ it = cc in
    (same ∙ ap (λ (s : Standing). s.actor.number) (sym first_is) ∙ all.0, rests, all.2)
standings-set number (first ∷ rest) (suc k) it next all e same rests =
    (all.0, all.1, standings-set (number + 1) rest k it next all.2 e same rests)

pub actors-at : (actors : List Standing) (k : ℕ) (it : Standing) → slice_get actors k ≡ Some it
    → slice_get (actors_of actors) k ≡ Some it.actor
actors-at actors k it e =
    slice_get-map (λ (s : Standing). s.actor) actors k ∙ ap (option_map (λ (s : Standing). s.actor)) e

pub actors-set : (actors : List Standing) (k : ℕ) (next : Standing)
    → actors_of (slice_set actors k next) ≡ slice_set (actors_of actors) k next.actor
actors-set actors k next = map-set (λ (s : Standing). s.actor) actors k next

some-asked : (o : Option NodeRequest) → is_none o ≡ false → IsSome o
some-asked None e = absurd (cc)
some-asked (Some request) e = refl

asks-some : (actor : Actor) → has_finished actor ≡ false → IsSome (request_of actor)
unfolding has_finished
asks-some actor e = some-asked (request_of actor) e

-- a step of an actor lowers what all have left
pub left-all-falls : (actors : List Actor) (k : ℕ) (actor : Actor) (reply : NodeReply)
    → slice_get actors k ≡ Some actor → has_finished actor ≡ false
    → steps_left (slice_set actors k (after_reply actor reply)) < steps_left actors
left-all-falls actors k actor reply e going =
    let within : k < length actors = slice_get_within actors k actor e in
    let fewer = left-falls actor reply (asks-some actor going) in
    let same = ap left (get_or_from_slice_get actors k actor actor e) in
    omega (arith, sum_by-set left actors k (after_reply actor reply) actor within, same, fewer)
