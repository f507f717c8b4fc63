-- A step of a world at work, by its parts.
use Rattle.std.proofs.Common.{◌≡◌, ℕ, suc, ◌+◌, ◌-◌, false, List, ◌++◌, length, Some, refl, sym, ◌∙◌, ap, subst, arith, slice_get, slice_set, length-set}
use Rattle.std.specs.Prelude.{take, drop, ◌==◌, IsTrue, Result, Ok, Err, IfOk, OnErr}
use Rattle.std.specs.declared.alloc.AllocError.{AllocError}
use Rattle.std.proofs.Math.Path.{transport}
use Rattle.std.proofs.lemmas.Grind.{common_steps}
use Rattle.std.proofs.lemmas.List.{length-map}
use Rattle.std.proofs.lemmas.Option.{get_or_from_slice_get}
use Rattle.std.specs.List.{list_any, slice_index_or, AllZip}
use Rattle.qfs_actor.specs.Standing.{Standing}
use Rattle.qfs_base.specs.Outcome.{outcome_of}
use Rattle.qfs_base.specs.declared.history.Outcome.{Outcome}
use Rattle.qfs_base.specs.declared.history.Step.{Step}
use Rattle.qfs_base.specs.declared.image.MetaImage.{MetaImage}
use Rattle.qfs_base.specs.declared.script.Script.{Script}
use Rattle.qfs_device.specs.declared.log_disk.MetaDisks.{MetaDisks}
use Rattle.qfs_machine.specs.Asking.{IsOut}
use Rattle.qfs_meta.specs.Metaserver.{Metaserver}
use Rattle.qfs_model_actor.specs.Actor.{Actor, has_finished, after_reply}
use Rattle.qfs_model_actor.specs.Work.{node_of_request}
use Rattle.qfs_model_world.specs.World.{numbered, renumbered}
use Rattle.qfs_store.specs.Stored.{Stored}
use Rattle.qfs_world.specs.AtWork.{IsAtWork, TakesTurn}
use Rattle.qfs_nodes.proofs.Stores.{stores-with}
use Rattle.qfs_nodes.specs.Nodes.{image_of, nodes_with, stores_of}
use Rattle.qfs_nodes.specs.Scripts.{meta_of}
use Rattle.qfs_nodes.specs.Actors.{actors_of}
use Rattle.qfs_world.specs.Calls.{GoesOn, FailedOnce, TakesStep}
use Rattle.qfs_world.specs.Follows.{FollowsOrder}
use Rattle.qfs_world.specs.View.{WorldView, AllTell, steps_left, turn_of, view_of, with_step}
use Rattle.qfs_nodes.specs.declared.node.NodeState.{NodeState}
use Rattle.qfs_nodes.specs.declared.node.NodeState.TheVariants as Node
use Rattle.qfs_world.proofs.GoesOn.{all-told_before}
use Rattle.qfs_world.proofs.Lists.{numbered-is, set-same, unmapped-at}
use Rattle.qfs_world.proofs.Numbered.{number-kept, number-at, standings-set, actors-at, actors-set, left-all-falls}
use Rattle.qfs_world.proofs.TurnLists.{in-turn}
use Rattle.qfs_world.proofs.Turns.{Moved, follows-on, node-asked, turn-moves}

renumbered-is : {X : Type 0} (xs : List X) (place : ℕ) (x : X) → renumbered xs (suc place) x ≡ slice_set xs place x
unfolding renumbered
renumbered-is xs place x = refl

-- an actor whose turn it is: it has this number, stands at this place, and hasn't finished
pub record AtTurn (actors : List Standing) (number place : ℕ) (it : Standing) : Type 0 where
  pub number_is : number ≡ suc place
  pub there : slice_get actors place ≡ Some it
  pub own : it.actor.number ≡ suc place
  pub rests : IsOut it.readiness → ⊥
  pub unfinished : has_finished it.actor ≡ false

pub turn-place : {D : Type 0} (script : Script) (counts : List ℕ) (nodes : List (NodeState D)) (actors : List Standing) (phases : List ℕ) (order : List Step)
    → IsAtWork script counts nodes actors phases order → (number : ℕ)
    → IsTrue (list_any (λ n. n == number) (turn_of script (actors_of actors)))
    → (it : Standing) × AtTurn actors number (number - 1) it
turn-place script counts nodes actors phases order work number turn =
    let has = in-turn number script.phases (actors_of actors) turn in
    let found = unmapped-at (λ (s : Standing). s.actor) actors has.at has.actor has.there in
    let own = number-at 1 actors has.at found.of work.numbered found.there in
    let next : 1 + has.at ≡ suc has.at = omega arith in
    let number_is : number ≡ suc has.at =
    sym has.number_is ∙ ap (λ (a : Actor). a.number) (sym found.is) ∙ own.number_is ∙ next in
    let place : has.at ≡ number - 1 = omega arith in
    let at : AtTurn actors number has.at found.of = record {
      number_is = number_is;
      there = found.there;
      own = own.number_is ∙ next;
      rests = own.rests;
      unfinished = ap has_finished found.is ∙ has.unfinished;
    } in (found.of, subst (λ p. AtTurn actors number p found.of) place at)

-- what is found at its place is that actor
pub turn-at : {D : Type 0} (script : Script) (counts : List ℕ) (nodes : List (NodeState D)) (actors : List Standing) (phases : List ℕ) (order : List Step)
    → IsAtWork script counts nodes actors phases order → (number : ℕ)
    → IsTrue (list_any (λ n. n == number) (turn_of script (actors_of actors)))
    → (it : Standing) → it ≡ slice_index_or actors (number - 1) it → AtTurn actors number (number - 1) it
turn-at script counts nodes actors phases order work number turn it is =
    let found = turn-place script counts nodes actors phases order work number turn in
    subst (AtTurn actors number (number - 1)) (sym (is ∙ get_or_from_slice_get actors (number - 1) found.0 it found.1.there)) found.1

module _ {D : Type 0} where
  -- nodes with a script's metaserver and these chunk servers have them
  pub again : (script : Script) (nodes : List (NodeState D)) (image : MetaImage) (stores : List Stored)
      → nodes ≡ nodes_with (meta_of script image) stores
      → nodes ≡ nodes_with (meta_of script (image_of nodes)) (stores_of nodes)
  again script nodes image stores e =
      e
      ∙ ap (λ ns. nodes_with (meta_of script (image_of ns)) stores) (sym e)
      ∙ ap (λ ss. nodes_with (meta_of script (image_of nodes)) ss) (sym (stores-with D (meta_of script image) stores))
      ∙ ap (λ ns. nodes_with (meta_of script (image_of nodes)) (stores_of ns)) (sym e)

-- as many nodes have one chunk server fewer
pub length-with : {D : Type 0} (nodes : List (NodeState D)) (meta : Metaserver) (stores : List Stored) → nodes ≡ nodes_with meta stores
    → length nodes ≡ suc (length stores)
length-with {D} nodes meta stores e = ap length e ∙ ap (λ n. suc n) (length-map {A = Stored} {B = NodeState D} stores Node.Store)

-- what was written behind a slice is the slice
pub slice-back : {X : Type 0} (count : ℕ) (xs ys : List X) → count ≡ length xs → length ys ≡ length xs
    → take count (ys ++ drop (length ys) xs) ≡ ys
slice-back count xs ys c l = grind (arith, common_steps)

-- ---- a step of the actor whose turn it is

module _ {D L : Type 0} (script : Script) (counts : List ℕ) (nodes : List (NodeState D)) (actors : List Standing) (phases : List ℕ) (order : List Step)
    (spare : List D) (disks : MetaDisks L)
    (work : IsAtWork script counts nodes actors phases order) (number place : ℕ) (it next : Standing) (at : AtTurn actors number place it)
    (turn : IsTrue (list_any (λ n. n == number) (turn_of script (actors_of actors))))
    (rests : IsOut next.readiness → ⊥) (behind : List (NodeState D)) (more : List Step) where
  abbrev pub seen : WorldView D L
  seen = view_of script counts nodes actors order spare disks

  abbrev pub seen_behind : WorldView D L
  seen_behind = view_of script counts behind (slice_set actors place next) more spare disks

  turns : IsTrue (list_any (λ n. n == suc place) (turn_of script (actors_of actors)))
  turns = subst (λ m. IsTrue (list_any (λ n. n == m) (turn_of script (actors_of actors)))) at.number_is turn

  there : slice_get (actors_of actors) place ≡ Some it.actor
  there = actors-at actors place it at.there

  -- the turn of the nodes
  turned : (outcome : Outcome) → TakesTurn nodes it.actor outcome behind next.actor
      → TakesTurn (nodes_with (meta_of script (image_of nodes)) (stores_of nodes)) it.actor outcome behind next.actor
  turned outcome = subst (λ ns. TakesTurn ns it.actor outcome behind next.actor) work.nodes_are

  moves : (outcome : Outcome) (t : TakesTurn nodes it.actor outcome behind next.actor)
      → Moved it.actor.number (meta_of script (image_of nodes)) (stores_of nodes) (turned outcome t).turns.request (turned outcome t).turns.reply behind
  moves outcome t = turn-moves (meta_of script (image_of nodes)) (stores_of nodes) it.actor outcome behind next.actor (turned outcome t)

  -- it is at work where its nodes are those of a world that follows the order
  still : (image : MetaImage) (stores : List Stored) → next.actor.number ≡ it.actor.number → behind ≡ nodes_with (meta_of script image) stores
      → (AllTell stores → FollowsOrder script counts more image stores (slice_set (actors_of actors) place next.actor))
      → IsAtWork script counts behind (slice_set actors place next) phases more
  still image stores same nodes_are follows =
      let image_is : image ≡ image_of behind = sym (ap image_of nodes_are) in
      let stores_are : stores ≡ stores_of behind = sym (ap stores_of nodes_are ∙ stores-with D (meta_of script image) stores) in
      let all = actors-set actors place next in
      let long : length (slice_set actors place next) ≡ length actors = length-set actors place next in
      record {
        nodes_are = again script behind image stores nodes_are;
        numbered = standings-set 1 actors place it next work.numbered at.there same rests;
        few = omega (arith, work.few, long);
        phases_are = work.phases_are;
        whole = work.whole ∙ sym long;
        follows =
            λ tell.
            transport (λ i. FollowsOrder script counts more (image_is i) (stores_are i) (sym all i)) (follows (subst AllTell (sym stores_are) tell));
      }

  pub works : (r : Result Outcome AllocError) → IfOk r (λ outcome. TakesTurn nodes it.actor outcome behind next.actor)
      → IfOk r (λ outcome. more ≡ with_step order it.actor.number outcome)
      → OnErr r (behind ≡ nodes) → OnErr r (next.actor ≡ it.actor) → OnErr r (more ≡ order)
      → IsAtWork script counts behind (slice_set actors place next) phases more
  works (Ok outcome) t o b a m =
      let turn = (turned outcome t).turns in
      let left = moves outcome t in
      let order_is : more ≡ with_step order (suc place) (outcome_of turn.reply) =
      o ∙ ap (λ n. with_step order n outcome) at.own ∙ ap (with_step order (suc place)) turn.outcome_is in
      still left.image left.rest (ap (λ (x : Actor). x.number) turn.took ∙ number-kept it.actor turn.reply) left.nodes_are
      (λ tell.
      transport (λ i. FollowsOrder script counts (sym order_is i) left.image left.rest (slice_set (actors_of actors) place (sym turn.took i)))
      (follows-on script counts order (image_of nodes) (stores_of nodes) (actors_of actors) place it.actor turn.request turn.reply behind
      at.own there turns turn.asked left (work.follows (all-told_before (stores_of nodes) left.rest left.goes_on tell))))
  works (Err error) t o b a m =
      let same : slice_set (actors_of actors) place next.actor ≡ actors_of actors =
      ap (slice_set (actors_of actors) place) a ∙ set-same (actors_of actors) place it.actor there in
      still (image_of nodes) (stores_of nodes) (ap (λ (x : Actor). x.number) a) (b ∙ work.nodes_are)
      (λ tell. transport (λ i. FollowsOrder script counts (sym m i) (image_of nodes) (stores_of nodes) (sym same i)) (work.follows tell))

  pub tells : (r : Result Outcome AllocError) → IfOk r (λ outcome. TakesTurn nodes it.actor outcome behind next.actor)
      → IfOk r (λ outcome. more ≡ with_step order it.actor.number outcome)
      → IfOk r (λ outcome. TakesStep seen number outcome seen_behind)
  tells (Err error) t o = tt
  tells (Ok outcome) t o =
      let turn = (turned outcome t).turns in
      let left = moves outcome t in
      let behind_is = again script behind left.image left.rest left.nodes_are in
      let own : it.actor.number ≡ number = at.own ∙ sym at.number_is in
      let stores_are : left.rest ≡ stores_of behind = sym (ap stores_of left.nodes_are ∙ stores-with D (meta_of script left.image) left.rest) in
      let all : actors_of (slice_set actors place next) ≡ slice_set (actors_of actors) place (after_reply it.actor turn.reply) =
      actors-set actors place next ∙ ap (slice_set (actors_of actors) place) turn.took in
      record {
        node = node_of_request turn.request;
        moves = record {
          actor = it.actor;
          reply = turn.reply;
          of = ap (numbered (actors_of actors)) at.number_is ∙ numbered-is (actors_of actors) place it.actor there;
          to = node-asked it.actor turn.request turn.asked;
          turns = transport (λ i. TakesTurn (work.nodes_are i) it.actor outcome (behind_is i) (turn.took i)) t;
          actors =
              all ∙ sym (renumbered-is (actors_of actors) place (after_reply it.actor turn.reply))
              ∙ ap (λ n. renumbered (actors_of actors) n (after_reply it.actor turn.reply)) (sym at.number_is);
          order = o ∙ ap (λ n. with_step order n outcome) own;
          falls =
              let fewer = left-all-falls (actors_of actors) place it.actor turn.reply there at.unfinished in
              omega (arith, fewer, ap steps_left all);
        };
        others = record {
          meta = λ apart. ap image_of left.nodes_are ∙ left.meta_stays apart;
          stores = λ server apart. ap (λ ss. numbered ss server) (sym stores_are) ∙ left.stores_stay server apart;
          script = refl;
          counts = refl;
          spare = refl;
          disks = refl;
        };
        goes_on = subst (AllZip GoesOn (stores_of nodes)) stores_are left.goes_on;
        cause = λ failed.
            subst (λ ss. FailedOnce (stores_of nodes) ss (node_of_request turn.request)) stores_are (left.cause (sym turn.outcome_is ∙ failed));
      }

  pub stays-same : (r : Result Outcome AllocError) → OnErr r (behind ≡ nodes) → OnErr r (next.actor ≡ it.actor) → OnErr r (more ≡ order)
      → OnErr r (seen_behind ≡ seen)
  stays-same (Ok outcome) b a m = tt
  stays-same (Err error) b a m =
      let same : actors_of (slice_set actors place next) ≡ actors_of actors =
      actors-set actors place next ∙ ap (slice_set (actors_of actors) place) a ∙ set-same (actors_of actors) place it.actor there in
      λ i. record { script = script; counts = counts; meta = image_of (b i); stores = stores_of (b i); actors = same i; order = m i; spare = spare; disks = disks }
