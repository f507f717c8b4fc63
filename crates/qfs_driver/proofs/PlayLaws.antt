-- How a world at work goes on by drawn steps.
use Rattle.std.proofs.Common.{◌≡◌, ℕ, zero, suc, inl, inr, ◌<◌, ◌≤◌, Bool, true, false, IsTrue, List, [], ◌∷◌, ◌++◌, length, refl, sym, ◌∙◌, ap, subst, arith, Some, None, eq-eqb}
use Rattle.std.specs.Prelude.{◌==◌, ◌||◌, ◌%◌, slice_get, option_map}
use Rattle.std.specs.Option.{option_and_then}
use Rattle.std.specs.List.{AllZip, list_any, list_all}
use Rattle.qfs_model_text.specs.Order.{same_outcome}
use Rattle.qfs_model_world.specs.GivenOrder.{is_done}
use Rattle.qfs_device.specs.Fault.{Rose, RoseOnce}
use Rattle.qfs_driver.specs.declared.status.Status.{Status}
use Rattle.qfs_driver.specs.declared.status.Status.TheVariants as Ended
use Rattle.std.proofs.lemmas.List.Elements.{length_all_zip, AllZip-get_or}
use Rattle.std.proofs.lemmas.List.Folds.{list_all-append}
use Rattle.std.proofs.lemmas.Bool.{and_from}
use Rattle.rand_pcg.specs.Lcg.{Lcg}
use Rattle.rand_pcg.specs.Pcg.{pcg32}
use Rattle.qfs_base.specs.declared.history.Outcome.{Outcome}
use Rattle.qfs_base.specs.declared.history.Outcome.TheVariants as Came
use Rattle.qfs_base.specs.declared.history.Step.{Step}
use Rattle.qfs_base.specs.declared.request.ChunkRequest.{ChunkRequest}
use Rattle.qfs_base.specs.declared.request.NodeRequest.{NodeRequest}
use Rattle.qfs_base.specs.declared.request.NodeRequest.TheVariants as To
use Rattle.qfs_machine.specs.Askable.{IsAskable, IsAskedOfServer}
use Rattle.qfs_model_actor.specs.Actor.{Actor, node_of, request_of}
use Rattle.qfs_model_actor.specs.Work.{node_of_request}
use Rattle.qfs_model_world.specs.Events.{Event, events}
use Rattle.qfs_driver.proofs.DrawnOrders.{is_drawn-snoc, generator_behind-snoc}
use Rattle.qfs_driver.proofs.Places.{some_is}
use Rattle.qfs_driver.specs.Draws.{generator_behind}
use Rattle.qfs_driver.specs.Fails.{FailsLast}
use Rattle.qfs_driver.specs.Playing.{Continues, HasRisen, IsDrawnSo, FailsAt, StopsAt, StopsAtServer, StopsStep, StopsDrawnStep, TakesDrawnStep}
use Rattle.qfs_model_world.specs.Drawn.{generator_of, drawn_of, is_by, drawn_from, is_drawn}
use Rattle.qfs_model_world.specs.Fits.{turn}
use Rattle.qfs_model_world.specs.World.{World, numbered, node_turn, after as after_order}
use Rattle.qfs_store.specs.Stored.{Stored}
use Rattle.qfs_world.specs.Calls.{GoesOn, FailedOnce, TakesStep}
use Rattle.qfs_world.proofs.GoesOn.{all-go_on, all-told_before}
use Rattle.qfs_world.proofs.Simulation.{event as event_of, events-after}
use Rattle.qfs_world.specs.Follows.{FollowsItself, IsAfter, world_of}
use Rattle.qfs_world.specs.View.{WorldView, AllTell, turn_of}

-- ---- stores that go on

goes_on_further : (a b c : Stored) → GoesOn a b → GoesOn b c → GoesOn a c
goes_on_further a b c first second = record {
  tells = second.tells ∙ first.tells;
  never_falls = let h : a.faults ≤ b.faults = first.never_falls in let k : b.faults ≤ c.faults = second.never_falls in omega arith;
}

all_go_on_further : (a b c : List Stored) → AllZip GoesOn a b → AllZip GoesOn b c → AllZip GoesOn a c
all_go_on_further [] [] [] first second = tt
all_go_on_further (x ∷ xs) (y ∷ ys) (z ∷ zs) first second =
    (goes_on_further x y z first.0 second.0, all_go_on_further xs ys zs first.1 second.1)
all_go_on_further [] [] (z ∷ zs) first second = absurd second
all_go_on_further [] (y ∷ ys) c first second = absurd first
all_go_on_further (x ∷ xs) [] c first second = absurd first
all_go_on_further (x ∷ xs) (y ∷ ys) [] first second = absurd second

-- a count that rose once rose
rose_once : (old new : ℕ) → RoseOnce old new → Rose old new
rose_once old new (inl more) = inl (omega (arith, more))
rose_once old new (inr last) = inr (omega (arith, last.1))

rose_further : (old between new : ℕ) → old ≤ between → Rose between new → Rose old new
rose_further old between new below (inl less) = inl (omega arith)
rose_further old between new below (inr last) = inr last

or_true : (a : Bool) {b : Bool} → b ≡ true → (a || b) ≡ true
or_true true is = refl
or_true false is = is

-- ---- steps that are drawn

done-snoc : (order : List Step) (actor : ℕ) → list_all is_done order ≡ true
    → list_all is_done (order ++ record { actor = actor; outcome = Came.Done } ∷ []) ≡ true
unfolding is_done same_outcome
done-snoc order actor all =
    list_all-append is_done order (record { actor = actor; outcome = Came.Done } ∷ []) ∙ and_from _ _ all refl

drawn_by : (actor word : ℕ) (turns : List ℕ) → drawn_of turns word ≡ Some actor → is_by actor (drawn_of turns word) ≡ true
unfolding is_by
drawn_by actor word turns is = rw is (eq-eqb actor actor refl)

-- the store of a server before such steps
record WentOnAt (before : List Stored) (server : ℕ) (new : Stored) : Type 0 where
  pub old : Stored
  pub there : numbered before server ≡ Some old
  pub goes_on : GoesOn old new

went_on_in : (before behind : List Stored) (k : ℕ) (new : Stored) → AllZip GoesOn before behind → slice_get behind k ≡ Some new → WentOnAt before (suc k) new
unfolding numbered
went_on_in before [] k new go_on is = cc
went_on_in [] (y ∷ ys) k new go_on is = absurd go_on
went_on_in (x ∷ xs) (y ∷ ys) zero new go_on is =
    record { old = x; there = refl; goes_on = subst (λ n. GoesOn x n) (some_is is) go_on.0 }
went_on_in (x ∷ xs) (y ∷ ys) (suc k) new go_on is =
    let further = went_on_in xs ys k new go_on.1 is in
    record { old = further.old; there = further.there; goes_on = further.goes_on }

went_on_at : (before behind : List Stored) (server : ℕ) (new : Stored) → AllZip GoesOn before behind → numbered behind server ≡ Some new → WentOnAt before server new
unfolding numbered
went_on_at before behind zero new go_on is = cc
went_on_at before behind (suc k) new go_on is = went_on_in before behind k new go_on is

-- ---- whose turn it is

has_place : (turns : List ℕ) (k actor : ℕ) → slice_get turns k ≡ Some actor → list_any (λ number. number == actor) turns ≡ true
has_place [] k actor is = cc
has_place (x ∷ xs) zero actor is = rw (eq-eqb x actor (some_is is)) refl
has_place (x ∷ xs) (suc k) actor is = or_true (x == actor) (has_place xs k actor is)

-- a drawn actor is one of those whose turn it may be
pub drawn_has_turn : (turns : List ℕ) (word actor : ℕ) → drawn_of turns word ≡ Some actor → list_any (λ number. number == actor) turns ≡ true
unfolding drawn_of
drawn_has_turn turns word actor is = has_place turns (word % length turns) actor is

-- stores that tell what they hold tell it behind too
pub all_tell_behind : (before behind : List Stored) → AllZip GoesOn before behind → AllTell before → AllTell behind
all_tell_behind before behind go_on tell = λ k d below.
    let same : length before ≡ length behind = length_all_zip GoesOn before behind go_on in
    let below_too : k < length before = omega arith in
    (AllZip-get_or GoesOn before behind k d d go_on below_too).tells ∙ tell k d below_too

-- ---- requests to servers

record AsksServer (request : NodeRequest) (server : ℕ) : Type 0 where
  pub chunk : ChunkRequest
  pub is : request ≡ To.Chunk server chunk
  pub askable : IsAskedOfServer chunk

asks_server : (request : NodeRequest) (server : ℕ) → node_of_request request ≡ server → (server ≡ 0 → ⊥) → IsAskable request → AsksServer request server
unfolding node_of_request
asks_server (To.Meta request) server to apart askable = absurd (apart (sym to))
asks_server (To.Chunk number request) server to apart askable =
    record { chunk = request; is = ap (λ n. To.Chunk n request) to; askable = askable }

node_of_asked : (actor : Actor) (request : NodeRequest) (node : ℕ) → request_of actor ≡ Some request → node_of actor ≡ Some node
    → node_of_request request ≡ node
unfolding node_of
node_of_asked actor request node asked to = some_is (ap (option_map node_of_request) (sym asked) ∙ to)

-- no server has the number 0
not_first : {X : Type 0} (xs : List X) (server : ℕ) (x : X) → numbered xs server ≡ Some x → server ≡ 0 → ⊥
unfolding numbered
not_first xs zero x is first = let none : None ≡ Some x = is in cc
not_first xs (suc k) x is first = absurd (omega (arith, first))

module _ {D L : Type 0} where
  -- a step at a server whose device failed, after others
  risen_further : (a b c : WorldView D L) (server : ℕ) → Continues a b → FailedOnce b.stores c.stores server → HasRisen a c server
  risen_further a b c server continues failed =
      let at = went_on_at a.stores b.stores server failed.old continues.stores_go_on failed.before_is in
      record {
        old = at.old;
        new = failed.new;
        before_is = at.there;
        behind_is = failed.behind_is;
        rose = rose_further at.old.faults failed.old.faults failed.new.faults at.goes_on.never_falls
            (rose_once failed.old.faults failed.new.faults failed.rose);
      }

  -- no step was taken yet
  pub drawn_at_start : (number : ℕ) (world : WorldView D L) → world.order ≡ [] → IsDrawnSo number world
  unfolding is_drawn drawn_from
  drawn_at_start number world none = record { drawn = λ tell. rw none refl; done = rw none refl }

  pub words_at_start : (generator : Lcg) (world : WorldView D L) → world.order ≡ [] → generator ≡ generator_behind generator world.order
  unfolding generator_behind
  words_at_start generator world none = rw none refl

  pub continues_itself : (world : WorldView D L) → Continues world world
  continues_itself world =
      record {
        script_is = refl;
        counts_are = refl;
        spare_is = refl;
        disks_are = refl;
        stores_go_on = all-go_on world.stores;
      }

  pub continues_same : (before behind : WorldView D L) → behind ≡ before → Continues before behind
  continues_same before behind same = subst (λ w. Continues before w) (sym same) (continues_itself before)

  pub continues_further : (a b c : WorldView D L) → Continues a b → Continues b c → Continues a c
  continues_further a b c first second = record {
    script_is = second.script_is ∙ first.script_is;
    counts_are = second.counts_are ∙ first.counts_are;
    spare_is = second.spare_is ∙ first.spare_is;
    disks_are = second.disks_are ∙ first.disks_are;
    stores_go_on = all_go_on_further a.stores b.stores c.stores first.stores_go_on second.stores_go_on;
  }

  turn_after : (world : WorldView D L) → FollowsItself world
      → turn world.script (after_order world.script world.order) ≡ turn_of world.script world.actors
  unfolding turn
  turn_after world follows = ap (λ (w : World). turn world.script w) follows.world

  drawn_more : (number actor : ℕ) (outcome : Outcome) (before behind : WorldView D L) (turns : List ℕ)
      → IsAfter before → turns ≡ turn_of before.script before.actors
      → drawn_of turns (pcg32 (generator_behind (generator_of number) before.order)).0 ≡ Some actor
      → TakesStep before actor outcome behind → IsDrawnSo number before → AllTell behind.stores
      → IsTrue (is_drawn number behind.script behind.order)
  drawn_more number actor outcome before behind turns after turns_are drawn steps is tell =
      let told : AllTell before.stores = all-told_before before.stores behind.stores steps.goes_on tell in
      let step : Step = record { actor = actor; outcome = outcome } in
      let word : ℕ = (pcg32 (generator_behind (generator_of number) before.order)).0 in
      let turns_after : turn before.script (after_order before.script before.order) ≡ turns =
      turn_after before (after told) ∙ sym turns_are in
      let by : is_by actor (drawn_of (turn before.script (after_order before.script before.order)) word) ≡ true =
      ap (λ t. is_by actor (drawn_of t word)) turns_after ∙ drawn_by actor word turns drawn in
      let grown : is_drawn number before.script (before.order ++ step ∷ []) ≡ true =
      is_drawn-snoc number before.script before.order step ∙ and_from _ _ (is.drawn told) by in
      rw (steps.others.script, steps.moves.order) grown

  -- the loop of a run: a drawn step more
  pub drawn_further : (number actor : ℕ) (before behind : WorldView D L) (turns : List ℕ)
      → IsAfter before → turns ≡ turn_of before.script before.actors
      → drawn_of turns (pcg32 (generator_behind (generator_of number) before.order)).0 ≡ Some actor
      → TakesStep before actor Came.Done behind → IsDrawnSo number before → IsDrawnSo number behind
  drawn_further number actor before behind turns after turns_are drawn steps is = record {
    drawn = drawn_more number actor Came.Done before behind turns after turns_are drawn steps is;
    done = rw steps.moves.order (done-snoc before.order actor is.done);
  }

  pub drawn_step_further : (number : ℕ) (generator : Lcg) (before behind : WorldView D L) (turns : List ℕ)
      → IsAfter before → turns ≡ turn_of before.script before.actors
      → generator ≡ generator_behind (generator_of number) before.order
      → TakesDrawnStep turns (pcg32 generator).0 before behind → IsDrawnSo number before → IsDrawnSo number behind
  drawn_step_further number generator before behind turns after turns_are words taken is =
      drawn_further number taken.actor before behind turns after turns_are
      (ap (λ g. drawn_of turns (pcg32 g).0) (sym words) ∙ taken.drawn) taken.steps is

  pub words_further : (number : ℕ) (generator : Lcg) (before behind : WorldView D L) (turns : List ℕ)
      → generator ≡ generator_behind (generator_of number) before.order
      → TakesDrawnStep turns (pcg32 generator).0 before behind
      → (pcg32 generator).1 ≡ generator_behind (generator_of number) behind.order
  words_further number generator before behind turns words taken =
      ap (λ g. (pcg32 g).1) words
      ∙ sym (generator_behind-snoc (generator_of number) before.order (record { actor = taken.actor; outcome = Came.Done }))
      ∙ ap (λ order. generator_behind (generator_of number) order) (sym taken.steps.moves.order)

  -- ---- a step that failed

  -- an actor that goes to a server steps there
  pub goes_there : (before behind : WorldView D L) (actor server : ℕ) (outcome : Outcome) (steps : TakesStep before actor outcome behind)
      → Some server ≡ option_and_then node_of (numbered before.actors actor) → steps.node ≡ server
  goes_there before behind actor server outcome steps goes =
      let there : option_and_then node_of (numbered before.actors actor) ≡ Some steps.node =
      ap (option_and_then node_of) steps.moves.of ∙ steps.moves.to in
      some_is (sym there ∙ sym goes)

  fails_last : (actor server : ℕ) (before behind : WorldView D L)
      → FollowsItself before
      → FailsAt before actor server behind → FailedOnce before.stores behind.stores server → IsTrue (list_all is_done before.order)
      → FailsLast behind.script behind.order server
  fails_last actor server before behind follows fails failed done =
      let moves = fails.steps.moves in
      let turn = moves.turns.turns in
      let world : World = world_of before.script before.meta follows.servers before.actors in
      let turned = node_turn world actor Came.Failed turn.request in
      let asks = asks_server turn.request server (node_of_asked moves.actor turn.request fails.steps.node turn.asked moves.to ∙ fails.at)
      (not_first before.stores server failed.old failed.before_is) turn.askable in
      let event : Event =
      event_of before.script before.order world actor moves.actor turn.request follows.world moves.of turn.asked Came.Failed turned.world turned.reply refl in
      let more : events before.script (before.order ++ record { actor = actor; outcome = Came.Failed } ∷ [])
      ≡ events before.script before.order ++ event ∷ [] =
      events-after before.script before.order world actor moves.actor turn.request follows.world moves.of turn.asked Came.Failed turned.world turned.reply refl in
      record {
        done = before.order;
        actor = actor;
        order_is = moves.order;
        all_done = done;
        event = event;
        events_are = rw (fails.steps.others.script, moves.order) more;
        request = asks.chunk;
        asked = asks.is;
        put_or_fetch = asks.askable;
      }

  stops_at_server : (number actor server : ℕ) (start before behind : WorldView D L) (turns : List ℕ)
      → Continues start before → IsAfter before → turns ≡ turn_of before.script before.actors
      → drawn_of turns (pcg32 (generator_behind (generator_of number) before.order)).0 ≡ Some actor
      → FailsAt before actor server behind → IsDrawnSo number before → StopsAtServer number server start behind
  stops_at_server number actor server start before behind turns continues after turns_are drawn fails is =
      let steps = fails.steps in
      let failed : FailedOnce before.stores behind.stores server = subst (FailedOnce before.stores behind.stores) fails.at (steps.cause refl) in
      record {
        risen = risen_further start before behind server continues failed;
        drawn = λ tell. record {
          drawn = drawn_more number actor Came.Failed before behind turns after turns_are drawn steps is tell;
          fails = fails_last actor server before behind (after (all-told_before before.stores behind.stores steps.goes_on tell)) fails failed is.done;
        };
      }

  drawn_stops : (number actor : ℕ) (start before behind : WorldView D L) (turns : List ℕ) (status : Status)
      → Continues start before → IsAfter before → turns ≡ turn_of before.script before.actors
      → drawn_of turns (pcg32 (generator_behind (generator_of number) before.order)).0 ≡ Some actor
      → StopsStep before actor behind status → IsDrawnSo number before → StopsAt number start behind status
  drawn_stops number actor start before behind turns Ended.NoMemory continues after turns_are drawn stops is = tt
  drawn_stops number actor start before behind turns (Ended.DeviceFault server) continues after turns_are drawn stops is =
      stops_at_server number actor server start before behind turns continues after turns_are drawn stops is
  drawn_stops number actor start before behind turns Ended.Ok continues after turns_are drawn stops is = absurd stops
  drawn_stops number actor start before behind turns Ended.Usage continues after turns_are drawn stops is = absurd stops
  drawn_stops number actor start before behind turns (Ended.BadScript line cause) continues after turns_are drawn stops is = absurd stops
  drawn_stops number actor start before behind turns (Ended.TooFewDevices servers devices) continues after turns_are drawn stops is = absurd stops
  drawn_stops number actor start before behind turns Ended.ReadFault continues after turns_are drawn stops is = absurd stops
  drawn_stops number actor start before behind turns Ended.WriteFault continues after turns_are drawn stops is = absurd stops

  -- the loop of a run: a drawn step that ends it
  pub drawn_step_stops : (number : ℕ) (generator : Lcg) (start before behind : WorldView D L) (turns : List ℕ) (status : Status)
      → Continues start before → IsAfter before → turns ≡ turn_of before.script before.actors
      → generator ≡ generator_behind (generator_of number) before.order
      → StopsDrawnStep turns (pcg32 generator).0 before behind status → IsDrawnSo number before → StopsAt number start behind status
  drawn_step_stops number generator start before behind turns status continues after turns_are words stops is =
      drawn_stops number stops.actor start before behind turns status continues after turns_are
      (ap (λ g. drawn_of turns (pcg32 g).0) (sym words) ∙ stops.drawn) stops.stops is
