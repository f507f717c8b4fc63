-- What an actor keeps is that of the actor of the definitions, at its first command and after each
-- reply.
use Rattle.std.proofs.Common.{◌<◌, ◌≤◌, ◌^◌, ◌+◌, ◌-◌, ◌≡◌, ◌∙◌, refl, sym, ap, subst, arith}
use Rattle.std.proofs.Common.{zero, suc, true, false, ℕ, List, [], ◌∷◌, ◌++◌, length, length-append}
use Rattle.std.proofs.Common.{Option, Some, None, IfSome}
use Rattle.std.specs.Prelude.{slice_get, drop, is_some, IsSome, option_map, option_and_then}
use Rattle.std.specs.Prelude.{Result, Ok, Err, OnOk, vec_len, vec_capacity}
use Rattle.std.specs.Vec.Iter.{into_iter_items}
use Rattle.std.proofs.lemmas.List.{length-drop}
use Rattle.std.proofs.lemmas.Option.{slice_get_within}
use Rattle.qfs_base.specs.declared.command.Command.{Command}
use Rattle.qfs_base.specs.declared.reply.NodeReply.{NodeReply}
use Rattle.qfs_base.specs.declared.request.NodeRequest.{NodeRequest}
use Rattle.qfs_machine.specs.Asking.{MayHandOut, after_asking}
use Rattle.qfs_machine.specs.declared.machine.Readiness.{Readiness}
use Rattle.qfs_machine.specs.declared.machine.Readiness.TheVariants.{Unready, Ready, Out}
use Rattle.qfs_model_actor.specs.Actor.{Actor, starting, work_left, request_of, node_of}
use Rattle.qfs_model_actor.specs.Actor.{moved_on, after_reply}
use Rattle.qfs_model_actor.specs.Command.{work_of}
use Rattle.qfs_model_actor.specs.Shown.{kept_report, lines_from}
use Rattle.qfs_model_actor.specs.Work.{Report, Work, ends, asks, goes_on, follow, request_in}
use Rattle.qfs_model_actor.specs.Work.{node_of_request}
use Rattle.qfs_actors.specs.State.{commands_of, first_work, readiness_in, AddsLine, HasTaken, IsOf}
use Rattle.qfs_actors.specs.State.{IsReadyIn, MayHandOutIn}
use Rattle.qfs_actors.specs.Standing.{CanAskAs}
use Rattle.qfs_actors.specs.declared.state.ActorState.{ActorState}

-- ---- lists

drop-suc : {X : Type 0} (n : ℕ) (xs : List X) → drop 1 (drop n xs) ≡ drop (suc n) xs
drop-suc zero [] = refl
drop-suc zero (x ∷ xs) = refl
drop-suc (suc n) [] = refl
drop-suc (suc n) (x ∷ xs) = drop-suc n xs

drop-more : {X : Type 0} (n : ℕ) (xs : List X) → drop 1 (drop n xs) ≡ drop (n + 1) xs
drop-more n xs =
    let e : suc n ≡ n + 1 = omega arith in
    drop-suc n xs ∙ ap (λ m. drop m xs) e

first_of-drop : {X : Type 0} (n : ℕ) (xs : List X) → slice_get (drop n xs) 0 ≡ slice_get xs n
first_of-drop zero xs = refl
first_of-drop (suc n) [] = refl
first_of-drop (suc n) (x ∷ xs) = first_of-drop n xs

-- ---- lines of reports

length-lines : (actor k : ℕ) (reports : List Report)
    → length (lines_from actor k reports) ≡ length reports
unfolding lines_from
length-lines actor k [] = refl
length-lines actor k (report ∷ reports) = ap suc (length-lines actor (k + 1) reports)

lines-push : (actor k : ℕ) (reports : List Report) (report : Report)
    → lines_from actor k (reports ++ report ∷ [])
    ≡ lines_from actor k reports
    ++ record { actor = actor; command = k + length reports; reply = kept_report report } ∷ []
unfolding lines_from
lines-push actor k [] report =
    let e : k + 0 ≡ k = omega arith in
    rw e refl
lines-push actor k (first ∷ reports) report =
    let e : k + 1 + length reports ≡ k + suc (length reports) = omega arith in
    rw (lines-push actor (k + 1) reports report, e) refl

-- ---- works

-- one more reply is followed
follow-push : (work : Work) (replies : List NodeReply) (reply : NodeReply)
    → follow work (replies ++ reply ∷ []) ≡ goes_on (follow work replies) reply
unfolding follow
follow-push work [] reply = refl
follow-push work (first ∷ replies) reply = follow-push (goes_on work first) replies reply

-- work that asks nothing more has ended
has_ended : (work : Work) → request_in work ≡ None → (report : Report) × (work ≡ ends report)
unfolding request_in
has_ended (ends report) none = (report, refl)
has_ended (asks request next) none = absurd (cc)

-- whether work asks on, by the node that it goes to
goes-is_some : {X Y : Type 0} (f : X → Y) (o : Option X) → is_some (option_map f o) ≡ is_some o
goes-is_some f None = refl
goes-is_some f (Some x) = refl

is_none-None : {X : Type 0} (o : Option X) → is_some o ≡ false → o ≡ None
is_none-None None nothing = refl
is_none-None (Some x) nothing = absurd (cc)

pub goes_on-asks : (work : Work) → is_some (option_map node_of_request (request_in work)) ≡ true
    → IsSome (request_in work)
goes_on-asks work goes = sym (goes-is_some node_of_request (request_in work)) ∙ goes

pub stops-ended : (work : Work) → is_some (option_map node_of_request (request_in work)) ≡ false
    → request_in work ≡ None
stops-ended work stops =
    is_none-None (request_in work) (sym (goes-is_some node_of_request (request_in work)) ∙ stops)

-- a machine that has taken its memory behind a request that it may hand out had taken it before
pub had_taken : (readiness : Readiness) (work : Work) (request : Option NodeRequest)
    → MayHandOut readiness work → request ≡ request_in work
    → HasTaken (after_asking request readiness) → HasTaken readiness
had_taken Unready work None may is taken = taken
had_taken Unready work (Some request) may is taken = absurd (cc)
had_taken Ready work request may is taken = tt
had_taken Out work request may is taken = absurd may

-- ---- the present command

-- what is left of the actor's present command, which is this one, behind these replies
abbrev followed : Actor → List NodeReply → Command → Work
followed actor replies command =
    follow (work_of actor.rules (length actor.ended + 1) command) replies

work_left-push : (actor : Actor) (reply : NodeReply)
    → work_left (record actor { heard = actor.heard ++ reply ∷ [] })
    ≡ option_map (λ work. goes_on work reply) (work_left actor)
unfolding work_left
work_left-push actor reply = pushed (slice_get actor.commands (length actor.ended))
  where
    pushed : (o : Option Command)
        → option_map (λ command. followed actor (actor.heard ++ reply ∷ []) command) o
        ≡ option_map (λ work. goes_on work reply)
        (option_map (λ command. followed actor actor.heard command) o)
    pushed None = refl
    pushed (Some command) =
        ap Some (follow-push (work_of actor.rules (length actor.ended + 1) command)
        actor.heard reply)

-- an actor that has heard nothing yet
work_left-fresh : (actor : Actor) → actor.heard ≡ []
    → work_left actor
    ≡ option_map (λ command. work_of actor.rules (length actor.ended + 1) command)
    (slice_get actor.commands (length actor.ended))
unfolding work_left follow
work_left-fresh actor nothing =
    rw nothing (unheard (slice_get actor.commands (length actor.ended)))
  where
    unheard : (o : Option Command)
        → option_map (λ command. followed actor [] command) o
        ≡ option_map (λ command. work_of actor.rules (length actor.ended + 1) command) o
    unheard None = refl
    unheard (Some command) = refl

has_command : (actor : Actor) (work : Work) → work_left actor ≡ Some work
    → length actor.ended < length actor.commands
unfolding work_left
has_command actor work left = found (slice_get actor.commands (length actor.ended)) refl left
  where
    found : (o : Option Command) → slice_get actor.commands (length actor.ended) ≡ o
        → option_map (λ command. followed actor actor.heard command) o ≡ Some work
        → length actor.ended < length actor.commands
    found None is left = absurd (cc)
    found (Some command) is left =
        slice_get_within actor.commands (length actor.ended) command is

after_reply-moved : (actor : Actor) (reply : NodeReply) (work : Work)
    → work_left actor ≡ Some work
    → after_reply actor reply ≡ moved_on actor reply (Some (goes_on work reply))
unfolding after_reply
after_reply-moved actor reply work left =
    ap (λ o. moved_on actor reply (option_map (λ w. goes_on w reply) o)) left

moved_on-asks : (actor : Actor) (reply : NodeReply) (work : Work) → IsSome (request_in work)
    → moved_on actor reply (Some work) ≡ record actor { heard = actor.heard ++ reply ∷ [] }
unfolding moved_on request_in
moved_on-asks actor reply (ends report) asking = absurd (cc)
moved_on-asks actor reply (asks request next) asking = refl

moved_on-ends : (actor : Actor) (reply : NodeReply) (report : Report)
    → moved_on actor reply (Some (ends report))
    ≡ record actor { ended = actor.ended ++ report ∷ []; heard = [] }
unfolding moved_on
moved_on-ends actor reply report = refl

module _ {M : Type 0} {rest : M → Work} {readiness : M → Readiness} where
  -- ---- what is kept, and the next request

  pub request_of-state : (actor : Actor) (state : ActorState M) → IsOf rest readiness actor state
      → request_of actor ≡ option_and_then request_in (option_map rest state.machine)
  unfolding request_of
  request_of-state actor state of =
      ap (λ left. option_and_then request_in left) (sym of.machine)

  pub node_of-state : (actor : Actor) (state : ActorState M) → IsOf rest readiness actor state
      → node_of actor
      ≡ option_map node_of_request (option_and_then request_in (option_map rest state.machine))
  unfolding node_of
  node_of-state actor state of =
      ap (λ request. option_map node_of_request request) (request_of-state actor state of)

  -- who may ask, may ask by its machine
  pub may_ask : (actor : Actor) (state : ActorState M) → IsOf rest readiness actor state
      → CanAskAs actor (readiness_in readiness state.machine)
      → MayHandOutIn rest readiness state.machine
  may_ask actor state of can = by_doing state.machine (request_of-state actor state of) can
    where
      by_readiness : (machine : M) (stands : Readiness)
          → request_of actor ≡ request_in (rest machine)
          → CanAskAs actor stands → MayHandOut stands (rest machine)
      by_readiness machine Unready is finished = sym is ∙ finished
      by_readiness machine Ready is can = tt
      by_readiness machine Out is can = can

      by_doing : (machine : Option M)
          → request_of actor ≡ option_and_then request_in (option_map rest machine)
          → CanAskAs actor (readiness_in readiness machine)
          → MayHandOutIn rest readiness machine
      by_doing None is can = tt
      by_doing (Some machine) is can = by_readiness machine (readiness machine) is can

  -- an actor whose machine is ready may ask, and so may one that has none
  pub can_ask : (actor : Actor) (state : ActorState M) → IsOf rest readiness actor state
      → IsReadyIn readiness state.machine
      → CanAskAs actor (readiness_in readiness state.machine)
  can_ask actor state of ready = by_doing state.machine (request_of-state actor state of) ready
    where
      by_doing : (machine : Option M)
          → request_of actor ≡ option_and_then request_in (option_map rest machine)
          → IsReadyIn readiness machine → CanAskAs actor (readiness_in readiness machine)
      by_doing None is ready = is
      by_doing (Some machine) is ready = rw ready tt

  pub ok-can_ask : {A B : Type 0} (result : Result A B) (actor : Actor) (state : ActorState M)
      → IsOf rest readiness actor state
      → OnOk result (IsReadyIn readiness state.machine)
      → OnOk result (CanAskAs actor (readiness_in readiness state.machine))
  ok-can_ask (Ok it) actor state of ready = can_ask actor state of ready
  ok-can_ask (Err error) actor state of ready = tt

  -- another machine of which the same is left
  pub same_rest : (actor : Actor) (state next : ActorState M) (machine at : M)
      → IsOf rest readiness actor state → state.machine ≡ Some machine
      → next.setting ≡ state.setting
      → into_iter_items next.ahead ≡ into_iter_items state.ahead
      → next.machine ≡ Some at → rest at ≡ rest machine
      → next.replies.items ≡ state.replies.items
      → (HasTaken (readiness at) → vec_len next.replies < vec_capacity next.replies)
      → IsOf rest readiness actor next
  same_rest actor state next machine at of is setting ahead then left lines room =
      record {
        number = rw setting of.number;
        rules = rw setting of.rules;
        tries = of.tries;
        few = of.few;
        ahead = ahead ∙ of.ahead;
        machine = rw (then, left, ← of.machine, is) refl;
        lines = lines ∙ of.lines;
        room = rw then room;
      }

  -- ---- the first command

  pub starts : (state : ActorState M) (commands : List Command)
      → 1 ≤ state.setting.rules.tries → length commands < 2 ^ 16
      → into_iter_items state.ahead ≡ drop 1 commands
      → option_map rest state.machine ≡ first_work state.setting.rules 1 commands
      → state.replies.items ≡ [] → readiness_in readiness state.machine ≡ Unready
      → IsOf rest readiness (starting state.setting.rules state.setting.number commands) state
  unfolding starting lines_from
  starts state commands tries few ahead first none unready =
      let actor = starting state.setting.rules state.setting.number commands in
      record {
        number = refl;
        rules = refl;
        tries = tries;
        few = few;
        ahead = ahead;
        machine = first ∙ sym (work_left-fresh actor refl);
        lines = none;
        room = λ taken. absurd (subst HasTaken unready taken);
      }

  -- ---- a reply

  -- what is left of the present command
  left_in : (actor : Actor) (state : ActorState M) (machine : M)
      → IsOf rest readiness actor state → state.machine ≡ Some machine
      → work_left actor ≡ Some (rest machine)
  left_in actor state machine of is = sym of.machine ∙ ap (λ o. option_map rest o) is

  length-replies : (actor : Actor) (state : ActorState M) → IsOf rest readiness actor state
      → length state.replies.items ≡ length actor.ended
  length-replies actor state of =
      ap length of.lines ∙ length-lines actor.number 1 actor.ended

  -- one command is present, and the others that haven't ended are ahead
  pub few_ahead : (actor : Actor) (state : ActorState M) (machine : M)
      → IsOf rest readiness actor state → state.machine ≡ Some machine
      → commands_of state < 2 ^ 16
  few_ahead actor state machine of is =
      let within = has_command actor (rest machine) (left_in actor state machine of is) in
      let lines = length-replies actor state of in
      let ahead : length (into_iter_items state.ahead)
      ≡ length actor.commands - (length actor.ended + 1) =
      ap length of.ahead ∙ length-drop (length actor.ended + 1) actor.commands in
      let few = of.few in
      omega (arith, within, lines, ahead, few)

  pub some_tries : (actor : Actor) (state : ActorState M) → IsOf rest readiness actor state
      → 1 ≤ state.setting.rules.tries
  some_tries actor state of = rw of.rules of.tries

  -- the present command asks on
  pub asks_on : (actor : Actor) (reply : NodeReply) (state next : ActorState M) (machine at : M)
      → IsOf rest readiness actor state → state.machine ≡ Some machine
      → next ≡ record state { machine = Some at }
      → rest at ≡ goes_on (rest machine) reply → IsSome (request_in (rest at))
      → readiness at ≡ Unready
      → IsOf rest readiness (after_reply actor reply) next
  asks_on actor reply state next machine at of is same goes asking unready =
      let left = left_in actor state machine of is in
      let then : Actor = record actor { heard = actor.heard ++ reply ∷ [] } in
      let after : after_reply actor reply ≡ then =
      after_reply-moved actor reply (rest machine) left
      ∙ ap (λ work. moved_on actor reply (Some work)) (sym goes)
      ∙ moved_on-asks actor reply (rest at) asking in
      let more : Some (rest at) ≡ work_left then =
      sym (work_left-push actor reply
      ∙ ap (λ o. option_map (λ work. goes_on work reply) o) left ∙ ap Some (sym goes)) in
      let holds : IsOf rest readiness then (record state { machine = Some at }) =
      record {
        number = of.number;
        rules = of.rules;
        tries = of.tries;
        few = of.few;
        ahead = of.ahead;
        machine = more;
        lines = of.lines;
        room = λ taken. absurd (subst HasTaken unready taken);
      } in
      rw (after, same) holds

-- the present command ends, of which this is left, and the next one begins
pub record Ends {M : Type 0} (rest : M → Work) (readiness : M → Readiness)
    (state next : ActorState M) (at : M) : Type 0 where
  pub setting : next.setting ≡ state.setting
  pub line : AddsLine (rest at) state next
  pub rest_of_next : option_map rest next.machine
      ≡ first_work state.setting.rules (length state.replies.items + 2)
      (into_iter_items state.ahead)
  pub ahead : into_iter_items next.ahead ≡ drop 1 (into_iter_items state.ahead)
  pub unready : readiness_in readiness next.machine ≡ Unready

pub ends_with : {M : Type 0} {rest : M → Work} {readiness : M → Readiness}
    (actor : Actor) (reply : NodeReply) (state next : ActorState M) (machine at : M)
    → IsOf rest readiness actor state → state.machine ≡ Some machine
    → rest at ≡ goes_on (rest machine) reply → request_in (rest at) ≡ None
    → Ends rest readiness state next at
    → IsOf rest readiness (after_reply actor reply) next
ends_with {M} {rest} {readiness} actor reply state next machine at of is goes none ended =
    let left = left_in actor state machine of is in
    let over = has_ended (rest at) none in
    let report : Report = over.0 in
    let then : Actor = record actor { ended = actor.ended ++ report ∷ []; heard = [] } in
    let after : after_reply actor reply ≡ then =
    after_reply-moved actor reply (rest machine) left
    ∙ ap (λ work. moved_on actor reply (Some work)) (sym goes ∙ over.1)
    ∙ moved_on-ends actor reply report in
    let lines = length-replies actor state of in
    let more : length (actor.ended ++ report ∷ []) ≡ length actor.ended + 1 =
    length-append actor.ended (report ∷ []) in
    let one : 1 + length actor.ended ≡ length actor.ended + 1 = omega arith in
    let two : length actor.ended + 1 + 1 ≡ length actor.ended + 2 = omega arith in
    let holds : IsOf rest readiness then next =
    record {
      number = rw ended.setting of.number;
      rules = rw ended.setting of.rules;
      tries = of.tries;
      few = of.few;
      ahead =
          rw (more, ended.ahead, of.ahead)
          (drop-more (length actor.ended + 1) actor.commands);
      machine =
          rw (
            ended.rest_of_next,
            work_left-fresh then refl,
            more,
            of.rules,
            lines,
            of.ahead,
            first_of-drop (length actor.ended + 1) actor.commands,
            two,
          ) refl;
      lines =
          rw (
            ended.line report over.1,
            of.lines,
            lines-push actor.number 1 actor.ended report,
            of.number,
            length-lines actor.number 1 actor.ended,
            one,
          ) refl;
      room = λ taken. absurd (subst HasTaken ended.unready taken);
    } in
    rw after holds
