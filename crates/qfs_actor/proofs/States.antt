-- What an actor keeps is that of the actor of the definitions, at its first command and after each reply.
use Rattle.std.proofs.Common.{◌<◌, ◌≤◌, ◌^◌, ◌+◌, ◌-◌, ◌≡◌, ◌∙◌, refl, sym, ap, subst, arith, zero, suc, true, false, ℕ, List, [], ◌∷◌, ◌++◌, length, Option, Some, None, IfSome, length-append}
use Rattle.std.specs.Prelude.{slice_get, drop, All, is_some, IsSome, option_map, option_and_then, Result, Ok, Err, OnOk, vec_len, vec_capacity}
use Rattle.std.specs.Vec.Iter.{into_iter_items}
use Rattle.std.proofs.lemmas.List.{length-drop}
use Rattle.std.proofs.lemmas.List.Elements.{All-drop}
use Rattle.std.proofs.lemmas.Option.{slice_get_within}
use Rattle.qfs_base.specs.declared.rules.Rules.{Rules}
use Rattle.qfs_base.specs.declared.command.Command.{Command}
use Rattle.qfs_base.specs.declared.command.Command.TheVariants as Does
use Rattle.qfs_base.specs.declared.command.FileCommand.TheVariants as File
use Rattle.qfs_base.specs.declared.reply.NodeReply.{NodeReply}
use Rattle.qfs_machine.specs.Asking.{MayHandOut}
use Rattle.qfs_machine.specs.declared.machine.Readiness.{Readiness}
use Rattle.qfs_machine.specs.declared.machine.Readiness.TheVariants.{Unready, Ready, Out}
use Rattle.qfs_model_actor.specs.Actor.{Actor, starting, work_left, request_of, node_of, moved_on, after_reply}
use Rattle.qfs_model_actor.specs.Ask.{ask}
use Rattle.qfs_model_actor.specs.Command.{work_of, file_work}
use Rattle.qfs_model_actor.specs.Get.{attempt, get_work}
use Rattle.qfs_model_actor.specs.Hold.{ask_or}
use Rattle.qfs_model_actor.specs.Put.{put_work}
use Rattle.qfs_model_actor.specs.Shown.{kept_report, lines_from}
use Rattle.qfs_model_actor.specs.Work.{Report, Work, ends, asks, goes_on, follow, request_in, node_of_request}
use Rattle.qfs_actor.specs.State.{commands_of, first_work, readiness_in, AddsLine, AsksIn, HasTaken, IsOf, IsReadyIn, MayHandOutIn}
use Rattle.qfs_actor.specs.CommandMachine.{rest_of_machine, readiness_of}
use Rattle.qfs_actor.specs.Forms.{IsBuilt}
use Rattle.qfs_actor.specs.Standing.{CanAskAs}
use Rattle.qfs_actor.specs.declared.state.ActorState.{ActorState}
use Rattle.qfs_actor.specs.declared.command_machine.CommandMachine.{CommandMachine}

-- ---- lists

drop-suc : {X : Type 0} (n : ℕ) (xs : List X) → drop 1 (drop n xs) ≡ drop (suc n) xs
drop-suc zero [] = refl
drop-suc zero (x ∷ xs) = refl
drop-suc (suc n) [] = refl
drop-suc (suc n) (x ∷ xs) = drop-suc n xs

drop-more : {X : Type 0} (n : ℕ) (xs : List X) → drop 1 (drop n xs) ≡ drop (n + 1) xs
drop-more n xs =
    let e : suc n ≡ n + 1 = omega arith in
    drop-suc n xs ∙ ap (λ m. drop m xs) e

first_of-drop : {X : Type 0} (n : ℕ) (xs : List X) → slice_get (drop n xs) 0 ≡ slice_get xs n
first_of-drop zero xs = refl
first_of-drop (suc n) [] = refl
first_of-drop (suc n) (x ∷ xs) = first_of-drop n xs

-- ---- lines of reports

length-lines : (actor k : ℕ) (reports : List Report) → length (lines_from actor k reports) ≡ length reports
unfolding lines_from
length-lines actor k [] = refl
length-lines actor k (report ∷ reports) = ap suc (length-lines actor (k + 1) reports)

lines-push : (actor k : ℕ) (reports : List Report) (report : Report)
    → lines_from actor k (reports ++ report ∷ [])
    ≡ lines_from actor k reports ++ record { actor = actor; command = k + length reports; reply = kept_report report } ∷ []
unfolding lines_from
lines-push actor k [] report =
    let e : k + 0 ≡ k = omega arith in
    rw e refl
lines-push actor k (first ∷ reports) report =
    let e : k + 1 + length reports ≡ k + suc (length reports) = omega arith in
    rw (lines-push actor (k + 1) reports report, e) refl

-- ---- works

-- one more reply is followed
follow-push : (work : Work) (replies : List NodeReply) (reply : NodeReply) → follow work (replies ++ reply ∷ []) ≡ goes_on (follow work replies) reply
unfolding follow
follow-push work [] reply = refl
follow-push work (first ∷ replies) reply = follow-push (goes_on work first) replies reply

-- work that asks nothing more has ended
has_ended : (work : Work) → request_in work ≡ None → (report : Report) × (work ≡ ends report)
unfolding request_in
has_ended (ends report) none = (report, refl)
has_ended (asks request next) none = absurd (cc)

-- each command begins with a request
pub work_of-asks : (rules : Rules) (number : ℕ) (command : Command) → IsBuilt command → IsSome (request_in (work_of rules number command))
unfolding work_of file_work put_work get_work attempt ask ask_or request_in
work_of-asks rules number (Does.File (File.Put path recipe)) built = refl
work_of-asks rules number (Does.File (File.Get path range)) built = refl
work_of-asks rules number (Does.File command) built = absurd built
work_of-asks rules number command built = absurd built

-- ---- the present command

work_left-push : (actor : Actor) (reply : NodeReply)
    → work_left (record actor { heard = actor.heard ++ reply ∷ [] }) ≡ option_map (λ work. goes_on work reply) (work_left actor)
unfolding work_left
work_left-push actor reply = pushed (slice_get actor.commands (length actor.ended))
  where
    pushed : (o : Option Command)
        → option_map (λ command. follow (work_of actor.rules (length actor.ended + 1) command) (actor.heard ++ reply ∷ [])) o
        ≡ option_map (λ work. goes_on work reply) (option_map (λ command. follow (work_of actor.rules (length actor.ended + 1) command) actor.heard) o)
    pushed None = refl
    pushed (Some command) = ap Some (follow-push (work_of actor.rules (length actor.ended + 1) command) actor.heard reply)

-- an actor that has heard nothing yet
work_left-fresh : (actor : Actor) → actor.heard ≡ []
    → work_left actor ≡ option_map (λ command. work_of actor.rules (length actor.ended + 1) command) (slice_get actor.commands (length actor.ended))
unfolding work_left follow
work_left-fresh actor nothing = rw nothing (unheard (slice_get actor.commands (length actor.ended)))
  where
    unheard : (o : Option Command)
        → option_map (λ command. follow (work_of actor.rules (length actor.ended + 1) command) []) o
        ≡ option_map (λ command. work_of actor.rules (length actor.ended + 1) command) o
    unheard None = refl
    unheard (Some command) = refl

has_command : (actor : Actor) (work : Work) → work_left actor ≡ Some work → length actor.ended < length actor.commands
unfolding work_left
has_command actor work left = found (slice_get actor.commands (length actor.ended)) refl left
  where
    found : (o : Option Command) → slice_get actor.commands (length actor.ended) ≡ o
        → option_map (λ command. follow (work_of actor.rules (length actor.ended + 1) command) actor.heard) o ≡ Some work
        → length actor.ended < length actor.commands
    found None is left = absurd (cc)
    found (Some command) is left = slice_get_within actor.commands (length actor.ended) command is

-- ---- what is kept, and the next request

pub request_of-state : (actor : Actor) (state : ActorState) → IsOf actor state
    → request_of actor ≡ option_and_then request_in (option_map rest_of_machine state.machine)
unfolding request_of
request_of-state actor state of = ap (λ left. option_and_then request_in left) (sym of.machine)

pub node_of-state : (actor : Actor) (state : ActorState) → IsOf actor state
    → node_of actor ≡ option_map node_of_request (option_and_then request_in (option_map rest_of_machine state.machine))
unfolding node_of
node_of-state actor state of = ap (λ request. option_map node_of_request request) (request_of-state actor state of)

-- who may ask, may ask by its machine
pub may_ask : (actor : Actor) (state : ActorState) → IsOf actor state → CanAskAs actor (readiness_in state.machine)
    → MayHandOutIn state.machine
may_ask actor state of can = by_doing state.machine (request_of-state actor state of) can
  where
    by_readiness : (machine : CommandMachine) (readiness : Readiness) → request_of actor ≡ request_in (rest_of_machine machine) → CanAskAs actor readiness → MayHandOut readiness (rest_of_machine machine)
    by_readiness machine Unready is finished = sym is ∙ finished
    by_readiness machine Ready is can = tt
    by_readiness machine Out is can = can

    by_doing : (machine : Option CommandMachine) → request_of actor ≡ option_and_then request_in (option_map rest_of_machine machine) → CanAskAs actor (readiness_in machine)
        → MayHandOutIn machine
    by_doing None is can = tt
    by_doing (Some machine) is can = by_readiness machine (readiness_of machine) is can

-- an actor whose machine is ready may ask, and so may one that has none
pub can_ask : (actor : Actor) (state : ActorState) → IsOf actor state → IsReadyIn state.machine
    → CanAskAs actor (readiness_in state.machine)
can_ask actor state of ready = by_doing state.machine (request_of-state actor state of) ready
  where
    by_doing : (machine : Option CommandMachine) → request_of actor ≡ option_and_then request_in (option_map rest_of_machine machine)
        → IsReadyIn machine → CanAskAs actor (readiness_in machine)
    by_doing None is ready = is
    by_doing (Some machine) is ready = rw ready tt

pub ok-can_ask : {A B : Type 0} (result : Result A B) (actor : Actor) (state : ActorState) → IsOf actor state
    → OnOk result (IsReadyIn state.machine) → OnOk result (CanAskAs actor (readiness_in state.machine))
ok-can_ask (Ok it) actor state of ready = can_ask actor state of ready
ok-can_ask (Err error) actor state of ready = tt

-- who may ask and asks something has taken the memory for it
pub has_taken : (readiness : Readiness) (work : Work) → MayHandOut readiness work → IsSome (request_in work) → HasTaken readiness
has_taken Unready work finished asking = absurd (cc)
has_taken Ready work may asking = tt
has_taken Out work may asking = absurd may

-- another machine of which the same is left
pub same_rest : (actor : Actor) (state next : ActorState) (machine at : CommandMachine) → IsOf actor state → state.machine ≡ Some machine
    → next.setting ≡ state.setting → into_iter_items next.ahead ≡ into_iter_items state.ahead → next.machine ≡ Some at → rest_of_machine at ≡ rest_of_machine machine
    → next.replies.items ≡ state.replies.items → vec_len next.replies < vec_capacity next.replies
    → IsOf actor next
same_rest actor state next machine at of is setting ahead then rest lines room =
    let asking : IsSome (request_in (rest_of_machine machine)) = rw is at of.asks in
    record {
      number = rw setting of.number;
      rules = rw setting of.rules;
      tries = of.tries;
      few = of.few;
      built = of.built;
      ahead = ahead ∙ of.ahead;
      machine = rw (then, rest, ← of.machine, is) refl;
      asks = rw (then, rest) asking;
      lines = lines ∙ of.lines;
      room = λ taken. room;
    }

-- whether work asks on, by the node that it goes to
goes-is_some : {X Y : Type 0} (f : X → Y) (o : Option X) → is_some (option_map f o) ≡ is_some o
goes-is_some f None = refl
goes-is_some f (Some x) = refl

is_none-None : {X : Type 0} (o : Option X) → is_some o ≡ false → o ≡ None
is_none-None None nothing = refl
is_none-None (Some x) nothing = absurd (cc)

pub goes_on-asks : (work : Work) → is_some (option_map node_of_request (request_in work)) ≡ true → IsSome (request_in work)
goes_on-asks work goes = sym (goes-is_some node_of_request (request_in work)) ∙ goes

pub stops-ended : (work : Work) → is_some (option_map node_of_request (request_in work)) ≡ false → request_in work ≡ None
stops-ended work stops = is_none-None (request_in work) (sym (goes-is_some node_of_request (request_in work)) ∙ stops)

-- a fact of all items is one of the first
pub all_first : {X : Type 0} (P : X → Type 0) (x : X) (xs : List X) → All P (x ∷ xs) → P x
all_first P x xs all = all 0 x (omega arith)

-- ---- the first command

pub starts : (state : ActorState) (commands : List Command) → 1 ≤ state.setting.rules.tries → length commands < 2 ^ 16 → All IsBuilt commands
    → into_iter_items state.ahead ≡ drop 1 commands
    → option_map rest_of_machine state.machine ≡ first_work state.setting.rules 1 commands
    → AsksIn state.machine
    → state.replies.items ≡ [] → readiness_in state.machine ≡ Unready
    → IsOf (starting state.setting.rules state.setting.number commands) state
unfolding starting lines_from
starts state commands tries few built ahead rest asking none unready =
    record {
      number = refl;
      rules = refl;
      tries = tries;
      few = few;
      built = built;
      ahead = ahead;
      machine = rest ∙ sym (work_left-fresh (starting state.setting.rules state.setting.number commands) refl);
      asks = asking;
      lines = none;
      room = λ taken. absurd (subst HasTaken unready taken);
    }

-- ---- a reply

-- one command is present, and the others that haven't ended are ahead
pub few_ahead : (actor : Actor) (state : ActorState) (machine : CommandMachine) → IsOf actor state → state.machine ≡ Some machine
    → commands_of state < 2 ^ 16
few_ahead actor state machine of is =
    let within = has_command actor (rest_of_machine machine) (sym of.machine ∙ ap (λ o. option_map rest_of_machine o) is) in
    let lines : length state.replies.items ≡ length actor.ended = ap length of.lines ∙ length-lines actor.number 1 actor.ended in
    let ahead : length (into_iter_items state.ahead) ≡ length actor.commands - (length actor.ended + 1) =
    ap length of.ahead ∙ length-drop (length actor.ended + 1) actor.commands in
    let few = of.few in
    omega (arith, within, lines, ahead, few)

pub some_tries : (actor : Actor) (state : ActorState) → IsOf actor state → 1 ≤ state.setting.rules.tries
some_tries actor state of = rw of.rules of.tries

after_reply-moved : (actor : Actor) (reply : NodeReply) (work : Work) → work_left actor ≡ Some work
    → after_reply actor reply ≡ moved_on actor reply (Some (goes_on work reply))
unfolding after_reply
after_reply-moved actor reply work left = ap (λ o. moved_on actor reply (option_map (λ w. goes_on w reply) o)) left

moved_on-asks : (actor : Actor) (reply : NodeReply) (work : Work) → IsSome (request_in work)
    → moved_on actor reply (Some work) ≡ record actor { heard = actor.heard ++ reply ∷ [] }
unfolding moved_on request_in
moved_on-asks actor reply (ends report) asking = absurd (cc)
moved_on-asks actor reply (asks request next) asking = refl

moved_on-ends : (actor : Actor) (reply : NodeReply) (report : Report)
    → moved_on actor reply (Some (ends report)) ≡ record actor { ended = actor.ended ++ report ∷ []; heard = [] }
unfolding moved_on
moved_on-ends actor reply report = refl

-- the present command asks on
pub asks_on : (actor : Actor) (reply : NodeReply) (state next : ActorState) (machine : CommandMachine) (at : CommandMachine) → IsOf actor state → state.machine ≡ Some machine
    → next ≡ record state { machine = Some at }
    → rest_of_machine at ≡ goes_on (rest_of_machine machine) reply → IsSome (request_in (rest_of_machine at)) → readiness_of at ≡ Unready
    → IsOf (after_reply actor reply) next
asks_on actor reply state next machine at of is same goes asking unready =
    let left : work_left actor ≡ Some (rest_of_machine machine) = sym of.machine ∙ ap (λ o. option_map rest_of_machine o) is in
    let after : after_reply actor reply ≡ record actor { heard = actor.heard ++ reply ∷ [] } =
    after_reply-moved actor reply (rest_of_machine machine) left ∙ ap (λ work. moved_on actor reply (Some work)) (sym goes) ∙ moved_on-asks actor reply (rest_of_machine at) asking in
    let more : Some (rest_of_machine at) ≡ work_left (record actor { heard = actor.heard ++ reply ∷ [] }) =
    sym (work_left-push actor reply ∙ ap (λ o. option_map (λ work. goes_on work reply) o) left ∙ ap Some (sym goes)) in
    let holds : IsOf (record actor { heard = actor.heard ++ reply ∷ [] }) (record state { machine = Some at }) =
    record {
      number = of.number;
      rules = of.rules;
      tries = of.tries;
      few = of.few;
      built = of.built;
      ahead = of.ahead;
      machine = more;
      asks = asking;
      lines = of.lines;
      room = λ taken. absurd (subst HasTaken unready taken);
    } in
    rw (after, same) holds

-- the present command ends, and the next one begins
pub record Ends (state next : ActorState) (at : CommandMachine) : Type 0 where
  pub setting : next.setting ≡ state.setting
  pub line : AddsLine (rest_of_machine at) state next
  pub rest : option_map rest_of_machine next.machine
      ≡ first_work state.setting.rules (length state.replies.items + 2) (into_iter_items state.ahead)
  pub asks : AsksIn next.machine
  pub ahead : into_iter_items next.ahead ≡ drop 1 (into_iter_items state.ahead)
  pub unready : readiness_in next.machine ≡ Unready

pub ends_with : (actor : Actor) (reply : NodeReply) (state next : ActorState) (machine : CommandMachine) (at : CommandMachine) → IsOf actor state → state.machine ≡ Some machine
    → rest_of_machine at ≡ goes_on (rest_of_machine machine) reply → request_in (rest_of_machine at) ≡ None → Ends state next at
    → IsOf (after_reply actor reply) next
ends_with actor reply state next machine at of is goes none ended =
    let left : work_left actor ≡ Some (rest_of_machine machine) = sym of.machine ∙ ap (λ o. option_map rest_of_machine o) is in
    let over = has_ended (rest_of_machine at) none in
    let report : Report = over.0 in
    let then : Actor = record actor { ended = actor.ended ++ report ∷ []; heard = [] } in
    let after : after_reply actor reply ≡ then =
    after_reply-moved actor reply (rest_of_machine machine) left ∙ ap (λ work. moved_on actor reply (Some work)) (sym goes ∙ over.1) ∙ moved_on-ends actor reply report in
    let lines : length state.replies.items ≡ length actor.ended = ap length of.lines ∙ length-lines actor.number 1 actor.ended in
    let more : length (actor.ended ++ report ∷ []) ≡ length actor.ended + 1 = length-append actor.ended (report ∷ []) in
    let one : 1 + length actor.ended ≡ length actor.ended + 1 = omega arith in
    let two : length actor.ended + 1 + 1 ≡ length actor.ended + 2 = omega arith in
    let holds : IsOf then next =
    record {
      number = rw ended.setting of.number;
      rules = rw ended.setting of.rules;
      tries = of.tries;
      few = of.few;
      built = of.built;
      ahead = rw (more, ended.ahead, of.ahead) (drop-more (length actor.ended + 1) actor.commands);
      machine = rw (ended.rest, work_left-fresh then refl, more, of.rules, lines, of.ahead, first_of-drop (length actor.ended + 1) actor.commands, two) refl;
      asks = ended.asks;
      lines = rw (ended.line report over.1, of.lines, lines-push actor.number 1 actor.ended report, of.number, length-lines actor.number 1 actor.ended, one) refl;
      room = λ taken. absurd (subst HasTaken ended.unready taken);
    } in
    rw after holds
