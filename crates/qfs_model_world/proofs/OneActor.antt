-- The steps of a script whose one phase has one actor.
use Rattle.std.proofs.Common.{◌≡◌, ℕ, Bool, true, false, cond, List, [], ◌∷◌, Option, Some, refl, ◌∙◌, ap, ap₂}
use Rattle.std.specs.Prelude.{◌&&◌, ◌==◌, is_none, slice_get, slice_set}
use Rattle.std.specs.List.{list_any}
use Rattle.qfs_base.specs.Outcome.{outcome_of}
use Rattle.qfs_base.specs.declared.command.Command.{Command}
use Rattle.qfs_base.specs.declared.history.Outcome.{Outcome}
use Rattle.qfs_base.specs.declared.history.Outcome.TheVariants as Ended
use Rattle.qfs_base.specs.declared.history.Step.{Step}
use Rattle.qfs_base.specs.declared.image.MetaImage.{MetaImage}
use Rattle.qfs_base.specs.declared.reply.ChunkReply.{ChunkReply}
use Rattle.qfs_base.specs.declared.reply.MetaReply.{MetaReply}
use Rattle.qfs_base.specs.declared.reply.NodeReply.TheVariants as From
use Rattle.qfs_base.specs.declared.request.ChunkRequest.{ChunkRequest}
use Rattle.qfs_base.specs.declared.request.MetaRequest.{MetaRequest}
use Rattle.qfs_base.specs.declared.request.NodeRequest.{NodeRequest}
use Rattle.qfs_base.specs.declared.request.NodeRequest.TheVariants as To
use Rattle.qfs_base.specs.declared.script.Script.{Script}
use Rattle.qfs_model_actor.specs.Actor.{Actor, request_of, has_finished, after_reply}
use Rattle.qfs_model_meta.specs.Step.{Served, meta_step}
use Rattle.qfs_model_server.specs.Server.{Server, Answered, server_step}
use Rattle.qfs_model_text.specs.Order.{same_outcome}
use Rattle.qfs_model_world.specs.World.{World, numbered, renumbered, meta_turned, chunk_turn, chunk_turned, node_turn, handed_over, move_asking, move_actor, move}
use Rattle.qfs_model_world.specs.Fits.{unfinished, by_phase, first_filled, turn, may_end, is_possible, is_possible_for, is_possible_of, may_come, is_over}

-- a step of the one actor that came out done
abbrev pub done_step : Step
done_step = record { actor = 1; outcome = Ended.Done }

-- the world after the actor's request was served, in a world with this actor alone
pub move-one : (world : World) (actor : Actor) (request : NodeRequest)
    → world.actors ≡ actor ∷ [] → request_of actor ≡ Some request
    → move world done_step ≡ handed_over 1 actor (node_turn world 1 Ended.Done request)
unfolding move numbered move_actor move_asking
move-one world actor request actors asked =
    ap (λ actors. move_actor world 1 Ended.Done (slice_get actors 0)) actors
    ∙ ap (λ asked. move_asking world 1 Ended.Done actor asked) asked

open_turn : (actor : Actor) (finished : Bool) → has_finished actor ≡ finished
    → first_filled (unfinished (actor ∷ []) ∷ []) ≡ cond finished [] (actor.number ∷ [])
unfolding first_filled unfinished
open_turn actor true is = rw is refl
open_turn actor false is = rw is refl

-- whose turn it may be: the actor's, until it has finished
pub turn-one : (script : Script) (world : World) (commands : List Command) (actor : Actor)
    → script.phases ≡ (commands ∷ []) ∷ [] → world.actors ≡ actor ∷ []
    → turn script world ≡ cond (has_finished actor) [] (actor.number ∷ [])
unfolding turn by_phase
turn-one script world commands actor phases actors =
    rw (phases, actors) (open_turn actor (has_finished actor) refl)

asks_on : (request : NodeRequest) (asked : Option NodeRequest) → asked ≡ Some request → is_none asked ≡ false
asks_on request asked is = ap is_none is

-- an actor that has a request hasn't finished
pub finished-asks : (actor : Actor) (request : NodeRequest) → request_of actor ≡ Some request → has_finished actor ≡ false
unfolding has_finished
finished-asks actor request asked = asks_on request (request_of actor) asked

same-done : (outcome : Outcome) → outcome ≡ Ended.Done → same_outcome outcome Ended.Done ≡ true
unfolding same_outcome
same-done outcome is = rw is refl

possible-one : (world : World) (actor : Actor) (request : NodeRequest)
    → world.actors ≡ actor ∷ [] → request_of actor ≡ Some request
    → outcome_of (node_turn world 1 Ended.Done request).reply ≡ Ended.Done
    → is_possible_of world 1 Ended.Done (numbered world.actors 1) ≡ true
unfolding numbered is_possible_of is_possible_for is_possible may_end
possible-one world actor request actors asked done =
    ap (λ actors. is_possible_of world 1 Ended.Done (slice_get actors 0)) actors
    ∙ ap (λ asked. is_possible_for world 1 Ended.Done asked) asked
    ∙ same-done (outcome_of (node_turn world 1 Ended.Done request).reply) done

turn_has : (turns : List ℕ) (number : ℕ) → turns ≡ number ∷ [] → number ≡ 1 → list_any (λ n. n == 1) turns ≡ true
turn_has turns number is one = rw (is, one) refl

-- a step of the one actor may come next where its request comes out done
pub may_come-one : (script : Script) (world : World) (commands : List Command) (actor : Actor) (request : NodeRequest)
    → script.phases ≡ (commands ∷ []) ∷ [] → world.actors ≡ actor ∷ [] → actor.number ≡ 1
    → request_of actor ≡ Some request
    → outcome_of (node_turn world 1 Ended.Done request).reply ≡ Ended.Done
    → may_come script world done_step ≡ true
unfolding may_come
may_come-one script world commands actor request phases actors number asked done =
    let turns : turn script world ≡ actor.number ∷ [] =
    turn-one script world commands actor phases actors
    ∙ ap (λ finished. cond finished [] (actor.number ∷ [])) (finished-asks actor request asked) in
    ap₂ (λ a b. a && b) (turn_has (turn script world) actor.number turns number) (possible-one world actor request actors asked done)

-- nothing is left to do where the one actor has finished
pub is_over-one : (script : Script) (world : World) (commands : List Command) (actor : Actor)
    → script.phases ≡ (commands ∷ []) ∷ [] → world.actors ≡ actor ∷ []
    → has_finished actor ≡ true → is_over script world ≡ true
unfolding is_over
is_over-one script world commands actor phases actors finished =
    rw (turn-one script world commands actor phases actors, finished) refl

-- the metaserver served the actor's request, and the actor took its reply
pub move-meta : (world : World) (actor : Actor) (request : MetaRequest) (meta : MetaImage) (reply : MetaReply)
    → world.actors ≡ actor ∷ [] → request_of actor ≡ Some (To.Meta request)
    → meta_step world.rules 1 request Ended.Done world.meta ≡ record { meta = meta; reply = reply }
    → move world done_step
    ≡ record world { meta = meta; actors = after_reply actor (From.Meta reply) ∷ [] }
unfolding node_turn meta_turned handed_over renumbered
move-meta world actor request meta reply actors asked served =
    move-one world actor (To.Meta request) actors asked
    ∙ ap (λ (s : Served). handed_over 1 actor (meta_turned world s)) served
    ∙ ap (λ actors. record world { meta = meta; actors = slice_set actors 0 (after_reply actor (From.Meta reply)) }) actors

-- what the metaserver answers is the reply of the node's turn
pub reply-meta : (world : World) (request : MetaRequest) (meta : MetaImage) (reply : MetaReply)
    → meta_step world.rules 1 request Ended.Done world.meta ≡ record { meta = meta; reply = reply }
    → (node_turn world 1 Ended.Done (To.Meta request)).reply ≡ From.Meta reply
unfolding node_turn meta_turned
reply-meta world request meta reply served = ap (λ (s : Served). From.Meta s.reply) served

-- a chunk server served the actor's request, and the actor took its reply
pub move-chunk : (world : World) (actor : Actor) (number : ℕ) (request : ChunkRequest) (before after : Server) (reply : ChunkReply)
    → world.actors ≡ actor ∷ [] → request_of actor ≡ Some (To.Chunk number request)
    → numbered world.servers number ≡ Some before
    → server_step request Ended.Done before ≡ record { server = after; reply = reply }
    → move world done_step
    ≡ record world { servers = renumbered world.servers number after; actors = after_reply actor (From.Chunk reply) ∷ [] }
unfolding node_turn chunk_turn chunk_turned handed_over renumbered
move-chunk world actor number request before after reply actors asked there served =
    move-one world actor (To.Chunk number request) actors asked
    ∙ ap (λ found. handed_over 1 actor (chunk_turn world number request Ended.Done found)) there
    ∙ ap (λ (s : Answered). handed_over 1 actor (chunk_turned world number s)) served
    ∙ ap (λ actors. record world { servers = renumbered world.servers number after; actors = slice_set actors 0 (after_reply actor (From.Chunk reply)) }) actors

pub reply-chunk : (world : World) (number : ℕ) (request : ChunkRequest) (before after : Server) (reply : ChunkReply)
    → numbered world.servers number ≡ Some before
    → server_step request Ended.Done before ≡ record { server = after; reply = reply }
    → (node_turn world 1 Ended.Done (To.Chunk number request)).reply ≡ From.Chunk reply
unfolding node_turn chunk_turn chunk_turned
reply-chunk world number request before after reply there served =
    ap (λ found. (chunk_turn world number request Ended.Done found).reply) there
    ∙ ap (λ (s : Answered). From.Chunk s.reply) served
