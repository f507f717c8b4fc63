-- One step of a world with one actor: the actor's work goes on, or has ended. Cited by the steps of
-- puts and gets.
use Rattle.std.proofs.Common.{◌≡◌, ℕ, List, [], ◌∷◌, ◌++◌, Option, Some, None, refl, sym, ap, ◌∙◌}
use Rattle.std.specs.Prelude.{slice_get}
use Rattle.std.specs.Option.{option_and_then}
use Rattle.qfs_base.specs.declared.command.Command.{Command}
use Rattle.qfs_base.specs.declared.history.Outcome.TheVariants as Ended
use Rattle.qfs_base.specs.declared.image.MetaImage.{MetaImage}
use Rattle.qfs_base.specs.declared.reply.ChunkReply.{ChunkReply}
use Rattle.qfs_base.specs.declared.reply.MetaReply.{MetaReply}
use Rattle.qfs_base.specs.declared.reply.NodeReply.{NodeReply}
use Rattle.qfs_base.specs.declared.reply.NodeReply.TheVariants as From
use Rattle.qfs_base.specs.declared.request.ChunkRequest.{ChunkRequest}
use Rattle.qfs_base.specs.declared.request.MetaRequest.{MetaRequest}
use Rattle.qfs_base.specs.declared.request.NodeRequest.{NodeRequest}
use Rattle.qfs_base.specs.declared.request.NodeRequest.TheVariants as To
use Rattle.qfs_model_actor.specs.Actor.{Actor, present_command, command_number, work_left}
use Rattle.qfs_model_actor.specs.Actor.{request_of, after_reply}
use Rattle.qfs_model_actor.specs.Command.{work_of}
use Rattle.qfs_model_actor.specs.Work.{Report, Work, ends, asks, goes_on, follow, request_in}
use Rattle.qfs_model_actor.proofs.Works.{follow-append, after_reply-ends, after_reply-asks}
use Rattle.qfs_model_meta.specs.Step.{meta_step}
use Rattle.qfs_model_server.specs.Server.{Server, server_step}
use Rattle.qfs_model_world.specs.Events.{event_asking, event_by, event_in}
use Rattle.qfs_model_world.specs.World.{World, numbered, renumbered, move}
use Rattle.qfs_model_world.proofs.OneActor.{done_step, move-meta, reply-meta, move-chunk}
use Rattle.qfs_model_world.proofs.OneActor.{reply-chunk}

-- an actor's next request is that of its work
pub request-left : (actor : Actor) (work : Work) (request : NodeRequest)
    → work_left actor ≡ Some work → request_in work ≡ Some request → request_of actor ≡ Some request
unfolding request_of
request-left actor work request left asked = ap (option_and_then request_in) left ∙ asked

-- an actor that heard one more reply, and one whose command has ended
abbrev pub heard_more : Actor → NodeReply → Actor
heard_more actor reply = record actor { heard = actor.heard ++ reply ∷ [] }

abbrev pub ended_so : Actor → Report → Actor
ended_so actor report = record actor { ended = actor.ended ++ report ∷ []; heard = [] }

-- what is left of its work
pub work_left-heard : (actor : Actor) (work : Work) (reply : NodeReply)
    → work_left actor ≡ Some work → work_left (heard_more actor reply) ≡ Some (goes_on work reply)
unfolding work_left
work_left-heard actor work reply left = at (present_command actor) refl
  where
    at : (found : Option Command) → present_command actor ≡ found
        → work_left (heard_more actor reply) ≡ Some (goes_on work reply)
    at None is = let none : None ≡ Some work = rw is at left in absurd (cc)
    at (Some command) is =
        let some : Some (follow (work_of actor.rules (command_number actor) command) actor.heard)
        ≡ Some work = rw is at left in
        let same : follow (work_of actor.rules (command_number actor) command) actor.heard ≡ work =
        cc in
        rw is (ap Some (follow-append (work_of actor.rules (command_number actor) command)
        actor.heard reply ∙ ap (λ w. goes_on w reply) same))

-- an actor between two commands has all of the next one left
pub work_left-next : (actor : Actor) (command : Command) → actor.heard ≡ []
    → present_command actor ≡ Some command
    → work_left actor ≡ Some (work_of actor.rules (command_number actor) command)
unfolding work_left follow
work_left-next actor command none present = rw (present, none) refl

pub request-none : (actor : Actor) → present_command actor ≡ None → request_of actor ≡ None
unfolding request_of work_left
request-none actor none = rw none refl

-- the reply is heard where the work goes on
goes-on : (actor : Actor) (reply : NodeReply) (work : Work) (request : NodeRequest)
    → work_left actor ≡ Some work → request_in (goes_on work reply) ≡ Some request
    → after_reply actor reply ≡ heard_more actor reply
goes-on actor reply work request left asked = at (goes_on work reply) refl
  where
    at : (rest : Work) → goes_on work reply ≡ rest
        → after_reply actor reply ≡ heard_more actor reply
    at (ends report) is = absurd (ended report (ap request_in (sym is) ∙ asked))
      where
        ended : (report : Report) → request_in (ends report) ≡ Some request → ⊥
        ended report some =
            let none : None ≡ Some request = unfold request_in in some in absurd (cc)
    at (asks next more) is = after_reply-asks actor reply work next more left is

-- a step that was taken: its request, its answer, and the world behind it
pub record StepTaken (w : World) (actor : Actor) (request : NodeRequest) (servers : List Server)
    (m : MetaImage) (reply : NodeReply) (next : Actor) : Type 0 where
  pub listed : event_in w done_step ≡ Some (event_asking w done_step actor request)
  pub replied : (event_asking w done_step actor request).reply ≡ reply
  pub moved : move w done_step ≡ record w { meta = m; servers = servers; actors = next ∷ [] }

module _ (w : World) (actor : Actor) (work : Work) (alone : w.actors ≡ actor ∷ [])
    (left : work_left actor ≡ Some work) where
  -- the step as it is listed
  event-here : (request : NodeRequest) → request_in work ≡ Some request
      → event_in w done_step ≡ Some (event_asking w done_step actor request)
  unfolding event_in event_by numbered
  event-here request asked =
      ap (λ actors. option_and_then (λ actor. event_by w done_step actor (request_of actor))
      (slice_get actors 0)) alone
      ∙ ap (event_by w done_step actor) (request-left actor work request left asked)

  -- the metaserver served the request, and the actor took the answer
  meta_moves : (request : MetaRequest) (meta : MetaImage) (reply : MetaReply) (next : Actor)
      → request_in work ≡ Some (To.Meta request)
      → meta_step w.rules 1 request Ended.Done w.meta ≡ record { meta = meta; reply = reply }
      → after_reply actor (From.Meta reply) ≡ next
      → StepTaken w actor (To.Meta request) w.servers meta (From.Meta reply) next
  unfolding event_asking
  meta_moves request meta reply next asked served took = record {
    listed = event-here (To.Meta request) asked;
    replied = reply-meta w request meta reply served;
    moved = move-meta w actor request meta reply alone
        (request-left actor work (To.Meta request) left asked) served
        ∙ ap (λ a. record w { meta = meta; actors = a ∷ [] }) took;
  }

  -- and there is another request
  pub meta_goes_on : (request : MetaRequest) (meta : MetaImage) (reply : MetaReply)
      (next : NodeRequest) → request_in work ≡ Some (To.Meta request)
      → meta_step w.rules 1 request Ended.Done w.meta ≡ record { meta = meta; reply = reply }
      → request_in (goes_on work (From.Meta reply)) ≡ Some next
      → StepTaken w actor (To.Meta request) w.servers meta (From.Meta reply)
      (heard_more actor (From.Meta reply))
  meta_goes_on request meta reply next asked served more =
      meta_moves request meta reply _ asked served
      (goes-on actor (From.Meta reply) work next left more)

  -- or it was the last one
  pub meta_ends : (request : MetaRequest) (meta : MetaImage) (reply : MetaReply) (report : Report)
      → request_in work ≡ Some (To.Meta request)
      → meta_step w.rules 1 request Ended.Done w.meta ≡ record { meta = meta; reply = reply }
      → goes_on work (From.Meta reply) ≡ ends report
      → StepTaken w actor (To.Meta request) w.servers meta (From.Meta reply) (ended_so actor report)
  meta_ends request meta reply report asked served end =
      meta_moves request meta reply _ asked served
      (after_reply-ends actor (From.Meta reply) work report left end)

  -- a chunk server served the request, and there is another one
  pub chunk_goes_on : (number : ℕ) (request : ChunkRequest) (before after : Server)
      (reply : ChunkReply) (next : NodeRequest)
      → request_in work ≡ Some (To.Chunk number request) → numbered w.servers number ≡ Some before
      → server_step request Ended.Done before ≡ record { server = after; reply = reply }
      → request_in (goes_on work (From.Chunk reply)) ≡ Some next
      → StepTaken w actor (To.Chunk number request) (renumbered w.servers number after) w.meta
      (From.Chunk reply) (heard_more actor (From.Chunk reply))
  unfolding event_asking
  chunk_goes_on number request before after reply next asked there served more = record {
    listed = event-here (To.Chunk number request) asked;
    replied = reply-chunk w number request before after reply there served;
    moved = move-chunk w actor number request before after reply alone
        (request-left actor work (To.Chunk number request) left asked) there served
        ∙ ap (λ a. record w { servers = renumbered w.servers number after; actors = a ∷ [] })
        (goes-on actor (From.Chunk reply) work next left more);
  }
