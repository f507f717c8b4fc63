-- A step looks at one actor and one node, and changes no other.
use Rattle.std.proofs.Common.{◌≡◌, ℕ, zero, suc, List, [], ◌∷◌, Option, Some, None, refl, sym, ◌∙◌, ap, ap₂, subst}
use Rattle.std.specs.Option.{option_map, option_and_then}
use Rattle.qfs_base.specs.declared.history.Outcome.{Outcome}
use Rattle.qfs_base.specs.declared.history.Step.{Step}
use Rattle.qfs_base.specs.declared.image.MetaImage.{MetaImage}
use Rattle.qfs_base.specs.declared.reply.NodeReply.TheVariants as From
use Rattle.qfs_base.specs.declared.request.ChunkRequest.{ChunkRequest}
use Rattle.qfs_base.specs.declared.request.MetaRequest.{MetaRequest}
use Rattle.qfs_base.specs.declared.request.NodeRequest.{NodeRequest}
use Rattle.qfs_base.specs.declared.request.NodeRequest.TheVariants as To
use Rattle.qfs_base.specs.declared.rules.Rules.{Rules}
use Rattle.qfs_model_actor.specs.Actor.{Actor, request_of, node_of, after_reply}
use Rattle.qfs_model_actor.specs.Work.{node_of_request}
use Rattle.qfs_model_meta.specs.Step.{Served, meta_step}
use Rattle.qfs_model_server.specs.Server.{Server, server_step}
use Rattle.qfs_model_world.specs.Events.{Event, event_asking, event_by, event_in}
use Rattle.qfs_model_world.specs.OneStep.{NodeAt, metaserver, server, node_at, answer_in, StepsAreAlike, OthersStay, StepsChangeTwo}
use Rattle.qfs_model_world.specs.World.{World, Turned, numbered, renumbered, node_turn, meta_turned, chunk_turn, chunk_turned, handed_over, move_asking, move_actor, move}

-- ---- what stands at numbers

pub set-there : {X : Type 0} (xs : List X) (number : ℕ) (old new : X) → numbered xs number ≡ Some old
    → numbered (renumbered xs number new) number ≡ Some new
unfolding numbered renumbered
set-there xs zero old new found = absurd (cc)
set-there [] (suc n) old new found = absurd (cc)
set-there (x ∷ xs) (suc zero) old new found = refl
set-there (x ∷ xs) (suc (suc n)) old new found = set-there xs (suc n) old new found

pub set-elsewhere : {X : Type 0} (xs : List X) (number other : ℕ) (new : X) → (other ≡ number → ⊥)
    → numbered (renumbered xs number new) other ≡ numbered xs other
unfolding numbered renumbered
set-elsewhere xs zero other new apart = refl
set-elsewhere xs (suc n) zero new apart = refl
set-elsewhere [] (suc n) (suc m) new apart = refl
set-elsewhere (x ∷ xs) (suc zero) (suc zero) new apart = absurd (apart refl)
set-elsewhere (x ∷ xs) (suc zero) (suc (suc m)) new apart = refl
set-elsewhere (x ∷ xs) (suc (suc n)) (suc zero) new apart = refl
set-elsewhere (x ∷ xs) (suc (suc n)) (suc (suc m)) new apart =
    set-elsewhere xs (suc n) (suc m) new (λ same. apart (ap suc same))

-- ---- a node's turn

-- what a node's turn leaves as it was
pub record TurnKeeps (before : World) (node : ℕ) (behind : World) : Type 0 where
  pub rules : behind.rules ≡ before.rules
  pub actors : behind.actors ≡ before.actors
  pub nodes : (other : ℕ) → (other ≡ node → ⊥) → node_at behind other ≡ node_at before other

meta-keeps : (before : World) (served : Served) → TurnKeeps before 0 (meta_turned before served).world
unfolding meta_turned node_at
meta-keeps before served = record { rules = refl; actors = refl; nodes = nodes }
  where
    nodes : (other : ℕ) → (other ≡ 0 → ⊥) → node_at (meta_turned before served).world other ≡ node_at before other
    nodes zero apart = absurd (apart refl)
    nodes (suc n) apart = refl

chunk-keeps : (before : World) (number : ℕ) (request : ChunkRequest) (outcome : Outcome) (found : Option Server)
    → TurnKeeps before number (chunk_turn before number request outcome found).world
unfolding chunk_turn chunk_turned node_at
chunk-keeps before number request outcome None = record { rules = refl; actors = refl; nodes = λ other apart. refl }
chunk-keeps before number request outcome (Some old) = record { rules = refl; actors = refl; nodes = nodes }
  where
    nodes : (other : ℕ) → (other ≡ number → ⊥) → node_at (chunk_turn before number request outcome (Some old)).world other ≡ node_at before other
    nodes zero apart = refl
    nodes (suc n) apart = ap server (set-elsewhere before.servers number (suc n) (server_step request outcome old).server apart)

pub turn-keeps : (before : World) (actor : ℕ) (outcome : Outcome) (request : NodeRequest)
    → TurnKeeps before (node_of_request request) (node_turn before actor outcome request).world
unfolding node_turn node_of_request
turn-keeps before actor outcome (To.Meta request) = meta-keeps before (meta_step before.rules actor request outcome before.meta)
turn-keeps before actor outcome (To.Chunk number request) =
    chunk-keeps before number request outcome (numbered before.servers number)

-- two turns are answered alike, and leave the node alike
record TurnsMeet (node : ℕ) (one other : Turned) : Type 0 where
  replies : one.reply ≡ other.reply
  nodes : node_at one.world node ≡ node_at other.world node

abbrev meta-of : MetaImage → NodeAt → MetaImage
meta-of default (metaserver m) = m
meta-of default (server s) = default

abbrev server-of : NodeAt → Option Server
server-of (metaserver m) = None
server-of (server s) = s

metas-meet : (one other : World) (actor : ℕ) (outcome : Outcome) (request : MetaRequest) → one.rules ≡ other.rules → node_at one 0 ≡ node_at other 0
    → TurnsMeet 0 (meta_turned one (meta_step one.rules actor request outcome one.meta)) (meta_turned other (meta_step other.rules actor request outcome other.meta))
unfolding meta_turned node_at
metas-meet one other actor outcome request rules same =
    let metas : one.meta ≡ other.meta = ap (meta-of one.meta) same in
    let served : meta_step one.rules actor request outcome one.meta ≡ meta_step other.rules actor request outcome other.meta =
    ap₂ (λ (r : Rules) (m : MetaImage). meta_step r actor request outcome m) rules metas in
    record { replies = ap (λ (s : Served). From.Meta s.reply) served; nodes = ap (λ (s : Served). metaserver s.meta) served }

chunks-meet : (one other : World) (n : ℕ) (request : ChunkRequest) (outcome : Outcome) (found : Option Server)
    → numbered one.servers (suc n) ≡ found → numbered other.servers (suc n) ≡ found
    → TurnsMeet (suc n) (chunk_turn one (suc n) request outcome found) (chunk_turn other (suc n) request outcome found)
unfolding chunk_turn chunk_turned node_at
chunks-meet one other n request outcome None here there = record { replies = refl; nodes = ap server (here ∙ sym there) }
chunks-meet one other n request outcome (Some old) here there =
    let new : Server = (server_step request outcome old).server in
    record {
      replies = refl;
      nodes = ap server (set-there one.servers (suc n) old new here ∙ sym (set-there other.servers (suc n) old new there));
    }

-- nothing is at server 0
no-server-meets : (one other : World) (request : ChunkRequest) (outcome : Outcome) → node_at one 0 ≡ node_at other 0
    → TurnsMeet 0 (chunk_turn one 0 request outcome (numbered one.servers 0)) (chunk_turn other 0 request outcome (numbered other.servers 0))
unfolding chunk_turn numbered
no-server-meets one other request outcome same = record { replies = refl; nodes = same }

servers-meet : (one other : World) (n : ℕ) (request : ChunkRequest) (outcome : Outcome) → node_at one (suc n) ≡ node_at other (suc n)
    → TurnsMeet (suc n) (chunk_turn one (suc n) request outcome (numbered one.servers (suc n))) (chunk_turn other (suc n) request outcome (numbered other.servers (suc n)))
unfolding node_at
servers-meet one other n request outcome same =
    let found : numbered one.servers (suc n) ≡ numbered other.servers (suc n) = ap server-of same in
    subst (λ there. TurnsMeet (suc n) (chunk_turn one (suc n) request outcome (numbered one.servers (suc n))) (chunk_turn other (suc n) request outcome there))
    found (chunks-meet one other n request outcome (numbered one.servers (suc n)) refl (sym found))

turns-meet : (one other : World) (actor : ℕ) (outcome : Outcome) (request : NodeRequest) → one.rules ≡ other.rules
    → node_at one (node_of_request request) ≡ node_at other (node_of_request request)
    → TurnsMeet (node_of_request request) (node_turn one actor outcome request) (node_turn other actor outcome request)
unfolding node_turn node_of_request
turns-meet one other actor outcome (To.Meta request) rules same = metas-meet one other actor outcome request rules same
turns-meet one other actor outcome (To.Chunk zero request) rules same = no-server-meets one other request outcome same
turns-meet one other actor outcome (To.Chunk (suc n) request) rules same = servers-meet one other n request outcome same

-- ---- a step

handed-node : (number : ℕ) (actor : Actor) (turned : Turned) (node : ℕ) → node_at (handed_over number actor turned) node ≡ node_at turned.world node
unfolding handed_over node_at
handed-node number actor turned zero = refl
handed-node number actor turned (suc n) = refl

module _ (world : World) (step : Step) (actor : Actor) (request : NodeRequest)
    (here : numbered world.actors step.actor ≡ Some actor) (asked : request_of actor ≡ Some request) where
  abbrev pub turned : Turned
  turned = node_turn world step.actor step.outcome request

  pub moves-so : move world step ≡ handed_over step.actor actor turned
  unfolding move move_actor move_asking
  moves-so =
      ap (move_actor world step.actor step.outcome) here ∙ ap (move_asking world step.actor step.outcome actor) asked

  pub answered-so : answer_in world step ≡ Some turned.reply
  unfolding answer_in event_in event_by event_asking
  answered-so =
      ap (λ found. option_map (λ (event : Event). event.reply) (option_and_then (λ (a : Actor). event_by world step a (request_of a)) found)) here
      ∙ ap (λ found. option_map (λ (event : Event). event.reply) (event_by world step actor found)) asked

  pub actor-behind : numbered (move world step).actors step.actor ≡ Some (after_reply actor turned.reply)
  unfolding handed_over
  actor-behind =
      let kept = turn-keeps world step.actor step.outcome request in
      ap (λ (w : World). numbered w.actors step.actor) moves-so
      ∙ set-there turned.world.actors step.actor actor (after_reply actor turned.reply) (ap (λ actors. numbered actors step.actor) kept.actors ∙ here)

  pub node-behind : (node : ℕ) → node_at (move world step) node ≡ node_at turned.world node
  node-behind node = ap (λ w. node_at w node) moves-so ∙ handed-node step.actor actor turned node

  pub others-stay : OthersStay world (move world step) step.actor (node_of_request request)
  unfolding handed_over
  others-stay =
      let kept = turn-keeps world step.actor step.outcome request in
      record {
        rules = ap (λ (w : World). w.rules) moves-so ∙ kept.rules;
        actors = λ other apart.
            ap (λ (w : World). numbered w.actors other) moves-so
            ∙ set-elsewhere turned.world.actors step.actor other (after_reply actor turned.reply) apart
            ∙ ap (λ actors. numbered actors other) kept.actors;
        nodes = λ other apart. node-behind other ∙ kept.nodes other apart;
      }

-- an actor that goes to a node has a request to it
record AsksAt (actor : Actor) (node : ℕ) : Type 0 where
  request : NodeRequest
  asked : request_of actor ≡ Some request
  there : node_of_request request ≡ node

asks-found : (actor : Actor) (node : ℕ) (found : Option NodeRequest) → request_of actor ≡ found
    → option_map node_of_request found ≡ Some node → AsksAt actor node
asks-found actor node None asked at = absurd (cc)
asks-found actor node (Some request) asked at = record { request = request; asked = asked; there = cc }

asks-at : (actor : Actor) (node : ℕ) → node_of actor ≡ Some node → AsksAt actor node
unfolding node_of
asks-at actor node at = asks-found actor node (request_of actor) refl at

pub steps-alike : StepsAreAlike
steps-alike one other step actor node rules in_one in_other same =
    let asks = asks-at actor node in_one.node_is in
    let meet : TurnsMeet (node_of_request asks.request) (node_turn one step.actor step.outcome asks.request) (node_turn other step.actor step.outcome asks.request) =
    turns-meet one other step.actor step.outcome asks.request rules
    (subst (λ n. node_at one n ≡ node_at other n) (sym asks.there) same) in
    record {
      answers = answered-so one step actor asks.request in_one.actor_is asks.asked ∙ ap Some meet.replies
          ∙ sym (answered-so other step actor asks.request in_other.actor_is asks.asked);
      actors = actor-behind one step actor asks.request in_one.actor_is asks.asked ∙ ap (λ reply. Some (after_reply actor reply)) meet.replies
          ∙ sym (actor-behind other step actor asks.request in_other.actor_is asks.asked);
      nodes = node-behind one step actor asks.request in_one.actor_is asks.asked node
          ∙ subst (λ n. node_at (node_turn one step.actor step.outcome asks.request).world n ≡ node_at (node_turn other step.actor step.outcome asks.request).world n) asks.there meet.nodes
          ∙ sym (node-behind other step actor asks.request in_other.actor_is asks.asked node);
    }

pub steps-change-two : StepsChangeTwo
steps-change-two world step actor node goes =
    let asks = asks-at actor node goes.node_is in
    subst (OthersStay world (move world step) step.actor) asks.there
    (others-stay world step actor asks.request goes.actor_is asks.asked)
