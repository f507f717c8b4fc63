-- A turn: which node takes it, how the metaserver and the stores come out of it, and that the world of the definitions does so too.
use Rattle.std.proofs.Common.{◌≡◌, ℕ, suc, zero, ◌<◌, ◌≤◌, Bool, true, false, List, [], ◌∷◌, ◌++◌, length, Option, Some, None, refl, sym, ◌∙◌, ap, subst, arith, slice_get, slice_set, ◌⊎◌, inl, inr, lt-ltb, le-ltb, length-set}
use Rattle.std.specs.Prelude.{◌==◌, map, nat_lt, if◌then◌else◌, option_map, IsTrue}
use Rattle.std.specs.List.{AllZip, list_any}
use Rattle.std.proofs.lemmas.List.{length-map, map-set}
use Rattle.std.proofs.lemmas.Option.{same_Some, slice_get_within, slice_get-map}
use Rattle.qfs_base.specs.Outcome.{outcome_of, chunk_outcome}
use Rattle.qfs_base.specs.Rules.{rules_of}
use Rattle.qfs_base.specs.declared.chunk.ChunkKey.{ChunkKey}
use Rattle.qfs_base.specs.declared.history.Outcome.{Outcome}
use Rattle.qfs_base.specs.declared.history.Outcome.TheVariants as Ended
use Rattle.qfs_base.specs.declared.history.Step.{Step}
use Rattle.qfs_base.specs.declared.image.MetaImage.{MetaImage}
use Rattle.qfs_base.specs.declared.reply.ChunkAnswer.{ChunkAnswer}
use Rattle.qfs_base.specs.declared.reply.ChunkAnswer.TheVariants as Did
use Rattle.qfs_base.specs.declared.reply.ChunkReply.{ChunkReply}
use Rattle.qfs_base.specs.declared.reply.MetaReply.{MetaReply}
use Rattle.qfs_base.specs.declared.reply.NodeReply.{NodeReply}
use Rattle.qfs_base.specs.declared.reply.NodeReply.TheVariants as From
use Rattle.qfs_base.specs.declared.request.ChunkRequest.{ChunkRequest}
use Rattle.qfs_base.specs.declared.request.ChunkRequest.TheVariants as Serve
use Rattle.qfs_base.specs.declared.request.MetaRequest.{MetaRequest}
use Rattle.qfs_base.specs.declared.request.NodeRequest.{NodeRequest}
use Rattle.qfs_base.specs.declared.request.NodeRequest.TheVariants as To
use Rattle.qfs_base.specs.declared.rules.Rules.{Rules}
use Rattle.qfs_base.specs.declared.script.Script.{Script}
use Rattle.qfs_device.specs.Held.{Held}
use Rattle.qfs_machine.specs.Askable.{IsAskable, IsAskedOfServer}
use Rattle.qfs_meta.specs.Metaserver.{GoesBy, Metaserver}
use Rattle.qfs_model_actor.specs.Actor.{Actor, request_of, node_of, after_reply}
use Rattle.qfs_model_actor.specs.Work.{node_of_request}
use Rattle.qfs_model_server.specs.Server.{Server}
use Rattle.qfs_model_text.specs.Order.{same_outcome}
use Rattle.qfs_model_world.specs.Events.{Event, events}
use Rattle.qfs_model_world.specs.Fits.{chunk_may_fail, chunk_may_want, may_fail, may_want_memory, may_end}
use Rattle.qfs_model_world.specs.Headline.{failed_at}
use Rattle.qfs_model_world.specs.World.{World, numbered, renumbered, node_turn, meta_turned, chunk_turn, chunk_turned}
use Rattle.qfs_nodes.specs.Nodes.{nodes_with}
use Rattle.qfs_nodes.specs.Scripts.{meta_of}
use Rattle.qfs_nodes.specs.Turns.{MetaServes, Takes, no_server}
use Rattle.qfs_nodes.specs.declared.node.NodeState.{NodeState}
use Rattle.qfs_nodes.specs.declared.node.NodeState.TheVariants as Node
use Rattle.qfs_store.specs.Serves.{Answers, FetchLeaves, Serves}
use Rattle.qfs_store.specs.Stored.{Stored}
use Rattle.qfs_store.specs.declared.copies.CopySize.{CopySize}
use Rattle.qfs_world.specs.AtWork.{place_in, TakesTurn}
use Rattle.qfs_world.specs.Calls.{GoesOn, FailedOnce}
use Rattle.qfs_world.specs.Follows.{FollowsOrder, world_of}
use Rattle.qfs_world.specs.Servers.{StandForAll, StandsForServer}
use Rattle.qfs_world.specs.View.{turn_of, with_step}
use Rattle.qfs_world.proofs.GoesOn.{all-go_on, goes-set}
use Rattle.qfs_world.proofs.Leftovers.{MayRefuse, may_refuse}
use Rattle.qfs_world.proofs.Lists.{get-set, none-there, numbered-is, numbered-set, past-end, same-or-not}
use Rattle.qfs_world.proofs.Servers.{counted, rose-once, serves-goes_on, fails-here, fails-elsewhere, none-more, stands-on, moved as moved_server, step-is, stands-through}
use Rattle.qfs_world.proofs.Simulation.{event as event_of, events-after, world-after, fits-after}

-- ---- which outcomes may come

-- a Fetch isn't answered want of memory
no-want-filled : (key : ChunkKey) (size : CopySize) (from count : ℕ) (answer : ChunkAnswer) (room : List ℕ) (told told' : Option Held)
    → FetchLeaves key size from count answer room told told' → chunk_outcome answer ≡ Ended.NoMemory → ⊥
unfolding chunk_outcome
no-want-filled key size from count Did.Fetched room told told' leaves want = cc
no-want-filled key size from count Did.Fault room told told' leaves want = cc
no-want-filled key size from count answer room told told' leaves want = leaves

no-want : (key : ChunkKey) (life from : ℕ) (room : List ℕ) (reply : ChunkReply) (before after : Stored) (due : Option ChunkAnswer) → MayRefuse due
    → Answers (Serve.Fetch key life from room) reply before after due → chunk_outcome reply.answer ≡ Ended.NoMemory → ⊥
no-want key life from room reply before after (Some answer) may answers want =
    let same = ap (λ (r : ChunkReply). chunk_outcome r.answer) answers.0 ∙ may.0 in cc
no-want key life from room reply before after None may answers want =
    no-want-filled key answers.does.1.0 from (length room) reply.answer reply.room before.told after.told answers.does.1.2 want

ends-so : (request : NodeRequest) (outcome : Outcome) → (outcome ≡ Ended.Failed → may_fail request ≡ true)
    → (outcome ≡ Ended.NoMemory → may_want_memory request ≡ true) → may_end outcome request ≡ true
unfolding may_end
ends-so request Ended.Done fails wants = refl
ends-so request Ended.Failed fails wants = fails refl
ends-so request Ended.NoMemory fails wants = wants refl

chunk-may : (server : ℕ) (request : ChunkRequest) (reply : ChunkReply) (before after : Stored) → IsAskedOfServer request → Serves request reply before after
    → may_end (chunk_outcome reply.answer) (To.Chunk server request) ≡ true
unfolding chunk_may_fail chunk_may_want may_fail may_want_memory
chunk-may server (Serve.Put key life bytes) reply before after asked serves = ends-so _ _ (λ failed. refl) (λ want. refl)
chunk-may server (Serve.Fetch key life from room) reply before after asked serves =
    ends-so _ _ (λ failed. refl)
    (λ want. absurd (no-want key life from room reply before after _ (may_refuse before.known serves.now (Serve.Fetch key life from room)) serves.answers want))
chunk-may server request reply before after asked serves = absurd asked

-- ---- all servers through a step at a node

not-failed : (outcome : Outcome) → (outcome ≡ Ended.Failed → ⊥) → same_outcome outcome Ended.Failed ≡ false
unfolding same_outcome
not-failed Ended.Done sure = refl
not-failed Ended.Failed sure = absurd (sure refl)
not-failed Ended.NoMemory sure = refl

module _ (stripe : ℕ) (counts : List ℕ) (steps : List Event) (event : Event) (node : ℕ) (to : node_of_request event.request ≡ node)
    (stores : List Stored) (servers : List Server) (stand : StandForAll stripe counts steps stores servers) where
  abbrev more : List Event
  more = steps ++ event ∷ []

  module _ (stores' : List Stored) (servers' : List Server)
      (as_was : (number : ℕ) → (number ≡ node → ⊥) → (numbered stores' number ≡ numbered stores number) × (numbered servers' number ≡ numbered servers number))
      (here : (stored : Stored) (server : Server) → numbered stores' node ≡ Some stored → numbered servers' node ≡ Some server
      → StandsForServer stripe counts more node stored server)
      (none : numbered stores' node ≡ None → failed_at node more ≡ 0) where
    each-through : (number : ℕ) (stored : Stored) (server : Server) → numbered stores' number ≡ Some stored → numbered servers' number ≡ Some server
        → (number ≡ node) ⊎ (number ≡ node → ⊥) → StandsForServer stripe counts more number stored server
    each-through number stored server at is (inl same) =
        subst (λ n. StandsForServer stripe counts more n stored server) (sym same)
        (here stored server (ap (numbered stores') (sym same) ∙ at) (ap (numbered servers') (sym same) ∙ is))
    each-through number stored server at is (inr apart) =
        let was = as_was number apart in
        stands-on stripe counts steps number stored server (stand.each number stored server (sym was.0 ∙ at) (sym was.1 ∙ is)) event (λ there. apart (sym there ∙ to))

    none-through : (number : ℕ) → numbered stores' number ≡ None → (number ≡ node) ⊎ (number ≡ node → ⊥) → failed_at number more ≡ 0
    none-through number gone (inl same) = ap (λ n. failed_at n more) same ∙ none (ap (numbered stores') (sym same) ∙ gone)
    none-through number gone (inr apart) =
        none-more number steps event (fails-elsewhere number event (λ there. apart (sym there ∙ to)))
        ∙ stand.elsewhere number (sym (as_was number apart).0 ∙ gone)

    pub all-through : length stores' ≡ length servers' → StandForAll stripe counts more stores' servers'
    all-through long = record {
      as_many = long;
      each = λ number stored server at is. each-through number stored server at is (same-or-not number node);
      elsewhere = λ number gone. none-through number gone (same-or-not number node);
    }

  -- where no server is, and nothing failed
  pub all-past : numbered stores node ≡ None → (event.outcome ≡ Ended.Failed → ⊥) → StandForAll stripe counts more stores servers
  all-past absent sure =
      all-through stores servers (λ number apart. (refl, refl))
      (λ stored server at is. absurd (nothing (sym absent ∙ at)))
      (λ gone. none-more node steps event (fails-here node event to ∙ not-failed event.outcome sure) ∙ stand.elsewhere node absent)
      stand.as_many
    where
      nothing : {X : Type 0} {x : X} → None ≡ Some x → ⊥
      nothing e = cc

-- ---- what a turn comes to

-- a step of servers, in which a node was asked and answered so
pub record IsEventOf (event : Event) (servers : List Server) (request : NodeRequest) (reply : NodeReply) : Type 0 where
  pub asked : event.request ≡ request
  pub told : event.reply ≡ reply
  pub ended : event.outcome ≡ outcome_of reply
  pub by : event.before.servers ≡ servers

-- the world of the definitions takes the step, and the stores stand for its servers then
pub record Leads (number : ℕ) (rules : Rules) (before behind : MetaImage) (servers : List Server) (actors : List Actor)
    (request : NodeRequest) (reply : NodeReply) (stripe : ℕ) (counts : List ℕ) (steps : List Event) (rest : List Stored) : Type 0 where
  pub next : List Server
  pub turned : node_turn (record { rules = rules; meta = before; servers = servers; actors = actors }) number (outcome_of reply) request
      ≡ record { world = record { rules = rules; meta = behind; servers = next; actors = actors }; reply = reply }
  pub stand : (event : Event) → IsEventOf event servers request reply → StandForAll stripe counts (steps ++ event ∷ []) rest next

-- a node served an actor's request: the metaserver and the stores behind that, and what they are
pub record Moved {D : Type 0} (number : ℕ) (meta : Metaserver) (stores : List Stored) (request : NodeRequest) (reply : NodeReply) (behind : List (NodeState D)) : Type 0 where
  pub image : MetaImage
  pub rest : List Stored
  pub nodes_are : behind ≡ nodes_with (record meta { image = image }) rest
  pub may : may_end (outcome_of reply) request ≡ true
  pub meta_stays : (node_of_request request ≡ 0 → ⊥) → image ≡ meta.image
  pub stores_stay : (server : ℕ) → (server ≡ node_of_request request → ⊥) → numbered rest server ≡ numbered stores server
  pub goes_on : AllZip GoesOn stores rest
  pub cause : outcome_of reply ≡ Ended.Failed → FailedOnce stores rest (node_of_request request)
  pub leads : (rules : Rules) → GoesBy rules meta → (stripe : ℕ) (counts : List ℕ) (steps : List Event) (servers : List Server) (actors : List Actor)
      → StandForAll stripe counts steps stores servers
      → Leads number rules meta.image image servers actors request reply stripe counts steps rest

module _ {D : Type 0} (number : ℕ) (meta : Metaserver) (stores : List Stored) (behind : List (NodeState D)) where
  -- the metaserver served it
  of-meta : (request : MetaRequest) (answer : MetaReply) (next : Metaserver) → MetaServes number meta request answer next → behind ≡ nodes_with next stores
      → Moved number meta stores (To.Meta request) (From.Meta answer) behind
  unfolding node_turn meta_turned node_of_request outcome_of may_want_memory numbered
  of-meta request answer next serves are = record {
    image = next.image;
    rest = stores;
    nodes_are = are ∙ ap (λ m. nodes_with m stores) (λ i. record { layout = serves.layout i; term = serves.term i; image = next.image });
    may = ends-so (To.Meta request) _ (λ failed. absurd (serves.sure failed)) (λ want. refl);
    meta_stays = λ apart. absurd (apart refl);
    stores_stay = λ server apart. refl;
    goes_on = all-go_on stores;
    cause = λ failed. absurd (serves.sure failed);
    leads = λ rules goes stripe counts steps servers actors stand. record {
      next = servers;
      turned = ap (meta_turned (record { rules = rules; meta = meta.image; servers = servers; actors = actors })) (serves.steps rules goes);
      stand = λ event of.
          all-past stripe counts steps event 0 (ap node_of_request of.asked) stores servers stand refl
          (λ failed. serves.sure (sym of.ended ∙ failed));
    };
  }

  -- it was one to a server that isn't there
  of-none : (server : ℕ) (request : ChunkRequest) → numbered stores server ≡ None → behind ≡ nodes_with meta stores
      → Moved number meta stores (To.Chunk server request) no_server behind
  unfolding node_turn chunk_turn node_of_request outcome_of chunk_outcome may_end
  of-none server request absent are = record {
    image = meta.image;
    rest = stores;
    nodes_are = are;
    may = refl;
    meta_stays = λ apart. refl;
    stores_stay = λ number apart. refl;
    goes_on = all-go_on stores;
    cause = λ failed. absurd (not_done failed);
    leads = λ rules goes stripe counts steps servers actors stand. record {
      next = servers;
      turned =
          ap (chunk_turn (record { rules = rules; meta = meta.image; servers = servers; actors = actors }) server request Ended.Done)
          (none-there stores servers server stand.as_many absent);
      stand = λ event of.
          all-past stripe counts steps event server (ap node_of_request of.asked) stores servers stand absent
          (λ failed. not_done (sym of.ended ∙ failed));
    };
  }
    where
      not_done : Ended.Done ≡ Ended.Failed → ⊥
      not_done e = cc

  -- a chunk server served it
  module _ (place : ℕ) (request : ChunkRequest) (answer : ChunkReply) (stored next : Stored) (askable : IsAskedOfServer request)
      (there : slice_get stores place ≡ Some stored) (serves : Serves request answer stored next) where
    abbrev rest : List Stored
    rest = slice_set stores place next

    now-there : numbered rest (suc place) ≡ Some next
    now-there = numbered-is rest place next (get-set stores place stored next there)

    store-leads : (rules : Rules) (stripe : ℕ) (counts : List ℕ) (steps : List Event) (servers : List Server) (actors : List Actor)
        → StandForAll stripe counts steps stores servers → (found : Option Server) → slice_get servers place ≡ found
        → Leads number rules meta.image meta.image servers actors (To.Chunk (suc place) request) (From.Chunk answer) stripe counts steps rest
    unfolding node_turn chunk_turn chunk_turned renumbered node_of_request outcome_of numbered
    store-leads rules stripe counts steps servers actors stand None at =
        let none = none-there servers stores (suc place) (sym stand.as_many) at in absurd (cc)
    store-leads rules stripe counts steps servers actors stand (Some server) at =
        let is = stand.each (suc place) stored server there at in
        let moved = moved_server stripe counts steps (suc place) stored server is request answer next serves in
        let world : World = record { rules = rules; meta = meta.image; servers = servers; actors = actors } in
        let servers' = slice_set servers place moved in
        let long = length-set stores place next ∙ stand.as_many ∙ sym (length-set servers place moved) in
        record {
          next = servers';
          turned =
              ap (chunk_turn world (suc place) request (chunk_outcome answer.answer)) at
              ∙ ap (chunk_turned world (suc place)) (step-is stripe counts steps (suc place) stored server is request answer next serves);
          stand = λ event of.
              all-through stripe counts steps event (suc place) (ap node_of_request of.asked) stores servers stand rest servers'
              (λ number apart. (numbered-set stores place number next apart, numbered-set servers place number moved apart))
              (λ stored' server' is_stored is_server.
              let same = same_Some next stored' (sym now-there ∙ is_stored) in
              let same' = same_Some moved server' (sym (get-set servers place server moved at) ∙ is_server) in
              subst (λ s. StandsForServer stripe counts (steps ++ event ∷ []) (suc place) s server') same
              (subst (StandsForServer stripe counts (steps ++ event ∷ []) (suc place) next) same'
              (stands-through stripe counts steps (suc place) stored server is request answer next serves event of.asked of.told of.ended
              (ap (λ (ss : List Server). slice_get ss place) of.by ∙ at) askable)))
              (λ gone. let two = sym now-there ∙ gone in absurd (cc))
              long;
        }

    of-store : behind ≡ nodes_with meta rest → Moved number meta stores (To.Chunk (suc place) request) (From.Chunk answer) behind
    unfolding node_of_request outcome_of
    of-store are = record {
      image = meta.image;
      rest = rest;
      nodes_are = are;
      may = chunk-may (suc place) request answer stored next askable serves;
      meta_stays = λ apart. refl;
      stores_stay = λ server apart. numbered-set stores place server next apart;
      goes_on = goes-set stores place stored next there (serves-goes_on request answer stored next serves);
      cause = λ failed. record {
        old = stored;
        new = next;
        before_is = numbered-is stores place stored there;
        behind_is = now-there;
        rose = rose-once answer.answer stored.faults next.faults (counted request answer stored next serves) failed;
      };
      leads = λ rules goes stripe counts steps servers actors stand.
          store-leads rules stripe counts steps servers actors stand (slice_get servers place) refl;
    }

-- ---- which node takes a turn

place-none : (count : ℕ) → place_in count (Some 0) ≡ 0
place-none count = choice (nat_lt 0 count)
  where
    choice : (b : Bool) → ◌≡◌ {A = ℕ} (if b then 0 else 0) 0
    choice true = refl
    choice false = refl

place-within : (count k : ℕ) → k < count → place_in count (Some k) ≡ k
place-within count k h = ap (λ b. if b then k else 0) (lt-ltb k count h)

place-past : (count k : ℕ) → count ≤ k → place_in count (Some k) ≡ 0
place-past count k h = ap (λ b. if b then k else 0) (le-ltb k count h)

pub node-asked : (actor : Actor) (request : NodeRequest) → request_of actor ≡ Some request → node_of actor ≡ Some (node_of_request request)
unfolding node_of
node-asked actor request asked = ap (option_map node_of_request) asked

module _ {D : Type 0} (number : ℕ) (meta : Metaserver) (stores : List Stored) (behind : List (NodeState D)) where
  abbrev all : List (NodeState D)
  all = nodes_with meta stores

  long : length all ≡ suc (length stores)
  long = ap (λ n. suc n) (length-map {A = Stored} {B = NodeState D} stores Node.Store)

  -- the node at a place took the request
  pub record TookAt (request : NodeRequest) (reply : NodeReply) (place : ℕ) (node : NodeState D) : Type 0 where
    pub next : NodeState D
    pub takes : Takes number node request reply next
    pub changed : behind ≡ slice_set all place next

  by-place : (place : ℕ) (request : ChunkRequest) (reply : NodeReply) → IsAskedOfServer request
      → ((at : ℕ) (node : NodeState D) → place_in (length all) (Some (suc place)) ≡ at → slice_get all at ≡ Some node → TookAt (To.Chunk (suc place) request) reply at node)
      → (found : Option Stored) → slice_get stores place ≡ found → Moved number meta stores (To.Chunk (suc place) request) reply behind
  unfolding numbered
  by-place place request reply askable took (Some stored) there =
      let within = slice_get_within stores place stored there in
      let t = took (suc place) (Node.Store stored) (place-within (length all) (suc place) (omega (arith, within, long)))
      (slice_get-map Node.Store stores place ∙ ap (option_map Node.Store) there) in
      subst (λ r. Moved number meta stores (To.Chunk (suc place) request) r behind) (sym t.takes.reply_is)
      (of-store number meta stores behind place request t.takes.answer stored t.takes.behind askable there t.takes.serves
      (t.changed ∙ ap (λ n. Node.Meta meta ∷ slice_set (map Node.Store stores) place n) t.takes.node_is
      ∙ ap (λ ns. Node.Meta meta ∷ ns) (sym (map-set Node.Store stores place t.takes.behind))))
  by-place place request reply askable took None there =
      let past = past-end stores place there in
      let t = took 0 (Node.Meta meta) (place-past (length all) (suc place) (omega (arith, past, long))) refl in
      subst (λ r. Moved number meta stores (To.Chunk (suc place) request) r behind) (sym t.takes.reply_is)
      (of-none number meta stores behind (suc place) request there (t.changed ∙ ap (λ n. n ∷ map Node.Store stores) t.takes.node_is))

  by-request : (request : NodeRequest) (reply : NodeReply) → IsAskable request
      → ((at : ℕ) (node : NodeState D) → place_in (length all) (Some (node_of_request request)) ≡ at → slice_get all at ≡ Some node → TookAt request reply at node)
      → Moved number meta stores request reply behind
  unfolding numbered node_of_request
  by-request (To.Meta request) reply askable took =
      let t = took 0 (Node.Meta meta) (place-none (length all)) refl in
      subst (λ r. Moved number meta stores (To.Meta request) r behind) (sym t.takes.reply_is)
      (of-meta number meta stores behind request t.takes.answer t.takes.behind t.takes.serves
      (t.changed ∙ ap (λ n. n ∷ map Node.Store stores) t.takes.node_is))
  by-request (To.Chunk zero request) reply askable took =
      let t = took 0 (Node.Meta meta) (place-none (length all)) refl in
      subst (λ r. Moved number meta stores (To.Chunk 0 request) r behind) (sym t.takes.reply_is)
      (of-none number meta stores behind 0 request refl (t.changed ∙ ap (λ n. n ∷ map Node.Store stores) t.takes.node_is))
  by-request (To.Chunk (suc place) request) reply askable took =
      by-place place request reply askable took (slice_get stores place) refl

-- a turn of the nodes, by what was asked and answered in it
pub turn-moves : {D : Type 0} (meta : Metaserver) (stores : List Stored) (actor : Actor) (outcome : Outcome) (behind : List (NodeState D)) (moved : Actor)
    → (turn : TakesTurn (nodes_with meta stores) actor outcome behind moved) → Moved actor.number meta stores turn.turns.request turn.turns.reply behind
turn-moves {D = D} meta stores actor outcome behind moved turn =
    by-request actor.number meta stores behind turn.turns.request turn.turns.reply turn.turns.askable took
  where
    took : (at : ℕ) (node : NodeState D) → place_in (length (nodes_with {D = D} meta stores)) (Some (node_of_request turn.turns.request)) ≡ at
        → slice_get (nodes_with {D = D} meta stores) at ≡ Some node → TookAt actor.number meta stores behind turn.turns.request turn.turns.reply at node
    took at node place_is there =
        let place : place_in (length (nodes_with {D = D} meta stores)) (node_of actor) ≡ at =
        ap (place_in (length (nodes_with {D = D} meta stores))) (node-asked actor turn.turns.request turn.turns.asked) ∙ place_is in
        let same : turn.node ≡ node = same_Some turn.node node (sym turn.there ∙ ap (slice_get (nodes_with meta stores)) place ∙ there) in
        record {
          next = turn.next;
          takes = subst (λ n. Takes actor.number n turn.turns.request turn.turns.reply turn.next) same turn.turns.takes;
          changed = turn.changed ∙ ap (λ p. slice_set (nodes_with meta stores) p turn.next) place;
        }

-- ---- the world behind a turn

-- the metaserver of a script goes by its rules
goes-by : (script : Script) (image : MetaImage) → GoesBy (rules_of script) (meta_of script image)
unfolding rules_of
goes-by script image = record { layout = refl; term = refl }

-- a world that followed its order follows it with this step more
pub follows-on : {D : Type 0} (script : Script) (counts : List ℕ) (order : List Step) (image : MetaImage) (stores : List Stored) (actors : List Actor)
    (place : ℕ) (actor : Actor) (request : NodeRequest) (reply : NodeReply) (behind : List (NodeState D))
    (number_is : actor.number ≡ suc place) (there : slice_get actors place ≡ Some actor)
    (turns : IsTrue (list_any (λ n. n == suc place) (turn_of script actors))) (asked : request_of actor ≡ Some request)
    (m : Moved actor.number (meta_of script image) stores request reply behind)
    → FollowsOrder script counts order image stores actors
    → FollowsOrder script counts (with_step order (suc place) (outcome_of reply)) m.image m.rest (slice_set actors place (after_reply actor reply))
unfolding renumbered
follows-on script counts order image stores actors place actor request reply behind number_is there turns asked m follows =
    let led = m.leads (rules_of script) (goes-by script image) script.layout.s counts (events script order) follows.servers actors follows.stand in
    let world : World = world_of script image follows.servers actors in
    let served : World = world_of script m.image led.next actors in
    let outcome = outcome_of reply in
    let turned : node_turn world (suc place) outcome request ≡ record { world = served; reply = reply } =
    ap (λ n. node_turn world n outcome request) (sym number_is) ∙ led.turned in
    let found = numbered-is actors place actor there in
    record {
      servers = led.next;
      world = world-after script order world (suc place) actor request follows.world found asked outcome served reply turned;
      stand =
          subst (λ steps. StandForAll script.layout.s counts steps m.rest led.next)
          (sym (events-after script order world (suc place) actor request follows.world found asked outcome served reply turned))
          (led.stand (event_of script order world (suc place) actor request follows.world found asked outcome served reply turned)
          (record { asked = refl; told = refl; ended = refl; by = refl }));
      fits = fits-after script order world (suc place) actor request follows.world found asked outcome served reply turned refl m.may turns follows.fits;
    }
