-- A node's turn with an actor.
use Rattle.std.specs.Prelude.{ℕ, ◌≡◌, Some}
use Rattle.qfs_base.specs.Outcome.{outcome_of, meta_outcome}
use Rattle.qfs_base.specs.declared.history.Outcome.{Outcome}
use Rattle.qfs_base.specs.declared.history.Outcome.TheVariants as Ended
use Rattle.qfs_base.specs.declared.reply.ChunkAnswer.TheVariants as Answer
use Rattle.qfs_base.specs.declared.reply.ChunkReply.{ChunkReply}
use Rattle.qfs_base.specs.declared.reply.MetaReply.{MetaReply}
use Rattle.qfs_base.specs.declared.reply.MetaReply.TheVariants as Told
use Rattle.qfs_base.specs.declared.reply.NodeReply.{NodeReply}
use Rattle.qfs_base.specs.declared.reply.NodeReply.TheVariants as From
use Rattle.qfs_base.specs.declared.request.ChunkRequest.{ChunkRequest}
use Rattle.qfs_base.specs.declared.request.MetaRequest.{MetaRequest}
use Rattle.qfs_base.specs.declared.request.NodeRequest.{NodeRequest}
use Rattle.qfs_base.specs.declared.request.NodeRequest.TheVariants as To
use Rattle.qfs_machine.specs.Askable.{IsAskable}
use Rattle.qfs_meta.specs.Metaserver.{Metaserver, Steps}
use Rattle.qfs_model_actor.specs.Actor.{Actor, request_of, after_reply}
use Rattle.qfs_model_server.specs.Server.{without_room}
use Rattle.qfs_store.specs.Serves.{Serves}
use Rattle.qfs_store.specs.Stored.{Stored}
use Rattle.qfs_nodes.specs.declared.node.NodeState.{NodeState}
use Rattle.qfs_nodes.specs.declared.node.NodeState.TheVariants as Node

-- the metaserver took its step on an actor's request, with the outcome that its reply shows; it
-- doesn't fail
pub record MetaServes (number : ℕ) (before : Metaserver) (request : MetaRequest)
    (answer : MetaReply) (behind : Metaserver) : Type 0 where
  pub layout : behind.layout ≡ before.layout
  pub term : behind.term ≡ before.term
  pub steps : Steps number before request answer behind
  pub sure : meta_outcome answer ≡ Ended.Failed → ⊥

-- a chunk server that isn't there is down
abbrev pub no_server : NodeReply
no_server = From.Chunk (without_room Answer.Down)

module _ {D : Type 0} where
  -- the node is the metaserver, and it served the request
  pub record MetaTurns (number : ℕ) (before : Metaserver) (request : MetaRequest)
      (reply : NodeReply) (node : NodeState D) : Type 0 where
    pub behind : Metaserver
    pub answer : MetaReply
    pub node_is : node ≡ Node.Meta behind
    pub reply_is : reply ≡ From.Meta answer
    pub serves : MetaServes number before request answer behind

  -- the node is a chunk server, and it served the request
  pub record StoreTurns (before : Stored) (request : ChunkRequest) (reply : NodeReply)
      (node : NodeState D) : Type 0 where
    pub behind : Stored
    pub answer : ChunkReply
    pub node_is : node ≡ Node.Store behind
    pub reply_is : reply ≡ From.Chunk answer
    pub serves : Serves request answer before behind

  -- the request isn't one to this node: it stays as it was
  pub record Passes (before : NodeState D) (answer reply : NodeReply) (node : NodeState D)
      : Type 0 where
    pub node_is : node ≡ before
    pub reply_is : reply ≡ answer

  -- how a node takes a request
  abbrev pub Takes : ℕ → NodeState D → NodeRequest → NodeReply → NodeState D → Type 0
  Takes number (Node.Meta before) (To.Meta request) reply node =
      MetaTurns number before request reply node
  Takes number (Node.Meta before) (To.Chunk server request) reply node =
      Passes (Node.Meta before) no_server reply node
  Takes number (Node.Store before) (To.Meta request) reply node =
      Passes (Node.Store before) (From.Meta Told.Nothing) reply node
  Takes number (Node.Store before) (To.Chunk server request) reply node =
      StoreTurns before request reply node

  -- a node took an actor's next request, and the actor took the reply. The outcome is the one that
  -- the reply shows
  pub record Turns (before : NodeState D) (actor : Actor) (outcome : Outcome) (node : NodeState D)
      (behind : Actor) : Type 0 where
    pub request : NodeRequest
    pub reply : NodeReply
    pub asked : request_of actor ≡ Some request
    pub askable : IsAskable request
    pub takes : Takes actor.number before request reply node
    pub took : behind ≡ after_reply actor reply
    pub outcome_is : outcome ≡ outcome_of reply
