-- A command at work, as a tree of questions: it has ended with a reply, or it asks a node and goes on with what the
-- node answers.
use Rattle.std.specs.Prelude.{ℕ, List, [], ◌∷◌, Option, Some, None}
use Rattle.std.specs.List.{cons_option}
use Rattle.qfs_base.specs.declared.command.Reply.{Reply}
use Rattle.qfs_base.specs.declared.request.NodeRequest.{NodeRequest}
use Rattle.qfs_base.specs.declared.request.NodeRequest.TheVariants as To
use Rattle.qfs_base.specs.declared.reply.NodeReply.{NodeReply}

-- the reply of a command; a get keeps the bytes that it read
abbrev pub Report : Type 0
Report = Reply (List ℕ)

pub data Work : Type 0 where
  ends : Report → Work
  asks : NodeRequest → (NodeReply → Work) → Work

-- what is left once the node has answered
unfoldable pub goes_on : Work → NodeReply → Work
goes_on (ends report) reply = ends report
goes_on (asks request next) reply = next reply

-- what is left once the nodes have answered all these
unfoldable pub follow : Work → List NodeReply → Work
follow work [] = work
follow work (reply ∷ replies) = follow (goes_on work reply) replies

-- the request that it asks, unless it has ended
unfoldable pub request_in : Work → Option NodeRequest
request_in (ends report) = None
request_in (asks request next) = Some request

-- the requests that it asks on the way, as the nodes answer so
unfoldable pub asked : Work → List NodeReply → List NodeRequest
asked work [] = []
asked work (reply ∷ replies) = cons_option (request_in work) (asked (goes_on work reply) replies)

-- the node that a request goes to: 0 is the metaserver, s is server s
unfoldable pub node_of_request : NodeRequest → ℕ
node_of_request (To.Meta request) = 0
node_of_request (To.Chunk server request) = server

-- a piece of work for each item in turn, and then the rest
unfoldable pub for_each {ℓ} : {X : Type ℓ} → (X → Work → Work) → List X → Work → Work
for_each step [] rest = rest
for_each step (x ∷ xs) rest = step x (for_each step xs rest)
