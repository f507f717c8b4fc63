-- An actor as plain data: its rules, its commands, the replies of those that have ended, and what the nodes answered in the present
-- one. Its next request is a function of these.
use Rattle.std.specs.Prelude.{ℕ, ◌+◌, Bool, List, [], ◌∷◌, ◌++◌, Option, Some, None, length, slice_get, option_map, option_and_then, is_none, fold}
use Rattle.qfs_base.specs.declared.command.Command.{Command}
use Rattle.qfs_base.specs.declared.reply.NodeReply.{NodeReply}
use Rattle.qfs_base.specs.declared.request.NodeRequest.{NodeRequest}
use Rattle.qfs_base.specs.declared.rules.Rules.{Rules}
use Rattle.qfs_model_actor.specs.Work.{Report, Work, ends, asks, goes_on, follow, request_in, node_of_request}
use Rattle.qfs_model_actor.specs.Command.{work_of}

pub record Actor : Type 0 where
  pub number : ℕ
  pub rules : Rules
  pub commands : List Command
  pub ended : List Report
  pub heard : List NodeReply

-- an actor at its first command
unfoldable pub starting : Rules → ℕ → List Command → Actor
starting rules number commands =
    record { number = number; rules = rules; commands = commands; ended = []; heard = [] }

-- the number of the present command, from 1
abbrev pub command_number : Actor → ℕ
command_number actor = length actor.ended + 1

-- the present command, unless all have ended
abbrev pub present_command : Actor → Option Command
present_command actor = slice_get actor.commands (length actor.ended)

-- what is left of the present command
unfoldable pub work_left : Actor → Option Work
work_left actor =
    option_map (λ command. follow (work_of actor.rules (command_number actor) command) actor.heard) (present_command actor)

-- the next request; none where the actor has finished
unfoldable pub request_of : Actor → Option NodeRequest
request_of actor = option_and_then request_in (work_left actor)

-- the node that it goes to next: 0 is the metaserver, s is server s
unfoldable pub node_of : Actor → Option ℕ
node_of actor = option_map node_of_request (request_of actor)

unfoldable pub has_finished : Actor → Bool
has_finished actor = is_none (request_of actor)

-- the actor whose present command goes on so behind a reply: where it has ended, the next command comes
unfoldable pub moved_on : Actor → NodeReply → Option Work → Actor
moved_on actor reply None = actor
moved_on actor reply (Some (ends report)) = record actor { ended = actor.ended ++ report ∷ []; heard = [] }
moved_on actor reply (Some (asks request next)) = record actor { heard = actor.heard ++ reply ∷ [] }

-- the actor after a node's reply to its request
unfoldable pub after_reply : Actor → NodeReply → Actor
after_reply actor reply = moved_on actor reply (option_map (λ work. goes_on work reply) (work_left actor))

-- the actor after these replies, one after another
unfoldable pub after_replies : Actor → List NodeReply → Actor
after_replies actor replies = fold after_reply actor replies
