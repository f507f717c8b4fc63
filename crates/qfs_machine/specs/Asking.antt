-- When a machine may hand a request out, and how it stands behind that.
use Rattle.std.specs.Prelude.{◌≡◌, ℕ, Option, Some, None, IfSome, option_map, ⊤}
use Rattle.qfs_base.specs.declared.request.NodeRequest.{NodeRequest}
use Rattle.qfs_model_actor.specs.Work.{Work, request_in, node_of_request}
use Rattle.qfs_machine.specs.declared.machine.Readiness.{Readiness}
use Rattle.qfs_machine.specs.declared.machine.Readiness.TheVariants.{Unready, Ready, Out}

-- a request is out
abbrev pub IsOut : Readiness → Type 0
IsOut Unready = ⊥
IsOut Ready = ⊥
IsOut Out = ⊤

-- no request is out, and the machine is ready or has ended
abbrev pub MayHandOut : Readiness → Work → Type 0
MayHandOut Unready work = request_in work ≡ None
MayHandOut Ready work = ⊤
MayHandOut Out work = ⊥

-- a request that was handed out is out; a machine that has ended hands none out
abbrev pub after_asking : Option NodeRequest → Readiness → Readiness
after_asking None readiness = readiness
after_asking (Some request) readiness = Out

-- this is the next request of what is left, and this it is, or there is none
abbrev pub Asks : Work → NodeRequest → Type 0
Asks work request = request_in work ≡ Some request

abbrev pub AsksNext : Work → Option NodeRequest → Type 0
AsksNext work next = request_in work ≡ next

-- the node that the next request goes to: 0 is the metaserver, s is server s; none where the work
-- has ended
abbrev pub node_asked : Work → Option ℕ
node_asked work = option_map node_of_request (request_in work)

-- a request is kept where the machine is ready for it, and it is the next one of what is left, and
-- one that may be asked
abbrev pub IsPrepared : (NodeRequest → Type 0) → Work → Readiness → Option NodeRequest → Type 0
IsPrepared may work Unready request = request ≡ None
IsPrepared may work Ready request = AsksNext work request × IfSome request may
IsPrepared may work Out request = request ≡ None
