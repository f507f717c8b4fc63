-- What a recovery and a move share: the granted copy is stored and confirmed, and the grant is abandoned where that
-- fails.
use Rattle.std.specs.Prelude.{ℕ, List}
use Rattle.qfs_base.specs.declared.command.Reply.TheVariants as Report
use Rattle.qfs_base.specs.declared.reply.Granted.{Granted}
use Rattle.qfs_base.specs.declared.reply.MetaReply.{MetaReply}
use Rattle.qfs_base.specs.declared.reply.MetaReply.TheVariants as Said
use Rattle.qfs_base.specs.declared.request.ChunkRequest.TheVariants as Serve
use Rattle.qfs_base.specs.declared.request.MetaRequest.TheVariants as Ask
use Rattle.qfs_model_actor.specs.Work.{Report, Work}
use Rattle.qfs_model_actor.specs.Hold.{granted, give_back, unnamed}
use Rattle.qfs_model_actor.specs.Ask.{ask, ask_server, key_of, after_store}

-- the grant became the slot's copy, or its file is gone
unfoldable pub after_confirm : Work → (Report → Work) → MetaReply → Work
after_confirm done failed Said.Confirmed = done
after_confirm done failed Said.Vanished = failed Report.Gone
after_confirm done failed answer = unnamed

-- asks that the grant becomes the slot's copy
unfoldable pub confirm : Work → (Report → Work) → Granted → Work
confirm done failed g =
    ask (granted g) (Ask.Confirm g.block g.slot g.version g.lease) (after_confirm done failed)

-- gives a grant up, and then the slot has failed with this report
unfoldable pub give_up : (Report → Work) → Granted → Report → Work
give_up failed g report = give_back (failed report) (granted g)

-- stores a chunk as it was granted, and confirms it
unfoldable pub store_granted : Work → (Report → Work) → Granted → List ℕ → Work
store_granted done failed g chunk =
    ask_server (granted g) g.server (Serve.Put (key_of g.block g.slot g.version) g.life chunk)
    (after_store (confirm done failed g) (λ cause. give_up failed g (Report.DestFailed g.server cause)))
