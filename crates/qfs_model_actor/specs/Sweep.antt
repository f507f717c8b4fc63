-- A sweep: condemned copies are ordered deleted one after another, and deleted on their servers.
use Rattle.std.specs.Prelude.{ℕ, zero, suc, ◌+◌}
use Rattle.qfs_base.specs.declared.command.Reply.TheVariants as Report
use Rattle.qfs_base.specs.declared.reply.ChunkAnswer.{ChunkAnswer}
use Rattle.qfs_base.specs.declared.reply.ChunkAnswer.TheVariants as Did
use Rattle.qfs_base.specs.declared.reply.Condemned.{Condemned}
use Rattle.qfs_base.specs.declared.reply.MetaReply.{MetaReply}
use Rattle.qfs_base.specs.declared.reply.MetaReply.TheVariants as Said
use Rattle.qfs_base.specs.declared.request.ChunkRequest.TheVariants as Serve
use Rattle.qfs_base.specs.declared.request.MetaRequest.TheVariants as Ask
use Rattle.qfs_model_actor.specs.Work.{Work, ends}
use Rattle.qfs_model_actor.specs.Hold.{nothing, unnamed, was_given_back}
use Rattle.qfs_model_actor.specs.Ask.{ask, ask_server, key_of}

-- says that a copy is gone, and goes on
unfoldable pub say_swept : ℕ → Work → Work
say_swept number next = ask nothing (Ask.Swept number) (was_given_back next)

-- a copy was deleted, or wasn't there, or it stays
unfoldable pub after_erase : ℕ → ℕ → (ℕ → Work) → ChunkAnswer → Work
after_erase number erased next Did.Erased = say_swept number (next (erased + 1))
after_erase number erased next Did.Absent = say_swept number (next erased)
after_erase number erased next Did.Down = next erased
after_erase number erased next (Did.Lost asked now) = next erased
after_erase number erased next Did.Fault = next erased
after_erase number erased next answer = unnamed

-- deletes a condemned copy, and goes on with how many were deleted
unfoldable pub erase : ℕ → (ℕ → Work) → Condemned → Work
erase erased next c =
    ask_server nothing c.copy.server (Serve.Erase (key_of c.block c.slot c.copy.version) c.copy.life)
    (after_erase c.number erased next)

-- a copy was ordered deleted, or there is none that may be
unfoldable pub after_order : ℕ → (ℕ → ℕ → Work) → MetaReply → Work
after_order erased next (Said.Ordered condemned turn) = erase erased (next condemned.number) condemned
after_order erased next Said.Nothing = ends (Report.Swept erased)
after_order erased next answer = unnamed

-- deletes at most so many more copies, of those with a number above `after`
unfoldable pub sweep_on : ℕ → ℕ → ℕ → Work
sweep_on zero after erased = ends (Report.Swept erased)
sweep_on (suc budget) after erased =
    ask nothing (Ask.OrderNext after) (after_order erased (λ last total. sweep_on budget last total))

unfoldable pub sweep_work : ℕ → Work
sweep_work budget = sweep_on budget 0 0
