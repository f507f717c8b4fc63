-- What is left of a command whose chunk is on its way under a grant.
use Rattle.std.specs.Prelude.{◌<◌, ◌≤◌, length, IsTrue, ⊤}
use Rattle.qfs_base.specs.Sizes.{SLOTS, MOST_CHUNK_BYTES}
use Rattle.qfs_base.specs.declared.command.Reply.TheVariants as Report
use Rattle.qfs_base.specs.declared.reply.ChunkAnswer.{ChunkAnswer}
use Rattle.qfs_base.specs.declared.reply.Granted.{Granted}
use Rattle.qfs_base.specs.declared.reply.MetaReply.{MetaReply}
use Rattle.qfs_base.specs.declared.request.ChunkRequest.{ChunkRequest}
use Rattle.qfs_base.specs.declared.request.ChunkRequest.TheVariants as Serve
use Rattle.qfs_base.specs.declared.request.MetaRequest.{MetaRequest}
use Rattle.qfs_base.specs.declared.request.MetaRequest.TheVariants as Ask
use Rattle.qfs_base.specs.declared.request.NodeRequest.{NodeRequest}
use Rattle.qfs_base.specs.declared.request.NodeRequest.TheVariants as To
use Rattle.qfs_machine.specs.Endings.{report_of_ending}
use Rattle.qfs_model_actor.specs.Ask.{after_store, on_served}
use Rattle.qfs_model_actor.specs.Hold.{granted, end_with, give_back, on_answer, was_given_back}
use Rattle.qfs_model_actor.specs.Repair.{after_confirm, confirm, give_up, store_granted}
use Rattle.qfs_model_actor.specs.Work.{Report, Work, ends}
use Rattle.qfs_repair.specs.declared.delivery.After.{After}
use Rattle.qfs_repair.specs.declared.delivery.After.TheVariants as Then
use Rattle.qfs_repair.specs.declared.delivery.Delivery.{Delivery}
use Rattle.qfs_repair.specs.declared.delivery.Delivery.TheVariants as At
use Rattle.qfs_repair.specs.declared.failure.Failure.{Failure}
use Rattle.qfs_repair.specs.declared.failure.Failure.TheVariants as With
use Rattle.qfs_repair.specs.declared.turn.Step.{Step}
use Rattle.qfs_repair.specs.declared.turn.Step.TheVariants as Comes

-- how a command goes on behind the slot of a grant: where its copy is there, and where it has
-- failed with a report
pub record Course : Type 0 where
  pub done : Granted → Work
  pub failed : Granted → Report → Work

-- the report of a slot that failed so
unfoldable pub report_of_failure : Failure → Report
report_of_failure (With.Source server cause) = Report.SourceFailed server cause
report_of_failure (With.Dest server cause) = Report.DestFailed server cause
report_of_failure With.Gone = Report.Gone

-- what is left once a grant was given up
unfoldable pub rest_of_after : Course → Granted → After → Work
rest_of_after course g (Then.Failed failure) = course.failed g (report_of_failure failure)
rest_of_after course g (Then.Ended ending) = ends (report_of_ending ending)

-- what is left of a command whose chunk is on its way
unfoldable pub rest_of_delivery : Course → Delivery → Work
rest_of_delivery course (At.Storing g chunk) =
    store_granted (course.done g) (course.failed g) g chunk.bytes
rest_of_delivery course (At.Confirming g) = confirm (course.done g) (course.failed g) g
rest_of_delivery course (At.Abandoning g after) =
    give_back (rest_of_after course g after) (granted g)

-- what is left behind a node's answer
unfoldable pub rest_of_step : Course → Step → Work
rest_of_step course (Comes.Goes delivery) = rest_of_delivery course delivery
rest_of_step course (Comes.Done g) = course.done g
rest_of_step course (Comes.Failed g failure) = course.failed g (report_of_failure failure)
rest_of_step course (Comes.Ended ending) = ends (report_of_ending ending)

-- what becomes of a server's answer to the chunk, which doesn't end every command, and of any
-- answer
abbrev pub after_put : Course → Granted → ChunkAnswer → Work
after_put course g answer =
    after_store (confirm (course.done g) (course.failed g) g)
    (λ cause. give_up (course.failed g) g (Report.DestFailed g.server cause)) answer

abbrev pub on_put : Course → Granted → ChunkAnswer → Work
on_put course g answer = on_served (granted g) (after_put course g) answer

-- and of the metaserver's answers
abbrev pub on_confirm : Course → Granted → MetaReply → Work
on_confirm course g answer =
    on_answer (end_with (granted g)) (after_confirm (course.done g) (course.failed g)) answer

abbrev pub on_abandon : Course → Granted → After → MetaReply → Work
on_abandon course g after answer =
    on_answer ends (was_given_back (rest_of_after course g after)) answer

-- a chunk that is stored is one of nine, and no longer than a chunk can be
abbrev pub IsDelivery : Delivery → Type 0
IsDelivery (At.Storing g chunk) = (g.slot < SLOTS) × (length chunk.bytes ≤ MOST_CHUNK_BYTES)
IsDelivery (At.Confirming g) = ⊤
IsDelivery (At.Abandoning g after) = ⊤

-- a chunk that is stored next is at hand
abbrev pub HoldsChunk : Delivery → Type 0
HoldsChunk (At.Storing g chunk) = IsTrue chunk.is_held
HoldsChunk (At.Confirming g) = ⊤
HoldsChunk (At.Abandoning g after) = ⊤

-- behind an answer no chunk is left to be stored
abbrev pub IsStored : Delivery → Type 0
IsStored (At.Storing g chunk) = ⊥
IsStored (At.Confirming g) = ⊤
IsStored (At.Abandoning g after) = ⊤

abbrev pub IsStep : Step → Type 0
IsStep (Comes.Goes delivery) = IsStored delivery
IsStep (Comes.Done g) = ⊤
IsStep (Comes.Failed g failure) = ⊤
IsStep (Comes.Ended ending) = ⊤

-- what recoveries and moves ask the metaserver, and a server
abbrev pub IsOfRepair : MetaRequest → Type 0
IsOfRepair (Ask.RecoverAt path index slot) = ⊤
IsOfRepair (Ask.HealNext after) = ⊤
IsOfRepair (Ask.MoveAt path index slot to) = ⊤
IsOfRepair (Ask.EvacNext server after) = ⊤
IsOfRepair Ask.BalanceNext = ⊤
IsOfRepair (Ask.Confirm block slot version lease) = ⊤
IsOfRepair (Ask.Abandon block slot version lease) = ⊤
IsOfRepair (Ask.Leave server) = ⊤
IsOfRepair (Ask.LeftOn server) = ⊤
IsOfRepair request = ⊥

abbrev pub IsReadOrStored : ChunkRequest → Type 0
IsReadOrStored (Serve.Put key life bytes) =
    (key.slot < SLOTS) × (length bytes ≤ MOST_CHUNK_BYTES)
IsReadOrStored (Serve.Fetch key life from room) = ⊤
IsReadOrStored request = ⊥

abbrev pub IsAskedByRepair : NodeRequest → Type 0
IsAskedByRepair (To.Meta request) = IsOfRepair request
IsAskedByRepair (To.Chunk server request) = IsReadOrStored request
