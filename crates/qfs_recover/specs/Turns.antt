-- What becomes of a node's answer at each stage of a command that recovers slots.
use Rattle.std.specs.Prelude.{ℕ, List, ⊤}
use Rattle.qfs_base.specs.Shape.{Shape}
use Rattle.qfs_base.specs.declared.command.Reply.TheVariants as Report
use Rattle.qfs_base.specs.declared.reply.Granted.{Granted}
use Rattle.qfs_base.specs.declared.reply.MetaReply.{MetaReply}
use Rattle.qfs_model_actor.specs.Hold.{on_answer, unnamed, was_given_back}
use Rattle.qfs_model_actor.specs.Read.{Source, causes_of}
use Rattle.qfs_model_actor.specs.Recover.{after_heal_next, after_recover_at, heal_on, recover_slot}
use Rattle.qfs_model_actor.specs.Work.{Work, ends}
use Rattle.qfs_recover.specs.Rest.{behind_group, done_of, failed_of, healing_of, reading_in}
use Rattle.qfs_recover.specs.declared.stage.Errand.{Errand}
use Rattle.qfs_recover.specs.declared.stage.Heal.{Heal}
use Rattle.qfs_recover.specs.declared.stage.Stage.{Stage}
use Rattle.qfs_recover.specs.declared.stage.Stage.TheVariants as At
use Rattle.qfs_repair.specs.Deliveries.{Course}
use Rattle.qfs_window.specs.WindowReads.{rest_of_step}
use Rattle.qfs_window.specs.declared.window_read.WindowStep.{WindowStep}

-- what is left once the slot of a grant is to be recovered for an errand
abbrev pub rest_of_grant : Shape → Errand → Granted → Work
rest_of_grant layout errand g =
    recover_slot layout (done_of layout g errand) (λ report. failed_of layout g report errand) g

-- what is left behind what came of a read
abbrev pub rest_of_window : Shape → Course → Granted → ℕ → List ℕ → WindowStep → Work
rest_of_window layout course g group chunk step =
    rest_of_step (reading_in layout course g) (behind_group layout course g group chunk) step

-- what is left of a command that has found too few slots, once the grant was given up
abbrev pub rest_starved : Shape → Errand → Granted → List Source → Work
rest_starved layout errand g sources =
    failed_of layout g (Report.TooFew g.block.index (causes_of sources)) errand

-- what becomes of the answer to that
abbrev pub on_starved : Shape → Errand → Granted → List Source → MetaReply → Work
on_starved layout errand g sources answer =
    on_answer ends (was_given_back (rest_starved layout errand g sources)) answer

-- what becomes of an answer to the request for the next missing slot
abbrev pub after_heal : Shape → Heal → MetaReply → Work
after_heal layout at answer =
    after_heal_next layout (healing_of at) (λ further. heal_on layout at.more further) answer

-- what becomes of an answer of the metaserver that doesn't end every command
unfoldable pub after_answer : Shape → Stage → MetaReply → Work
after_answer layout (At.Asking one) = after_recover_at layout one.index one.slot
after_answer layout (At.Healing at) = after_heal layout at
after_answer layout stage = λ answer. unnamed

-- the stages that ask the metaserver and hold nothing there
abbrev pub AsksMeta : Stage → Type 0
AsksMeta (At.Asking one) = ⊤
AsksMeta (At.Healing at) = ⊤
AsksMeta stage = ⊥
