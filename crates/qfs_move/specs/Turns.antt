-- What becomes of a node's answer at each stage of a command that moves copies.
use Rattle.std.specs.Prelude.{ℕ, ◌+◌, ◌*◌, ◌==◌, List, ◌++◌, length, ⊤}
use Rattle.qfs_base.specs.Shape.{Shape}
use Rattle.qfs_base.specs.declared.command.Reply.TheVariants as Report
use Rattle.qfs_base.specs.declared.lists.Cause.{Cause}
use Rattle.qfs_base.specs.declared.reply.ChunkReply.{ChunkReply}
use Rattle.qfs_base.specs.declared.reply.Granted.{Granted}
use Rattle.qfs_base.specs.declared.reply.MetaReply.{MetaReply}
use Rattle.qfs_model_actor.specs.Ask.{after_fetch, filled}
use Rattle.qfs_model_actor.specs.Hold.{unnamed}
use Rattle.qfs_model_actor.specs.Move.{after_balance_next, after_evac_next, after_leave, after_move_at, evacuate_on, evacuated, move_slot, rebalance_on}
use Rattle.qfs_model_actor.specs.Repair.{give_up}
use Rattle.qfs_model_actor.specs.Work.{Work}
use Rattle.qfs_move.specs.Rest.{done_of, failed_of, leaving_of, rest_of_groups}
use Rattle.qfs_move.specs.declared.stage.Balancing.{Balancing}
use Rattle.qfs_move.specs.declared.stage.Copying.{Copying}
use Rattle.qfs_move.specs.declared.stage.Errand.{Errand}
use Rattle.qfs_move.specs.declared.stage.Evacuating.{Evacuating}
use Rattle.qfs_move.specs.declared.stage.Stage.{Stage}
use Rattle.qfs_move.specs.declared.stage.Stage.TheVariants as At
use Rattle.qfs_repair.specs.Deliveries.{Course}
use Rattle.qfs_repair.specs.RowGroups.{filled_before, group_rows}

-- what is left once the slot of a grant is to be moved for an errand
abbrev pub rest_of_grant : Shape → Errand → Granted → Work
rest_of_grant layout errand g =
    move_slot layout (λ source. done_of layout source g errand)
    (λ report. failed_of layout g report errand) g

-- how many bytes a group has
abbrev pub group_bytes : Shape → Copying → ℕ
group_bytes layout c = group_rows c.grant.rows c.group * layout.s

-- what is left once a group was read, and once its source failed
unfoldable pub rest_with_group : Shape → Course → Copying → List ℕ → Work
rest_with_group layout course c room =
    rest_of_groups layout course c (c.group + 1) (filled_before layout.s c.group c.chunk.items ++ room)

unfoldable pub rest_if_filled : Shape → Course → Copying → List ℕ → Work
rest_if_filled layout course c room =
    filled (rest_with_group layout course c) room (length room == group_bytes layout c)

unfoldable pub rest_of_failed : Course → Copying → Cause → Work
rest_of_failed course c cause =
    give_up (course.failed c.grant) c.grant (Report.SourceFailed c.source.server cause)

-- what becomes of a server's answer to the request for a group, which doesn't end every command
abbrev pub after_group : Shape → Course → Copying → ChunkReply → Work
after_group layout course c reply =
    after_fetch (group_bytes layout c) (rest_with_group layout course c) (rest_of_failed course c)
    reply.room reply.answer

-- and of the metaserver's answers to requests for grants
abbrev pub after_balance : Shape → Balancing → MetaReply → Work
after_balance layout at answer =
    after_balance_next layout at.moved (λ more. rebalance_on layout at.more more) answer

abbrev pub after_evac : Shape → Evacuating → MetaReply → Work
after_evac layout at answer =
    after_evac_next layout at.server (leaving_of at.so_far)
    (λ further. evacuate_on layout at.server at.more further) answer

-- what becomes of an answer of the metaserver that doesn't end every command
unfoldable pub after_answer : Shape → Stage → MetaReply → Work
after_answer layout (At.Asking one) = after_move_at layout one.index one.slot
after_answer layout (At.Balancing at) = after_balance layout at
after_answer layout (At.Leaving server budget) = after_leave layout server budget
after_answer layout (At.Evacuating at) = after_evac layout at
after_answer layout (At.Counting server so_far) = evacuated (leaving_of so_far)
after_answer layout stage = λ answer. unnamed

-- the stages that ask the metaserver and hold nothing there
abbrev pub AsksMeta : Stage → Type 0
AsksMeta (At.Copying errand c) = ⊥
AsksMeta (At.Delivering errand source delivery) = ⊥
AsksMeta (At.Ended ending) = ⊥
AsksMeta stage = ⊤
