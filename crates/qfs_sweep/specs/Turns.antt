-- What becomes of a node's answer at each stage of a sweep.
use Rattle.std.specs.Prelude.{⊤}
use Rattle.qfs_base.specs.declared.reply.ChunkAnswer.{ChunkAnswer}
use Rattle.qfs_base.specs.declared.reply.Condemned.{Condemned}
use Rattle.qfs_base.specs.declared.reply.MetaReply.{MetaReply}
use Rattle.qfs_machine.specs.declared.ending.Ending.TheVariants as By
use Rattle.qfs_model_actor.specs.Hold.{unnamed, was_given_back}
use Rattle.qfs_model_actor.specs.Sweep.{after_erase, after_order}
use Rattle.qfs_model_actor.specs.Work.{Work}
use Rattle.qfs_sweep.specs.Rest.{behind}
use Rattle.qfs_sweep.specs.declared.stage.Progress.{Progress}
use Rattle.qfs_sweep.specs.declared.stage.Stage.{Stage}
use Rattle.qfs_sweep.specs.declared.stage.Stage.TheVariants as At
use Rattle.qfs_sweep.specs.declared.stage.SweepEnding.TheVariants as With

-- the stages whose request goes to the metaserver
abbrev pub AsksMeta : Stage → Type 0
AsksMeta (At.Ordering at after) = ⊤
AsksMeta (At.Saying at number) = ⊤
AsksMeta stage = ⊥

-- what becomes of an answer of the metaserver that doesn't end every command
unfoldable pub after_answer : Stage → MetaReply → Work
after_answer (At.Ordering at after) = after_order at.erased (behind at)
after_answer (At.Saying at number) = was_given_back (behind at number at.erased)
after_answer stage = λ answer. unnamed

-- and of such an answer of the server of a copy
abbrev pub after_erased : Progress → Condemned → ChunkAnswer → Work
after_erased at c answer = after_erase c.number at.erased (behind at c.number) answer

-- the stage behind a reply of a node that wasn't asked
abbrev pub strange_stage : Stage → Stage
strange_stage (At.Ended ending) = At.Ended ending
strange_stage stage = At.Ended (With.Common By.Unnamed)
