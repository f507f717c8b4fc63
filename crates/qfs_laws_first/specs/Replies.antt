-- The replies of the first path. Cited by the law of the first path.
use Rattle.std.specs.Prelude.{⊤}
use Rattle.qfs_base.specs.declared.command.Reply.TheVariants as Says
use Rattle.qfs_base.specs.declared.history.Step.{Step}
use Rattle.qfs_base.specs.declared.script.Script.{Script}
use Rattle.std.specs.Prelude.{List}
use Rattle.qfs_model_actor.specs.Work.{Report}
use Rattle.qfs_model_world.specs.Reports.{EachReport}
use Rattle.qfs_model_world.specs.World.{after}

-- a file was stored, its bytes were read, or the name tree refused
abbrev pub IsPlainReply : Report → Type 0
IsPlainReply (Says.Stored place len) = ⊤
IsPlainReply (Says.Read place bytes) = ⊤
IsPlainReply (Says.Refused place refusal) = ⊤
IsPlainReply report = ⊥

-- so is each reply
abbrev pub PlainReplies : Script → List Step → Type 0
PlainReplies script order =
    EachReport (after script order) (λ actor number report. IsPlainReply report)
