-- What is left of a sweep at each of its stages.
use Rattle.std.specs.Prelude.{ℕ, suc, ◌+◌, ◌<◌, ◌^◌, ⊤}
use Rattle.qfs_base.specs.declared.command.Reply.TheVariants as Report
use Rattle.qfs_base.specs.declared.request.ChunkRequest.{ChunkRequest}
use Rattle.qfs_base.specs.declared.request.ChunkRequest.TheVariants as Serve
use Rattle.qfs_base.specs.declared.request.MetaRequest.{MetaRequest}
use Rattle.qfs_base.specs.declared.request.MetaRequest.TheVariants as Ask
use Rattle.qfs_base.specs.declared.request.NodeRequest.{NodeRequest}
use Rattle.qfs_base.specs.declared.request.NodeRequest.TheVariants as To
use Rattle.qfs_machine.specs.Endings.{report_of_ending}
use Rattle.qfs_model_actor.specs.Sweep.{erase, say_swept, sweep_on}
use Rattle.qfs_model_actor.specs.Work.{Report, Work, ends}
use Rattle.qfs_sweep.specs.declared.stage.Progress.{Progress}
use Rattle.qfs_sweep.specs.declared.stage.Stage.{Stage}
use Rattle.qfs_sweep.specs.declared.stage.Stage.TheVariants as At
use Rattle.qfs_sweep.specs.declared.stage.SweepEnding.{SweepEnding}
use Rattle.qfs_sweep.specs.declared.stage.SweepEnding.TheVariants as With

-- the report of a sweep that ends so
unfoldable pub report_of_sweep : SweepEnding → Report
report_of_sweep (With.Swept erased) = Report.Swept erased
report_of_sweep (With.Common ending) = report_of_ending ending

-- what is left of a sweep behind the copy that is at hand
abbrev pub behind : Progress → ℕ → ℕ → Work
behind at last total = sweep_on at.more last total

-- what is left of a sweep
unfoldable pub rest_of_sweep : Stage → Work
rest_of_sweep (At.Ordering at after) = sweep_on (suc at.more) after at.erased
rest_of_sweep (At.Erasing at condemned) = erase at.erased (behind at condemned.number) condemned
rest_of_sweep (At.Saying at number) = say_swept number (behind at number at.erased)
rest_of_sweep (At.Ended ending) = ends (report_of_sweep ending)

-- no sweep deletes more copies than a number of 32 bits counts
abbrev pub IsSweepStage : Stage → Type 0
IsSweepStage (At.Ordering at after) = at.erased + at.more + 1 < 2 ^ 32
IsSweepStage (At.Erasing at condemned) = at.erased + at.more + 1 < 2 ^ 32
IsSweepStage (At.Saying at number) = at.erased + at.more < 2 ^ 32
IsSweepStage (At.Ended ending) = ⊤

-- what a sweep asks the metaserver, and a server
abbrev pub IsOfSweep : MetaRequest → Type 0
IsOfSweep (Ask.OrderNext after) = ⊤
IsOfSweep (Ask.Swept number) = ⊤
IsOfSweep request = ⊥

abbrev pub IsErase : ChunkRequest → Type 0
IsErase (Serve.Erase key life) = ⊤
IsErase request = ⊥

abbrev pub IsAskedBySweep : NodeRequest → Type 0
IsAskedBySweep (To.Meta request) = IsOfSweep request
IsAskedBySweep (To.Chunk server request) = IsErase request
