-- How a writer stands.
use Rattle.qfs_machine.specs.declared.machine.Readiness.{Readiness}
use Rattle.qfs_model_actor.specs.Work.{Work}
use Rattle.qfs_writer.specs.declared.stage.Put.{Put}
use Rattle.qfs_writer.specs.declared.stage.Stage.{Stage}
use Rattle.qfs_writer.specs.Rest.{rest_of_put}

-- what is put, what the put waits for, and how it stands to its next request
pub record WriterState : Type 0 where
  pub put : Put
  pub stage : Stage
  pub readiness : Readiness

-- what is left of the put
abbrev pub rest_of_writer : WriterState → Work
rest_of_writer standing = rest_of_put standing.put standing.stage
