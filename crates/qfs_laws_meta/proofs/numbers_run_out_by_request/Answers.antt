use Rattle.qfs_laws_meta.specs.StepParts.{numbers-run-out}
use Rattle.qfs_laws_meta.proofs.numbers_run_out_by_request.Goals as goal

pub returns : goal.returns
returns c = numbers-run-out
