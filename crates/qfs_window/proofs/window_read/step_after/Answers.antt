use Rattle.qfs_machine.specs.Endings.{report_of_ending}
use Rattle.qfs_window.specs.WindowReads.{rest_of_step}
use Rattle.qfs_window.proofs.Fetches.{read-meta}
use Rattle.qfs_window.proofs.window_read.step_after.Goals as goal

pub returns-in-Meta-clause-rest : goal.returns-in-Meta-clause-rest
unfolding rest_of_step report_of_ending
returns-in-Meta-clause-rest c = λ reading behind same.
    rw c.in-Meta.is (read-meta reading behind c.args.read c.in-Meta.field-0 c.requires.at.readable)
