use Rattle.qfs_laws_first.proofs.Deletes.{deletes_nothing, restarts_nothing}
use Rattle.qfs_laws_first.proofs.puts_and_gets_delete_nothing.Goals as goal

pub returns : goal.returns
returns c = record { deletion = deletes_nothing; restarts = restarts_nothing }
