use Rattle.qfs_journal.proofs.LogLaws.{records_apart}
use Rattle.qfs_journal.proofs.log_reading.log_records_are_apart.Goals as goal

pub returns : goal.returns
returns c = records_apart
