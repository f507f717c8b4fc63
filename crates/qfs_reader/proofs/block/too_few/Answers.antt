use Rattle.qfs_reader.specs.Rest.{rest_of_get, report_of_get}
use Rattle.qfs_reader.proofs.Blocks.{stops-for_good, stops-again}
use Rattle.qfs_reader.proofs.block.too_few.Goals as goal

pub returns-then-attempt-gt0-clause-rest : goal.returns-then-attempt-gt0-clause-rest
unfolding rest_of_get
returns-then-attempt-gt0-clause-rest c = stops-again c.args.get.now c.args.attempt c.args.block c.args.sources c.if-attempt-gt0.true

pub returns-clause-rest : goal.returns-clause-rest
unfolding rest_of_get report_of_get
returns-clause-rest c = stops-for_good c.args.get.now c.args.attempt c.args.block c.args.sources c.if-attempt-gt0.false
