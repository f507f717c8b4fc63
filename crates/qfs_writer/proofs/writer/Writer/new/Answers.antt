use Rattle.std.proofs.Common.{refl}
use Rattle.qfs_writer.specs.Rest.{rest_of_put, bytes_put}
use Rattle.qfs_writer.proofs.writer.Writer.new.Goals as goal

pub returns-clause-rest : goal.returns-clause-rest
unfolding rest_of_put bytes_put
returns-clause-rest c = refl
