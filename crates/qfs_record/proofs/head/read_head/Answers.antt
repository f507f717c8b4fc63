-- The bytes of a slice are bytes.
use Rattle.std.proofs.Common.{arith}
use Rattle.qfs_record.proofs.ChunkLaws.{are_bytes}
use Rattle.qfs_record.proofs.head.read_head.Goals as goal

pub returns-in_err-head-clause-bytes : goal.returns-in_err-head-clause-bytes
returns-in_err-head-clause-bytes c = are_bytes c.args.bytes.now (λ i. omega (arith, c.type_inv.bytes i))

pub returns-clause-bytes : goal.returns-clause-bytes
returns-clause-bytes c = are_bytes c.args.bytes.now (λ i. omega (arith, c.type_inv.bytes i))
