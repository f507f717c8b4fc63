use Rattle.std.proofs.Common.{arith}
use Rattle.qfs_lexer.proofs.HexWords.{few_of}
use Rattle.qfs_lexer.proofs.hexadecimal.bytes_in.Goals as goal

pub returns-clause-within : goal.returns-clause-within
returns-clause-within c = (omega arith, few_of _ _ _ c.in_ok-bytes.ensures (omega arith))
