use Rattle.qfs_lexer.proofs.HexWords.{decoded, refused}
use Rattle.qfs_lexer.proofs.hexadecimal.decoded.Goals as goal

pub returns-in-Ok : goal.returns-in-Ok
returns-in-Ok c = decoded _ _ _ c.from_vec.ensures c.in-Ok.ensures.ok

pub returns-else-is_no_memory : goal.returns-else-is_no_memory
returns-else-is_no_memory c =
    refused _ _ c.in-Err.ensures.err (λ memory. cc (c.is_no_memory.ensures.1 memory, c.if-is_no_memory.false))
