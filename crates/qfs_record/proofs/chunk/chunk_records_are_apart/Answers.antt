use Rattle.qfs_record.proofs.ChunkLaws.{apart}
use Rattle.qfs_record.proofs.chunk.chunk_records_are_apart.Goals as goal

pub returns : goal.returns
returns c = apart
