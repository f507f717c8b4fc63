use Rattle.qfs_writer.specs.Rest.{bytes_put}
use Rattle.qfs_writer.proofs.Puts.{store-asks}
use Rattle.qfs_writer.proofs.request.store_request.Goals as goal

pub chunk_of-requires : goal.chunk_of-requires
unfolding bytes_put
chunk_of-requires c = record { block = c.requires.block; slot = c.requires.slot }

pub returns-clause-request : goal.returns-clause-request
unfolding bytes_put
returns-clause-request c = rw c.in_ok-bytes.ensures.value (store-asks c.args.put.now c.args.at c.args.copy)
