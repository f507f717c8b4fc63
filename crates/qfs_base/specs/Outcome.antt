-- How a step ended at its node, as the node's answer shows it.
use Rattle.qfs_base.specs.declared.history.Outcome.{Outcome}
use Rattle.qfs_base.specs.declared.history.Outcome.TheVariants.{Done, Failed, NoMemory}
use Rattle.qfs_base.specs.declared.reply.MetaReply.{MetaReply}
use Rattle.qfs_base.specs.declared.reply.MetaReply.TheVariants as Told
use Rattle.qfs_base.specs.declared.reply.ChunkAnswer.{ChunkAnswer}
use Rattle.qfs_base.specs.declared.reply.ChunkAnswer.TheVariants as Said
use Rattle.qfs_base.specs.declared.reply.NodeReply.{NodeReply}
use Rattle.qfs_base.specs.declared.reply.NodeReply.TheVariants as From

-- the metaserver's step failed where its disks did, and want of memory is its own outcome
unfoldable pub meta_outcome : MetaReply → Outcome
meta_outcome Told.LogFault = Failed
meta_outcome (Told.BadLog right offset) = Failed
meta_outcome Told.NoMemory = NoMemory
meta_outcome _ = Done

-- a chunk server's step failed where its device did
unfoldable pub chunk_outcome : ChunkAnswer → Outcome
chunk_outcome Said.Fault = Failed
chunk_outcome Said.NoMemory = NoMemory
chunk_outcome _ = Done

-- how the step ended that a node answered so
unfoldable pub outcome_of : NodeReply → Outcome
outcome_of (From.Meta reply) = meta_outcome reply
outcome_of (From.Chunk reply) = chunk_outcome reply.answer
