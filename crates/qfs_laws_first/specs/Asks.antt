-- What a command may ask, whatever the nodes answer, and which requests can't delete a copy. For
-- the law that puts and gets delete nothing.
use Rattle.std.specs.Prelude.{⊤}
use Rattle.qfs_base.specs.declared.reply.NodeReply.{NodeReply}
use Rattle.qfs_base.specs.declared.request.ChunkRequest.{ChunkRequest}
use Rattle.qfs_base.specs.declared.request.ChunkRequest.TheVariants as Serve
use Rattle.qfs_base.specs.declared.request.MetaRequest.{MetaRequest}
use Rattle.qfs_base.specs.declared.request.MetaRequest.TheVariants as Ask
use Rattle.qfs_base.specs.declared.request.NodeRequest.{NodeRequest}
use Rattle.qfs_base.specs.declared.request.NodeRequest.TheVariants as To
use Rattle.qfs_model_actor.specs.Work.{Work, ends, asks}

-- the requests of puts and gets
abbrev pub IsMetaOfFiles : MetaRequest → Type 0
IsMetaOfFiles (Ask.Create path command len) = ⊤
IsMetaOfFiles (Ask.Grant file index slot again) = ⊤
IsMetaOfFiles (Ask.Close file) = ⊤
IsMetaOfFiles (Ask.Abort file) = ⊤
IsMetaOfFiles (Ask.OpenFile path) = ⊤
IsMetaOfFiles (Ask.Release lease) = ⊤
IsMetaOfFiles request = ⊥

abbrev pub IsChunkOfFiles : ChunkRequest → Type 0
IsChunkOfFiles (Serve.Put key life bytes) = ⊤
IsChunkOfFiles (Serve.Fetch key life from room) = ⊤
IsChunkOfFiles request = ⊥

abbrev pub IsOfFiles : NodeRequest → Type 0
IsOfFiles (To.Meta request) = IsMetaOfFiles request
IsOfFiles (To.Chunk server request) = IsChunkOfFiles request

-- the work asks only requests of puts and gets, whatever the nodes answer
abbrev pub AsksOfFiles : Work → Type 0
AsksOfFiles (ends report) = ⊤
AsksOfFiles (asks request next) =
    IsOfFiles request × ((reply : NodeReply) → AsksOfFiles (next reply))
