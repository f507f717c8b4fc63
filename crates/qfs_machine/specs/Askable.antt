-- What the machines ask that are built so far: the requests of puts and gets.
use Rattle.std.specs.Prelude.{◌<◌, ◌≤◌, length, ⊤}
use Rattle.qfs_base.specs.Sizes.{SLOTS, MOST_CHUNK_BYTES}
use Rattle.qfs_base.specs.declared.request.ChunkRequest.{ChunkRequest}
use Rattle.qfs_base.specs.declared.request.ChunkRequest.TheVariants as Serve
use Rattle.qfs_base.specs.declared.request.MetaRequest.{MetaRequest}
use Rattle.qfs_base.specs.declared.request.MetaRequest.TheVariants as Ask
use Rattle.qfs_base.specs.declared.request.NodeRequest.{NodeRequest}
use Rattle.qfs_base.specs.declared.request.NodeRequest.TheVariants as To

-- the metaserver is asked to make, grant, close and give up a file that is put, and to open and
-- release one that is read
abbrev pub IsAskedOfMeta : MetaRequest → Type 0
IsAskedOfMeta (Ask.Create path command len) = ⊤
IsAskedOfMeta (Ask.Grant file index slot again) = ⊤
IsAskedOfMeta (Ask.Close file) = ⊤
IsAskedOfMeta (Ask.Abort file) = ⊤
IsAskedOfMeta (Ask.OpenFile path) = ⊤
IsAskedOfMeta (Ask.Release lease) = ⊤
IsAskedOfMeta request = ⊥

-- a chunk server is asked to store a slot of a block, of no more bytes than a chunk can have, and
-- to read bytes of one
abbrev pub IsAskedOfServer : ChunkRequest → Type 0
IsAskedOfServer (Serve.Put key life bytes) = (key.slot < SLOTS) × (length bytes ≤ MOST_CHUNK_BYTES)
IsAskedOfServer (Serve.Fetch key life from room) = ⊤
IsAskedOfServer request = ⊥

abbrev pub IsAskable : NodeRequest → Type 0
IsAskable (To.Meta request) = IsAskedOfMeta request
IsAskable (To.Chunk server request) = IsAskedOfServer request
