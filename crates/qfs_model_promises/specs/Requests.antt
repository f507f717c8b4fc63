-- Tests of what is asked in a step.
use Rattle.std.specs.Prelude.{ℕ, ◌==◌, ◌&&◌, Bool, true, false}
use Rattle.qfs_base.specs.declared.request.ChunkRequest.{ChunkRequest}
use Rattle.qfs_base.specs.declared.request.ChunkRequest.TheVariants as Serve
use Rattle.qfs_base.specs.declared.request.MetaRequest.{MetaRequest}
use Rattle.qfs_base.specs.declared.request.MetaRequest.TheVariants as Ask
use Rattle.qfs_base.specs.declared.request.NodeRequest.{NodeRequest}
use Rattle.qfs_base.specs.declared.request.NodeRequest.TheVariants as To

-- whether a request puts a copy, or fetches bytes of one
unfoldable pub is_put : ChunkRequest → Bool
is_put (Serve.Put key life bytes) = true
is_put request = false

unfoldable pub is_fetch : ChunkRequest → Bool
is_fetch (Serve.Fetch key life from room) = true
is_fetch request = false

-- whether a request makes a file, asks for a server for a slot of it, or settles a grant
unfoldable pub is_create : MetaRequest → Bool
is_create (Ask.Create path command len) = true
is_create request = false

unfoldable pub is_grant : MetaRequest → Bool
is_grant (Ask.Grant file index slot again) = true
is_grant request = false

unfoldable pub is_confirm : MetaRequest → Bool
is_confirm (Ask.Confirm block slot version lease) = true
is_confirm request = false

-- whether a request to the metaserver passes the test, one to a chunk server, or one to the server of a number
unfoldable pub asks_meta : (MetaRequest → Bool) → NodeRequest → Bool
asks_meta test (To.Meta request) = test request
asks_meta test (To.Chunk server request) = false

unfoldable pub asks_chunk : (ChunkRequest → Bool) → NodeRequest → Bool
asks_chunk test (To.Chunk server request) = test request
asks_chunk test (To.Meta request) = false

unfoldable pub asks_server : (ChunkRequest → Bool) → ℕ → NodeRequest → Bool
asks_server test server (To.Chunk number request) = (number == server) && test request
asks_server test server (To.Meta request) = false
