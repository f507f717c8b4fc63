-- The servers as the metaserver sees them: a list by number, from 1.
use Rattle.std.specs.Prelude.{ℕ, zero, suc, ◌+◌, ◌==◌, nat_lt, Bool, true, false, not, ◌&&◌, List, Option, Some, None, slice_index_or, slice_set, min}
use Rattle.std.specs.Bool.{then_some}
use Rattle.qfs_base.specs.declared.chunk.Copy.{Copy}
use Rattle.qfs_base.specs.declared.image.ServerView.{ServerView}
use Rattle.qfs_base.specs.Sizes.{LAST_U64}

-- what is seen of a server that isn't there
unfoldable pub no_server : ServerView
no_server = record { up = false; leaving = true; life = 0; until = 0 }

-- the server of a number
unfoldable pub server_at : List ServerView → ℕ → ServerView
server_at servers zero = no_server
server_at servers (suc n) = slice_index_or servers n no_server

-- the servers after one of them changed
unfoldable pub change_server : (ServerView → ServerView) → List ServerView → ℕ → List ServerView
change_server change servers zero = servers
change_server change servers (suc n) =
    slice_set servers n (change (slice_index_or servers n no_server))

-- whether a copy or grant is live: its life is the known life of its server
unfoldable pub is_live : List ServerView → Copy → Bool
is_live servers copy = copy.life == (server_at servers copy.server).life

-- whether a copy is listed: it is live, and its server is up
unfoldable pub is_listed : List ServerView → Copy → Bool
is_listed servers copy = is_live servers copy && (server_at servers copy.server).up

-- a copy, where it is listed
unfoldable pub listed_copy : List ServerView → Option Copy → Option Copy
listed_copy servers None = None
listed_copy servers (Some copy) = then_some (is_listed servers copy) copy

-- whether a server hibernates: the clock is below its reading
unfoldable pub hibernates : ℕ → ServerView → Bool
hibernates clock server = nat_lt clock server.until

-- whether a server takes new chunks
unfoldable pub takes_chunks : ServerView → Bool
takes_chunks server = server.up && not server.leaving

-- a server that came up in this life
unfoldable pub server_up : ℕ → ServerView → ServerView
server_up life server = record server { up = true; life = life; until = 0 }

-- a server that went down
unfoldable pub server_down : ServerView → ServerView
server_down server = record server { up = false }

-- a server that is leaving for good
unfoldable pub server_leaving : ServerView → ServerView
server_leaving server = record server { leaving = true }

-- a server that went down until a reading of the clock
unfoldable pub server_asleep : ℕ → ServerView → ServerView
server_asleep until server = record server { up = false; until = until }

-- the reading of the clock after so many ticks, at most the last one
unfoldable pub reading_after : ℕ → ℕ → ℕ
reading_after clock ticks = min (clock + ticks) LAST_U64
