-- The requests that say how servers stand, and the clock.
use Rattle.std.specs.Prelude.{ℕ, nat_le, List, [], ◌∷◌, length, map}
use Rattle.qfs_base.specs.declared.change.Change.TheVariants.{ServerUp, ServerDown, ServerLeaves, ServerSleeps, ClockTicks, CondemnStray, EndLease}
use Rattle.qfs_base.specs.declared.chunk.ChunkKey.{ChunkKey}
use Rattle.qfs_base.specs.declared.image.MetaImage.{MetaImage}
use Rattle.qfs_base.specs.declared.reply.MetaReply.TheVariants as Told
use Rattle.qfs_base.specs.Sizes.{LAST_U64}
use Rattle.qfs_model_meta.specs.Counters.{risen}
use Rattle.qfs_model_meta.specs.Decision.{Decision, Tells, Makes, unless}
use Rattle.qfs_model_meta.specs.Leases.{leases_over}
use Rattle.qfs_model_meta.specs.Servers.{server_at, reading_after}
use Rattle.qfs_model_meta.specs.Slots.{count_on}

-- a server came up and has these keys; what no slot knows of is condemned
unfoldable pub decide_hello : ℕ → ℕ → List ChunkKey → MetaImage → Decision
decide_hello server life keys m =
    unless (nat_le (server_at m.servers server).life life) (Told.Old (server_at m.servers server).life)
    (Makes (ServerUp server life ∷ map (CondemnStray server life) keys) (Told.Done (length m.history)))

-- a server went down
unfoldable pub decide_bye : ℕ → MetaImage → Decision
decide_bye server m = Makes (ServerDown server ∷ []) (Told.Done (length m.history))

-- a server takes no new chunks from now on
unfoldable pub decide_leave : ℕ → MetaImage → Decision
decide_leave server m = Makes (ServerLeaves server ∷ []) (Told.Done (length m.history))

-- a server goes down for so many ticks of the clock
unfoldable pub decide_hibernate : ℕ → ℕ → MetaImage → Decision
decide_hibernate server ticks m =
    let until : ℕ = reading_after m.clock ticks in
    unless (server_at m.servers server).up Told.NotUp
    (Makes (ServerSleeps server until ∷ []) (Told.Until until))

-- the clock goes on by one, and the leases end whose time has come
unfoldable pub decide_tick : MetaImage → Decision
decide_tick m =
    let now : ℕ = risen LAST_U64 m.clock in
    Makes (ClockTicks ∷ map EndLease (leases_over now m.leases)) (Told.Clock now)

-- how many live current copies and grants a server still has: nothing changes
unfoldable pub decide_left_on : ℕ → MetaImage → Decision
decide_left_on server m =
    Tells (Told.Left (count_on server (server_at m.servers server).life m.slots))
