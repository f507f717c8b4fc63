-- Servers that fail, and chunks that are moved and swept, exchange by exchange.
use Rattle.std.specs.Prelude.{map, ℕ, Bool, true, false, List, [], ◌∷◌, ◌++◌, Option, Some, None, replicate}
use Rattle.std.specs.List.{range_with_len}
use Rattle.qfs_base.specs.declared.chunk.Copy.{Copy}
use Rattle.qfs_base.specs.declared.command.Command.TheVariants as Does
use Rattle.qfs_base.specs.declared.command.Reply.TheVariants as Report
use Rattle.qfs_base.specs.declared.reply.ChunkAnswer.{ChunkAnswer}
use Rattle.qfs_base.specs.declared.reply.ChunkAnswer.TheVariants as Did
use Rattle.qfs_base.specs.declared.reply.Condemned.{Condemned}
use Rattle.qfs_base.specs.declared.reply.Granted.{Granted}
use Rattle.qfs_base.specs.declared.reply.MetaReply.TheVariants as Said
use Rattle.qfs_base.specs.declared.request.ChunkRequest.TheVariants as Serve
use Rattle.qfs_base.specs.declared.request.MetaRequest.TheVariants as Ask
use Rattle.qfs_model_actor.specs.Command.{work_of}
use Rattle.qfs_model_actor.specs.Examples.{Exchange, Goes, small, path_a, zeros, with_five, meta, serve, fetches, block, key, put_command}

-- a grant of slot 0 of the file's block, in this version, on this server
abbrev pub first_slot_on : ℕ → ℕ → ℕ → List (Option Copy) → Granted
first_slot_on server version lease sources =
    record { block = block; slot = 0; version = version; server = server; life = 1; lease = lease; sources = sources; rows = 1 }

-- slot 0 is asked for, again after a failure, and its chunk is stored or not
abbrev pub tries : Bool → ℕ → ℕ → ChunkAnswer → List Exchange
tries again server version answer =
    meta (Ask.Grant 1 0 0 again) (Said.Granted (first_slot_on server version 0 (replicate 9 None)))
    ∷ serve server (Serve.Put (record { block = block; slot = 0; version = version }) 1 with_five) answer []
    ∷ []

-- two servers fail a chunk, and there is no third
abbrev pub PutFindsNoServer : Type 0
PutFindsNoServer =
    Goes (work_of small 1 put_command)
    (meta (Ask.Create path_a 1 5) (Said.Created 1 0)
    ∷ tries false 1 1 Did.Fault
    ++ tries true 2 2 (Did.Lost 1 2)
    ++ meta (Ask.Grant 1 0 0 true) (Said.NoServer block 0)
    ∷ meta (Ask.Abort 1) (Said.Done 1)
    ∷ [])
    (Report.PutNoServer 1 0 0)

-- the log fails in a grant, and the file is given up
abbrev pub PutGivesUp : Type 0
PutGivesUp =
    Goes (work_of small 1 put_command)
    (meta (Ask.Create path_a 1 5) (Said.Created 1 0)
    ∷ meta (Ask.Grant 1 0 0 false) Said.LogFault
    ∷ meta (Ask.Abort 1) (Said.Done 1)
    ∷ [])
    Report.LogFault

-- slot 0 alone is listed, on server 1
abbrev pub only_first : List (Option Copy)
only_first = Some (record { server = 1; life = 1; version = 1 }) ∷ replicate 8 None

-- a chunk is moved from server 1 to server 10
abbrev pub ChunkMoves : Type 0
ChunkMoves =
    Goes (work_of small 1 (Does.Move path_a 0 0 10))
    (meta (Ask.MoveAt path_a 0 0 10) (Said.Granted (first_slot_on 10 2 7 only_first))
    ∷ serve 1 (Serve.Fetch (key 0) 1 0 zeros) Did.Fetched with_five
    ∷ serve 10 (Serve.Put (record { block = block; slot = 0; version = 2 }) 1 with_five) Did.Stored []
    ∷ meta (Ask.Confirm block 0 2 7) Said.Confirmed
    ∷ [])
    (Report.Moved block 0 1 10 2)

-- the server that the chunk is moved from has been emptied
abbrev pub SourceWasEmptied : Type 0
SourceWasEmptied =
    Goes (work_of small 1 (Does.Rebalance 5))
    (meta Ask.BalanceNext (Said.Granted (first_slot_on 10 2 7 only_first))
    ∷ serve 1 (Serve.Fetch (key 0) 1 0 zeros) (Did.Lost 1 2) zeros
    ∷ meta (Ask.Abandon block 0 2 7) (Said.Done 2)
    ∷ [])
    (Report.Rebalanced 0 1)

-- slot 0 is made anew from slots 1 to 6, and stored on server 10
abbrev pub all_but_first : List (Option Copy)
all_but_first = None ∷ map (λ server. Some (record { server = server; life = 1; version = 1 })) (range_with_len 2 8)

abbrev pub ChunkIsRecovered : Type 0
ChunkIsRecovered =
    Goes (work_of small 1 (Does.Recover path_a 0 0))
    (meta (Ask.RecoverAt path_a 0 0) (Said.Granted (first_slot_on 10 2 7 all_but_first))
    ∷ fetches 1 Did.Fetched zeros
    ∷ fetches 2 Did.Fetched zeros
    ∷ fetches 3 Did.Fetched zeros
    ∷ fetches 4 Did.Fetched zeros
    ∷ fetches 5 Did.Fetched zeros
    ∷ fetches 6 Did.Fetched with_five
    ∷ serve 10 (Serve.Put (record { block = block; slot = 0; version = 2 }) 1 with_five) Did.Stored []
    ∷ meta (Ask.Confirm block 0 2 7) Said.Confirmed
    ∷ [])
    (Report.Recovered block 0 10 2)

-- of two condemned copies one is on a server that is down
abbrev pub condemned : ℕ → ℕ → Condemned
condemned number server =
    record { number = number; block = block; slot = 0; copy = record { server = server; life = 1; version = 1 } }

abbrev pub TwoAreSwept : Type 0
TwoAreSwept =
    Goes (work_of small 1 (Does.Sweep 5))
    (meta (Ask.OrderNext 0) (Said.Ordered (condemned 3 1) 20)
    ∷ serve 1 (Serve.Erase (key 0) 1) Did.Down []
    ∷ meta (Ask.OrderNext 3) (Said.Ordered (condemned 4 2) 21)
    ∷ serve 2 (Serve.Erase (key 0) 1) Did.Erased []
    ∷ meta (Ask.Swept 4) (Said.Done 2)
    ∷ meta (Ask.OrderNext 4) Said.Nothing
    ∷ [])
    (Report.Swept 1)

-- a server with one chunk leaves, and its copy count is asked in the end
abbrev pub ServerLeaves : Type 0
ServerLeaves =
    Goes (work_of small 1 (Does.Evacuate 1 9))
    (meta (Ask.Leave 1) (Said.Done 2)
    ∷ meta (Ask.EvacNext 1 None) (Said.Granted (first_slot_on 10 2 7 only_first))
    ∷ serve 1 (Serve.Fetch (key 0) 1 0 zeros) Did.Fetched with_five
    ∷ serve 10 (Serve.Put (record { block = block; slot = 0; version = 2 }) 1 with_five) Did.Stored []
    ∷ meta (Ask.Confirm block 0 2 7) Said.Confirmed
    ∷ meta (Ask.EvacNext 1 (Some (record { block = block; slot = 0 }))) Said.Nothing
    ∷ meta (Ask.LeftOn 1) (Said.Left 0)
    ∷ [])
    (Report.Evacuated 1 0 0)

-- a server comes back and tells its copies
abbrev pub ServerStarts : Type 0
ServerStarts =
    Goes (work_of small 1 (Does.Start 1))
    (serve 1 Serve.Start (Did.Started 1) []
    ∷ serve 1 Serve.Inventory (Did.Inventory 1 (key 0 ∷ [])) []
    ∷ meta (Ask.Hello 1 1 (key 0 ∷ [])) (Said.Done 2)
    ∷ [])
    (Report.Started 1)

-- a server is told to write the second version of chunk records, which it does where it is up
abbrev pub ServerUpgrades : Type 0
ServerUpgrades =
    Goes (work_of small 1 (Does.Upgrade 3)) (serve 3 Serve.Upgrade Did.Upgraded [] ∷ []) Report.Upgraded
    × Goes (work_of small 1 (Does.Upgrade 3)) (serve 3 Serve.Upgrade Did.Down [] ∷ []) Report.Down

pub record ServersFailAndChunksMove : Type 0 where
  pub no_server : PutFindsNoServer
  pub gives_up : PutGivesUp
  pub recovered : ChunkIsRecovered
  pub moves : ChunkMoves
  pub emptied : SourceWasEmptied
  pub swept : TwoAreSwept
  pub leaves : ServerLeaves
  pub starts : ServerStarts
  pub upgrades : ServerUpgrades
