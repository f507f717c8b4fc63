-- Servers that are upgraded to the second form of chunk records, and what their devices hold.
use Rattle.std.specs.Prelude.{◌≡◌, ℕ, List, [], ◌∷◌, ◌++◌, codes, map, replicate, Option, Some, None}
use Rattle.qfs_base.specs.declared.chunk.ChunkKey.{ChunkKey}
use Rattle.qfs_base.specs.declared.command.Command.TheVariants as Does
use Rattle.qfs_base.specs.declared.history.Step.{Step}
use Rattle.qfs_base.specs.declared.script.Script.{Script}
use Rattle.qfs_model_server.specs.Chunk.{Chunk}
use Rattle.qfs_model_server.specs.Server.{Server}
use Rattle.qfs_model_world.specs.World.{numbered, after}
use Rattle.qfs_record.specs.ChunkRecord.{chunk_record}
use Rattle.qfs_model_rows.specs.PlainPaths.{path_b, one_row}
use Rattle.qfs_model_rows.specs.Prints.{Prints}
use Rattle.qfs_model_rows.specs.Scripts.{path_a, put_hex, get_all, put_one, one_byte, small_script, steps, history_of_put}

-- the chunk records of the copies on a server, by key, under a layout of this stripe
unfoldable pub records_on : ℕ → Option Server → List (List ℕ)
records_on stripe None = []
records_on stripe (Some server) = map (λ (copy : ChunkKey × Chunk). chunk_record stripe copy.0 copy.1) server.copies

-- a server's device holds these chunk records behind an order
abbrev pub HoldsRecords : Script → List Step → ℕ → List (List ℕ) → Type 0
HoldsRecords script order number records =
    records_on script.layout.s (numbered (after script order).servers number) ≡ records

-- what the eighth device holds where a row of ones was put: the record of slot 7
abbrev pub EighthRecord : Type 0
EighthRecord = HoldsRecords one_row (steps 1 20) 8
    ((0x51 ∷ 0x46 ∷ 0x43 ∷ 0x31
    ∷ 0 ∷ 0 ∷ 0 ∷ 1
    ∷ 0 ∷ 0 ∷ 0 ∷ 0
    ∷ 7
    ∷ 0 ∷ 0 ∷ 0 ∷ 1
    ∷ 0 ∷ 0 ∷ 0 ∷ 0x10
    ∷ replicate 16 0x3f)
    ∷ [])

-- the record of slot 0 of a file in its first version, of the first form; and those of a version of it and of the second form,
-- which names the stripe
abbrev pub record_of_a : List ℕ
record_of_a =
    0x51 ∷ 0x46 ∷ 0x43 ∷ 0x31
    ∷ 0 ∷ 0 ∷ 0 ∷ 1
    ∷ 0 ∷ 0 ∷ 0 ∷ 0
    ∷ 0
    ∷ 0 ∷ 0 ∷ 0 ∷ 1
    ∷ 0 ∷ 0 ∷ 0 ∷ 0x10
    ∷ one_byte

abbrev pub second_record : ℕ → ℕ → List ℕ → List ℕ
second_record file version bytes =
    0x51 ∷ 0x46 ∷ 0x43 ∷ 0x32
    ∷ 0 ∷ 0 ∷ 0 ∷ file
    ∷ 0 ∷ 0 ∷ 0 ∷ 0
    ∷ 0
    ∷ 0 ∷ 0 ∷ 0 ∷ version
    ∷ 0 ∷ 0 ∷ 0 ∷ 0x10
    ∷ 0 ∷ 0 ∷ 0 ∷ 0x10
    ∷ bytes

-- a server is upgraded between two puts: the first one's record stays, and both are read
abbrev pub upgraded_between : Script
upgraded_between =
    small_script 9 ((
    put_one ∷ Does.Upgrade 1 ∷ put_hex path_b (2 ∷ []) ∷ get_all path_a ∷ get_all path_b ∷ []) ∷ [])

pub record UpgradedBetween : Type 0 where
  pub prints : Prints upgraded_between (steps 1 57)
      (codes "1 1 at 1 stored 1"
      ∷ codes "1 2 writes 2"
      ∷ codes "1 3 at 3 stored 1"
      ∷ codes "1 4 at 4 read 1 hex 01"
      ∷ codes "1 5 at 4 read 1 hex 02"
      ∷ history_of_put
      ++ codes "history 2 created 2 /b"
      ∷ codes "history 3 closed 2 by 1 3"
      ∷ codes "order 1x57"
      ∷ [])
  pub first : HoldsRecords upgraded_between (steps 1 57) 1
      (record_of_a ∷ second_record 2 1 (2 ∷ replicate 15 0) ∷ [])

-- a copy is moved onto a server that was upgraded, and is written there in the second form
abbrev pub moved_to_upgraded : Script
moved_to_upgraded = small_script 10 ((put_one ∷ Does.Upgrade 10 ∷ Does.Move path_a 0 0 10 ∷ []) ∷ [])

pub record MovedToUpgraded : Type 0 where
  pub prints : Prints moved_to_upgraded (steps 1 25)
      (codes "1 1 at 1 stored 1"
      ∷ codes "1 2 writes 2"
      ∷ codes "1 3 moved 1 0 0 from 1 to 10 version 2"
      ∷ history_of_put
      ++ codes "order 1x25"
      ∷ [])
  pub old : HoldsRecords moved_to_upgraded (steps 1 25) 1 (record_of_a ∷ [])
  pub new : HoldsRecords moved_to_upgraded (steps 1 25) 10 (second_record 1 2 one_byte ∷ [])
