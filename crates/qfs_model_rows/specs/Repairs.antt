-- Copies are recovered, moved and swept.
use Rattle.std.specs.Prelude.{◌≡◌, List, [], ◌∷◌, ◌++◌, codes, replicate, Some}
use Rattle.qfs_base.specs.declared.chunk.Copy.{Copy}
use Rattle.qfs_base.specs.declared.command.Command.{Command}
use Rattle.qfs_base.specs.declared.command.Command.TheVariants as Does
use Rattle.qfs_base.specs.declared.history.Step.{Step}
use Rattle.qfs_base.specs.declared.script.Script.{Script}
use Rattle.qfs_model_meta.specs.Slots.{slot_at}
use Rattle.qfs_model_server.specs.Server.{Copies}
use Rattle.qfs_model_world.specs.World.{after}
use Rattle.qfs_model_rows.specs.Prints.{Prints, Stores, one_copy}
use Rattle.qfs_model_rows.specs.Scripts.{path_of, path_a, put_hex, get_all, remove, put_one, one_byte, no_byte, small_script, steps, history_of_put}

-- a copy is moved during a get: the old one is deleted only after the get has released its lease
abbrev pub moved_in_get : Script
moved_in_get =
    small_script 10 (
    (put_one ∷ get_all path_a ∷ [])
    ∷ (Does.Move path_a 0 0 10 ∷ Does.Sweep 5 ∷ Does.Sweep 5 ∷ [])
    ∷ [])

abbrev pub moving_order : List Step
moving_order = steps 1 21 ++ steps 2 5 ++ steps 1 7 ++ steps 2 4

abbrev pub MovedDuringGet : Type 0
MovedDuringGet = Prints
    moved_in_get
    moving_order
    (codes "1 1 at 1 stored 1"
    ∷ codes "1 2 at 2 read 1 hex 01"
    ∷ codes "2 1 moved 1 0 0 from 1 to 10 version 2"
    ∷ codes "2 2 swept 0"
    ∷ codes "2 3 swept 1"
    ∷ codes "history 0 created 1 /a"
    ∷ codes "history 1 closed 1 by 1 1"
    ∷ codes "order 1x21 2x5 1x7 2x4"
    ∷ [])

-- a slot is recovered while its server is down, and what the server comes back with is swept
abbrev pub RecoveredThenBack : Type 0
RecoveredThenBack = Prints
    (small_script 10 ((
    put_one ∷ Does.Stop 1 ∷ Does.Recover path_a 0 0 ∷ Does.Start 1 ∷ Does.Sweep 5 ∷ get_all path_a ∷ []) ∷ []))
    (steps 1 46)
    (codes "1 1 at 1 stored 1"
    ∷ codes "1 2 stopped"
    ∷ codes "1 3 recovered 1 0 0 on 10 version 2"
    ∷ codes "1 4 started 1"
    ∷ codes "1 5 swept 1"
    ∷ codes "1 6 at 2 read 1 hex 01"
    ∷ history_of_put
    ++ codes "order 1x46"
    ∷ [])

-- a second recovery of a slot is refused while the first one runs
abbrev pub TwoRecoveries : Type 0
TwoRecoveries = Prints
    (small_script 10 (
    (put_one ∷ Does.Stop 1 ∷ Does.Recover path_a 0 0 ∷ []) ∷ (Does.Recover path_a 0 0 ∷ []) ∷ []))
    (steps 1 23 ++ steps 2 1 ++ steps 1 8)
    (codes "1 1 at 1 stored 1"
    ∷ codes "1 2 stopped"
    ∷ codes "1 3 recovered 1 0 0 on 10 version 2"
    ∷ codes "2 1 taken 2"
    ∷ history_of_put
    ++ codes "order 1x23 2x1 1x8"
    ∷ [])

-- a server is evacuated: with nine servers there is no other, with ten there is
abbrev pub put_and_evacuate : List Command
put_and_evacuate = put_one ∷ Does.Evacuate 1 10 ∷ []

pub record Evacuations : Type 0 where
  pub nine_servers : Prints (small_script 9 (put_and_evacuate ∷ [])) (steps 1 22)
      (codes "1 1 at 1 stored 1"
      ∷ codes "1 2 evacuated 0 failed 0 noserver 1 0 0"
      ∷ history_of_put
      ++ codes "order 1x22"
      ∷ [])
  pub ten_servers : Prints (small_script 10 (put_and_evacuate ∷ [])) (steps 1 27)
      (codes "1 1 at 1 stored 1"
      ∷ codes "1 2 evacuated 1 failed 0 left 0"
      ∷ history_of_put
      ++ codes "order 1x27"
      ∷ [])

-- the copies of a server that hibernates aren't missing before its reading of the clock
abbrev pub HealedAfterSleep : Type 0
HealedAfterSleep = Prints
    (small_script 10 ((
    put_one ∷ Does.Hibernate 1 2 ∷ Does.Heal 9 ∷ Does.Tick ∷ Does.Tick ∷ Does.Heal 9 ∷ []) ∷ []))
    (steps 1 35)
    (codes "1 1 at 1 stored 1"
    ∷ codes "1 2 hibernating until 2"
    ∷ codes "1 3 healed 0 failed 0"
    ∷ codes "1 4 clock 1"
    ∷ codes "1 5 clock 2"
    ∷ codes "1 6 healed 1 failed 0"
    ∷ history_of_put
    ++ codes "order 1x35"
    ∷ [])

-- a server that was down during two puts is given one of their copies
abbrev pub balanced : Script
balanced =
    small_script 10 ((
    Does.Stop 10
    ∷ put_one
    ∷ put_hex (path_of (codes "b")) (2 ∷ [])
    ∷ Does.Start 10
    ∷ Does.Rebalance 9
    ∷ []) ∷ [])

abbrev pub copy_on_ten : Copy
copy_on_ten = record { server = 10; life = 1; version = 2 }

pub record Balanced : Type 0 where
  pub prints : Prints balanced (steps 1 50)
      (codes "1 1 stopped"
      ∷ codes "1 2 at 1 stored 1"
      ∷ codes "1 3 at 3 stored 1"
      ∷ codes "1 4 started 1"
      ∷ codes "1 5 rebalanced 1 failed 0"
      ∷ codes "history 0 created 1 /a"
      ∷ codes "history 1 closed 1 by 1 2"
      ∷ codes "history 2 created 2 /b"
      ∷ codes "history 3 closed 2 by 1 3"
      ∷ codes "order 1x50"
      ∷ [])
  pub moved : (slot_at (after balanced (steps 1 50)).meta.slots (record { file = 1; index = 0 }) 0).current
      ≡ Some copy_on_ten

-- a file is removed during a get, whose copies are deleted once the get has released its lease: none is left
abbrev pub removed_during_get : Script
removed_during_get =
    small_script 9 (
    (put_one ∷ get_all path_a ∷ []) ∷ (remove path_a ∷ Does.Sweep 20 ∷ Does.Sweep 20 ∷ []) ∷ [])

abbrev pub removing_order : List Step
removing_order = steps 1 21 ++ steps 2 2 ++ steps 1 7 ++ steps 2 28

pub record RemovedDuringGet : Type 0 where
  pub prints : Prints removed_during_get removing_order
      (codes "1 1 at 1 stored 1"
      ∷ codes "1 2 at 2 read 1 hex 01"
      ∷ codes "2 1 at 2 done"
      ∷ codes "2 2 swept 0"
      ∷ codes "2 3 swept 9"
      ∷ history_of_put
      ++ codes "history 2 removed /a"
      ∷ codes "order 1x21 2x2 1x7 2x28"
      ∷ [])
  pub stores : Stores removed_during_get removing_order (replicate 9 [])

-- a server was emptied, and holds the slot anew once it is healed
abbrev pub healed : Script
healed = small_script 9 ((put_one ∷ Does.Wipe 3 ∷ Does.Heal 9 ∷ get_all path_a ∷ []) ∷ [])

abbrev pub healed_copies : List Copies
healed_copies =
    one_copy 0 1 one_byte
    ∷ one_copy 1 1 no_byte
    ∷ one_copy 2 2 no_byte
    ∷ one_copy 3 1 no_byte
    ∷ one_copy 4 1 no_byte
    ∷ one_copy 5 1 no_byte
    ∷ one_copy 6 1 one_byte
    ∷ one_copy 7 1 one_byte
    ∷ one_copy 8 1 one_byte
    ∷ []

pub record Healed : Type 0 where
  pub prints : Prints healed (steps 1 41)
      (codes "1 1 at 1 stored 1"
      ∷ codes "1 2 wiped 2"
      ∷ codes "1 3 healed 1 failed 0"
      ∷ codes "1 4 at 2 read 1 hex 01"
      ∷ history_of_put
      ++ codes "order 1x41"
      ∷ [])
  pub stores : Stores healed (steps 1 41) healed_copies

-- no copy is moved to a server that is down, or that has a copy of its block
abbrev pub BarredMoves : Type 0
BarredMoves = Prints
    (small_script 10 ((put_one ∷ Does.Stop 10 ∷ Does.Move path_a 0 0 10 ∷ Does.Move path_a 0 0 2 ∷ []) ∷ []))
    (steps 1 24)
    (codes "1 1 at 1 stored 1"
    ∷ codes "1 2 stopped"
    ∷ codes "1 3 barred 10"
    ∷ codes "1 4 barred 2"
    ∷ history_of_put
    ++ codes "order 1x24"
    ∷ [])
