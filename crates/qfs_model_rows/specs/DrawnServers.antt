-- Runs of drawn orders, about servers that go and come. Their texts were worked out with another program.
use Rattle.std.specs.Prelude.{List, [], ◌∷◌, codes, None, true, false}
use Rattle.qfs_base.specs.declared.command.Command.TheVariants as Does
use Rattle.qfs_base.specs.declared.command.FileCommand.TheVariants as File
use Rattle.qfs_base.specs.declared.history.Step.{Step}
use Rattle.qfs_base.specs.declared.script.Script.{Script}
use Rattle.qfs_model_rows.specs.Prints.{PrintsDrawn}
use Rattle.qfs_model_rows.specs.Scripts.{put_hex, put_fill, put_pattern, get_all, get_range, remove, taken}

-- servers that hibernate and come back
abbrev pub sleeping_servers : Script
sleeping_servers = record {
  layout = record { s = 16; r = 2 };
  servers = 21;
  term = 0;
  audit = true;
  phases = ((Does.File (File.Mkdir (codes "d" ∷ []))
      ∷ put_pattern (codes "a." ∷ []) 7 7
      ∷ put_pattern (codes "c" ∷ []) 0 97
      ∷ put_hex (codes "d" ∷ codes "!x" ∷ []) (224 ∷ 18 ∷ 11 ∷ 5 ∷ 25 ∷ 186 ∷ 114 ∷ 9 ∷ 142 ∷ 54 ∷ 100 ∷ 152 ∷ 146 ∷ [])
      ∷ [])
      ∷ [])
      ∷ ((Does.Hibernate 17 1
      ∷ [])
      ∷ (Does.Checkpoint
      ∷ Does.File (File.Rename (codes "c" ∷ []) (codes "e" ∷ []))
      ∷ Does.Recover (codes "a." ∷ []) 0 6
      ∷ Does.Hibernate 3 1
      ∷ Does.Hibernate 3 1
      ∷ [])
      ∷ (Does.Start 17
      ∷ Does.Recover (codes "a." ∷ []) 0 1
      ∷ Does.File (File.Rename (codes "d" ∷ codes "!x" ∷ []) (codes "d" ∷ []))
      ∷ [])
      ∷ (Does.Hibernate 17 1
      ∷ Does.Checkpoint
      ∷ Does.Drop 3
      ∷ Does.Hibernate 3 1
      ∷ Does.Drop 6
      ∷ [])
      ∷ (Does.File (File.Rename (codes "e" ∷ []) (codes "c" ∷ []))
      ∷ Does.Hibernate 3 1
      ∷ [])
      ∷ [])
      ∷ [];
  order = None;
}

abbrev pub order_of_sleeping_servers : List Step
order_of_sleeping_servers = taken (
    (1, 61) ∷ (4, 2) ∷ (2, 1) ∷ (3, 1) ∷ (2, 1) ∷ (3, 1) ∷ (4, 1) ∷ (3, 1) ∷ (4, 1) ∷ (5, 2) ∷ (3, 1) ∷ (6, 1)
    ∷ (4, 1) ∷ (3, 2) ∷ (6, 1) ∷ (5, 4)
    ∷ [])

abbrev pub SleepingServers : Type 0
SleepingServers = PrintsDrawn 50008 sleeping_servers order_of_sleeping_servers
    (codes "1 1 at 0 done"
    ∷ codes "1 2 at 2 stored 7"
    ∷ codes "1 3 at 4 stored 97"
    ∷ codes "1 4 at 6 stored 13"
    ∷ codes "2 1 hibernating until 1"
    ∷ codes "3 1 saved 35"
    ∷ codes "3 2 at 7 done"
    ∷ codes "3 3 whole"
    ∷ codes "3 4 hibernating until 1"
    ∷ codes "3 5 notup"
    ∷ codes "4 1 started 1"
    ∷ codes "4 2 whole"
    ∷ codes "4 3 at 9 exists"
    ∷ codes "5 1 hibernating until 1"
    ∷ codes "5 2 saved 40"
    ∷ codes "5 3 done"
    ∷ codes "5 4 notup"
    ∷ codes "5 5 done"
    ∷ codes "6 1 at 8 done"
    ∷ codes "6 2 notup"
    ∷ codes "history 0 mkdir /d"
    ∷ codes "history 1 created 1 /a."
    ∷ codes "history 2 closed 1 by 1 2"
    ∷ codes "history 3 created 2 /c"
    ∷ codes "history 4 closed 2 by 1 3"
    ∷ codes "history 5 created 3 /d/!x"
    ∷ codes "history 6 closed 3 by 1 4"
    ∷ codes "history 7 renamed /c /e"
    ∷ codes "history 8 renamed /e /c"
    ∷ codes "audit /a. 0 rrrrrrrrr"
    ∷ codes "audit /c 0 rrrrrrrrr"
    ∷ codes "audit /d/!x 0 rrrrrrrrr"
    ∷ codes "summary files 3 dirs 1 blocks 3 copies 27 condemned 0 steps 82"
    ∷ codes "order 1x61 4x2 2x1 3x1 2x1 3x1 4x1 3x1 4x1 5x2 3x1 6x1 4x1 3x2 6x1 5x4"
    ∷ [])

-- a get opens its file as often as it may, and finds too few copies each time
abbrev pub opened_nine_times : Script
opened_nine_times = record {
  layout = record { s = 32; r = 4 };
  servers = 10;
  term = 0;
  audit = true;
  phases = ((Does.Stop 1
      ∷ Does.Sweep 20
      ∷ [])
      ∷ (Does.File (File.Rename [] (codes "d" ∷ []))
      ∷ get_all (codes "d." ∷ [])
      ∷ [])
      ∷ [])
      ∷ ((put_fill (codes "e" ∷ []) 184 484
      ∷ Does.Sweep 9
      ∷ Does.Rebalance 100000
      ∷ Does.Tick
      ∷ Does.Recover (codes "d" ∷ []) 2 6
      ∷ get_range (codes "d." ∷ []) 768 192
      ∷ Does.File (File.Mkdir (codes "e" ∷ []))
      ∷ Does.Rebalance 100000
      ∷ Does.Stop 7
      ∷ Does.Recover (codes "e" ∷ codes "b" ∷ []) 0 6
      ∷ get_range (codes "d" ∷ codes "e" ∷ codes "!x" ∷ []) 1 2303
      ∷ Does.Tick
      ∷ [])
      ∷ (get_range (codes "d" ∷ []) 0 1689
      ∷ put_fill (codes "d" ∷ codes "e" ∷ codes "!x" ∷ []) 212 34
      ∷ put_hex (codes "e" ∷ []) (166 ∷ [])
      ∷ get_all (codes "d" ∷ codes "e" ∷ codes "!x" ∷ [])
      ∷ Does.File (File.List (codes "d" ∷ []))
      ∷ Does.Recover (codes "d." ∷ []) 0 0
      ∷ Does.Stop 8
      ∷ Does.Restart
      ∷ get_all (codes "d" ∷ codes "e" ∷ codes "!x" ∷ [])
      ∷ Does.Checkpoint
      ∷ Does.Sweep 9
      ∷ get_all (codes "d." ∷ [])
      ∷ get_all (codes "d." ∷ [])
      ∷ Does.Rebalance 1
      ∷ Does.File (File.List [])
      ∷ get_range (codes "e" ∷ codes "b" ∷ []) 1 192
      ∷ [])
      ∷ (put_fill (codes "e" ∷ codes "b" ∷ []) 109 252
      ∷ put_hex (codes "e" ∷ codes "b" ∷ []) (169 ∷ [])
      ∷ Does.Stop 1
      ∷ Does.Stop 2
      ∷ [])
      ∷ (Does.Start 1
      ∷ Does.Move (codes "e" ∷ codes "b" ∷ []) 2 1 7
      ∷ Does.Heal 100000
      ∷ Does.Wipe 7
      ∷ get_range (codes "d" ∷ codes "e" ∷ codes "!x" ∷ []) 768 744
      ∷ Does.Rebalance 2
      ∷ Does.Heal 100000
      ∷ Does.File (File.Rename (codes "d" ∷ codes "e" ∷ codes "!x" ∷ []) (codes "e" ∷ []))
      ∷ get_all (codes "e" ∷ codes "b" ∷ [])
      ∷ get_all (codes "d" ∷ codes "e" ∷ codes "!x" ∷ [])
      ∷ get_range (codes "d" ∷ codes "e" ∷ codes "!x" ∷ []) 1 0
      ∷ Does.Recover (codes "e" ∷ codes "b" ∷ []) 0 0
      ∷ get_range (codes "e" ∷ []) 0 192
      ∷ get_all (codes "e" ∷ codes "b" ∷ [])
      ∷ get_all (codes "e" ∷ codes "b" ∷ [])
      ∷ Does.File (File.Mkdir (codes "d" ∷ codes "e" ∷ []))
      ∷ [])
      ∷ []
      ∷ [])
      ∷ [];
  order = None;
}

abbrev pub order_of_opened_nine_times : List Step
order_of_opened_nine_times = taken (
    (2, 2) ∷ (1, 3) ∷ (3, 2) ∷ (6, 4) ∷ (5, 1) ∷ (6, 2) ∷ (3, 2) ∷ (4, 1) ∷ (3, 1) ∷ (6, 1) ∷ (3, 1) ∷ (5, 1)
    ∷ (3, 2) ∷ (5, 1) ∷ (6, 1) ∷ (5, 1) ∷ (6, 1) ∷ (5, 1) ∷ (3, 1) ∷ (5, 1) ∷ (4, 1) ∷ (3, 2) ∷ (6, 1) ∷ (3, 3)
    ∷ (4, 1) ∷ (6, 1) ∷ (3, 1) ∷ (4, 2) ∷ (3, 2) ∷ (4, 2) ∷ (6, 2) ∷ (3, 2) ∷ (4, 1) ∷ (3, 4) ∷ (6, 5) ∷ (3, 1)
    ∷ (6, 1) ∷ (3, 4) ∷ (4, 1) ∷ (6, 1) ∷ (3, 1) ∷ (4, 2) ∷ (6, 2) ∷ (4, 1) ∷ (3, 2) ∷ (4, 2) ∷ (6, 1) ∷ (3, 1)
    ∷ (6, 1) ∷ (4, 1) ∷ (6, 2) ∷ (4, 2) ∷ (6, 16)
    ∷ [])

abbrev pub OpenedNineTimes : Type 0
OpenedNineTimes = PrintsDrawn 50020 opened_nine_times order_of_opened_nine_times
    (codes "1 1 stopped"
    ∷ codes "1 2 swept 0"
    ∷ codes "2 1 at 0 intoself"
    ∷ codes "2 2 at 0 missing"
    ∷ codes "3 1 at 1 stored 484"
    ∷ codes "3 2 swept 0"
    ∷ codes "3 3 rebalanced 0 failed 0"
    ∷ codes "3 4 clock 1"
    ∷ codes "3 5 missing"
    ∷ codes "3 6 at 2 missing"
    ∷ codes "3 7 at 2 exists"
    ∷ codes "3 8 rebalanced 0 failed 0"
    ∷ codes "3 9 stopped"
    ∷ codes "3 10 notdir"
    ∷ codes "3 11 at 2 missing"
    ∷ codes "3 12 clock 2"
    ∷ codes "4 1 at 1 missing"
    ∷ codes "4 2 at 1 noparent"
    ∷ codes "4 3 at 1 exists"
    ∷ codes "4 4 at 1 missing"
    ∷ codes "4 5 at 1 missing"
    ∷ codes "4 6 missing"
    ∷ codes "4 7 stopped"
    ∷ codes "4 8 restarted 19"
    ∷ codes "4 9 at 2 missing"
    ∷ codes "4 10 saved 20"
    ∷ codes "4 11 swept 0"
    ∷ codes "4 12 at 2 missing"
    ∷ codes "4 13 at 2 missing"
    ∷ codes "4 14 rebalanced 0 failed 0"
    ∷ codes "4 15 at 2 list 1 e"
    ∷ codes "4 16 at 2 notdir"
    ∷ codes "5 1 at 1 notdir"
    ∷ codes "5 2 at 1 notdir"
    ∷ codes "5 3 stopped"
    ∷ codes "5 4 stopped"
    ∷ codes "6 1 started 1"
    ∷ codes "6 2 notdir"
    ∷ codes "6 3 healed 0 failed 0"
    ∷ codes "6 4 wiped 2"
    ∷ codes "6 5 at 1 missing"
    ∷ codes "6 6 rebalanced 0 failed 0"
    ∷ codes "6 7 healed 0 failed 0"
    ∷ codes "6 8 at 1 missing"
    ∷ codes "6 9 at 1 notdir"
    ∷ codes "6 10 at 2 missing"
    ∷ codes "6 11 at 2 missing"
    ∷ codes "6 12 notdir"
    ∷ codes "6 13 at 2 toofew 0 0:unlisted 1:unlisted 6:unlisted 7:unlisted"
    ∷ codes "6 14 at 2 notdir"
    ∷ codes "6 15 at 2 notdir"
    ∷ codes "6 16 at 2 noparent"
    ∷ codes "history 0 created 1 /e"
    ∷ codes "history 1 closed 1 by 3 1"
    ∷ codes "audit /e 0 rrrrrrrrr"
    ∷ codes "summary files 1 dirs 0 blocks 1 copies 9 condemned 0 steps 102"
    ∷ codes "order 2x2 1x3 3x2 6x4 5x1 6x2 3x2 4x1 3x1 6x1 3x1 5x1 3x2 5x1 6x1 5x1 6x1 5x1 3x1 5x1 4x1 3x2 6x1 3x3 4x1 6x1 3x1 4x2 3x2 4x2 6x2 3x2 4x1 3x4 6x5 3x1 6x1 3x4 4x1 6x1 3x1 4x2 6x2 4x1 3x2 4x2 6x1 3x1 6x1 4x1 6x2 4x2 6x16"
    ∷ [])

-- a copy is moved, and another recovered
abbrev pub moved_and_recovered : Script
moved_and_recovered = record {
  layout = record { s = 32; r = 4 };
  servers = 24;
  term = 0;
  audit = true;
  phases = ((Does.File (File.Mkdir (codes ".d" ∷ []))
      ∷ Does.File (File.Mkdir (codes "d" ∷ []))
      ∷ Does.File (File.Mkdir (codes "e" ∷ []))
      ∷ put_pattern (codes "d" ∷ codes "~" ∷ []) 1774066286 27
      ∷ put_hex (codes "d." ∷ []) (197 ∷ 21 ∷ 149 ∷ 233 ∷ 235 ∷ [])
      ∷ put_fill (codes "e" ∷ codes "~" ∷ []) 130 9
      ∷ [])
      ∷ [])
      ∷ ((Does.Heal 9
      ∷ Does.File (File.Rename (codes "e" ∷ codes "~" ∷ []) (codes "e" ∷ []))
      ∷ Does.Wipe 7
      ∷ Does.Wipe 1
      ∷ [])
      ∷ (Does.Rebalance 2
      ∷ Does.Move (codes "e" ∷ codes "~" ∷ []) 0 3 22
      ∷ put_hex (codes "e" ∷ codes "~" ∷ []) (198 ∷ [])
      ∷ Does.Tick
      ∷ Does.Sweep 1
      ∷ get_all (codes "d." ∷ [])
      ∷ put_pattern (codes "d." ∷ []) 219856980 0
      ∷ Does.Move (codes "e" ∷ codes "~" ∷ []) 0 8 9
      ∷ put_fill (codes "e" ∷ codes "~" ∷ []) 20 1252
      ∷ [])
      ∷ (Does.Rebalance 1
      ∷ Does.Wipe 12
      ∷ [])
      ∷ [])
      ∷ ((Does.Recover (codes "d." ∷ []) 0 2
      ∷ Does.Start 21
      ∷ Does.Wipe 7
      ∷ remove (codes "d" ∷ codes "~" ∷ [])
      ∷ Does.Move (codes "d" ∷ codes "~" ∷ []) 0 4 15
      ∷ get_all (codes "e" ∷ codes "~" ∷ [])
      ∷ Does.Stop 20
      ∷ Does.Stop 9
      ∷ Does.Stop 9
      ∷ [])
      ∷ [])
      ∷ [];
  order = None;
}

abbrev pub order_of_moved_and_recovered : List Step
order_of_moved_and_recovered = taken (
    (1, 63) ∷ (4, 2) ∷ (3, 1) ∷ (4, 1) ∷ (3, 1) ∷ (2, 1) ∷ (3, 2) ∷ (4, 1) ∷ (3, 3) ∷ (2, 1) ∷ (3, 2) ∷ (2, 1)
    ∷ (3, 1) ∷ (2, 2) ∷ (3, 2) ∷ (2, 3) ∷ (3, 7) ∷ (5, 31)
    ∷ [])

abbrev pub MovedAndRecovered : Type 0
MovedAndRecovered = PrintsDrawn 50030 moved_and_recovered order_of_moved_and_recovered
    (codes "1 1 at 0 done"
    ∷ codes "1 2 at 1 done"
    ∷ codes "1 3 at 2 done"
    ∷ codes "1 4 at 4 stored 27"
    ∷ codes "1 5 at 6 stored 5"
    ∷ codes "1 6 at 8 stored 9"
    ∷ codes "2 1 healed 0 failed 0"
    ∷ codes "2 2 at 9 exists"
    ∷ codes "2 3 wiped 2"
    ∷ codes "2 4 wiped 2"
    ∷ codes "3 1 rebalanced 0 failed 0"
    ∷ codes "3 2 barred 22"
    ∷ codes "3 3 at 9 exists"
    ∷ codes "3 4 clock 1"
    ∷ codes "3 5 swept 0"
    ∷ codes "3 6 at 9 read 5 hex c51595e9eb"
    ∷ codes "3 7 at 9 exists"
    ∷ codes "3 8 moved 3 0 8 from 3 to 9 version 2"
    ∷ codes "3 9 at 9 exists"
    ∷ codes "4 1 rebalanced 0 failed 0"
    ∷ codes "4 2 wiped 2"
    ∷ codes "5 1 recovered 2 0 2 on 1 version 2"
    ∷ codes "5 2 started 1"
    ∷ codes "5 3 wiped 3"
    ∷ codes "5 4 at 9 done"
    ∷ codes "5 5 missing"
    ∷ codes "5 6 at 10 read 9 hex 828282828282828282"
    ∷ codes "5 7 stopped"
    ∷ codes "5 8 stopped"
    ∷ codes "5 9 stopped"
    ∷ codes "history 0 mkdir /.d"
    ∷ codes "history 1 mkdir /d"
    ∷ codes "history 2 mkdir /e"
    ∷ codes "history 3 created 1 /d/~"
    ∷ codes "history 4 closed 1 by 1 4"
    ∷ codes "history 5 created 2 /d."
    ∷ codes "history 6 closed 2 by 1 5"
    ∷ codes "history 7 created 3 /e/~"
    ∷ codes "history 8 closed 3 by 1 6"
    ∷ codes "history 9 removed /d/~"
    ∷ codes "audit /d. 0 rrrrrrrrr"
    ∷ codes "audit /e/~ 0 rrrrrrxrr"
    ∷ codes "summary files 2 dirs 3 blocks 2 copies 18 condemned 8 steps 125"
    ∷ codes "order 1x63 4x2 3x1 4x1 3x1 2x1 3x2 4x1 3x3 2x1 3x2 2x1 3x1 2x2 3x2 2x3 3x7 5x31"
    ∷ [])

-- evacuations and a heal that find no server
abbrev pub no_spare_server : Script
no_spare_server = record {
  layout = record { s = 32; r = 4 };
  servers = 9;
  term = 0;
  audit = true;
  phases = ((Does.File (File.Mkdir (codes "e" ∷ []))
      ∷ put_hex (codes "d." ∷ []) (115 ∷ 145 ∷ [])
      ∷ put_pattern (codes "e" ∷ codes "~" ∷ []) 4294967295 59
      ∷ put_fill (codes "b" ∷ []) 33 193
      ∷ put_pattern (codes "e" ∷ codes "b" ∷ []) 0 26
      ∷ [])
      ∷ [])
      ∷ ((get_all (codes "d." ∷ [])
      ∷ Does.Hibernate 5 1
      ∷ Does.Start 5
      ∷ Does.Stop 5
      ∷ [])
      ∷ (Does.Drop 1
      ∷ [])
      ∷ (Does.Evacuate 5 9
      ∷ get_all (codes "d." ∷ [])
      ∷ Does.Evacuate 6 2
      ∷ get_range (codes "d." ∷ []) 767 268435456
      ∷ Does.Sweep 1
      ∷ Does.File (File.Rename (codes "e" ∷ []) (codes "e" ∷ codes "b" ∷ []))
      ∷ Does.Heal 2
      ∷ [])
      ∷ [])
      ∷ ((Does.Stop 5
      ∷ Does.Recover (codes "d." ∷ []) 0 3
      ∷ put_hex (codes "d." ∷ []) (120 ∷ [])
      ∷ get_range (codes "d." ∷ []) 767 1
      ∷ Does.Heal 9
      ∷ [])
      ∷ (Does.File (File.List [])
      ∷ Does.File (File.List [])
      ∷ Does.File (File.List [])
      ∷ Does.File (File.List [])
      ∷ Does.File (File.List [])
      ∷ Does.Drop 5
      ∷ Does.Rebalance 9
      ∷ Does.Sweep 20
      ∷ [])
      ∷ (Does.Rebalance 9
      ∷ Does.Sweep 20
      ∷ Does.Sweep 20
      ∷ [])
      ∷ [])
      ∷ [];
  order = None;
}

abbrev pub order_of_no_spare_server : List Step
order_of_no_spare_server = taken (
    (1, 81) ∷ (2, 1) ∷ (3, 1) ∷ (4, 2) ∷ (2, 2) ∷ (4, 3) ∷ (2, 1) ∷ (4, 2) ∷ (2, 1) ∷ (4, 1) ∷ (2, 3) ∷ (4, 2)
    ∷ (2, 4) ∷ (4, 4) ∷ (2, 3) ∷ (4, 3) ∷ (5, 1) ∷ (7, 1) ∷ (5, 1) ∷ (7, 2) ∷ (5, 1) ∷ (6, 2) ∷ (5, 1) ∷ (6, 1)
    ∷ (5, 2) ∷ (6, 1) ∷ (5, 1) ∷ (6, 4)
    ∷ [])

abbrev pub NoSpareServer : Type 0
NoSpareServer = PrintsDrawn 50035 no_spare_server order_of_no_spare_server
    (codes "1 1 at 0 done"
    ∷ codes "1 2 at 2 stored 2"
    ∷ codes "1 3 at 4 stored 59"
    ∷ codes "1 4 at 6 stored 193"
    ∷ codes "1 5 at 8 stored 26"
    ∷ codes "2 1 at 9 read 2 hex 7391"
    ∷ codes "2 2 hibernating until 1"
    ∷ codes "2 3 started 1"
    ∷ codes "2 4 stopped"
    ∷ codes "3 1 done"
    ∷ codes "4 1 evacuated 0 failed 0 noserver 1 0 4"
    ∷ codes "4 2 at 9 read 2 hex 7391"
    ∷ codes "4 3 evacuated 0 failed 0 noserver 1 0 5"
    ∷ codes "4 4 at 9 read 0"
    ∷ codes "4 5 swept 0"
    ∷ codes "4 6 at 9 intoself"
    ∷ codes "4 7 healed 0 failed 0 noserver 1 0 4"
    ∷ codes "5 1 stopped"
    ∷ codes "5 2 whole"
    ∷ codes "5 3 at 9 exists"
    ∷ codes "5 4 at 9 read 0"
    ∷ codes "5 5 healed 0 failed 0 noserver 1 0 4"
    ∷ codes "6 1 at 9 list 3 b d. e/"
    ∷ codes "6 2 at 9 list 3 b d. e/"
    ∷ codes "6 3 at 9 list 3 b d. e/"
    ∷ codes "6 4 at 9 list 3 b d. e/"
    ∷ codes "6 5 at 9 list 3 b d. e/"
    ∷ codes "6 6 done"
    ∷ codes "6 7 rebalanced 0 failed 0"
    ∷ codes "6 8 swept 0"
    ∷ codes "7 1 rebalanced 0 failed 0"
    ∷ codes "7 2 swept 0"
    ∷ codes "7 3 swept 0"
    ∷ codes "history 0 mkdir /e"
    ∷ codes "history 1 created 1 /d."
    ∷ codes "history 2 closed 1 by 1 2"
    ∷ codes "history 3 created 2 /e/~"
    ∷ codes "history 4 closed 2 by 1 3"
    ∷ codes "history 5 created 3 /b"
    ∷ codes "history 6 closed 3 by 1 4"
    ∷ codes "history 7 created 4 /e/b"
    ∷ codes "history 8 closed 4 by 1 5"
    ∷ codes "audit /d. 0 rrrrrrrrr"
    ∷ codes "audit /e/~ 0 rrrrrrrrr"
    ∷ codes "audit /b 0 rrrrrrrrr"
    ∷ codes "audit /e/b 0 rrrrrrrrr"
    ∷ codes "summary files 4 dirs 1 blocks 4 copies 36 condemned 0 steps 132"
    ∷ codes "order 1x81 2x1 3x1 4x2 2x2 4x3 2x1 4x2 2x1 4x1 2x3 4x2 2x4 4x4 2x3 4x3 5x1 7x1 5x1 7x2 5x1 6x2 5x1 6x1 5x2 6x1 5x1 6x4"
    ∷ [])

-- puts that find no server, and an actor that is dropped
abbrev pub dropped_between : Script
dropped_between = record {
  layout = record { s = 16; r = 1 };
  servers = 9;
  term = 0;
  audit = false;
  phases = ((Does.File (File.Mkdir (codes ".d" ∷ []))
      ∷ Does.File (File.Mkdir (codes "d" ∷ []))
      ∷ Does.File (File.Mkdir (codes "e" ∷ []))
      ∷ Does.Stop 2
      ∷ Does.Stop 9
      ∷ put_hex (codes "e" ∷ codes "b" ∷ []) (235 ∷ 21 ∷ 34 ∷ 199 ∷ 167 ∷ 146 ∷ 59 ∷ 42 ∷ 219 ∷ 82 ∷ 126 ∷ 56 ∷ 176 ∷ 77 ∷ 147 ∷ 204 ∷ 163 ∷ 211 ∷ 125 ∷ 34 ∷ 161 ∷ 175 ∷ 147 ∷ 95 ∷ 90 ∷ [])
      ∷ put_pattern (codes "d" ∷ codes "a" ∷ []) 4294967295 116
      ∷ put_hex (codes "A" ∷ []) (155 ∷ 35 ∷ 0 ∷ 30 ∷ 95 ∷ 152 ∷ 146 ∷ 61 ∷ 204 ∷ 156 ∷ 55 ∷ 223 ∷ 122 ∷ 25 ∷ 189 ∷ 212 ∷ 9 ∷ 23 ∷ [])
      ∷ put_pattern (codes ".d" ∷ codes "a" ∷ []) 0 20
      ∷ put_hex (codes "d" ∷ codes "!x" ∷ []) (147 ∷ 147 ∷ 87 ∷ [])
      ∷ put_pattern (codes "a." ∷ []) 1305801443 96
      ∷ [])
      ∷ [])
      ∷ ((Does.Wipe 2
      ∷ Does.Evacuate 2 20
      ∷ put_pattern (codes ".d" ∷ codes "a" ∷ []) 2653991567 53
      ∷ [])
      ∷ (Does.File (File.List [])
      ∷ Does.File (File.List [])
      ∷ Does.Drop 2
      ∷ Does.Heal 9
      ∷ get_all (codes "d" ∷ codes "!x" ∷ [])
      ∷ [])
      ∷ (get_all (codes "d" ∷ codes "!x" ∷ [])
      ∷ Does.Heal 9
      ∷ Does.Rebalance 9
      ∷ [])
      ∷ [])
      ∷ [];
  order = None;
}

abbrev pub order_of_dropped_between : List Step
order_of_dropped_between = taken (
    (1, 109) ∷ (3, 4) ∷ (2, 1) ∷ (4, 1) ∷ (2, 1) ∷ (3, 1) ∷ (4, 2) ∷ (2, 2)
    ∷ [])

abbrev pub DroppedBetween : Type 0
DroppedBetween = PrintsDrawn 50036 dropped_between order_of_dropped_between
    (codes "1 1 at 0 done"
    ∷ codes "1 2 at 1 done"
    ∷ codes "1 3 at 2 done"
    ∷ codes "1 4 stopped"
    ∷ codes "1 5 stopped"
    ∷ codes "1 6 at 4 noserver 0 7"
    ∷ codes "1 7 at 6 noserver 0 7"
    ∷ codes "1 8 at 8 noserver 0 7"
    ∷ codes "1 9 at 10 noserver 0 7"
    ∷ codes "1 10 at 12 noserver 0 7"
    ∷ codes "1 11 at 14 noserver 0 7"
    ∷ codes "2 1 wiped 2"
    ∷ codes "2 2 dropped 59"
    ∷ codes "2 3 dropped 59"
    ∷ codes "3 1 at 15 list 3 .d/ d/ e/"
    ∷ codes "3 2 at 15 list 3 .d/ d/ e/"
    ∷ codes "3 3 done"
    ∷ codes "3 4 healed 0 failed 0"
    ∷ codes "3 5 at 15 missing"
    ∷ codes "4 1 at 15 missing"
    ∷ codes "4 2 healed 0 failed 0"
    ∷ codes "4 3 rebalanced 0 failed 0"
    ∷ codes "history 0 mkdir /.d"
    ∷ codes "history 1 mkdir /d"
    ∷ codes "history 2 mkdir /e"
    ∷ codes "history 3 created 1 /e/b"
    ∷ codes "history 4 aborted 1"
    ∷ codes "history 5 created 2 /d/a"
    ∷ codes "history 6 aborted 2"
    ∷ codes "history 7 created 3 /A"
    ∷ codes "history 8 aborted 3"
    ∷ codes "history 9 created 4 /.d/a"
    ∷ codes "history 10 aborted 4"
    ∷ codes "history 11 created 5 /d/!x"
    ∷ codes "history 12 aborted 5"
    ∷ codes "history 13 created 6 /a."
    ∷ codes "history 14 aborted 6"
    ∷ codes "order 1x109 3x4 2x1 4x1 2x1 3x1 4x2 2x2"
    ∷ [])
