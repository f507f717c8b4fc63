-- Runs of drawn orders, about files and names. Their texts were worked out with another program.
use Rattle.std.specs.Prelude.{List, [], ◌∷◌, codes, None, true, false, ◌++◌, replicate}
use Rattle.qfs_base.specs.declared.command.Command.TheVariants as Does
use Rattle.qfs_base.specs.declared.command.FileCommand.TheVariants as File
use Rattle.qfs_base.specs.declared.history.Step.{Step}
use Rattle.qfs_base.specs.declared.script.Script.{Script}
use Rattle.qfs_model_rows.specs.Prints.{PrintsDrawn}
use Rattle.qfs_model_rows.specs.Scripts.{put_hex, put_fill, put_pattern, get_all, get_range, remove, taken}

-- gets of what is there and what isn't; a server is emptied twice
abbrev pub short_of_names : Script
short_of_names = record {
  layout = record { s = 16; r = 1 };
  servers = 10;
  term = 0;
  audit = true;
  phases = ((get_range (codes "b" ∷ []) 218 243
      ∷ get_all (codes ".d" ∷ codes "!x" ∷ [])
      ∷ remove (codes "b" ∷ [])
      ∷ get_range (codes "b" ∷ []) 166 0
      ∷ [])
      ∷ (Does.File (File.List (codes ".d" ∷ codes "~" ∷ []))
      ∷ put_hex (codes "a" ∷ []) (104 ∷ 205 ∷ [])
      ∷ [])
      ∷ (Does.Heal 1
      ∷ get_range (codes ".d" ∷ codes "~" ∷ []) 95 268435456
      ∷ [])
      ∷ [])
      ∷ ((get_range (codes "a" ∷ []) 1 275
      ∷ Does.File (File.Rename (codes "b" ∷ []) (codes ".d" ∷ codes "~" ∷ []))
      ∷ Does.Tick
      ∷ Does.Wipe 4
      ∷ Does.Wipe 4
      ∷ Does.Stop 2
      ∷ [])
      ∷ []
      ∷ [])
      ∷ [];
  order = None;
}

abbrev pub order_of_short_of_names : List Step
order_of_short_of_names = taken (
    (1, 3) ∷ (2, 1) ∷ (1, 1) ∷ (3, 2) ∷ (2, 20) ∷ (4, 18)
    ∷ [])

abbrev pub ShortOfNames : Type 0
ShortOfNames = PrintsDrawn 50009 short_of_names order_of_short_of_names
    (codes "1 1 at 0 missing"
    ∷ codes "1 2 at 0 missing"
    ∷ codes "1 3 at 0 missing"
    ∷ codes "1 4 at 0 missing"
    ∷ codes "2 1 at 0 missing"
    ∷ codes "2 2 at 1 stored 2"
    ∷ codes "3 1 healed 0 failed 0"
    ∷ codes "3 2 at 0 missing"
    ∷ codes "4 1 at 2 read 1 hex cd"
    ∷ codes "4 2 at 2 missing"
    ∷ codes "4 3 clock 1"
    ∷ codes "4 4 wiped 2"
    ∷ codes "4 5 wiped 3"
    ∷ codes "4 6 stopped"
    ∷ codes "history 0 created 1 /a"
    ∷ codes "history 1 closed 1 by 2 2"
    ∷ codes "audit /a 0 rrrxrrrrr"
    ∷ codes "summary files 1 dirs 0 blocks 1 copies 9 condemned 0 steps 45"
    ∷ codes "order 1x3 2x1 1x1 3x2 2x20 4x18"
    ∷ [])

-- a file of three blocks among empty ones
abbrev pub three_blocks : Script
three_blocks = record {
  layout = record { s = 16; r = 3 };
  servers = 11;
  term = 0;
  audit = true;
  phases = ((Does.File (File.Mkdir (codes "d" ∷ codes "e" ∷ []))
      ∷ Does.File (File.Mkdir (codes "e" ∷ []))
      ∷ put_hex (codes "c" ∷ []) (136 ∷ 95 ∷ 144 ∷ 72 ∷ 71 ∷ [])
      ∷ put_pattern (codes "d" ∷ codes "e" ∷ codes "!x" ∷ []) 7 23
      ∷ put_hex (codes "e" ∷ codes "b" ∷ []) (141 ∷ 240 ∷ [])
      ∷ put_pattern (codes "d" ∷ codes "e" ∷ codes "~" ∷ []) 4294967295 0
      ∷ put_fill (codes "b" ∷ []) 251 0
      ∷ put_fill (codes "a." ∷ []) 5 722
      ∷ [])
      ∷ [])
      ∷ ((get_all (codes "c" ∷ [])
      ∷ Does.Tick
      ∷ get_all (codes "c" ∷ [])
      ∷ [])
      ∷ (Does.File (File.Rename (codes "d" ∷ []) (codes "e" ∷ codes "b" ∷ []))
      ∷ [])
      ∷ [])
      ∷ [];
  order = None;
}

abbrev pub order_of_three_blocks : List Step
order_of_three_blocks = taken (
    (1, 102) ∷ (2, 4) ∷ (3, 1) ∷ (2, 13)
    ∷ [])

abbrev pub ThreeBlocks : Type 0
ThreeBlocks = PrintsDrawn 50014 three_blocks order_of_three_blocks
    (codes "1 1 at 0 noparent"
    ∷ codes "1 2 at 0 done"
    ∷ codes "1 3 at 2 stored 5"
    ∷ codes "1 4 at 3 noparent"
    ∷ codes "1 5 at 4 stored 2"
    ∷ codes "1 6 at 5 noparent"
    ∷ codes "1 7 at 6 stored 0"
    ∷ codes "1 8 at 8 stored 722"
    ∷ codes "2 1 at 9 read 5 hex 885f904847"
    ∷ codes "2 2 clock 1"
    ∷ codes "2 3 at 9 read 5 hex 885f904847"
    ∷ codes "3 1 at 9 missing"
    ∷ codes "history 0 mkdir /e"
    ∷ codes "history 1 created 1 /c"
    ∷ codes "history 2 closed 1 by 1 3"
    ∷ codes "history 3 created 2 /e/b"
    ∷ codes "history 4 closed 2 by 1 5"
    ∷ codes "history 5 created 3 /b"
    ∷ codes "history 6 closed 3 by 1 7"
    ∷ codes "history 7 created 4 /a."
    ∷ codes "history 8 closed 4 by 1 8"
    ∷ codes "audit /c 0 rrrrrrrrr"
    ∷ codes "audit /e/b 0 rrrrrrrrr"
    ∷ codes "audit /a. 0 rrrrrrrrr"
    ∷ codes "audit /a. 1 rrrrrrrrr"
    ∷ codes "audit /a. 2 rrrrrrrrr"
    ∷ codes "summary files 4 dirs 1 blocks 5 copies 45 condemned 0 steps 120"
    ∷ codes "order 1x102 2x4 3x1 2x13"
    ∷ [])

-- files are removed and swept by several actors at once
abbrev pub swept_behind_removes : Script
swept_behind_removes = record {
  layout = record { s = 64; r = 1 };
  servers = 13;
  term = 0;
  audit = false;
  phases = ((Does.File (File.Mkdir (codes ".d" ∷ []))
      ∷ Does.File (File.Mkdir (codes "d" ∷ []))
      ∷ Does.File (File.Mkdir (codes "d" ∷ codes "e" ∷ []))
      ∷ put_hex (codes "b" ∷ []) (139 ∷ [])
      ∷ put_hex (codes "a." ∷ []) (19 ∷ [])
      ∷ [])
      ∷ [])
      ∷ ((Does.Sweep 2
      ∷ get_range (codes "a." ∷ []) 383 384
      ∷ remove (codes "a." ∷ [])
      ∷ remove (codes "d" ∷ codes "e" ∷ [])
      ∷ [])
      ∷ (Does.Tick
      ∷ [])
      ∷ (get_all (codes "b" ∷ [])
      ∷ get_all (codes "b" ∷ [])
      ∷ get_range (codes "b" ∷ []) 383 1
      ∷ Does.Sweep 100000
      ∷ Does.Sweep 2
      ∷ get_range (codes "a." ∷ []) 1099 464
      ∷ [])
      ∷ (remove (codes "b" ∷ [])
      ∷ [])
      ∷ (get_all (codes "b" ∷ [])
      ∷ Does.Sweep 1
      ∷ get_range (codes "d" ∷ []) 0 384
      ∷ [])
      ∷ [])
      ∷ ((Does.Hibernate 12 1
      ∷ Does.Tick
      ∷ Does.Evacuate 3 1
      ∷ Does.Sweep 9
      ∷ Does.Wipe 1
      ∷ [])
      ∷ (Does.Evacuate 8 100000
      ∷ Does.Wipe 1
      ∷ [])
      ∷ [])
      ∷ [];
  order = None;
}

abbrev pub order_of_swept_behind_removes : List Step
order_of_swept_behind_removes = taken (
    (1, 43) ∷ (5, 1) ∷ (3, 1) ∷ (4, 1) ∷ (6, 1) ∷ (2, 1) ∷ (4, 2) ∷ (2, 3) ∷ (6, 2) ∷ (2, 2) ∷ (4, 1) ∷ (6, 2)
    ∷ (2, 3) ∷ (4, 2) ∷ (2, 1) ∷ (4, 48) ∷ (8, 1) ∷ (7, 1) ∷ (8, 1) ∷ (7, 8) ∷ (8, 2) ∷ (7, 1) ∷ (8, 2)
    ∷ [])

abbrev pub SweptBehindRemoves : Type 0
SweptBehindRemoves = PrintsDrawn 50021 swept_behind_removes order_of_swept_behind_removes
    (codes "1 1 at 0 done"
    ∷ codes "1 2 at 1 done"
    ∷ codes "1 3 at 2 done"
    ∷ codes "1 4 at 4 stored 1"
    ∷ codes "1 5 at 6 stored 1"
    ∷ codes "2 1 swept 1"
    ∷ codes "2 2 at 8 read 0"
    ∷ codes "2 3 at 8 done"
    ∷ codes "2 4 at 9 isdir"
    ∷ codes "3 1 clock 1"
    ∷ codes "4 1 at 8 missing"
    ∷ codes "4 2 at 8 missing"
    ∷ codes "4 3 at 8 missing"
    ∷ codes "4 4 swept 16"
    ∷ codes "4 5 swept 0"
    ∷ codes "4 6 at 9 missing"
    ∷ codes "5 1 at 7 done"
    ∷ codes "6 1 at 8 missing"
    ∷ codes "6 2 swept 1"
    ∷ codes "6 3 at 8 isdir"
    ∷ codes "7 1 hibernating until 2"
    ∷ codes "7 2 clock 2"
    ∷ codes "7 3 evacuated 0 failed 0 left 0"
    ∷ codes "7 4 swept 0"
    ∷ codes "7 5 wiped 2"
    ∷ codes "8 1 evacuated 0 failed 0 left 0"
    ∷ codes "8 2 wiped 3"
    ∷ codes "history 0 mkdir /.d"
    ∷ codes "history 1 mkdir /d"
    ∷ codes "history 2 mkdir /d/e"
    ∷ codes "history 3 created 1 /b"
    ∷ codes "history 4 closed 1 by 1 4"
    ∷ codes "history 5 created 2 /a."
    ∷ codes "history 6 closed 2 by 1 5"
    ∷ codes "history 7 removed /b"
    ∷ codes "history 8 removed /a."
    ∷ codes "order 1x43 5x1 3x1 4x1 6x1 2x1 4x2 2x3 6x2 2x2 4x1 6x2 2x3 4x2 2x1 4x48 8x1 7x1 8x1 7x8 8x2 7x1 8x2"
    ∷ [])

-- a tree thirty names deep, under a term
abbrev pub deep_paths : Script
deep_paths = record {
  layout = record { s = 32; r = 4 };
  servers = 13;
  term = 280;
  audit = true;
  phases = ((Does.File (File.Mkdir (codes ".d" ∷ []))
      ∷ Does.File (File.Mkdir (codes "d" ∷ []))
      ∷ Does.File (File.Mkdir (codes "d" ∷ codes "d" ∷ []))
      ∷ Does.File (File.Mkdir (codes "d" ∷ codes "d" ∷ codes "d" ∷ []))
      ∷ Does.File (File.Mkdir (codes "d" ∷ codes "d" ∷ codes "d" ∷ codes "d" ∷ []))
      ∷ Does.File (File.Mkdir (codes "d" ∷ codes "d" ∷ codes "d" ∷ codes "d" ∷ codes "d" ∷ []))
      ∷ Does.File (File.Mkdir (replicate 6 (codes "d")))
      ∷ Does.File (File.Mkdir (replicate 7 (codes "d")))
      ∷ Does.File (File.Mkdir (replicate 8 (codes "d")))
      ∷ Does.File (File.Mkdir (replicate 9 (codes "d")))
      ∷ Does.File (File.Mkdir (replicate 10 (codes "d")))
      ∷ Does.File (File.Mkdir (replicate 11 (codes "d")))
      ∷ Does.File (File.Mkdir (replicate 12 (codes "d")))
      ∷ Does.File (File.Mkdir (replicate 13 (codes "d")))
      ∷ Does.File (File.Mkdir (replicate 14 (codes "d")))
      ∷ Does.File (File.Mkdir (replicate 15 (codes "d")))
      ∷ Does.File (File.Mkdir (replicate 16 (codes "d")))
      ∷ Does.File (File.Mkdir (replicate 17 (codes "d")))
      ∷ Does.File (File.Mkdir (replicate 18 (codes "d")))
      ∷ Does.File (File.Mkdir (replicate 19 (codes "d")))
      ∷ Does.File (File.Mkdir (replicate 20 (codes "d")))
      ∷ Does.File (File.Mkdir (replicate 21 (codes "d")))
      ∷ Does.File (File.Mkdir (replicate 22 (codes "d")))
      ∷ Does.File (File.Mkdir (replicate 23 (codes "d")))
      ∷ Does.File (File.Mkdir (replicate 24 (codes "d")))
      ∷ Does.File (File.Mkdir (replicate 25 (codes "d")))
      ∷ Does.File (File.Mkdir (replicate 26 (codes "d")))
      ∷ Does.File (File.Mkdir (replicate 27 (codes "d")))
      ∷ Does.File (File.Mkdir (replicate 28 (codes "d")))
      ∷ Does.File (File.Mkdir (replicate 29 (codes "d")))
      ∷ Does.File (File.Mkdir (replicate 30 (codes "d")))
      ∷ Does.File (File.Mkdir (codes "e" ∷ []))
      ∷ put_hex (codes ".d" ∷ codes "!x" ∷ []) (239 ∷ [])
      ∷ put_pattern (codes "e" ∷ codes "~" ∷ []) 4294967295 293
      ∷ put_hex (replicate 30 (codes "d") ++ codes "a" ∷ []) (236 ∷ 147 ∷ [])
      ∷ [])
      ∷ (put_fill (codes ".d" ∷ codes "b" ∷ []) 55 629
      ∷ put_hex (codes ".d" ∷ codes "a" ∷ []) (175 ∷ 249 ∷ [])
      ∷ [])
      ∷ [])
      ∷ ((Does.Tick
      ∷ Does.File (File.Rename (replicate 22 (codes "d")) (replicate 16 (codes "d")))
      ∷ [])
      ∷ (Does.File (File.Rename (replicate 10 (codes "d")) (replicate 9 (codes "d")))
      ∷ [])
      ∷ [])
      ∷ ((Does.Stop 1
      ∷ Does.Rebalance 1
      ∷ [])
      ∷ (get_all (codes ".d" ∷ codes "!x" ∷ [])
      ∷ Does.Restart
      ∷ Does.Start 1
      ∷ [])
      ∷ (Does.File (File.Rename (codes "e" ∷ codes "~" ∷ []) (replicate 18 (codes "d")))
      ∷ Does.Drop 8
      ∷ Does.Rebalance 9
      ∷ [])
      ∷ [])
      ∷ [];
  order = None;
}

abbrev pub order_of_deep_paths : List Step
order_of_deep_paths = taken (
    (2, 1) ∷ (1, 1) ∷ (2, 3) ∷ (1, 2) ∷ (2, 1) ∷ (1, 1) ∷ (2, 2) ∷ (1, 1) ∷ (2, 1) ∷ (1, 4) ∷ (2, 2) ∷ (1, 1)
    ∷ (2, 2) ∷ (1, 1) ∷ (2, 1) ∷ (1, 3) ∷ (2, 1) ∷ (1, 1) ∷ (2, 2) ∷ (1, 1) ∷ (2, 3) ∷ (1, 3) ∷ (2, 1) ∷ (1, 1)
    ∷ (2, 1) ∷ (1, 72) ∷ (4, 1) ∷ (3, 2) ∷ (7, 1) ∷ (5, 2) ∷ (7, 1) ∷ (6, 2) ∷ (5, 1) ∷ (6, 2) ∷ (7, 1) ∷ (6, 8)
    ∷ [])

abbrev pub DeepPaths : Type 0
DeepPaths = PrintsDrawn 50022 deep_paths order_of_deep_paths
    (codes "1 1 at 0 done"
    ∷ codes "1 2 at 2 done"
    ∷ codes "1 3 at 3 done"
    ∷ codes "1 4 at 4 done"
    ∷ codes "1 5 at 5 done"
    ∷ codes "1 6 at 6 done"
    ∷ codes "1 7 at 7 done"
    ∷ codes "1 8 at 8 done"
    ∷ codes "1 9 at 9 done"
    ∷ codes "1 10 at 10 done"
    ∷ codes "1 11 at 11 done"
    ∷ codes "1 12 at 12 done"
    ∷ codes "1 13 at 13 done"
    ∷ codes "1 14 at 14 done"
    ∷ codes "1 15 at 15 done"
    ∷ codes "1 16 at 16 done"
    ∷ codes "1 17 at 17 done"
    ∷ codes "1 18 at 18 done"
    ∷ codes "1 19 at 19 done"
    ∷ codes "1 20 at 20 done"
    ∷ codes "1 21 at 22 done"
    ∷ codes "1 22 at 23 done"
    ∷ codes "1 23 at 24 done"
    ∷ codes "1 24 at 25 done"
    ∷ codes "1 25 at 26 done"
    ∷ codes "1 26 at 27 done"
    ∷ codes "1 27 at 28 done"
    ∷ codes "1 28 at 29 done"
    ∷ codes "1 29 at 30 done"
    ∷ codes "1 30 at 31 done"
    ∷ codes "1 31 at 32 done"
    ∷ codes "1 32 at 33 done"
    ∷ codes "1 33 at 35 stored 1"
    ∷ codes "1 34 at 37 stored 293"
    ∷ codes "1 35 at 39 stored 2"
    ∷ codes "2 1 at 0 noparent"
    ∷ codes "2 2 at 21 stored 2"
    ∷ codes "3 1 clock 1"
    ∷ codes "3 2 at 40 exists"
    ∷ codes "4 1 at 40 exists"
    ∷ codes "5 1 stopped"
    ∷ codes "5 2 rebalanced 0 failed 0"
    ∷ codes "6 1 at 40 read 1 hex ef"
    ∷ codes "6 2 restarted 81"
    ∷ codes "6 3 started 1"
    ∷ codes "7 1 at 40 exists"
    ∷ codes "7 2 done"
    ∷ codes "7 3 rebalanced 0 failed 0"
    ∷ codes "history 0 mkdir /.d"
    ∷ codes "history 1 created 1 /.d/a"
    ∷ codes "history 2 mkdir /d"
    ∷ codes "history 3 mkdir /d/d"
    ∷ codes "history 4 mkdir /d/d/d"
    ∷ codes "history 5 mkdir /d/d/d/d"
    ∷ codes "history 6 mkdir /d/d/d/d/d"
    ∷ codes "history 7 mkdir /d/d/d/d/d/d"
    ∷ codes "history 8 mkdir /d/d/d/d/d/d/d"
    ∷ codes "history 9 mkdir /d/d/d/d/d/d/d/d"
    ∷ codes "history 10 mkdir /d/d/d/d/d/d/d/d/d"
    ∷ codes "history 11 mkdir /d/d/d/d/d/d/d/d/d/d"
    ∷ codes "history 12 mkdir /d/d/d/d/d/d/d/d/d/d/d"
    ∷ codes "history 13 mkdir /d/d/d/d/d/d/d/d/d/d/d/d"
    ∷ codes "history 14 mkdir /d/d/d/d/d/d/d/d/d/d/d/d/d"
    ∷ codes "history 15 mkdir /d/d/d/d/d/d/d/d/d/d/d/d/d/d"
    ∷ codes "history 16 mkdir /d/d/d/d/d/d/d/d/d/d/d/d/d/d/d"
    ∷ codes "history 17 mkdir /d/d/d/d/d/d/d/d/d/d/d/d/d/d/d/d"
    ∷ codes "history 18 mkdir /d/d/d/d/d/d/d/d/d/d/d/d/d/d/d/d/d"
    ∷ codes "history 19 mkdir /d/d/d/d/d/d/d/d/d/d/d/d/d/d/d/d/d/d"
    ∷ codes "history 20 mkdir /d/d/d/d/d/d/d/d/d/d/d/d/d/d/d/d/d/d/d"
    ∷ codes "history 21 closed 1 by 2 2"
    ∷ codes "history 22 mkdir /d/d/d/d/d/d/d/d/d/d/d/d/d/d/d/d/d/d/d/d"
    ∷ codes "history 23 mkdir /d/d/d/d/d/d/d/d/d/d/d/d/d/d/d/d/d/d/d/d/d"
    ∷ codes "history 24 mkdir /d/d/d/d/d/d/d/d/d/d/d/d/d/d/d/d/d/d/d/d/d/d"
    ∷ codes "history 25 mkdir /d/d/d/d/d/d/d/d/d/d/d/d/d/d/d/d/d/d/d/d/d/d/d"
    ∷ codes "history 26 mkdir /d/d/d/d/d/d/d/d/d/d/d/d/d/d/d/d/d/d/d/d/d/d/d/d"
    ∷ codes "history 27 mkdir /d/d/d/d/d/d/d/d/d/d/d/d/d/d/d/d/d/d/d/d/d/d/d/d/d"
    ∷ codes "history 28 mkdir /d/d/d/d/d/d/d/d/d/d/d/d/d/d/d/d/d/d/d/d/d/d/d/d/d/d"
    ∷ codes "history 29 mkdir /d/d/d/d/d/d/d/d/d/d/d/d/d/d/d/d/d/d/d/d/d/d/d/d/d/d/d"
    ∷ codes "history 30 mkdir /d/d/d/d/d/d/d/d/d/d/d/d/d/d/d/d/d/d/d/d/d/d/d/d/d/d/d/d"
    ∷ codes "history 31 mkdir /d/d/d/d/d/d/d/d/d/d/d/d/d/d/d/d/d/d/d/d/d/d/d/d/d/d/d/d/d"
    ∷ codes "history 32 mkdir /d/d/d/d/d/d/d/d/d/d/d/d/d/d/d/d/d/d/d/d/d/d/d/d/d/d/d/d/d/d"
    ∷ codes "history 33 mkdir /e"
    ∷ codes "history 34 created 2 /.d/!x"
    ∷ codes "history 35 closed 2 by 1 33"
    ∷ codes "history 36 created 3 /e/~"
    ∷ codes "history 37 closed 3 by 1 34"
    ∷ codes "history 38 created 4 /d/d/d/d/d/d/d/d/d/d/d/d/d/d/d/d/d/d/d/d/d/d/d/d/d/d/d/d/d/d/a"
    ∷ codes "history 39 closed 4 by 1 35"
    ∷ codes "audit /.d/a 0 rrrrrrrrr"
    ∷ codes "audit /.d/!x 0 rrrrrrrrr"
    ∷ codes "audit /e/~ 0 rrrrrrrrr"
    ∷ codes "audit /d/d/d/d/d/d/d/d/d/d/d/d/d/d/d/d/d/d/d/d/d/d/d/d/d/d/d/d/d/d/a 0 rrrrrrrrr"
    ∷ codes "summary files 4 dirs 32 blocks 4 copies 36 condemned 0 steps 134"
    ∷ codes "order 2x1 1x1 2x3 1x2 2x1 1x1 2x2 1x1 2x1 1x4 2x2 1x1 2x2 1x1 2x1 1x3 2x1 1x1 2x2 1x1 2x3 1x3 2x1 1x1 2x1 1x72 4x1 3x2 7x1 5x2 7x1 6x2 5x1 6x2 7x1 6x8"
    ∷ [])

-- six puts in a row
abbrev pub six_puts : Script
six_puts = record {
  layout = record { s = 16; r = 2 };
  servers = 17;
  term = 0;
  audit = false;
  phases = ((Does.File (File.Mkdir (codes "d" ∷ []))
      ∷ Does.File (File.Mkdir (codes "e" ∷ []))
      ∷ put_pattern (codes "e" ∷ codes "b" ∷ []) 7 39
      ∷ put_pattern (codes "d" ∷ codes "!x" ∷ []) 1072907491 35
      ∷ put_pattern (codes "a." ∷ []) 4294967295 78
      ∷ put_hex (codes "e" ∷ codes "!x" ∷ []) (68 ∷ [])
      ∷ put_fill (codes "d." ∷ []) 103 12
      ∷ put_hex (codes "d" ∷ codes "b" ∷ []) (35 ∷ [])
      ∷ [])
      ∷ [])
      ∷ ((Does.File (File.Rename (codes "e" ∷ codes "!x" ∷ []) (codes "e" ∷ codes "!x" ∷ []))
      ∷ Does.File (File.Mkdir (codes "e" ∷ []))
      ∷ Does.Heal 2
      ∷ Does.Tick
      ∷ [])
      ∷ [])
      ∷ [];
  order = None;
}

abbrev pub order_of_six_puts : List Step
order_of_six_puts = taken (
    (1, 122) ∷ (2, 4)
    ∷ [])

abbrev pub SixPuts : Type 0
SixPuts = PrintsDrawn 50042 six_puts order_of_six_puts
    (codes "1 1 at 0 done"
    ∷ codes "1 2 at 1 done"
    ∷ codes "1 3 at 3 stored 39"
    ∷ codes "1 4 at 5 stored 35"
    ∷ codes "1 5 at 7 stored 78"
    ∷ codes "1 6 at 9 stored 1"
    ∷ codes "1 7 at 11 stored 12"
    ∷ codes "1 8 at 13 stored 1"
    ∷ codes "2 1 at 14 intoself"
    ∷ codes "2 2 at 14 exists"
    ∷ codes "2 3 healed 0 failed 0"
    ∷ codes "2 4 clock 1"
    ∷ codes "history 0 mkdir /d"
    ∷ codes "history 1 mkdir /e"
    ∷ codes "history 2 created 1 /e/b"
    ∷ codes "history 3 closed 1 by 1 3"
    ∷ codes "history 4 created 2 /d/!x"
    ∷ codes "history 5 closed 2 by 1 4"
    ∷ codes "history 6 created 3 /a."
    ∷ codes "history 7 closed 3 by 1 5"
    ∷ codes "history 8 created 4 /e/!x"
    ∷ codes "history 9 closed 4 by 1 6"
    ∷ codes "history 10 created 5 /d."
    ∷ codes "history 11 closed 5 by 1 7"
    ∷ codes "history 12 created 6 /d/b"
    ∷ codes "history 13 closed 6 by 1 8"
    ∷ codes "order 1x122 2x4"
    ∷ [])

-- a file takes the place of one that was removed, and is seen while it is written
abbrev pub replaced_while_written : Script
replaced_while_written = record {
  layout = record { s = 16; r = 2 };
  servers = 12;
  term = 0;
  audit = true;
  phases = ((Does.File (File.Mkdir (codes ".d" ∷ []))
      ∷ Does.File (File.Mkdir (codes "d" ∷ codes "e" ∷ []))
      ∷ Does.File (File.Mkdir (codes "e" ∷ []))
      ∷ put_pattern (codes "e" ∷ codes "b" ∷ []) 4294967295 32
      ∷ put_hex (codes "A" ∷ []) (244 ∷ [])
      ∷ [])
      ∷ [])
      ∷ ((Does.Rebalance 100000
      ∷ Does.Stop 4
      ∷ put_hex (codes "e" ∷ codes "b" ∷ []) (185 ∷ [])
      ∷ Does.Sweep 20
      ∷ [])
      ∷ (remove (codes "e" ∷ codes "b" ∷ [])
      ∷ get_range (codes "A" ∷ []) 549 0
      ∷ Does.Restart
      ∷ Does.File (File.Mkdir (codes "e" ∷ []))
      ∷ get_all (codes "A" ∷ [])
      ∷ Does.File (File.Rename (codes "e" ∷ codes "b" ∷ []) (codes "A" ∷ []))
      ∷ Does.File (File.List (codes "e" ∷ []))
      ∷ get_range (codes "A" ∷ []) 192 96
      ∷ get_all (codes "e" ∷ codes "b" ∷ [])
      ∷ get_range (codes "zz" ∷ codes "y" ∷ []) 191 96
      ∷ Does.Recover (codes "A" ∷ []) 0 3
      ∷ Does.Upgrade 4
      ∷ remove (codes "A" ∷ [])
      ∷ Does.Tick
      ∷ Does.Heal 9
      ∷ Does.Heal 5
      ∷ [])
      ∷ []
      ∷ [])
      ∷ [];
  order = None;
}

abbrev pub order_of_replaced_while_written : List Step
order_of_replaced_while_written = taken (
    (1, 43) ∷ (3, 1) ∷ (2, 4) ∷ (3, 1) ∷ (2, 1) ∷ (3, 1) ∷ (2, 1) ∷ (3, 2) ∷ (2, 1) ∷ (3, 1) ∷ (2, 2) ∷ (3, 3)
    ∷ (2, 3) ∷ (3, 1) ∷ (2, 3) ∷ (3, 1) ∷ (2, 1) ∷ (3, 5) ∷ (2, 1) ∷ (3, 8) ∷ (2, 1) ∷ (3, 1) ∷ (2, 54)
    ∷ [])

abbrev pub ReplacedWhileWritten : Type 0
ReplacedWhileWritten = PrintsDrawn 50043 replaced_while_written order_of_replaced_while_written
    (codes "1 1 at 0 done"
    ∷ codes "1 2 at 1 noparent"
    ∷ codes "1 3 at 1 done"
    ∷ codes "1 4 at 3 stored 32"
    ∷ codes "1 5 at 5 stored 1"
    ∷ codes "2 1 rebalanced 0 failed 0"
    ∷ codes "2 2 stopped"
    ∷ codes "2 3 at 9 stored 1"
    ∷ codes "2 4 swept 16"
    ∷ codes "3 1 at 6 done"
    ∷ codes "3 2 at 8 read 0"
    ∷ codes "3 3 restarted 30"
    ∷ codes "3 4 at 8 exists"
    ∷ codes "3 5 at 8 read 1 hex f4"
    ∷ codes "3 6 at 8 exists"
    ∷ codes "3 7 at 8 list 1 b/?"
    ∷ codes "3 8 at 8 read 0"
    ∷ codes "3 9 at 8 unclosed"
    ∷ codes "3 10 at 8 missing"
    ∷ codes "3 11 whole"
    ∷ codes "3 12 down"
    ∷ codes "3 13 at 8 done"
    ∷ codes "3 14 clock 1"
    ∷ codes "3 15 healed 0 failed 0"
    ∷ codes "3 16 healed 0 failed 0"
    ∷ codes "history 0 mkdir /.d"
    ∷ codes "history 1 mkdir /e"
    ∷ codes "history 2 created 1 /e/b"
    ∷ codes "history 3 closed 1 by 1 4"
    ∷ codes "history 4 created 2 /A"
    ∷ codes "history 5 closed 2 by 1 5"
    ∷ codes "history 6 removed /e/b"
    ∷ codes "history 7 created 3 /e/b"
    ∷ codes "history 8 removed /A"
    ∷ codes "history 9 closed 3 by 2 3"
    ∷ codes "audit /e/b 0 rrrrrrrrr"
    ∷ codes "summary files 1 dirs 2 blocks 1 copies 9 condemned 2 steps 140"
    ∷ codes "order 1x43 3x1 2x4 3x1 2x1 3x1 2x1 3x2 2x1 3x1 2x2 3x3 2x3 3x1 2x3 3x1 2x1 3x5 2x1 3x8 2x1 3x1 2x54"
    ∷ [])
