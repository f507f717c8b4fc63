-- Runs of drawn orders under a term, and with servers that are upgraded. Their texts were worked out with another program.
use Rattle.std.specs.Prelude.{List, [], ◌∷◌, codes, None, true, false, replicate}
use Rattle.qfs_base.specs.declared.command.Command.TheVariants as Does
use Rattle.qfs_base.specs.declared.command.FileCommand.TheVariants as File
use Rattle.qfs_base.specs.declared.history.Step.{Step}
use Rattle.qfs_base.specs.declared.script.Script.{Script}
use Rattle.qfs_model_rows.specs.Prints.{PrintsDrawn}
use Rattle.qfs_model_rows.specs.Scripts.{put_hex, put_fill, put_pattern, get_all, get_range, remove, taken}

-- a server is emptied, stopped and not upgraded; files are removed
abbrev pub emptied_and_upgraded : Script
emptied_and_upgraded = record {
  layout = record { s = 32; r = 4 };
  servers = 14;
  term = 901;
  audit = true;
  phases = ((Does.File (File.Mkdir (codes "d" ∷ codes "e" ∷ []))
      ∷ Does.Stop 12
      ∷ put_hex (codes "d." ∷ []) (76 ∷ 190 ∷ 73 ∷ 190 ∷ 241 ∷ [])
      ∷ put_pattern (codes "a." ∷ []) 757933572 1041
      ∷ put_fill (codes "d" ∷ codes "e" ∷ codes "b" ∷ []) 91 4
      ∷ put_fill (codes "c" ∷ []) 215 15
      ∷ [])
      ∷ [])
      ∷ ([]
      ∷ (Does.Tick
      ∷ Does.Wipe 12
      ∷ Does.Heal 20
      ∷ remove (codes "a." ∷ [])
      ∷ remove (codes "d." ∷ [])
      ∷ Does.Rebalance 20
      ∷ get_range (codes "d" ∷ codes "e" ∷ codes "b" ∷ []) 767 268435456
      ∷ Does.File (File.Mkdir (codes "d" ∷ codes "e" ∷ codes "b" ∷ []))
      ∷ get_all (codes "a." ∷ [])
      ∷ [])
      ∷ (Does.Tick
      ∷ Does.File (File.Mkdir (codes "d" ∷ codes "e" ∷ []))
      ∷ Does.File (File.Rename (replicate 32 (codes "d")) (codes "c" ∷ []))
      ∷ Does.File (File.List (codes "c" ∷ []))
      ∷ [])
      ∷ (Does.Stop 12
      ∷ Does.Upgrade 12
      ∷ [])
      ∷ []
      ∷ [])
      ∷ [];
  order = None;
}

abbrev pub order_of_emptied_and_upgraded : List Step
order_of_emptied_and_upgraded = taken (
    (1, 82) ∷ (3, 1) ∷ (5, 1) ∷ (3, 1) ∷ (4, 1) ∷ (3, 1) ∷ (5, 2) ∷ (3, 3) ∷ (4, 1) ∷ (3, 1) ∷ (4, 1) ∷ (3, 3)
    ∷ (4, 1)
    ∷ [])

abbrev pub EmptiedAndUpgraded : Type 0
EmptiedAndUpgraded = PrintsDrawn 50013 emptied_and_upgraded order_of_emptied_and_upgraded
    (codes "1 1 at 0 noparent"
    ∷ codes "1 2 stopped"
    ∷ codes "1 3 at 1 stored 5"
    ∷ codes "1 4 at 3 stored 1041"
    ∷ codes "1 5 at 4 noparent"
    ∷ codes "1 6 at 5 stored 15"
    ∷ codes "3 1 clock 1"
    ∷ codes "3 2 wiped 2"
    ∷ codes "3 3 healed 0 failed 0"
    ∷ codes "3 4 at 6 done"
    ∷ codes "3 5 at 7 done"
    ∷ codes "3 6 rebalanced 0 failed 0"
    ∷ codes "3 7 at 8 missing"
    ∷ codes "3 8 at 8 noparent"
    ∷ codes "3 9 at 8 missing"
    ∷ codes "4 1 clock 2"
    ∷ codes "4 2 at 8 noparent"
    ∷ codes "4 3 at 8 missing"
    ∷ codes "4 4 at 8 notdir"
    ∷ codes "5 1 stopped"
    ∷ codes "5 2 down"
    ∷ codes "history 0 created 1 /d."
    ∷ codes "history 1 closed 1 by 1 3"
    ∷ codes "history 2 created 2 /a."
    ∷ codes "history 3 closed 2 by 1 4"
    ∷ codes "history 4 created 3 /c"
    ∷ codes "history 5 closed 3 by 1 6"
    ∷ codes "history 6 removed /a."
    ∷ codes "history 7 removed /d."
    ∷ codes "audit /c 0 rrrrrrrrr"
    ∷ codes "summary files 1 dirs 0 blocks 1 copies 9 condemned 27 steps 99"
    ∷ codes "order 1x82 3x1 5x1 3x1 4x1 3x1 5x2 3x3 4x1 3x1 4x1 3x3 4x1"
    ∷ [])

-- four puts under a term of two ticks
abbrev pub put_under_a_term : Script
put_under_a_term = record {
  layout = record { s = 16; r = 1 };
  servers = 24;
  term = 2;
  audit = false;
  phases = ((put_fill (codes "d!" ∷ []) 254 97
      ∷ put_fill (codes "A" ∷ []) 226 6
      ∷ put_fill (codes "a." ∷ []) 184 37
      ∷ put_hex (codes "d." ∷ []) (60 ∷ 215 ∷ [])
      ∷ [])
      ∷ [])
      ∷ ((Does.File (File.Mkdir (codes "d." ∷ []))
      ∷ Does.Stop 2
      ∷ [])
      ∷ [])
      ∷ ((put_pattern (codes "d!" ∷ []) 3214834219 97
      ∷ Does.Hibernate 2 9
      ∷ [])
      ∷ [])
      ∷ [];
  order = None;
}

abbrev pub order_of_put_under_a_term : List Step
order_of_put_under_a_term = taken (
    (1, 98) ∷ (2, 3) ∷ (3, 2)
    ∷ [])

abbrev pub PutUnderATerm : Type 0
PutUnderATerm = PrintsDrawn 50028 put_under_a_term order_of_put_under_a_term
    (codes "1 1 at 1 stored 97"
    ∷ codes "1 2 at 3 stored 6"
    ∷ codes "1 3 at 5 stored 37"
    ∷ codes "1 4 at 7 stored 2"
    ∷ codes "2 1 at 8 exists"
    ∷ codes "2 2 stopped"
    ∷ codes "3 1 at 8 exists"
    ∷ codes "3 2 notup"
    ∷ codes "history 0 created 1 /d!"
    ∷ codes "history 1 closed 1 by 1 1"
    ∷ codes "history 2 created 2 /A"
    ∷ codes "history 3 closed 2 by 1 2"
    ∷ codes "history 4 created 3 /a."
    ∷ codes "history 5 closed 3 by 1 3"
    ∷ codes "history 6 created 4 /d."
    ∷ codes "history 7 closed 4 by 1 4"
    ∷ codes "order 1x98 2x3 3x2"
    ∷ [])

-- no put finds nine servers; one server is upgraded
abbrev pub six_servers_alone : Script
six_servers_alone = record {
  layout = record { s = 16; r = 2 };
  servers = 6;
  term = 536;
  audit = true;
  phases = ((Does.File (File.Mkdir (codes "d" ∷ codes "e" ∷ []))
      ∷ put_pattern (codes "c" ∷ []) 2202691372 93
      ∷ put_pattern (codes "a." ∷ []) 2776703189 7
      ∷ put_hex (codes "a" ∷ []) (80 ∷ 60 ∷ [])
      ∷ put_hex (codes "d" ∷ codes "e" ∷ codes "!x" ∷ []) (230 ∷ 185 ∷ [])
      ∷ put_fill (codes "d!" ∷ []) 36 96
      ∷ put_pattern (codes "d" ∷ codes "e" ∷ codes "b" ∷ []) 0 343
      ∷ [])
      ∷ [])
      ∷ ((Does.Upgrade 4
      ∷ Does.Rebalance 5
      ∷ get_range (codes "d" ∷ codes "e" ∷ codes "!x" ∷ []) 504 96
      ∷ Does.Move (codes "d" ∷ codes "e" ∷ codes "!x" ∷ []) 0 0 4
      ∷ get_all (codes "a." ∷ [])
      ∷ Does.Heal 1
      ∷ Does.File (File.Mkdir (codes "d!" ∷ []))
      ∷ Does.File (File.Rename (codes "a." ∷ []) (codes "c" ∷ []))
      ∷ Does.Heal 1
      ∷ get_all (codes "c" ∷ [])
      ∷ Does.File (File.List (codes "a." ∷ []))
      ∷ Does.Tick
      ∷ [])
      ∷ []
      ∷ (Does.Heal 2
      ∷ Does.File (File.Mkdir (codes "d" ∷ codes "e" ∷ codes "!x" ∷ []))
      ∷ put_fill (codes "a." ∷ []) 160 192
      ∷ Does.File (File.List [])
      ∷ Does.Move (codes "c" ∷ []) 0 6 3
      ∷ remove (codes "d" ∷ codes "e" ∷ codes "!x" ∷ [])
      ∷ Does.File (File.Rmdir (codes "c" ∷ []))
      ∷ Does.Sweep 1
      ∷ Does.File (File.Rename (codes "c" ∷ []) (codes "d" ∷ codes "e" ∷ []))
      ∷ Does.Recover (codes "d" ∷ codes "e" ∷ codes "b" ∷ []) 0 2
      ∷ Does.Evacuate 4 5
      ∷ remove (codes "d" ∷ [])
      ∷ remove (codes "d!" ∷ [])
      ∷ put_pattern (codes "d!" ∷ []) 0 384
      ∷ remove (codes "a" ∷ [])
      ∷ Does.Rebalance 20
      ∷ [])
      ∷ [])
      ∷ [];
  order = None;
}

abbrev pub order_of_six_servers_alone : List Step
order_of_six_servers_alone = taken (
    (1, 63) ∷ (2, 1) ∷ (4, 3) ∷ (2, 1) ∷ (4, 3) ∷ (2, 4) ∷ (4, 1) ∷ (2, 2) ∷ (4, 1) ∷ (2, 2) ∷ (4, 1) ∷ (2, 2)
    ∷ (4, 25)
    ∷ [])

abbrev pub SixServersAlone : Type 0
SixServersAlone = PrintsDrawn 50040 six_servers_alone order_of_six_servers_alone
    (codes "1 1 at 0 noparent"
    ∷ codes "1 2 at 1 noserver 0 6"
    ∷ codes "1 3 at 3 noserver 0 6"
    ∷ codes "1 4 at 5 noserver 0 6"
    ∷ codes "1 5 at 6 noparent"
    ∷ codes "1 6 at 7 noserver 0 6"
    ∷ codes "1 7 at 8 noparent"
    ∷ codes "2 1 writes 2"
    ∷ codes "2 2 rebalanced 0 failed 0"
    ∷ codes "2 3 at 9 missing"
    ∷ codes "2 4 missing"
    ∷ codes "2 5 at 9 unclosed"
    ∷ codes "2 6 healed 0 failed 0"
    ∷ codes "2 7 at 9 done"
    ∷ codes "2 8 at 10 done"
    ∷ codes "2 9 healed 0 failed 0"
    ∷ codes "2 10 at 11 unclosed"
    ∷ codes "2 11 at 11 missing"
    ∷ codes "2 12 clock 1"
    ∷ codes "4 1 healed 0 failed 0"
    ∷ codes "4 2 at 8 noparent"
    ∷ codes "4 3 at 11 noserver 0 6"
    ∷ codes "4 4 at 12 list 1 d!/"
    ∷ codes "4 5 missing"
    ∷ codes "4 6 at 12 missing"
    ∷ codes "4 7 at 12 missing"
    ∷ codes "4 8 swept 1"
    ∷ codes "4 9 at 12 missing"
    ∷ codes "4 10 missing"
    ∷ codes "4 11 evacuated 0 failed 0 left 0"
    ∷ codes "4 12 at 12 missing"
    ∷ codes "4 13 at 12 isdir"
    ∷ codes "4 14 at 12 exists"
    ∷ codes "4 15 at 12 missing"
    ∷ codes "4 16 rebalanced 0 failed 0"
    ∷ codes "history 0 created 1 /c"
    ∷ codes "history 1 aborted 1"
    ∷ codes "history 2 created 2 /a."
    ∷ codes "history 3 aborted 2"
    ∷ codes "history 4 created 3 /a"
    ∷ codes "history 5 aborted 3"
    ∷ codes "history 6 created 4 /d!"
    ∷ codes "history 7 aborted 4"
    ∷ codes "history 8 created 5 /a."
    ∷ codes "history 9 mkdir /d!"
    ∷ codes "history 10 renamed /a. /c"
    ∷ codes "history 11 aborted 5"
    ∷ codes "summary files 0 dirs 1 blocks 0 copies 0 condemned 29 steps 109"
    ∷ codes "order 1x63 2x1 4x3 2x1 4x3 2x4 4x1 2x2 4x1 2x2 4x1 2x2 4x25"
    ∷ [])
