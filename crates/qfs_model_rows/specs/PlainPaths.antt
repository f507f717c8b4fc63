-- Files that are put and read while every server is up.
use Rattle.std.specs.Prelude.{ℕ, List, [], ◌∷◌, ◌++◌, codes, replicate}
use Rattle.qfs_base.specs.NameTree.{PathNames}
use Rattle.qfs_base.specs.declared.script.Script.{Script}
use Rattle.qfs_model_server.specs.Server.{Copies}
use Rattle.qfs_model_rows.specs.Prints.{Prints, Stores, one_copy}
use Rattle.qfs_model_rows.specs.Scripts.{path_of, path_a, put_hex, put_fill, get_all, get_range, put_one, put_five, script_of, small_script, steps, history_of_put}

-- five bytes are put and read again
abbrev pub PlainPath : Type 0
PlainPath = Prints
    (small_script 9 ((put_five ∷ get_all path_a ∷ []) ∷ []))
    (steps 1 28)
    (codes "1 1 at 1 stored 5"
    ∷ codes "1 2 at 2 read 5 hex 0102030405"
    ∷ codes "history 0 created 1 /a"
    ∷ codes "history 1 closed 1 by 1 1"
    ∷ codes "order 1x28"
    ∷ [])

-- a file without bytes has no block, so nothing is stored or fetched
abbrev pub path_e : PathNames
path_e = path_of (codes "e")

abbrev pub EmptyFile : Type 0
EmptyFile = Prints
    (small_script 9 ((put_fill path_e 0 0 ∷ get_all path_e ∷ []) ∷ []))
    (steps 1 4)
    (codes "1 1 at 1 stored 0"
    ∷ codes "1 2 at 2 read 0"
    ∷ codes "history 0 created 1 /e"
    ∷ codes "history 1 closed 1 by 1 1"
    ∷ codes "order 1x4"
    ∷ [])

-- one full row of ones: the parity slots hold the sums of the first six powers of 1, 2 and 4
abbrev pub path_p : PathNames
path_p = path_of (codes "p")

abbrev pub one_row : Script
one_row = small_script 9 ((put_fill path_p 1 96 ∷ []) ∷ [])

abbrev pub one_row_copies : List Copies
one_row_copies =
    one_copy 0 1 (replicate 16 1)
    ∷ one_copy 1 1 (replicate 16 1)
    ∷ one_copy 2 1 (replicate 16 1)
    ∷ one_copy 3 1 (replicate 16 1)
    ∷ one_copy 4 1 (replicate 16 1)
    ∷ one_copy 5 1 (replicate 16 1)
    ∷ one_copy 6 1 (replicate 16 0)
    ∷ one_copy 7 1 (replicate 16 0x3f)
    ∷ one_copy 8 1 (replicate 16 0x3c)
    ∷ []

pub record OneRow : Type 0 where
  pub prints : Prints one_row (steps 1 20)
      (codes "1 1 at 1 stored 96"
      ∷ codes "history 0 created 1 /p"
      ∷ codes "history 1 closed 1 by 1 1"
      ∷ codes "order 1x20"
      ∷ [])
  pub stores : Stores one_row (steps 1 20) one_row_copies

-- one byte more: it begins a second row, which is filled with zeros
abbrev pub two_rows : Script
two_rows = small_script 9 ((put_fill path_p 1 97 ∷ get_range path_p 95 10 ∷ []) ∷ [])

-- a chunk whose first row is all this byte, and whose second row is zero or begins with a one
abbrev pub zero_row : List ℕ
zero_row = replicate 16 0

abbrev pub begun_row : List ℕ
begun_row = 1 ∷ replicate 15 0

abbrev pub two_row_copies : List Copies
two_row_copies =
    one_copy 0 1 (replicate 16 1 ++ begun_row)
    ∷ one_copy 1 1 (replicate 16 1 ++ zero_row)
    ∷ one_copy 2 1 (replicate 16 1 ++ zero_row)
    ∷ one_copy 3 1 (replicate 16 1 ++ zero_row)
    ∷ one_copy 4 1 (replicate 16 1 ++ zero_row)
    ∷ one_copy 5 1 (replicate 16 1 ++ zero_row)
    ∷ one_copy 6 1 (replicate 16 0 ++ begun_row)
    ∷ one_copy 7 1 (replicate 16 0x3f ++ begun_row)
    ∷ one_copy 8 1 (replicate 16 0x3c ++ begun_row)
    ∷ []

pub record TwoRows : Type 0 where
  pub prints : Prints two_rows (steps 1 28)
      (codes "1 1 at 1 stored 97"
      ∷ codes "1 2 at 2 read 2 hex 0101"
      ∷ codes "history 0 created 1 /p"
      ∷ codes "history 1 closed 1 by 1 1"
      ∷ codes "order 1x28"
      ∷ [])
  pub stores : Stores two_rows (steps 1 28) two_row_copies

-- a file of one block and one of two: the get reads the last byte of the first block and the first of the second
abbrev pub path_b : PathNames
path_b = path_of (codes "b")

abbrev pub path_c : PathNames
path_c = path_of (codes "c")

abbrev pub TwoBlocks : Type 0
TwoBlocks = Prints
    (small_script 9 ((put_fill path_b 7 192 ∷ put_fill path_c 7 193 ∷ get_range path_c 191 2 ∷ []) ∷ []))
    (steps 1 72)
    (codes "1 1 at 1 stored 192"
    ∷ codes "1 2 at 3 stored 193"
    ∷ codes "1 3 at 4 read 2 hex 0707"
    ∷ codes "history 0 created 1 /b"
    ∷ codes "history 1 closed 1 by 1 1"
    ∷ codes "history 2 created 2 /c"
    ∷ codes "history 3 closed 2 by 1 2"
    ∷ codes "order 1x72"
    ∷ [])

-- a range is cut at the file's end, and where nothing is left nothing is fetched
abbrev pub PastTheEnd : Type 0
PastTheEnd = Prints
    (small_script 9 ((put_five ∷ get_range path_a 5 1 ∷ get_range path_a 3 100 ∷ []) ∷ []))
    (steps 1 30)
    (codes "1 1 at 1 stored 5"
    ∷ codes "1 2 at 2 read 0"
    ∷ codes "1 3 at 2 read 2 hex 0405"
    ∷ history_of_put
    ++ codes "order 1x30"
    ∷ [])

-- a range over the end of one window of 16 rows and the beginning of the next
abbrev pub path_w : PathNames
path_w = path_of (codes "w")

abbrev pub TwoWindows : Type 0
TwoWindows = Prints
    (script_of (record { s = 16; r = 20 }) 9 ((put_fill path_w 9 1920 ∷ get_range path_w 1530 10 ∷ []) ∷ []))
    (steps 1 34)
    (codes "1 1 at 1 stored 1920"
    ∷ codes "1 2 at 2 read 10 hex 09090909090909090909"
    ∷ codes "history 0 created 1 /w"
    ∷ codes "history 1 closed 1 by 1 1"
    ∷ codes "order 1x34"
    ∷ [])

-- a second put of a path is refused, and so is a get of what isn't there
abbrev pub TakenAndMissing : Type 0
TakenAndMissing = Prints
    (small_script 10 ((put_one ∷ put_hex path_a (2 ∷ []) ∷ get_all path_b ∷ get_all path_a ∷ []) ∷ []))
    (steps 1 30)
    (codes "1 1 at 1 stored 1"
    ∷ codes "1 2 at 2 exists"
    ∷ codes "1 3 at 2 missing"
    ∷ codes "1 4 at 2 read 1 hex 01"
    ∷ history_of_put
    ++ codes "order 1x30"
    ∷ [])
