-- Commands that are refused, and files that change under a get.
use Rattle.std.specs.Prelude.{List, [], ◌∷◌, ◌++◌, codes}
use Rattle.qfs_base.specs.NameTree.{PathNames}
use Rattle.qfs_base.specs.declared.command.Command.TheVariants as Does
use Rattle.qfs_base.specs.declared.command.FileCommand.TheVariants as File
use Rattle.qfs_base.specs.declared.history.Step.{Step}
use Rattle.qfs_base.specs.declared.script.Script.{Script}
use Rattle.qfs_model_rows.specs.Prints.{Prints}
use Rattle.qfs_model_rows.specs.Scripts.{path_of, path_a, put_hex, put_fill, get_all, remove, put_one, small_script, steps, failing_steps, history_of_put}

-- a path is removed and put anew during a get, which reads what it opened
abbrev pub put_anew : Script
put_anew =
    small_script 9 (
    (put_one ∷ get_all path_a ∷ []) ∷ (remove path_a ∷ put_hex path_a (2 ∷ []) ∷ get_all path_a ∷ []) ∷ [])

abbrev pub anew_order : List Step
anew_order = steps 1 21 ++ steps 2 21 ++ steps 1 7 ++ steps 2 8

abbrev pub PutAnewDuringGet : Type 0
PutAnewDuringGet = Prints
    put_anew
    anew_order
    (codes "1 1 at 1 stored 1"
    ∷ codes "1 2 at 2 read 1 hex 01"
    ∷ codes "2 1 at 2 done"
    ∷ codes "2 2 at 4 stored 1"
    ∷ codes "2 3 at 5 read 1 hex 02"
    ∷ codes "history 0 created 1 /a"
    ∷ codes "history 1 closed 1 by 1 1"
    ∷ codes "history 2 removed /a"
    ∷ codes "history 3 created 2 /a"
    ∷ codes "history 4 closed 2 by 2 2"
    ∷ codes "order 1x21 2x21 1x7 2x8"
    ∷ [])

-- the refusals of the name tree, at their places of the history
abbrev pub path_d : PathNames
path_d = path_of (codes "d")

abbrev pub path_df : PathNames
path_df = codes "d" ∷ codes "f" ∷ []

abbrev pub tree_commands : Script
tree_commands = small_script 9 ((
    Does.File (File.Mkdir path_d)
    ∷ Does.File (File.Mkdir path_d)
    ∷ Does.File (File.Mkdir (codes "x" ∷ codes "y" ∷ []))
    ∷ get_all path_d
    ∷ Does.File (File.Rmdir (path_of (codes "q")))
    ∷ Does.File (File.Rename path_d (codes "d" ∷ codes "e" ∷ []))
    ∷ put_fill path_df 0 0
    ∷ Does.File (File.Rmdir path_d)
    ∷ Does.File (File.List path_df)
    ∷ Does.File (File.List path_d)
    ∷ remove path_df
    ∷ Does.File (File.Rmdir path_d)
    ∷ []) ∷ [])

abbrev pub TreeRefusals : Type 0
TreeRefusals = Prints
    tree_commands
    (steps 1 13)
    (codes "1 1 at 0 done"
    ∷ codes "1 2 at 1 exists"
    ∷ codes "1 3 at 1 noparent"
    ∷ codes "1 4 at 1 isdir"
    ∷ codes "1 5 at 1 missing"
    ∷ codes "1 6 at 1 intoself"
    ∷ codes "1 7 at 2 stored 0"
    ∷ codes "1 8 at 3 notempty"
    ∷ codes "1 9 at 3 notdir"
    ∷ codes "1 10 at 3 list 1 f"
    ∷ codes "1 11 at 3 done"
    ∷ codes "1 12 at 4 done"
    ∷ codes "history 0 mkdir /d"
    ∷ codes "history 1 created 1 /d/f"
    ∷ codes "history 2 closed 1 by 1 7"
    ∷ codes "history 3 removed /d/f"
    ∷ codes "history 4 rmdir /d"
    ∷ codes "order 1x13"
    ∷ [])

-- a file that is still written isn't read
abbrev pub UnclosedFile : Type 0
UnclosedFile = Prints
    (small_script 9 ((put_one ∷ []) ∷ (get_all path_a ∷ []) ∷ []))
    (steps 1 1 ++ steps 2 1 ++ steps 1 19)
    (codes "1 1 at 1 stored 1"
    ∷ codes "2 1 at 1 unclosed"
    ∷ history_of_put
    ++ codes "order 1x1 2x1 1x19"
    ∷ [])

-- an actor is dropped while it reads: twelve requests were logged before
abbrev pub DroppedDuringGet : Type 0
DroppedDuringGet = Prints
    (small_script 9 ((put_one ∷ get_all path_a ∷ []) ∷ (Does.Drop 1 ∷ []) ∷ []))
    (steps 1 21 ++ steps 2 1 ++ steps 1 7)
    (codes "1 1 at 1 stored 1"
    ∷ codes "1 2 dropped 12"
    ∷ codes "2 1 done"
    ∷ history_of_put
    ++ codes "order 1x21 2x1 1x7"
    ∷ [])

-- a log disk fails: the directory isn't made, and is made the next time
abbrev pub LogFails : Type 0
LogFails = Prints
    (small_script 9 ((Does.File (File.Mkdir path_d) ∷ Does.File (File.Mkdir path_d) ∷ []) ∷ []))
    (failing_steps 1 1 ++ steps 1 1)
    (codes "1 1 logfault"
    ∷ codes "1 2 at 0 done"
    ∷ codes "history 0 mkdir /d"
    ∷ codes "order 1fx1 1x1"
    ∷ [])
