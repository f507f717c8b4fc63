-- Checkpoints and restarts of the metaserver.
use Rattle.std.specs.Prelude.{ℕ, List, [], ◌∷◌, ◌++◌, codes}
use Rattle.qfs_base.specs.declared.command.Command.{Command}
use Rattle.qfs_base.specs.declared.command.Command.TheVariants as Does
use Rattle.qfs_base.specs.declared.command.FileCommand.TheVariants as File
use Rattle.qfs_base.specs.declared.script.Script.{Script}
use Rattle.qfs_model_rows.specs.Prints.{Prints}
use Rattle.qfs_model_rows.specs.Scripts.{path_of, path_a, get_all, put_one, small_script, steps, failing_steps, history_of_put}

-- mkdir of a name in the root
abbrev pub mkdir : List ℕ → Command
mkdir name = Does.File (File.Mkdir (path_of name))

-- a checkpoint tells the turn, and so does a restart; both leave all as it was
abbrev pub saving : Script
saving = small_script 9 ((
    put_one
    ∷ Does.Checkpoint
    ∷ mkdir (codes "d")
    ∷ mkdir (codes "e")
    ∷ mkdir (codes "f")
    ∷ Does.Restart
    ∷ get_all path_a
    ∷ Does.File (File.List [])
    ∷ []) ∷ [])

abbrev pub SavedAndRestarted : Type 0
SavedAndRestarted = Prints
    saving
    (steps 1 34)
    (codes "1 1 at 1 stored 1"
    ∷ codes "1 2 saved 11"
    ∷ codes "1 3 at 2 done"
    ∷ codes "1 4 at 3 done"
    ∷ codes "1 5 at 4 done"
    ∷ codes "1 6 restarted 14"
    ∷ codes "1 7 at 5 read 1 hex 01"
    ∷ codes "1 8 at 5 list 4 a d/ e/ f/"
    ∷ history_of_put
    ++ codes "history 2 mkdir /d"
    ∷ codes "history 3 mkdir /e"
    ∷ codes "history 4 mkdir /f"
    ∷ codes "order 1x34"
    ∷ [])

-- a restart behind the first request, and one whose disk fails
abbrev pub mkdir_and_restart : Script
mkdir_and_restart = small_script 9 ((mkdir (codes "d") ∷ Does.Restart ∷ []) ∷ [])

pub record Restarts : Type 0 where
  pub restarts : Prints mkdir_and_restart (steps 1 2)
      (codes "1 1 at 0 done" ∷ codes "1 2 restarted 1" ∷ codes "history 0 mkdir /d" ∷ codes "order 1x2" ∷ [])
  pub fails : Prints mkdir_and_restart (steps 1 1 ++ failing_steps 1 1)
      (codes "1 1 at 0 done" ∷ codes "1 2 logfault" ∷ codes "history 0 mkdir /d" ∷ codes "order 1x1 1fx1" ∷ [])
