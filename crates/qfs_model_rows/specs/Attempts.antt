-- Gets that open their file again.
use Rattle.std.specs.Prelude.{List, [], ◌∷◌, ◌++◌, codes}
use Rattle.qfs_base.specs.declared.command.Command.TheVariants as Does
use Rattle.qfs_base.specs.declared.history.Step.{Step}
use Rattle.qfs_base.specs.declared.script.Script.{Script}
use Rattle.qfs_model_rows.specs.Failures.{stops}
use Rattle.qfs_model_rows.specs.Prints.{Prints}
use Rattle.qfs_model_rows.specs.Scripts.{path_a, get_all, put_one, small_script, steps, history_of_put}

-- four servers go down while a get reads, and one comes back before it opens its file again: then it reads
abbrev pub one_comes_back : Script
one_comes_back = small_script 9 ((put_one ∷ get_all path_a ∷ []) ∷ (stops ++ Does.Start 1 ∷ []) ∷ [])

abbrev pub back_order : List Step
back_order = steps 1 21 ++ steps 2 8 ++ steps 1 10 ++ steps 2 3 ++ steps 1 8

abbrev pub OpensAgain : Type 0
OpensAgain = Prints
    one_comes_back
    back_order
    (codes "1 1 at 1 stored 1"
    ∷ codes "1 2 at 2 read 1 hex 01"
    ∷ codes "2 1 stopped"
    ∷ codes "2 2 stopped"
    ∷ codes "2 3 stopped"
    ∷ codes "2 4 stopped"
    ∷ codes "2 5 started 1"
    ∷ history_of_put
    ++ codes "order 1x21 2x8 1x10 2x3 1x8"
    ∷ [])
