-- A run that is audited.
use Rattle.std.specs.Prelude.{true, [], ◌∷◌, ◌++◌, codes}
use Rattle.qfs_base.specs.declared.command.Command.TheVariants as Does
use Rattle.qfs_base.specs.declared.script.Script.{Script}
use Rattle.qfs_model_rows.specs.Prints.{Prints}
use Rattle.qfs_model_rows.specs.Scripts.{path_a, get_all, put_five, small_script, steps, history_of_put}

-- a server is emptied after the file was opened: the get reads a parity slot in its place, and the audit misses the copy
abbrev pub wiped_during_get : Script
wiped_during_get = small_script 9 ((put_five ∷ get_all path_a ∷ []) ∷ (Does.Wipe 1 ∷ []) ∷ [])

abbrev pub AuditedWipe : Type 0
AuditedWipe = Prints
    (record wiped_during_get { audit = true })
    (steps 1 21 ++ steps 2 3 ++ steps 1 8)
    (codes "1 1 at 1 stored 5"
    ∷ codes "1 2 at 2 read 5 hex 0102030405"
    ∷ codes "2 1 wiped 2"
    ∷ history_of_put
    ++ codes "audit /a 0 xrrrrrrrr"
    ∷ codes "summary files 1 dirs 0 blocks 1 copies 9 condemned 0 steps 32"
    ∷ codes "order 1x21 2x3 1x8"
    ∷ [])
