-- A script's text, and what it says.
use Rattle.std.specs.Prelude.{ℕ, List, [], ◌∷◌, ◌++◌, codes, flat_map}
use Rattle.qfs_base.specs.declared.command.Command.TheVariants as Does
use Rattle.qfs_base.specs.declared.command.FileCommand.TheVariants as File
use Rattle.qfs_base.specs.declared.recipe.Form.TheVariants as Told
use Rattle.qfs_base.specs.declared.script.Script.{Script}
use Rattle.std.specs.Prelude.{None}
use Rattle.qfs_first.specs.Script.{script_of}

-- these lines, each with its end
abbrev pub text_of_lines : List (List ℕ) → List ℕ
text_of_lines lines = flat_map (λ line. line ++ 10 ∷ []) lines

-- three bytes are put and read again
abbrev pub first_text : List ℕ
first_text = text_of_lines
    (codes "qfs 1"
    ∷ codes "layout 65536 1024"
    ∷ codes "servers 10"
    ∷ codes "phase"
    ∷ codes "actor 1"
    ∷ codes "put /a hex 0102aB"
    ∷ codes "get /a"
    ∷ [])

abbrev pub first_script : Script
first_script = script_of (record { s = 65536; r = 1024 }) 10
    (Does.File (File.Put (codes "a" ∷ []) (Told.Hex (1 ∷ 2 ∷ 171 ∷ [])))
    ∷ Does.File (File.Get (codes "a" ∷ []) None)
    ∷ [])

-- a layout whose stripe is no power of two, in the second line
abbrev pub bad_text : List ℕ
bad_text = codes "qfs 1" ++ 10 ∷ codes "layout 24 2"
