-- What is read of a script's text.
use Rattle.std.specs.Prelude.{◌≡◌, ℕ, Bool, List, Ok}
use Rattle.qfs_base.specs.declared.script.Script.{Script}
use Rattle.qfs_model_grammar.specs.Laws.{HasRoom, IsRead}
use Rattle.qfs_model_grammar.specs.ReadScript.{read_script}

-- reading the text gives the script back, for a replay too if it has an order
abbrev pub IsReadBack : Script → List ℕ → Type 0
IsReadBack script text =
    (replays : Bool) → IsRead replays script → HasRoom script → read_script replays text ≡ Ok script
