-- How a script is printed: one blank between two words, no empty lines and no remarks.
use Rattle.std.specs.Prelude.{ℕ, zero, suc, ◌+◌, Bool, true, false, List, [], ◌∷◌, ◌++◌, codes, decimal, length, map, flat_map, Option, Some, None}
use Rattle.hex.specs.Hex.{encode_lower}
use Rattle.qfs_base.specs.Path.{path_text}
use Rattle.qfs_base.specs.declared.command.Command.{Command}
use Rattle.qfs_base.specs.declared.command.Command.TheVariants as Does
use Rattle.qfs_base.specs.declared.command.FileCommand.{FileCommand}
use Rattle.qfs_base.specs.declared.command.FileCommand.TheVariants as File
use Rattle.qfs_base.specs.declared.command.Range.{Range}
use Rattle.qfs_base.specs.declared.history.Step.{Step}
use Rattle.qfs_base.specs.declared.recipe.Form.{Form}
use Rattle.qfs_base.specs.declared.script.Script.{Script}
use Rattle.qfs_model_text.specs.Line.{Words, line}
use Rattle.qfs_model_text.specs.Order.{order_line}

-- lines of a text, each with its end
abbrev pub Lines : Type 0
Lines = List (List ℕ)

-- ---- commands

-- how the bytes of a put are told
unfoldable pub recipe_words : Form → Words
recipe_words (Form.Hex bytes) = codes "hex" ∷ encode_lower bytes ∷ []
recipe_words (Form.Fill byte len) = codes "fill" ∷ encode_lower (byte ∷ []) ∷ decimal len ∷ []
recipe_words (Form.Pattern start len) = codes "pattern" ∷ decimal start ∷ decimal len ∷ []

unfoldable pub range_words : Option Range → Words
range_words None = []
range_words (Some range) = decimal range.from ∷ decimal range.count ∷ []

unfoldable pub file_command_line : FileCommand → List ℕ
file_command_line (File.Mkdir path) = line (codes "mkdir") (path_text path ∷ [])
file_command_line (File.Rmdir path) = line (codes "rmdir") (path_text path ∷ [])
file_command_line (File.Remove path) = line (codes "remove") (path_text path ∷ [])
file_command_line (File.Rename from to) = line (codes "rename") (path_text from ∷ path_text to ∷ [])
file_command_line (File.List path) = line (codes "list") (path_text path ∷ [])
file_command_line (File.Put path recipe) = line (codes "put") (path_text path ∷ recipe_words recipe)
file_command_line (File.Get path range) = line (codes "get") (path_text path ∷ range_words range)

unfoldable pub command_line : Command → List ℕ
command_line (Does.File command) = file_command_line command
command_line (Does.Recover path index slot) =
    line (codes "recover") (path_text path ∷ decimal index ∷ decimal slot ∷ [])
command_line (Does.Move path index slot server) =
    line (codes "move") (path_text path ∷ decimal index ∷ decimal slot ∷ decimal server ∷ [])
command_line (Does.Heal budget) = line (codes "heal") (decimal budget ∷ [])
command_line (Does.Rebalance budget) = line (codes "rebalance") (decimal budget ∷ [])
command_line (Does.Evacuate server budget) = line (codes "evacuate") (decimal server ∷ decimal budget ∷ [])
command_line (Does.Sweep budget) = line (codes "sweep") (decimal budget ∷ [])
command_line (Does.Stop server) = line (codes "stop") (decimal server ∷ [])
command_line (Does.Start server) = line (codes "start") (decimal server ∷ [])
command_line (Does.Wipe server) = line (codes "wipe") (decimal server ∷ [])
command_line (Does.Hibernate server ticks) = line (codes "hibernate") (decimal server ∷ decimal ticks ∷ [])
command_line (Does.Upgrade server) = line (codes "upgrade") (decimal server ∷ [])
command_line Does.Tick = line (codes "tick") []
command_line (Does.Drop actor) = line (codes "drop") (decimal actor ∷ [])
command_line Does.Checkpoint = line (codes "checkpoint") []
command_line Does.Restart = line (codes "restart") []

-- ---- the whole script

-- the line that gives leases a term, if they have one
unfoldable pub term_word : ℕ → Lines
term_word zero = []
term_word (suc ticks) = line (codes "term") (decimal (suc ticks) ∷ []) ∷ []

-- the line that asks for an audit, if there is one
unfoldable pub audit_word : Bool → Lines
audit_word false = []
audit_word true = line (codes "audit") [] ∷ []

-- the lines before the first phase
unfoldable pub head_lines : Script → Lines
head_lines script =
    line (codes "qfs") (codes "1" ∷ [])
    ∷ line (codes "layout") (decimal script.layout.s ∷ decimal script.layout.r ∷ [])
    ∷ line (codes "servers") (decimal script.servers ∷ [])
    ∷ term_word script.term ++ audit_word script.audit

-- the lines of these actors, the first of which has this number
unfoldable pub actor_lines : ℕ → List (List Command) → Lines
actor_lines number [] = []
actor_lines number (commands ∷ more) =
    line (codes "actor") (decimal number ∷ []) ∷ map command_line commands ++ actor_lines (number + 1) more

-- the lines of these phases; actors are numbered through all of them
unfoldable pub phase_lines : ℕ → List (List (List Command)) → Lines
phase_lines number [] = []
phase_lines number (phase ∷ phases) =
    line (codes "phase") [] ∷ actor_lines number phase ++ phase_lines (number + length phase) phases

-- the line of a given order, if there is one
unfoldable pub order_lines : Option (List Step) → Lines
order_lines None = []
order_lines (Some order) = order_line order ∷ []

-- the lines of a script, and its text
unfoldable pub script_lines : Script → Lines
script_lines script = head_lines script ++ phase_lines 1 script.phases ++ order_lines script.order

unfoldable pub script_text : Script → List ℕ
script_text script = flat_map (λ line. line) (script_lines script)
