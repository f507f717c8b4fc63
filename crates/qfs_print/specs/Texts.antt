-- The text of a script's commands, actors and lines.
use Rattle.std.specs.Prelude.{ℕ, List, flat_map}
use Rattle.qfs_base.specs.declared.command.Command.{Command}
use Rattle.qfs_model_script.specs.ScriptText.{Lines, command_line}

-- the lines of commands, one behind another
abbrev pub commands_text : List Command → List ℕ
commands_text commands = flat_map command_line commands

-- lines, one behind another
abbrev pub text_of_lines : Lines → List ℕ
text_of_lines lines = flat_map (λ line. line) lines

-- the actors' commands of these phases, by number
abbrev pub actors_in : List (List (List Command)) → List (List Command)
actors_in phases = flat_map (λ phase. phase) phases
