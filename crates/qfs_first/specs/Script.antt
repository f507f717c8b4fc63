-- A script: the lines of its head, and then those of one actor's commands. Where a line is of
-- another form the answer is its number, from 1; where the text ends too early, the number that the
-- next line would have.
use Rattle.std.specs.Prelude.{◌≡◌, MatchResult, ℕ, ◌+◌, nat_lt, if◌then◌else◌, false, List, [], ◌∷◌, codes, Option, Some, None, Result, Ok, Err}
use Rattle.qfs_base.specs.Shape.{Shape}
use Rattle.qfs_base.specs.declared.command.Command.{Command}
use Rattle.qfs_base.specs.declared.script.Script.{Script}
use Rattle.qfs_first.specs.Commands.{command_form}
use Rattle.qfs_first.specs.Head.{fixed_form, layout_form, servers_form}

-- the second step, if the first gave a value
infixl 10 ◌>>=◌
abbrev pub ◌>>=◌ : {A B : Type 0} → Result A ℕ → (A → Result B ℕ) → Result B ℕ
Ok value >>= next = next value
Err number >>= next = Err number

-- a value, or this number where there is none
abbrev pub or_number : {A : Type 0} → ℕ → Option A → Result A ℕ
or_number number None = Err number
or_number number (Some value) = Ok value

-- what the line of this number says by its form, and the lines behind it
abbrev pub read_line : {A : Type 0} → ℕ → (List ℕ → Option A) → List (List ℕ) → Result (A × List (List ℕ)) ℕ
read_line number form [] = Err number
read_line number form (line ∷ lines) = do
  value ← or_number number (form line)
  Ok (value, lines)

-- what was read of lines is the value that they say, and these lines are left; or it is the number
-- of the bad line
abbrev pub Says : {A : Type 0} → Result (A × List (List ℕ)) ℕ → List (List ℕ) → Result A ℕ → Type 0
Says said left read = MatchResult read (λ value. said ≡ Ok (value, left)) (λ number. said ≡ Err number)

-- what the first five lines say: the layout and the number of servers
unfoldable pub read_head : List (List ℕ) → Result ((Shape × ℕ) × List (List ℕ)) ℕ
read_head lines = do
  first ← read_line 1 (fixed_form (codes "qfs 1")) lines
  layout ← read_line 2 layout_form first.1
  servers ← read_line 3 servers_form layout.1
  phase ← read_line 4 (fixed_form (codes "phase")) servers.1
  actor ← read_line 5 (fixed_form (codes "actor 1")) phase.1
  Ok ((layout.0, servers.0), actor.1)

-- the number of the first command's line
abbrev pub first_command : ℕ
first_command = 6

-- the most commands of an actor
abbrev pub most_commands : ℕ
most_commands = 4096

-- the command that the line of this number says, if there is room for one more
abbrev pub command_at : ℕ → List ℕ → Option Command
command_at number line = if nat_lt number (first_command + most_commands) then command_form line else None

-- the commands of lines, the first of which has this number
unfoldable pub read_commands : ℕ → List (List ℕ) → Result (List Command) ℕ
read_commands number [] = Ok []
read_commands number (line ∷ lines) = do
  command ← or_number number (command_at number line)
  commands ← read_commands (number + 1) lines
  Ok (command ∷ commands)

-- the script of one phase, in which one actor has these commands
abbrev pub script_of : Shape → ℕ → List Command → Script
script_of layout servers commands = record {
  layout = layout;
  servers = servers;
  term = 0;
  audit = false;
  phases = (commands ∷ []) ∷ [];
  order = None;
}

-- the script that lines say, or the number of the first that isn't of these forms
unfoldable pub read_lines : List (List ℕ) → Result Script ℕ
read_lines lines = do
  head ← read_head lines
  commands ← read_commands first_command head.1
  Ok (script_of head.0.0 head.0.1 commands)
