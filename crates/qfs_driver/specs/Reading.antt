-- What reading the script of a run comes to.
use Rattle.std.specs.Prelude.{◌≡◌, ℕ, ◌<◌, ◌≤◌, ◌⊎◌, List, length, Option, Some, ⊤, Ok, Err}
use Rattle.qfs_base.specs.declared.script.Script.{Script}
use Rattle.qfs_base.specs.declared.script.ScriptCause.{ScriptCause}
use Rattle.qfs_base.specs.declared.script.ScriptCause.TheVariants as Cause
use Rattle.qfs_device.specs.Fault.{Rose}
use Rattle.qfs_device.specs.Stream.{Gives, IsAtEnd}
use Rattle.qfs_driver.specs.declared.status.Status.{Status}
use Rattle.qfs_driver.specs.declared.status.Status.TheVariants as Ended
use Rattle.qfs_first.specs.Lines.{text_lines}
use Rattle.qfs_first.specs.Script.{read_lines}

-- the most bytes of a script
abbrev pub most_script_bytes : ℕ
most_script_bytes = 16777216

-- the source gave all that it had, and that is the text of this script
pub record ReadsWhole (before after : Option (List ℕ)) (script : Script) : Type 0 where
  pub bytes : List ℕ
  pub gave : Gives bytes before after
  pub at_end : IsAtEnd after
  pub short : length bytes ≤ most_script_bytes
  pub says : read_lines (text_lines bytes) ≡ Ok script

-- the source tells what it has left, and that is the text of this script
pub record TellsScript (left : Option (List ℕ)) (script : Script) : Type 0 where
  pub bytes : List ℕ
  pub left_is : left ≡ Some bytes
  pub short : length bytes ≤ most_script_bytes
  pub says : read_lines (text_lines bytes) ≡ Ok script

-- the source gave more bytes than a script may have
pub record TooBig (before after : Option (List ℕ)) : Type 0 where
  pub bytes : List ℕ
  pub gave : Gives bytes before after
  pub long : most_script_bytes < length bytes

-- the source gave all that it had, and the line of this number is the first that isn't of the forms
pub record LineIsBad (before after : Option (List ℕ)) (line : ℕ) : Type 0 where
  pub bytes : List ℕ
  pub gave : Gives bytes before after
  pub at_end : IsAtEnd after
  pub short : length bytes ≤ most_script_bytes
  pub says : read_lines (text_lines bytes) ≡ Err line

-- a script is refused at a line, or at line 0 for its size
abbrev pub RefusesScript : Option (List ℕ) → Option (List ℕ) → ℕ → ScriptCause → Type 0
RefusesScript before after line cause =
    (cause ≡ Cause.NotYet) × (((line ≡ 0) × TooBig before after) ⊎ LineIsBad before after line)

-- why a script isn't read: the source failed, memory is wanting, or the script is refused
abbrev pub ReadEnds : Option (List ℕ) → Option (List ℕ) → ℕ → ℕ → Status → Type 0
ReadEnds before after faults faults' Ended.ReadFault = Rose faults faults'
ReadEnds before after faults faults' Ended.NoMemory = ⊤
ReadEnds before after faults faults' (Ended.BadScript line cause) =
    RefusesScript before after line cause
ReadEnds before after faults faults' _ = ⊥
