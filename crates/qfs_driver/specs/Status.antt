-- How a run ends: the program's exit code, and what it says on standard error.
use Rattle.std.specs.Prelude.{ℕ, List, [], ◌++◌, codes, decimal}
use Rattle.qfs_base.specs.declared.script.ScriptCause.{ScriptCause}
use Rattle.qfs_base.specs.declared.script.ScriptCause.TheVariants as Cause
use Rattle.qfs_driver.specs.declared.status.Status.{Status}
use Rattle.qfs_driver.specs.declared.status.Status.TheVariants as Ended

-- the exit code
unfoldable pub exit_code : Status → ℕ
exit_code Ended.Ok = 0
exit_code Ended.Usage = 2
exit_code (Ended.BadScript line cause) = 3
exit_code (Ended.TooFewDevices servers devices) = 5
exit_code Ended.ReadFault = 6
exit_code Ended.WriteFault = 7
exit_code Ended.NoMemory = 10
exit_code (Ended.DeviceFault server) = 11

-- the word for why a line of a script is refused
unfoldable pub script_cause_word : ScriptCause → List ℕ
script_cause_word Cause.TooBig = codes "toobig"
script_cause_word Cause.NotText = codes "nottext"
script_cause_word Cause.Word = codes "word"
script_cause_word Cause.Count = codes "count"
script_cause_word Cause.Number = codes "number"
script_cause_word Cause.Path = codes "path"
script_cause_word Cause.Hex = codes "hex"
script_cause_word Cause.Limit = codes "limit"
script_cause_word Cause.NoOrder = codes "noorder"
script_cause_word Cause.NotYet = codes "notyet"

-- the words that the program is run with
abbrev pub usage : List ℕ
usage = codes "usage: qfs step N | replay | run | make N"

-- what is said, without the end of the line
unfoldable pub status_text : Status → List ℕ
status_text Ended.Ok = []
status_text Ended.Usage = usage
status_text (Ended.BadScript line cause) =
    codes "line " ++ decimal line ++ codes ": " ++ script_cause_word cause
status_text (Ended.TooFewDevices servers devices) = codes "devices " ++ decimal devices
status_text Ended.ReadFault = codes "read"
status_text Ended.WriteFault = codes "write"
status_text Ended.NoMemory = codes "memory"
status_text (Ended.DeviceFault server) = codes "device " ++ decimal server
