-- Small texts, and what they say: a whole script with each form of line, and what is read where a rule could
-- be taken in two ways.
use Rattle.std.specs.Prelude.{◌≡◌, ℕ, true, false, List, [], ◌∷◌, ◌++◌, codes, decimal, map, replicate, Some, None, Ok, Err}
use Rattle.std.specs.List.{range_with_len}
use Rattle.qfs_base.specs.declared.command.Command.{Command}
use Rattle.qfs_base.specs.declared.command.Command.TheVariants as Does
use Rattle.qfs_base.specs.declared.command.FileCommand.TheVariants as File
use Rattle.qfs_base.specs.declared.history.Outcome.TheVariants as Ended
use Rattle.qfs_base.specs.declared.recipe.Form.TheVariants as Told
use Rattle.qfs_base.specs.declared.script.Script.{Script}
use Rattle.qfs_base.specs.declared.script.ScriptCause.TheVariants as Cause
use Rattle.qfs_model_script.specs.ScriptText.{script_text}
use Rattle.qfs_model_grammar.specs.Examples.{text_of_lines, IsRefused, Says}
use Rattle.qfs_model_grammar.specs.LinePlace as Behind
use Rattle.qfs_model_grammar.specs.ReadScript.{read_script, read_line}
use Rattle.qfs_model_grammar.specs.SoFar.{SoFar, nothing_yet}

-- ---- a whole script

abbrev pub every_form : List (List ℕ)
every_form =
    codes "# each form of line once"
    ∷ codes "qfs 1"
    ∷ codes "layout 32 4"
    ∷ codes "servers   12 "
    ∷ codes ""
    ∷ codes "term 3"
    ∷ codes "audit"
    ∷ codes "phase"
    ∷ codes "actor 1"
    ∷ codes "  mkdir /d"
    ∷ codes "put /d/a hex 0aFf"
    ∷ codes "put /d/b fill 7f 100"
    ∷ codes "put /d/c pattern 4294967295 268435"
    ∷ codes "get /d/a"
    ∷ codes "get /d/b 0 268435456"
    ∷ codes "   # a remark"
    ∷ codes "rename /d/a /e"
    ∷ codes "list /"
    ∷ codes "remove /e"
    ∷ codes "rmdir /d"
    ∷ codes "actor 2"
    ∷ codes "phase"
    ∷ codes "actor 3"
    ∷ codes "recover /d/b 65535 8"
    ∷ codes "move /d/b 0 0 12"
    ∷ codes "heal 100000"
    ∷ codes "rebalance 1"
    ∷ codes "evacuate 1 9"
    ∷ codes "sweep 5"
    ∷ codes "stop 1"
    ∷ codes "start 1"
    ∷ codes "wipe 2"
    ∷ codes "hibernate 3 1000"
    ∷ codes "upgrade 4"
    ∷ codes "tick"
    ∷ codes "drop 64"
    ∷ codes "checkpoint"
    ∷ codes "restart"
    ∷ codes "order 1x2 3fx1 1mx1 1x1"
    ∷ []

abbrev pub first_commands : List Command
first_commands =
    Does.File (File.Mkdir (codes "d" ∷ []))
    ∷ Does.File (File.Put (codes "d" ∷ codes "a" ∷ []) (Told.Hex (10 ∷ 255 ∷ [])))
    ∷ Does.File (File.Put (codes "d" ∷ codes "b" ∷ []) (Told.Fill 127 100))
    ∷ Does.File (File.Put (codes "d" ∷ codes "c" ∷ []) (Told.Pattern 4294967295 268435))
    ∷ Does.File (File.Get (codes "d" ∷ codes "a" ∷ []) None)
    ∷ Does.File (File.Get (codes "d" ∷ codes "b" ∷ []) (Some (record { from = 0; count = 268435456 })))
    ∷ Does.File (File.Rename (codes "d" ∷ codes "a" ∷ []) (codes "e" ∷ []))
    ∷ Does.File (File.List [])
    ∷ Does.File (File.Remove (codes "e" ∷ []))
    ∷ Does.File (File.Rmdir (codes "d" ∷ []))
    ∷ []

abbrev pub third_commands : List Command
third_commands =
    Does.Recover (codes "d" ∷ codes "b" ∷ []) 65535 8
    ∷ Does.Move (codes "d" ∷ codes "b" ∷ []) 0 0 12
    ∷ Does.Heal 100000
    ∷ Does.Rebalance 1
    ∷ Does.Evacuate 1 9
    ∷ Does.Sweep 5
    ∷ Does.Stop 1
    ∷ Does.Start 1
    ∷ Does.Wipe 2
    ∷ Does.Hibernate 3 1000
    ∷ Does.Upgrade 4
    ∷ Does.Tick
    ∷ Does.Drop 64
    ∷ Does.Checkpoint
    ∷ Does.Restart
    ∷ []

abbrev pub every_command : Script
every_command = record {
  layout = record { s = 32; r = 4 };
  servers = 12;
  term = 3;
  audit = true;
  phases = (first_commands ∷ [] ∷ []) ∷ (third_commands ∷ []) ∷ [];
  order = Some (
      record { actor = 1; outcome = Ended.Done }
      ∷ record { actor = 1; outcome = Ended.Done }
      ∷ record { actor = 3; outcome = Ended.Failed }
      ∷ record { actor = 1; outcome = Ended.NoMemory }
      ∷ record { actor = 1; outcome = Ended.Done }
      ∷ []);
}

-- it is read to its value, and what is printed of that value is read to it too
pub record WholeScript : Type 0 where
  pub said : Says every_form every_command
  pub again : read_script true (script_text every_command) ≡ Ok every_command

-- ---- lines and remarks

abbrev pub shortest : List (List ℕ)
shortest = codes "qfs 1" ∷ codes "layout 16 1" ∷ codes "servers 9" ∷ codes "phase" ∷ []

abbrev pub shortest_script : Script
shortest_script = record {
  layout = record { s = 16; r = 1 };
  servers = 9;
  term = 0;
  audit = false;
  phases = [] ∷ [];
  order = None;
}

-- a last line end opens no further line, and the last line may lack it; a phase without actors is complete,
-- and an order may follow it
pub record LinesEnd : Type 0 where
  pub whole : Says shortest shortest_script
  pub unended : read_script false (text_of_lines (codes "qfs 1" ∷ codes "layout 16 1" ∷ codes "servers 9" ∷ []) ++ codes "phase") ≡ Ok shortest_script
  pub empty : read_script false [] ≡ Err (1, Cause.Word)
  pub one_end : read_script false (10 ∷ []) ≡ Err (2, Cause.Word)
  pub ordered : Says (shortest ++ codes "order" ∷ []) (record shortest_script { order = Some [] })
  pub unread : IsRefused 6 Cause.Word (shortest ++ codes "order" ∷ codes "phase" ∷ [])

-- an order is missing only under a replay, and only where the script is good
pub record OrderIsMissing : Type 0 where
  pub missing : read_script true (text_of_lines shortest) ≡ Err (5, Cause.NoOrder)
  pub there : read_script true (text_of_lines (shortest ++ codes "order" ∷ [])) ≡ Ok (record shortest_script { order = Some [] })
  pub bad : read_script true (text_of_lines (shortest ++ codes "audit" ∷ [])) ≡ Err (5, Cause.Word)
  pub early : read_script true (text_of_lines (codes "qfs 1" ∷ [])) ≡ Err (2, Cause.Word)

-- ---- the causes of one line

-- a text with this line as its sixth, the first of an actor's commands
abbrev pub with_command_line : List ℕ → List (List ℕ)
with_command_line line = shortest ++ codes "actor 1" ∷ line ∷ []

-- which of several causes a line has: they are tried in order
pub record CausesInOrder : Type 0 where
  pub bare_put : IsRefused 6 Cause.Count (with_command_line (codes "put"))
  pub put_of_path : IsRefused 6 Cause.Count (with_command_line (codes "put /a"))
  pub put_of_unknown : IsRefused 6 Cause.Word (with_command_line (codes "put a foo"))
  pub put_of_many : IsRefused 6 Cause.Word (with_command_line (codes "put /a foo 1 2 3 4"))
  pub count_before_path : IsRefused 6 Cause.Count (with_command_line (codes "get a 1"))
  pub path_first : IsRefused 6 Cause.Path (with_command_line (codes "put a fill zz 268435457"))
  pub hex_next : IsRefused 6 Cause.Hex (with_command_line (codes "put /a fill zz 268435457"))
  pub number_last : IsRefused 6 Cause.Number (with_command_line (codes "put /a fill 00 268435457"))
  pub text_first : IsRefused 6 Cause.NotText (with_command_line (codes "foo" ++ 127 ∷ []))
  pub text_in_remark : IsRefused 6 Cause.NotText (with_command_line (codes "# a remark" ++ 9 ∷ []))
  pub leading_zero : IsRefused 6 Cause.Number (with_command_line (codes "stop 01"))
  pub number_with_sign : IsRefused 6 Cause.Number (with_command_line (codes "stop +1"))
  pub server_too_high : IsRefused 6 Cause.Number (with_command_line (codes "upgrade 10"))
  pub odd_digits : IsRefused 6 Cause.Hex (with_command_line (codes "put /a hex 012"))
  pub dots : IsRefused 6 Cause.Path (with_command_line (codes "list /a/.."))
  pub slash_at_end : IsRefused 6 Cause.Path (with_command_line (codes "list /a/"))

-- a term stands behind the servers, before the audit, and is 1 to 1,000; a run has an actor, a mark or none,
-- and a count
pub record HeadsAndRuns : Type 0 where
  pub term_behind_audit : IsRefused 5 Cause.Word (codes "qfs 1" ∷ codes "layout 16 1" ∷ codes "servers 9" ∷ codes "audit" ∷ codes "term 1" ∷ [])
  pub second_term : IsRefused 5 Cause.Word (codes "qfs 1" ∷ codes "layout 16 1" ∷ codes "servers 9" ∷ codes "term 1" ∷ codes "term 1" ∷ [])
  pub no_ticks : IsRefused 4 Cause.Number (codes "qfs 1" ∷ codes "layout 16 1" ∷ codes "servers 9" ∷ codes "term 0" ∷ [])
  pub too_many_ticks : IsRefused 4 Cause.Number (codes "qfs 1" ∷ codes "layout 16 1" ∷ codes "servers 9" ∷ codes "term 1001" ∷ [])
  pub other_version : IsRefused 1 Cause.Number (codes "qfs 2" ∷ [])
  pub odd_stripe : IsRefused 2 Cause.Number (codes "qfs 1" ∷ codes "layout 24 1" ∷ [])
  pub actor_in_head : IsRefused 4 Cause.Word (codes "qfs 1" ∷ codes "layout 16 1" ∷ codes "servers 9" ∷ codes "actor 1" ∷ [])
  pub command_in_phase : IsRefused 5 Cause.Word (shortest ++ codes "tick" ∷ [])
  pub run_of_none : IsRefused 5 Cause.Number (shortest ++ codes "order 1x0" ∷ [])
  pub run_of_no_actor : IsRefused 5 Cause.Number (shortest ++ codes "order x1" ∷ [])
  pub run_of_65 : IsRefused 5 Cause.Number (shortest ++ codes "order 1x1 65x1" ∷ [])
  pub run_too_long : IsRefused 5 Cause.Number (shortest ++ codes "order 1x4294967296" ∷ [])
  pub other_mark : IsRefused 5 Cause.Number (shortest ++ codes "order 1gx1" ∷ [])

-- ---- limits

-- a line for each actor up to this one
abbrev pub actors_to : ℕ → List (List ℕ)
actors_to last = map (λ number. codes "actor " ++ decimal number) (range_with_len 1 last)

-- behind this last command of the 64th actor
abbrev pub full_actor : SoFar
full_actor = record nothing_yet { place = Behind.Actor; script = record shortest_script { phases = ([] ∷ []) ∷ [] }; actors = 64; commands = 4096 }

-- the first line past a limit has that cause, where none of the others: actors have to be numbered on, puts
-- are counted whether they are run or not, and the lines with remarks and empty ones
pub record PastLimits : Type 0 where
  pub phases : IsRefused 20 Cause.Limit (shortest ++ replicate 16 (codes "phase"))
  pub actors : IsRefused 69 Cause.Limit (shortest ++ actors_to 65)
  pub numbered_on : IsRefused 69 Cause.Number (shortest ++ actors_to 64 ++ codes "actor 66" ∷ [])
  pub commands : read_line full_actor 100 (codes "tick") ≡ Err Cause.Limit
  pub bad_command : read_line full_actor 100 (codes "stop 10") ≡ Err Cause.Number
  pub lines : read_line full_actor 100001 (codes "") ≡ Err Cause.Limit
  pub last_line : read_line full_actor 100000 (codes "# the last") ≡ Ok full_actor
  pub bad_line : read_line full_actor 100001 (codes "foo") ≡ Err Cause.Word
  pub blocks : read_line (record full_actor { commands = 0; blocks = 262143 }) 100 (codes "put /a fill 00 97") ≡ Err Cause.Limit
  pub chunk_bytes : read_line (record full_actor { commands = 0; chunk_bytes = 3221225329 }) 100 (codes "put /a hex 00") ≡ Err Cause.Limit
