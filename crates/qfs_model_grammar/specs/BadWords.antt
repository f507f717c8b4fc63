-- Texts with a line that begins by a word which may not stand there, or which ends too early. What stands
-- behind the bad line is left out.
use Rattle.std.specs.Prelude.{[], ◌∷◌, codes}
use Rattle.qfs_base.specs.declared.script.ScriptCause.TheVariants as Cause
use Rattle.qfs_model_grammar.specs.Examples.{IsRefused}

pub record BadWords : Type 0 where
  -- a run of an order stands among commands
  pub run_as_command : IsRefused 50 Cause.Word (
      codes "qfs 1"
      ∷ codes "layout 32 4"
      ∷ codes "servers 11"
      ∷ codes "audit"
      ∷ codes "phase"
      ∷ codes "actor 1"
      ∷ codes "mkdir /.d"
      ∷ codes "put /A pattern 298529468 0"
      ∷ codes "put /b hex 13"
      ∷ codes "actor 2"
      ∷ codes "put /c hex 59"
      ∷ codes "phase"
      ∷ codes "actor 3"
      ∷ codes "remove /A"
      ∷ codes "get /A"
      ∷ codes "restart"
      ∷ codes "rename /c /b"
      ∷ codes "put /c pattern 4294967295 768"
      ∷ codes "get /A"
      ∷ codes "actor 4"
      ∷ codes "rename /A /.d"
      ∷ codes "get /b"
      ∷ codes "get /b 0 192"
      ∷ codes "stop 8"
      ∷ codes "rename /e /c"
      ∷ codes "tick"
      ∷ codes "list /"
      ∷ codes "list /"
      ∷ codes "recover /c 0 0"
      ∷ codes "rebalance 1"
      ∷ codes "tick"
      ∷ codes "tick"
      ∷ codes "tick"
      ∷ codes "recover /b 0 3"
      ∷ codes "remove /A"
      ∷ codes "hibernate 1 9"
      ∷ codes "actor 5"
      ∷ codes "get /b 1 519"
      ∷ codes "put /A hex d926a254"
      ∷ codes "phase"
      ∷ codes "actor 6"
      ∷ codes "move /A 0 6 10"
      ∷ codes "actor 7"
      ∷ codes "sweep 2"
      ∷ codes "get /b"
      ∷ codes "put /A fill fd 358"
      ∷ codes "checkpoint"
      ∷ codes "put /b fill b6 1129"
      ∷ codes "evacuate 6 20"
      ∷ codes "1fx0"
      ∷ [])
  -- behind `put` the path is missing, so the second word behind it is no kind of recipe
  pub recipe_without_path : IsRefused 12 Cause.Word (
      codes "qfs 1"
      ∷ codes "layout 32 4"
      ∷ codes "servers 12"
      ∷ codes "term 3"
      ∷ codes "audit"
      ∷ codes "phase"
      ∷ codes "actor 1"
      ∷ codes "mkdir /.d"
      ∷ codes "mkdir /d"
      ∷ codes "put /d. pattern 3218456012 3"
      ∷ codes "put /c hex e5a3c2ea2e"
      ∷ codes "put pattern 7 164"
      ∷ [])
  -- a command stands before the layout
  pub command_for_layout : IsRefused 2 Cause.Word (
      codes "qfs 1"
      ∷ codes "stop 2"
      ∷ [])
  -- the same with another command
  pub drop_for_layout : IsRefused 2 Cause.Word (
      codes "qfs 1"
      ∷ codes "drop 7"
      ∷ [])
  -- the text ends where the servers should stand
  pub early_end : IsRefused 3 Cause.Word (
      codes "qfs 1"
      ∷ codes "layout 16 1024"
      ∷ [])
  -- a number below 0 stands for a first word
  pub number_as_word : IsRefused 4 Cause.Word (
      codes "qfs 1"
      ∷ codes "layout 32 4"
      ∷ codes "servers 8"
      ∷ codes "-1 614"
      ∷ [])
  -- a number stands for a first word, among commands
  pub number_among_commands : IsRefused 28 Cause.Word (
      codes "qfs 1"
      ∷ codes "layout 16 2"
      ∷ codes "servers 11"
      ∷ codes "term 2"
      ∷ codes "phase"
      ∷ codes "actor 1"
      ∷ codes "mkdir /e"
      ∷ codes "stop 3"
      ∷ codes "stop 5"
      ∷ codes "put /d! hex 49"
      ∷ codes "put /e/a hex eed0d22751bb"
      ∷ codes "put /a hex cc"
      ∷ codes "put /A hex c44e6497c4a602ad284190c3eaa752f470eec96888ce39d0968dfdd78c81a0"
      ∷ codes "put /e/~ pattern 7 0"
      ∷ codes "phase"
      ∷ codes "actor 2"
      ∷ codes "tick"
      ∷ codes "sweep 9"
      ∷ codes "sweep 9"
      ∷ codes "sweep 1"
      ∷ codes "wipe 11"
      ∷ codes "wipe 5"
      ∷ codes "wipe 5"
      ∷ codes "actor 3"
      ∷ codes "get /d!"
      ∷ codes "tick"
      ∷ codes "get /d!"
      ∷ codes "100000"
      ∷ [])
