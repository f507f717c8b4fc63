-- A small script with its text, and what is made of a number.
use Rattle.std.specs.Prelude.{◌≡◌, false, [], ◌∷◌, ◌++◌, codes, map, length, take, None}
use Rattle.qfs_base.specs.declared.command.Command.TheVariants as Does
use Rattle.qfs_base.specs.declared.command.FileCommand.TheVariants as File
use Rattle.qfs_base.specs.declared.recipe.Form.TheVariants as Form
use Rattle.qfs_base.specs.declared.script.Script.{Script}
use Rattle.qfs_model_script.specs.InScript.{IsScript}
use Rattle.qfs_model_script.specs.MadeScript.{made_line, made_script}
use Rattle.qfs_model_script.specs.ScriptText.{Lines, script_lines}

-- five bytes are put and read again
abbrev pub put_and_get : Script
put_and_get = record {
  layout = record { s = 16; r = 2 };
  servers = 9;
  term = 0;
  audit = false;
  phases = ((Does.File (File.Put (codes "a" ∷ []) (Form.Hex (1 ∷ 2 ∷ 3 ∷ 4 ∷ 5 ∷ [])))
      ∷ Does.File (File.Get (codes "a" ∷ []) None)
      ∷ []) ∷ []) ∷ [];
  order = None;
}

-- these lines, each with its end
abbrev pub ended : Lines → Lines
ended lines = map (λ line. line ++ 10 ∷ []) lines

-- it is printed in seven lines, and keeps all limits
pub record SmallScript : Type 0 where
  pub text : script_lines put_and_get ≡ ended (
      codes "qfs 1"
      ∷ codes "layout 16 2"
      ∷ codes "servers 9"
      ∷ codes "phase"
      ∷ codes "actor 1"
      ∷ codes "put /a hex 0102030405"
      ∷ codes "get /a"
      ∷ [])
  pub limits : IsScript put_and_get

-- the script that is made of 5: its first nine lines, how many it has, and the line that tells so. The drawn numbers and the
-- count of bytes were worked out with another program
pub record MadeOfFive : Type 0 where
  pub begins : take 9 (script_lines (made_script 5)) ≡ ended (
      codes "qfs 1"
      ∷ codes "layout 256 8"
      ∷ codes "servers 12"
      ∷ codes "audit"
      ∷ codes "phase"
      ∷ codes "actor 1"
      ∷ codes "mkdir /c1"
      ∷ codes "put /c1/f1 pattern 2707843628 24549"
      ∷ codes "put /c1/f2 pattern 258763623 7068"
      ∷ [])
  pub lines : length (script_lines (made_script 5)) ≡ 1061
  pub told : made_line 5 ≡ codes "made 5 lines 1061 bytes 24226" ++ 10 ∷ []
