-- The scripts that are read so far.
use Rattle.std.specs.Prelude.{◌≡◌, false, List}
use Rattle.qfs_base.specs.declared.command.Command.{Command}
use Rattle.qfs_base.specs.declared.script.Script.{Script}
use Rattle.qfs_laws_first.specs.FirstPath.{IsFirstPath}

-- one actor puts few bytes and gets whole files, and no audit is asked for
pub record IsReadScript (script : Script) : Type 0 where
  pub commands : List Command
  pub first_path : IsFirstPath script commands
  pub plain : script.audit ≡ false
