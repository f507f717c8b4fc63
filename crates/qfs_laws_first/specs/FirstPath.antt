-- Scripts of puts and gets, and among them those of the first path: one actor puts a few bytes that
-- are spelled out, and gets whole files. Cited by the laws of this crate.
use Rattle.std.specs.Prelude.{⊤, ◌≡◌, ◌≤◌, List, [], ◌∷◌, length, flat_map, None}
use Rattle.qfs_base.specs.Shape.{IsStripe, IsRowCount}
use Rattle.qfs_base.specs.Table.{Each}
use Rattle.qfs_base.specs.declared.command.Command.{Command}
use Rattle.qfs_base.specs.declared.command.Command.TheVariants as Does
use Rattle.qfs_base.specs.declared.command.FileCommand.{FileCommand}
use Rattle.qfs_base.specs.declared.command.FileCommand.TheVariants as File
use Rattle.qfs_base.specs.declared.history.Outcome.TheVariants as Ended
use Rattle.qfs_base.specs.declared.history.Step.{Step}
use Rattle.qfs_base.specs.declared.recipe.Form.{Form}
use Rattle.qfs_base.specs.declared.recipe.Form.TheVariants as Of
use Rattle.qfs_base.specs.declared.script.Script.{Script}

-- a command that puts or gets a file
abbrev pub PutsOrGets : FileCommand → Type 0
PutsOrGets (File.Put path recipe) = ⊤
PutsOrGets (File.Get path range) = ⊤
PutsOrGets command = ⊥

abbrev pub IsPutOrGet : Command → Type 0
IsPutOrGet (Does.File command) = PutsOrGets command
IsPutOrGet command = ⊥

-- every command of every actor puts or gets a file
abbrev pub PutsAndGets : Script → Type 0
PutsAndGets script = Each (Each IsPutOrGet) (flat_map (λ phase. phase) script.phases)

-- 1 to 32 bytes that are spelled out
abbrev pub IsFewHex : Form → Type 0
IsFewHex (Of.Hex bytes) = (1 ≤ length bytes) × (length bytes ≤ 32)
IsFewHex form = ⊥

-- a put of a few bytes, or a get of a whole file, at any path
abbrev pub IsFirstFile : FileCommand → Type 0
IsFirstFile (File.Put path recipe) = IsFewHex recipe
IsFirstFile (File.Get path range) = range ≡ None
IsFirstFile command = ⊥

abbrev pub IsFirst : Command → Type 0
IsFirst (Does.File command) = IsFirstFile command
IsFirst command = ⊥

-- a script of the first path: its one actor has these commands
pub record IsFirstPath (script : Script) (commands : List Command) : Type 0 where
  pub stripe : IsStripe script.layout.s
  pub rows : IsRowCount script.layout.r
  pub enough : 9 ≤ script.servers
  pub most : script.servers ≤ 64
  pub alone : script.phases ≡ (commands ∷ []) ∷ []
  pub few : length commands ≤ 4096
  pub each : Each IsFirst commands

-- every step is one of actor 1, and came out done
abbrev pub AllDone : List Step → Type 0
AllDone order = Each (λ step. step ≡ record { actor = 1; outcome = Ended.Done }) order
