-- The scripts that are read are those of the first path, and can be run.
use Rattle.std.proofs.Common.{◌≡◌, ◌<◌, ◌≤◌, ℕ, List, [], ◌∷◌, length, refl, ap, subst, arith, None, Ok, lit<}
use Rattle.std.specs.Prelude.{flat_map, All, ◌^◌}
use Rattle.qfs_base.specs.Table.{Each}
use Rattle.qfs_base.specs.declared.command.Command.{Command}
use Rattle.qfs_base.specs.declared.script.Script.{Script}
use Rattle.qfs_base.specs.EachLaws.{each_weaker}
use Rattle.qfs_first.proofs.ScriptSaid.{IsFew, IsPlain, few_enough, read_script_says}
use Rattle.qfs_first.specs.Script.{read_lines}
use Rattle.std.proofs.lemmas.List.Elements.{All-nil, All-cons}
use Rattle.qfs_actor.specs.Forms.{IsBuilt}
use Rattle.qfs_nodes.specs.Scripts.{AreBuilt, IsRunnable, commands_by_actor}
use Rattle.qfs_base.specs.declared.command.Command.TheVariants as Does
use Rattle.qfs_base.specs.declared.command.FileCommand.TheVariants as File
use Rattle.qfs_base.specs.declared.recipe.Form.TheVariants as Of
use Rattle.qfs_laws_first.specs.FirstPath.{IsFirst, IsFirstPath}
use Rattle.qfs_driver.specs.Scripts.{IsReadScript}

-- ---- a script that is read

few_first : (command : Command) → IsPlain command → IsFirst command
few_first (Does.File (File.Put path (Of.Hex bytes))) is = is
few_first (Does.File (File.Get path None)) is = refl
few_first command is = absurd is

-- the lines of a script that is read say one of the first path
pub read_script_is_first : (lines : List (List ℕ)) (script : Script) → read_lines lines ≡ Ok script → IsReadScript script
read_script_is_first lines script is =
    let said = read_script_says lines script is in
    subst IsReadScript said.script_is
    (record {
      commands = said.commands;
      first_path = record {
        stripe = said.head_is.stripe;
        rows = said.head_is.rows;
        enough = said.head_is.enough;
        most = said.head_is.most;
        alone = refl;
        few = few_enough (length said.commands) said.are.room;
        each = each_weaker IsFew IsFirst (λ command few. few_first command few.plain) said.commands said.are.each;
      };
      plain = refl;
    })

-- ---- such a script can be run

built_first : (command : Command) → IsFirst command → IsBuilt command
built_first (Does.File (File.Put path recipe)) is = tt
built_first (Does.File (File.Get path range)) is = tt
built_first command is = absurd is

all_built : (commands : List Command) → Each IsFirst commands → All IsBuilt commands
all_built [] each = All-nil IsBuilt
all_built (command ∷ commands) each = All-cons IsBuilt command commands (built_first command each.0) (all_built commands each.1)

by_actor : (script : Script) (commands : List Command) → script.phases ≡ (commands ∷ []) ∷ [] → commands_by_actor script ≡ commands ∷ []
by_actor script commands alone = ap (λ (phases : List (List (List Command))). flat_map (λ phase. phase) phases) alone

below_limit : (count : ℕ) → count ≤ 4096 → count < 2 ^ 16
below_limit count few = let limit : 4096 < 2 ^ 16 = lit< tt in omega arith

-- a script of the first path can be run
pub first_path_runs : (script : Script) (commands : List Command) → IsFirstPath script commands → IsRunnable script
first_path_runs script commands is =
    let one : commands_by_actor script ≡ commands ∷ [] = by_actor script commands is.alone in
    let enough : 9 ≤ script.servers = is.enough in
    let few : length commands ≤ 4096 = is.few in
    record {
      some_server = omega arith;
      servers = is.most;
      actors = rw one (lit< tt);
      commands = rw one (All-cons AreBuilt commands [] (record { few = below_limit (length commands) few; built = all_built commands is.each }) (All-nil AreBuilt));
    }
