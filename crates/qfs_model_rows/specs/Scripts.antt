-- Short forms for scripts, orders and texts.
use Rattle.std.specs.Prelude.{ℕ, List, [], ◌∷◌, ◌++◌, codes, replicate, flat_map, Some, None, false}
use Rattle.qfs_base.specs.NameTree.{PathNames}
use Rattle.qfs_base.specs.Shape.{Shape}
use Rattle.qfs_base.specs.declared.command.Command.{Command}
use Rattle.qfs_base.specs.declared.command.Command.TheVariants as Does
use Rattle.qfs_base.specs.declared.command.FileCommand.TheVariants as File
use Rattle.qfs_base.specs.declared.history.Outcome.{Outcome}
use Rattle.qfs_base.specs.declared.history.Outcome.TheVariants as Ended
use Rattle.qfs_base.specs.declared.history.Step.{Step}
use Rattle.qfs_base.specs.declared.recipe.Form.{Form}
use Rattle.qfs_base.specs.declared.script.Script.{Script}

-- the path of one name in the root
abbrev pub path_of : List ℕ → PathNames
path_of name = name ∷ []

abbrev pub path_a : PathNames
path_a = path_of (codes "a")

-- put P hex H
abbrev pub put_hex : PathNames → List ℕ → Command
put_hex path bytes = Does.File (File.Put path (Form.Hex bytes))

-- put P fill BB LEN
abbrev pub put_fill : PathNames → ℕ → ℕ → Command
put_fill path byte len = Does.File (File.Put path (Form.Fill byte len))

-- put P pattern START LEN
abbrev pub put_pattern : PathNames → ℕ → ℕ → Command
put_pattern path start len = Does.File (File.Put path (Form.Pattern start len))

-- get P, and get P FROM COUNT
abbrev pub get_all : PathNames → Command
get_all path = Does.File (File.Get path None)

abbrev pub get_range : PathNames → ℕ → ℕ → Command
get_range path from count = Does.File (File.Get path (Some (record { from = from; count = count })))

-- remove P
abbrev pub remove : PathNames → Command
remove path = Does.File (File.Remove path)

-- `put /a hex 01`, as most runs begin, and `put /a hex 0102030405`
abbrev pub put_one : Command
put_one = put_hex path_a (1 ∷ [])

abbrev pub put_five : Command
put_five = put_hex path_a (1 ∷ 2 ∷ 3 ∷ 4 ∷ 5 ∷ [])

-- a chunk of one row whose first byte is 01, or that has no byte but zeros: with `put /a hex 01` slot 0 and the parity slots are
-- of the first kind, since all data stand in slot 0, and the other slots of the second
abbrev pub one_byte : List ℕ
one_byte = 1 ∷ replicate 15 0

abbrev pub no_byte : List ℕ
no_byte = replicate 16 0

-- one phase of actors with these commands, on so many servers
abbrev pub script_of : Shape → ℕ → List (List Command) → Script
script_of layout servers actors = record {
  layout = layout;
  servers = servers;
  term = 0;
  audit = false;
  phases = actors ∷ [];
  order = None;
}

-- the same in stripes of 16 bytes and chunks of at most 2 rows
abbrev pub small_script : ℕ → List (List Command) → Script
small_script servers actors = script_of (record { s = 16; r = 2 }) servers actors

-- so many steps of an actor, one after another, that ended so
abbrev pub steps_ending : Outcome → ℕ → ℕ → List Step
steps_ending outcome actor count = replicate count (record { actor = actor; outcome = outcome })

-- steps that came out done, and steps in which a device or disk failed
abbrev pub steps : ℕ → ℕ → List Step
steps actor count = steps_ending Ended.Done actor count

abbrev pub failing_steps : ℕ → ℕ → List Step
failing_steps actor count = steps_ending Ended.Failed actor count

-- steps that came out done: so many of an actor, and then so many of another
abbrev pub taken : List (ℕ × ℕ) → List Step
taken runs = flat_map (λ (run : ℕ × ℕ). steps run.0 run.1) runs

-- lines of a text
abbrev pub Lines : Type 0
Lines = List (List ℕ)

-- these lines, each with its end
abbrev pub lines : Lines → List ℕ
lines texts = flat_map (λ text. text ++ 10 ∷ []) texts

-- the history in which the first command of actor 1 put /a
abbrev pub history_of_put : Lines
history_of_put = codes "history 0 created 1 /a" ∷ codes "history 1 closed 1 by 1 1" ∷ []
