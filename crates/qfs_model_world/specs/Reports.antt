-- The replies of a world's commands, and whether the file history bears them out.
use Rattle.std.specs.Prelude.{ℕ, ◌==◌, List, Option, IfSome, IsTrue}
use Rattle.std.specs.Option.{option_and_then}
use Rattle.std.specs.List.{list_any, enumerate_from}
use Rattle.qfs_base.specs.Table.{Each}
use Rattle.qfs_base.specs.declared.history.Step.{Step}
use Rattle.qfs_base.specs.declared.script.Script.{Script}
use Rattle.qfs_model_actor.specs.Actor.{Actor}
use Rattle.qfs_model_actor.specs.Work.{Report}
use Rattle.qfs_model_world.specs.Agrees.{Agrees, place_of_report}
use Rattle.qfs_model_world.specs.Events.{Event, events, steps_of, place_before}
use Rattle.qfs_model_world.specs.FileHistory.{IsHistoryOf}
use Rattle.qfs_model_world.specs.Puts.{command_of}
use Rattle.qfs_model_world.specs.World.{World, numbered, after}

-- the reply of an actor's command, if it has ended
unfoldable pub report_of : World → ℕ → ℕ → Option Report
report_of world actor number =
    option_and_then (λ (a : Actor). numbered a.ended number) (numbered world.actors actor)

-- P holds of each reply of a world, with the number of its actor and of its command
abbrev pub EachReport : World → (ℕ → ℕ → Report → Type 0) → Type 0
EachReport world P =
    Each (λ (actor : Actor). Each (λ (r : ℕ × Report). P actor.number r.0 r.1) (enumerate_from 1 actor.ended)) world.actors

-- the place of a reply is the length of the history just before one of the steps of its command
abbrev pub IsPlaced : List Event → ℕ → ℕ → Report → Type 0
IsPlaced steps actor number report =
    IfSome (place_of_report report) (λ place.
    IsTrue (list_any (λ (event : Event). place_before event == place) (steps_of actor number steps)))

-- one file history: it is legal, every reply with a place agrees with it, and the place is a moment of the reply's command
pub record OneFileHistory (script : Script) (order : List Step) : Type 0 where
  pub legal : IsHistoryOf script (after script order).meta.history
  pub agrees : EachReport (after script order) (λ actor number report.
      Agrees script (events script order) (after script order).meta.history actor number report
      (command_of script actor number))
  pub placed : EachReport (after script order) (IsPlaced (events script order))
