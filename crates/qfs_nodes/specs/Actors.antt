-- The actors of a script, by number.
use Rattle.std.specs.Prelude.{ℕ, ◌+◌, Bool, true, false, List, [], ◌∷◌, length, map, flat_map, sum_by, take, drop}
use Rattle.qfs_actor.specs.Standing.{Standing, at_start}
use Rattle.qfs_base.specs.declared.command.Command.{Command}
use Rattle.qfs_base.specs.declared.command.ReplyLine.{ReplyLine}
use Rattle.qfs_base.specs.declared.rules.Rules.{Rules}
use Rattle.qfs_model_actor.specs.Actor.{Actor}
use Rattle.qfs_model_world.specs.Fits.{unfinished, first_filled}
use Rattle.qfs_model_world.specs.Text.{lines_of_actor}

-- how actors stand, as plain data
abbrev pub actors_of : List Standing → List Actor
actors_of actors = map (λ (it : Standing). it.actor) actors

-- the actors of these commands at their start, numbered from here on
abbrev pub starts_from : Rules → ℕ → List (List Command) → List Standing
starts_from rules number [] = []
starts_from rules number (commands ∷ more) =
    at_start rules number commands ∷ starts_from rules (number + 1) more

-- the reply lines of actors, by number and command
abbrev pub lines_of_actors : List Actor → List ReplyLine
lines_of_actors actors = flat_map lines_of_actor actors

-- ---- phases

-- how many actors each phase has, but for phases without actors
abbrev pub size_before : List ℕ → List (List Command) → List ℕ
size_before sizes [] = sizes
size_before sizes (commands ∷ more) = length (commands ∷ more) ∷ sizes

abbrev pub sizes_of : List (List (List Command)) → List ℕ
sizes_of [] = []
sizes_of (phase ∷ phases) = size_before (sizes_of phases) phase

-- how many these are together
abbrev pub total : List ℕ → ℕ
total sizes = sum_by (λ size. size) sizes

-- the number of an actor, unless the flag says that it has finished
abbrev pub number_if : ℕ → Bool → List ℕ
number_if number true = []
number_if number false = number ∷ []

-- the actors of phases of these sizes
abbrev pub by_sizes : List ℕ → List Actor → List (List Actor)
by_sizes [] actors = []
by_sizes (size ∷ sizes) actors = take size actors ∷ by_sizes sizes (drop size actors)

-- the unfinished actors of the first phase that has one, where the phases have these sizes
abbrev pub turn_by_sizes : List ℕ → List Actor → List ℕ
turn_by_sizes sizes actors = first_filled (map unfinished (by_sizes sizes actors))
