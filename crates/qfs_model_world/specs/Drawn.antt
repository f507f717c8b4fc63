-- Orders that are drawn from a number: at each step a generator's next word tells whose turn it is.
use Rattle.std.specs.Prelude.{ℕ, ◌%◌, ◌==◌, ◌&&◌, Bool, true, List, [], ◌∷◌, length, slice_get, Option, Some, None, false}
use Rattle.rand_pcg.specs.Lcg.{Lcg, started, increment_of}
use Rattle.rand_pcg.specs.Pcg.{multiplier_64, pcg32}
use Rattle.qfs_base.specs.declared.history.Step.{Step}
use Rattle.qfs_base.specs.declared.script.Script.{Script}
use Rattle.qfs_model_world.specs.Fits.{turn}
use Rattle.qfs_model_world.specs.World.{World, start, move}

-- the generator of a number, and its stream for orders
abbrev pub order_stream : ℕ
order_stream = 11

unfoldable pub generator_of : ℕ → Lcg
generator_of number = started 64 multiplier_64 number (increment_of 64 order_stream)

-- of those whose turn it may be, by number, the one at this word's place
unfoldable pub drawn_of : List ℕ → ℕ → Option ℕ
drawn_of turns word = slice_get turns (word % length turns)

-- whether a step is that of the drawn actor
unfoldable pub is_by : ℕ → Option ℕ → Bool
is_by actor None = false
is_by actor (Some drawn) = actor == drawn

-- whether the actors of these steps are those that are drawn, from a world on
unfoldable pub drawn_from : Script → Lcg → World → List Step → Bool
drawn_from script generator world [] = true
drawn_from script generator world (step ∷ steps) =
    is_by step.actor (drawn_of (turn script world) (pcg32 generator).0)
    && drawn_from script (pcg32 generator).1 (move world step) steps

-- whether the actors of an order are those that are drawn from a number, as the steps came out
unfoldable pub is_drawn : ℕ → Script → List Step → Bool
is_drawn number script order = drawn_from script (generator_of number) (start script) order
