-- A drawn order with one step more.
use Rattle.std.proofs.Common.{◌≡◌, ℕ, List, [], ◌∷◌, ◌++◌, refl, sym, ◌∙◌, ap}
use Rattle.std.proofs.Math.Bool.{and-true, and_assoc}
use Rattle.std.specs.Prelude.{◌&&◌, fold}
use Rattle.rand_pcg.specs.Lcg.{Lcg}
use Rattle.rand_pcg.specs.Pcg.{pcg32}
use Rattle.qfs_base.specs.declared.history.Step.{Step}
use Rattle.qfs_base.specs.declared.script.Script.{Script}
use Rattle.qfs_model_world.specs.World.{World, start, move, after}
use Rattle.qfs_model_world.specs.Fits.{turn}
use Rattle.qfs_model_world.specs.Drawn.{generator_of, drawn_of, is_by, drawn_from, is_drawn}
use Rattle.qfs_driver.specs.Draws.{generator_behind}

pub generator_behind-snoc : (generator : Lcg) (order : List Step) (step : Step)
    → generator_behind generator (order ++ step ∷ []) ≡ (pcg32 (generator_behind generator order)).1
unfolding generator_behind
generator_behind-snoc generator [] step = refl
generator_behind-snoc generator (first ∷ rest) step = generator_behind-snoc (pcg32 generator).1 rest step

drawn_from-snoc : (script : Script) (generator : Lcg) (world : World) (order : List Step) (step : Step)
    → drawn_from script generator world (order ++ step ∷ [])
    ≡ (drawn_from script generator world order && is_by step.actor (drawn_of (turn script (fold move world order)) (pcg32 (generator_behind generator order)).0))
unfolding drawn_from generator_behind
drawn_from-snoc script generator world [] step =
    and-true (is_by step.actor (drawn_of (turn script world) (pcg32 generator).0))
drawn_from-snoc script generator world (first ∷ rest) step =
    ap (λ b. is_by first.actor (drawn_of (turn script world) (pcg32 generator).0) && b)
    (drawn_from-snoc script (pcg32 generator).1 (move world first) rest step)
    ∙ sym (and_assoc (is_by first.actor (drawn_of (turn script world) (pcg32 generator).0))
    (drawn_from script (pcg32 generator).1 (move world first) rest)
    (is_by step.actor (drawn_of (turn script (fold move (move world first) rest)) (pcg32 (generator_behind (pcg32 generator).1 rest)).0)))

-- an order with one step more is drawn where the order is drawn and the step is that of the actor that the next word draws
pub is_drawn-snoc : (number : ℕ) (script : Script) (order : List Step) (step : Step)
    → is_drawn number script (order ++ step ∷ [])
    ≡ (is_drawn number script order
    && is_by step.actor (drawn_of (turn script (after script order)) (pcg32 (generator_behind (generator_of number) order)).0))
unfolding is_drawn after
is_drawn-snoc number script order step = drawn_from-snoc script (generator_of number) (start script) order step
