-- The words of the generator that draws an order.
use Rattle.std.specs.Prelude.{List, [], ◌∷◌}
use Rattle.rand_pcg.specs.Lcg.{Lcg}
use Rattle.rand_pcg.specs.Pcg.{pcg32}
use Rattle.qfs_base.specs.declared.history.Step.{Step}

-- the generator behind a word for each of these steps
unfoldable pub generator_behind : Lcg → List Step → Lcg
generator_behind generator [] = generator
generator_behind generator (step ∷ steps) = generator_behind (pcg32 generator).1 steps
