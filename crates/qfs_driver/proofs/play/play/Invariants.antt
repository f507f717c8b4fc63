-- The steps so far were drawn, and the generator has given a word for each; steps that are left get fewer.
use Rattle.std.proofs.Common.{◌≡◌}
use Rattle.qfs_driver.specs.Draws.{generator_behind}
use Rattle.qfs_driver.specs.Playing.{Continues, IsDrawnSo}
use Rattle.qfs_model_world.specs.Drawn.{generator_of}
use Rattle.qfs_world.specs.View.{steps_left}
use Rattle.qfs_driver.proofs.play.play.Given as goal

abbrev pub invariant-loop-turns : goal.invariant-loop-turns
invariant-loop-turns g l = record {
  drawn : IsDrawnSo l.number l.world;
  words : l.generator ≡ generator_behind (generator_of l.number) l.world.order;
  continues : Continues l.fn.world l.world;
}

abbrev pub decreases-loop-turns : goal.decreases-loop-turns
decreases-loop-turns g l = steps_left l.world.actors
