-- The actor that was drawn is one of those whose turn it may be.
use Rattle.std.proofs.Common.{◌≡◌, List, ℕ, true, subst}
use Rattle.std.specs.Prelude.{◌==◌}
use Rattle.std.specs.List.{list_any}
use Rattle.rand_pcg.specs.Pcg.{pcg32}
use Rattle.qfs_driver.proofs.PlayLaws.{drawn_has_turn}
use Rattle.qfs_driver.proofs.play.take_drawn_step.Goals as goal

pub take_step-requires-after_bounds : goal.take_step-requires-after_bounds
take_step-requires-after_bounds g c κs within =
    subst (λ (turns : List ℕ). list_any (λ number. number == c.draw-actor.result) turns ≡ true) c.requires.turns
    (drawn_has_turn c.args.turns.now (pcg32 c.args.generator.now).0 c.draw-actor.result c.draw-actor.ensures.drawn)
