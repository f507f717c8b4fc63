use Rattle.std.proofs.Common.{◌∙◌, refl, ap, sym}
use Rattle.qfs_model_actor.specs.Work.{request_in}
use Rattle.qfs_move.specs.Rest.{MoverState, rest_of_move, rest_of_mover}
use Rattle.qfs_move.proofs.Turns.{has_ended}
use Rattle.qfs_move.proofs.mover.Mover.ending.Goals as goal

pub unreachable-requires : goal.unreachable-requires
unreachable-requires c =
    has_ended c.self.inside.layout c.self.inside.stage c.self.invariant.0
    (ap (λ (it : MoverState). request_in (rest_of_mover it)) c.self.view_is ∙ c.requires) c.in_default.not-Ended

pub returns : goal.returns
unfolding rest_of_move
returns c = ap rest_of_mover (sym c.self.view_is) ∙ rw c.in-Ended.is refl
