use Rattle.std.proofs.Common.{refl, ap, sym, ◌∙◌}
use Rattle.qfs_model_actor.specs.Work.{request_in}
use Rattle.qfs_writer.specs.Rest.{rest_of_put}
use Rattle.qfs_writer.specs.WriterState.{WriterState, rest_of_writer}
use Rattle.qfs_writer.proofs.Nodes.{asks-until_ended}
use Rattle.qfs_writer.proofs.writer.Writer.ending.Goals as goal

pub unreachable-requires : goal.unreachable-requires
unreachable-requires c =
    asks-until_ended c.self.inside.put c.self.inside.stage c.in_default.not-Ended
    (ap (λ (standing : WriterState). request_in (rest_of_writer standing)) c.self.view_is ∙ c.requires)

pub returns : goal.returns
unfolding rest_of_put
returns c =
    sym (ap (λ (standing : WriterState). rest_of_writer standing) c.self.view_is) ∙ rw c.in-Ended.is refl
