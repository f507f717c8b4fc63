use Rattle.std.proofs.Common.{◌∙◌, ap}
use Rattle.qfs_model_actor.specs.Work.{request_in}
use Rattle.qfs_reader.specs.ReaderState.{ReaderState, rest_of_reader}
use Rattle.qfs_reader.proofs.Asked.{ended-if_none}
use Rattle.qfs_reader.proofs.reader.ReaderMachine.into_reply.Goals as goal

pub into_kept-requires-clause-ended : goal.into_kept-requires-clause-ended
into_kept-requires-clause-ended c =
    ended-if_none c.self.inside.get c.self.inside.stage c.self.invariant.0
    (ap (λ (standing : ReaderState). request_in (rest_of_reader standing)) c.self.view_is ∙ c.requires)
