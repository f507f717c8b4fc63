use Rattle.std.proofs.Common.{◌∙◌, refl}
use Rattle.qfs_model_actor.specs.Work.{goes_on}
use Rattle.qfs_reader.specs.Rest.{rest_of_get}
use Rattle.qfs_reader.proofs.Answered.{unnamed-rest, ended-at}
use Rattle.qfs_reader.proofs.Asked.{other-chunk}
use Rattle.qfs_reader.proofs.reader.after_chunk.Goals as goal

pub returns-in-Reading-clause-rest : goal.returns-in-Reading-clause-rest
unfolding rest_of_get
returns-in-Reading-clause-rest c = rw c.in-Reading.is c.fetched.ensures.rest

pub returns-in-Ended-clause-rest : goal.returns-in-Ended-clause-rest
unfolding rest_of_get goes_on
returns-in-Ended-clause-rest c = rw c.in-Ended.is refl

pub returns-clause-rest : goal.returns-clause-rest
returns-clause-rest c =
    unnamed-rest c.args.get.now _ c.ended.ensures
    ∙ other-chunk c.args.get.now c.args.stage c.args.reply.now c.in_default.not-Reading c.in_default.not-Ended

pub returns-clause-at : goal.returns-clause-at
returns-clause-at c = ended-at c.args.get.now _ _ c.ended.ensures
