use Rattle.std.proofs.Common.{◌∙◌, refl}
use Rattle.qfs_model_actor.specs.Hold.{end_with}
use Rattle.qfs_model_actor.specs.Work.{goes_on}
use Rattle.qfs_reader.specs.Rest.{rest_of_get}
use Rattle.qfs_reader.proofs.Answered.{unnamed-rest, ended-at}
use Rattle.qfs_reader.proofs.Asked.{position-meta}
use Rattle.qfs_reader.proofs.reader.after_meta.Goals as goal

pub returns-in-Reading-clause-rest : goal.returns-in-Reading-clause-rest
unfolding rest_of_get
returns-in-Reading-clause-rest c =
    let at = rw c.in-Reading.is at c.requires.at in
    rw c.in-Reading.is (unnamed-rest c.args.get.now _ c.ended.ensures ∙ position-meta c.args.get.now _ _ c.args.answer at.readable)

pub returns-in-Reading-clause-at : goal.returns-in-Reading-clause-at
returns-in-Reading-clause-at c = ended-at c.args.get.now _ _ c.ended.ensures
