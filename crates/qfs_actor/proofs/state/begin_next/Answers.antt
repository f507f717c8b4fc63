use Rattle.std.proofs.Common.{subst, sym}
use Rattle.std.specs.Prelude.{IsSome}
use Rattle.qfs_model_actor.specs.Work.{Work, request_in}
use Rattle.qfs_actor.specs.Forms.{IsBuilt}
use Rattle.qfs_actor.proofs.States.{all_first, work_of-asks}
use Rattle.qfs_actor.proofs.state.begin_next.Goals as goal

pub returns-in-Some-clause-asks : goal.returns-in-Some-clause-asks
returns-in-Some-clause-asks c =
    let P : Work → Type 0 = λ work. IsSome (request_in work) in
    let built = all_first IsBuilt c.in-Some.command _ (rw c.in-Some.ensures.items at c.requires.built) in
    subst P (sym c.begin.ensures.rest) (work_of-asks _ _ c.in-Some.command built)
