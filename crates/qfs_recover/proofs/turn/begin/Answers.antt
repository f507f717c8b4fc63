use Rattle.std.proofs.Common.{◌≡◌, ◌∙◌, false, true}
use Rattle.qfs_machine.specs.Endings.{report_of_ending}
use Rattle.qfs_model_actor.specs.Grants.{is_in_range}
use Rattle.qfs_recover.specs.Rest.{report_of_recovery, rest_of_recovery}
use Rattle.qfs_recover.proofs.Turns.{begin-in, begin-out}
use Rattle.qfs_recover.proofs.turn.begin.Goals as goal

pub returns-then-is_in_range-clause-rest : goal.returns-then-is_in_range-clause-rest
returns-then-is_in_range-clause-rest c =
    let range : is_in_range c.args.grant ≡ true = cc in
    c.begin_chunk.ensures.rest ∙ begin-in c.args.layout.now c.args.errand c.args.grant range

pub returns-else-is_in_range-clause-rest : goal.returns-else-is_in_range-clause-rest
unfolding rest_of_recovery report_of_recovery report_of_ending
returns-else-is_in_range-clause-rest c =
    let out : is_in_range c.args.grant ≡ false = cc in
    rw c.ended.ensures (begin-out c.args.layout.now c.args.errand c.args.grant out)
