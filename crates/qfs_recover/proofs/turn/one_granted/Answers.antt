use Rattle.std.proofs.Common.{◌≡◌, ◌∙◌, false, true}
use Rattle.qfs_machine.specs.Endings.{report_of_ending}
use Rattle.qfs_model_actor.specs.Grants.{is_grant_of}
use Rattle.qfs_recover.specs.Rest.{report_of_recovery, rest_of_recovery}
use Rattle.qfs_recover.proofs.Turns.{one-meant, one-other}
use Rattle.qfs_recover.proofs.turn.one_granted.Goals as goal

pub returns-then-is_grant_of-clause-rest : goal.returns-then-is_grant_of-clause-rest
returns-then-is_grant_of-clause-rest c =
    let one = c.args.one.now in
    let meant : is_grant_of one.index one.slot c.args.grant ≡ true = cc in
    c.begin.ensures.rest ∙ one-meant c.args.layout.now one.index one.slot c.args.grant meant

pub returns-else-is_grant_of-clause-rest : goal.returns-else-is_grant_of-clause-rest
unfolding rest_of_recovery report_of_recovery report_of_ending
returns-else-is_grant_of-clause-rest c =
    let one = c.args.one.now in
    let other : is_grant_of one.index one.slot c.args.grant ≡ false = cc in
    rw c.ended.ensures (one-other c.args.layout.now one.index one.slot c.args.grant other)
