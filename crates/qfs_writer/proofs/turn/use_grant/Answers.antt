use Rattle.std.proofs.Common.{◌<◌, ◌≡◌, false, true, arith}
use Rattle.qfs_model_actor.specs.Grants.{is_grant_of}
use Rattle.qfs_machine.specs.Endings.{report_of_ending}
use Rattle.qfs_writer.specs.Rest.{rest_of_put, report_of_put}
use Rattle.qfs_writer.proofs.Puts.{on_grant-used, on_grant-other, on_grant-none}
use Rattle.qfs_writer.proofs.turn.use_grant.Goals as goal
use Rattle.qfs_writer.proofs.turn.use_grant.Goals.{then-at-eq0-via-then-at-eq0, then-at-eq0-via-else-at-eq0+then-not-is_grant_of}

pub returns-then-at-eq0-clause-rest : goal.returns-then-at-eq0-clause-rest
unfolding rest_of_put report_of_put report_of_ending
returns-then-at-eq0-clause-rest c =
    rw c.ended.ensures
    (elim c.then-at-eq0.branch [
      | then-at-eq0-via-then-at-eq0 w ↦ on_grant-none c.args.put.now c.args.at c.args.grant.now w.if-at-eq0.true
      | then-at-eq0-via-else-at-eq0+then-not-is_grant_of w ↦
          let other : is_grant_of c.args.at.index c.args.at.slot c.args.grant.now ≡ false = cc in
          on_grant-other c.args.put.now c.args.at c.args.grant.now other
    ])

pub returns-clause-rest : goal.returns-clause-rest
returns-clause-rest c =
    let some : 0 < c.args.at.grants = omega arith in
    let meant : is_grant_of c.args.at.index c.args.at.slot c.args.grant.now ≡ true = cc in
    on_grant-used c.args.put.now c.args.at c.args.grant.now some meant
