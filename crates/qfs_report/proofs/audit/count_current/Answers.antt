use Rattle.std.proofs.Common.{subst, sym, ◌∙◌, ◌≤◌}
use Rattle.qfs_report.proofs.AuditSteps.{mask_count, mask_few}
use Rattle.qfs_report.specs.AuditTables.{current_of}
use Rattle.qfs_report.proofs.audit.count_current.Goals as goal

pub returns-clause-count : goal.returns-clause-count
unfolding current_of
returns-clause-count c = c.count.ensures.count
    ∙ mask_count c.args.held.now.current c.count.ensures.mask

pub returns-clause-few : goal.returns-clause-few
returns-clause-few c =
    subst (λ n. n ≤ 9) (sym c.count.ensures.count)
    (mask_few c.args.held.now.current c.count.ensures.mask)
