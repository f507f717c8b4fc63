-- What the check leaves to show of `clock::ticked`.
use Rattle.std.proofs.Common.{◌∙◌, sym}
use Rattle.qfs_plan_servers.proofs.Plans.{over_pushed, over_done}
use Rattle.qfs_plan_servers.proofs.clock.ticked.Goals as goal

pub loop-row-preserved-in-Continue-branch-2 : goal.loop-row-preserved-in-Continue-branch-2
loop-row-preserved-in-Continue-branch-2 c =
    over_pushed c.args.now c.lease-lease.result c.in-Some.row.now c.loop-row.changes.items
    c.push.new.self.items _ c.next.new.self c.loop-row.row-iterator
    (sym c.has_run_out.ensures ∙ c.if-has_run_out.true) c.lease-lease.ensures
    c.in_ok-push.ensures.items c.in-Some.ensures.steps c.loop-row.invariant

pub returns : goal.returns
returns c =
    over_done c.args.now c.loop-row.changes.items _ c.loop-row.row-iterator
    c.in-None.ensures.steps.0 c.loop-row.invariant
