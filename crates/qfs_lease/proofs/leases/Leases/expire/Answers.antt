-- What the check leaves to show of `leases::Leases::expire`.
use Rattle.std.proofs.Common.{ap, sym, ◌∙◌, length, subst, ◌<◌}
use Rattle.qfs_base.specs.Table.{without}
use Rattle.qfs_model_meta.specs.Leases.{end_lease, has_run_out, is_lease, is_live_lease}
use Rattle.qfs_lease.proofs.RowLaws.{without_after, without_fewer}
use Rattle.qfs_lease.proofs.leases.Leases.expire.Goals as goal

pub loop-lease-smaller : goal.loop-lease-smaller
unfolding end_lease is_live_lease
loop-lease-smaller c =
    subst (λ leases. length leases < length c.loop-lease.self.leases) (sym c.end.ensures.leases)
    (without_fewer (is_lease c.in-Some.lease) c.loop-lease.self.leases c.in-Some.ensures.live)

pub loop-lease-preserved : goal.loop-lease-preserved
unfolding end_lease
loop-lease-preserved c =
    let was = c.loop-lease.invariant in
    record {
      left = ap (without (has_run_out c.args.clock)) c.end.ensures.leases
          ∙ without_after (is_lease c.in-Some.lease) (has_run_out c.args.clock)
          c.loop-lease.self.leases c.in-Some.ensures.over
          ∙ was.left;
      next = c.end.ensures.next ∙ was.next;
      spare = c.end.ensures.spare ∙ was.spare;
    }
