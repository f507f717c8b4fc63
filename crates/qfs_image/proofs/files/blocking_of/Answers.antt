use Rattle.std.proofs.Common.{◌∙◌, ◌+◌, ap, drop}
use Rattle.std.proofs.lemmas.List.{get_or_default}
use Rattle.qfs_image.specs.Files.{Blocking, with_leases}
use Rattle.qfs_image.proofs.LeaseLaws.{lease_step, leases_end}
use Rattle.qfs_image.proofs.files.blocking_of.Goals as goal

pub loop-lease-preserved : goal.loop-lease-preserved
loop-lease-preserved c =
    let put = c.in_ok-put_lease.ensures in
    ap (λ (blocking : Blocking). with_leases blocking (drop (c.loop-lease.lease-index + 1) c.args.leases.now)) put
    ∙ lease_step c.loop-lease.blocking c.args.leases.now c.loop-lease.lease-index _ c.loop-lease-test.true (get_or_default _ _ _ _ c.loop-lease-test.true)
    ∙ c.loop-lease.invariant

pub returns : goal.returns
returns c = leases_end c.loop-lease.blocking c.args.leases.now c.loop-lease.lease-index c.loop-lease-test.false ∙ c.loop-lease.invariant
