-- What the check leaves to show of `granting::plan_leased`.
use Rattle.std.proofs.Common.{◌∙◌, ◌<◌, refl, ap, arith, subst}
use Rattle.qfs_model_meta.specs.Leases.{lease_end}
use Rattle.qfs_place.specs.Loads.{load_at}
use Rattle.qfs_plan_repairs.proofs.LeasedPlans.{leased}
use Rattle.qfs_plan_repairs.proofs.granting.plan_leased.Goals as goal

pub returns : goal.returns
returns c =
    leased c.args.layout.now c.args.term c.args.actor c.args.state.now.image c.args.id
    c.args.server c.next-lease.result c.lease_end.result c.args.sources c.told_of-told.result _
    c.in_ok-changes.ensures.items refl (c.next-lease.ensures.number ∙ c.leases.ensures.next)
    (c.lease_end.ensures ∙ ap (lease_end c.args.term) c.clock.ensures)
    c.told_of-told.ensures
    (record {
      slot_number = c.requires.slot_number;
      server_there = c.requires.server_there;
      free = c.requires.free;
      not_full = subst (λ n. n < 4294967295)
          (c.on-count.ensures ∙ ap (λ loads. (load_at loads c.args.server).count) c.loads.ensures)
          (omega (arith, c.on-count.type_inv, c.if-count.false));
    })
