-- What the check leaves to show of `settling::plan_abandon`.
use Rattle.std.proofs.Common.{◌∙◌, ◌++◌, ap, sym}
use Rattle.qfs_base.specs.declared.reply.MetaReply.TheVariants as Told
use Rattle.qfs_model_meta.specs.Leases.{holds_lease}
use Rattle.qfs_model_meta.specs.SettleRequests.{is_own_grant}
use Rattle.qfs_model_meta.specs.Slots.{slot_at}
use Rattle.qfs_plan_slots.proofs.Ended.{abandoned}
use Rattle.qfs_plan_slots.specs.Ends.{grant_ends}
use Rattle.qfs_plan_slots.proofs.settling.plan_abandon.Goals as goal

pub returns-clause-ok : goal.returns-clause-ok
returns-clause-ok c =
    abandoned c.args.state.now.image c.args.actor c.args.id c.args.version c.args.lease
    c.holds-holds.result c.is_own_grant-own.result _
    (ap (holds_lease c.args.actor c.args.lease) (sym c.leases.ensures.leases)
    ∙ sym c.holds-holds.ensures)
    (ap (λ slots. is_own_grant c.args.actor c.args.version c.args.lease
    (slot_at slots c.args.id.block c.args.id.slot).grant) (sym c.blocks-2.ensures.slots)
    ∙ (λ i. is_own_grant c.args.actor c.args.version c.args.lease
    (sym c.slot_at-pending.ensures i).grant)
    ∙ sym c.is_own_grant-own.ensures)
    (c.in_ok-changes.ensures
    ∙ ap (λ ended. ended ++ grant_ends c.args.id c.is_own_grant-own.result)
    c.in_ok-ended.ensures)
    (ap Told.Done c.in_ok-place.ensures)
