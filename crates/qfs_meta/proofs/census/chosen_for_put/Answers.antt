use Rattle.std.proofs.Common.{List, length, ap, sym, subst, ◌∙◌}
use Rattle.qfs_base.specs.declared.image.SlotRecord.{SlotRecord}
use Rattle.qfs_base.specs.declared.image.SlotRow.{SlotRow}
use Rattle.qfs_model_meta.specs.Placing.{choose, census, barred_for_put, with_live_servers}
use Rattle.qfs_model_meta.specs.PutRequests.{chosen_for_put}
use Rattle.qfs_model_meta.specs.Slots.{without_grant}
use Rattle.qfs_meta.specs.Granting.{IsLeftOut}
use Rattle.qfs_meta.specs.Kept.{IsGrantPossible}
use Rattle.qfs_meta.proofs.FreedLaws.{left_out, others_granted}
use Rattle.qfs_meta.proofs.KeptLaws.{granted_at}
use Rattle.qfs_meta.proofs.LoadLaws.{length-loads}
use Rattle.qfs_meta.proofs.census.chosen_for_put.Goals as goal

pub failed_with-requires : goal.failed_with-requires
failed_with-requires c = subst IsGrantPossible (sym c.requires.state) (granted_at c.args.slots.now c.args.id c.requires.grants)

pub choose-requires-clause-loads : goal.choose-requires-clause-loads
choose-requires-clause-loads c = ap length c.requires.loads ∙ length-loads c.args.servers.now c.args.slots.now

pub returns-clause-chosen : goal.returns-clause-chosen
unfolding chosen_for_put barred_for_put
returns-clause-chosen c =
    let slots : List SlotRow = c.args.slots.now in
    let pending = c.args.state.now.grant in
    let others : List SlotRow = without_grant c.args.id.block c.args.id.slot slots pending in
    let known = ap (λ (state : SlotRecord). state.grant) (sym c.requires.state) in
    let left = left_out c.args.id slots pending c.requires.order known in
    c.choose.ensures.chosen slots others c.requires.loads (subst (λ copy. IsLeftOut copy slots others) (sym c.granted_copy.ensures) left)
    ∙ ap (choose (census c.args.servers.now others))
    (c.barred_for_put-barred.ensures
    ∙ (λ i. with_live_servers c.args.servers.now (c.failed_with.ensures i) (sym (others_granted c.args.id slots pending c.requires.order known) i)))
