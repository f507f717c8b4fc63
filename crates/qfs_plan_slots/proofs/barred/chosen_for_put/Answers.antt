-- What the check leaves to show of `barred::chosen_for_put`.
use Rattle.std.proofs.Common.{◌∙◌, sym}
use Rattle.qfs_model_meta.specs.Placing.{choose}
use Rattle.qfs_place.specs.PutLaws.{chosen_by_census}
use Rattle.qfs_plan_slots.proofs.barred.chosen_for_put.Goals as goal

pub returns-clause-chosen : goal.returns-clause-chosen
returns-clause-chosen c =
    c.choose.ensures.chosen
    ∙ (λ i. choose ((c.census.ensures ∙ c.loads.ensures) i) (c.barred_for_put-barred.ensures i))
    ∙ sym (chosen_by_census c.args.state.now.image.servers c.args.state.now.image.slots
    c.args.id.block c.args.id.slot c.blocks-blocks.ensures.fit.in_order)
