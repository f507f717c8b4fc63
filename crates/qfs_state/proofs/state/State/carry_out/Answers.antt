-- What the check leaves to show of `state::State::carry_out`.
use Rattle.std.proofs.Common.{◌∙◌, ap, sym}
use Rattle.qfs_model_meta.specs.Counters.{counters_fit}
use Rattle.qfs_model_meta.specs.Step.{next_turn}
use Rattle.qfs_state.specs.Held.{Held, image_of}
use Rattle.qfs_state.proofs.MakeLaws.{carried}
use Rattle.qfs_state.proofs.state.State.carry_out.Goals as goal

pub returns-clause-image : goal.returns-clause-image
unfolding next_turn
returns-clause-image c =
    let it = c.self.inside in
    ap (λ turn. image_of turn it.clock it.servers it.names it.blocks it.leases it.dropped.items)
    c.saturating_add-self-inside.ensures
    ∙ ap (λ (held : Held). next_turn held.image) c.self.view_is
    ∙ ap next_turn c.make_all.ensures.image

pub returns-clause-decided : goal.returns-clause-decided
returns-clause-decided c = λ decision is.
    carried c.args.self.now.image decision c.args.plan is
    (ap counters_fit (sym c.make_all.ensures.image) ∙ c.make_all.ensures.fit)
    ∙ (λ i. record { meta = sym (returns-clause-image c) i; reply = c.args.plan.reply })
