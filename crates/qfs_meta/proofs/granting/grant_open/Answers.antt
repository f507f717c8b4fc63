use Rattle.std.proofs.Common.{◌≡◌, ◌∙◌, ◌<◌, ◌^◌, ap, sym, subst}
use Rattle.qfs_base.specs.declared.image.MetaImage.{MetaImage}
use Rattle.qfs_model_meta.specs.PutRequests.{chosen_for_put}
use Rattle.qfs_model_meta.specs.Slots.{slot_at}
use Rattle.qfs_model_meta.specs.Step.{next_turn}
use Rattle.qfs_meta.specs.Granting.{granting}
use Rattle.qfs_meta.specs.Kept.{IsKept}
use Rattle.qfs_meta.proofs.GrantLaws.{chosen-none, chosen-granted}
use Rattle.qfs_meta.proofs.KeptLaws.{kept-grant}
use Rattle.qfs_meta.proofs.LoadLaws.{turned}
use Rattle.qfs_meta.proofs.granting.grant_open.Goals as goal

pub returns-in_default-clause-ok : goal.returns-in_default-clause-ok
returns-in_default-clause-ok c =
    let m = c.args.image.now in
    let state = c.slot_at-state.ensures ∙ ap (λ slots. slot_at slots c.args.id.block c.args.id.slot) c.as_slice-slots.ensures in
    chosen-none c.args.layout.now c.args.actor c.args.len c.args.id m
    ((λ i. chosen_for_put c.args.id.block c.args.id.slot (sym c.as_slice-servers.ensures i) (sym c.as_slice-slots.ensures i) (sym state i))
    ∙ sym c.chosen_for_put.ensures.chosen ∙ c.in_default.is)

made : (c : goal.After-raise_turn) → c.raise_turn.new.image ≡ next_turn (granting c.args.id c.in-Some.server c.args.actor c.args.image.now)
made c = c.raise_turn.ensures ∙ ap next_turn c.in_ok-give_grant.ensures.ok

pub returns-clause-kept : goal.returns-clause-kept
returns-clause-kept c =
    let fits = subst (λ (n : MetaImage). n.next_condemned < 2 ^ 64) c.in_ok-give_grant.ensures.ok c.in_ok-give_grant.ensures.fits in
    subst IsKept (sym (made c)) (kept-grant c.args.image.now c.args.id c.in-Some.server c.args.actor c.requires.kept c.in-Some.ensures.number fits)

pub returns-clause-ok : goal.returns-clause-ok
returns-clause-ok c =
    let m = c.args.image.now in
    let state = c.slot_at-state.ensures ∙ ap (λ slots. slot_at slots c.args.id.block c.args.id.slot) c.as_slice-slots.ensures in
    chosen-granted c.args.layout.now c.args.actor c.args.len c.args.id m c.in-Some.server _ _ c.requires.kept.slots
    ((λ i. chosen_for_put c.args.id.block c.args.id.slot (sym c.as_slice-servers.ensures i) (sym c.as_slice-slots.ensures i) (sym state i))
    ∙ sym c.chosen_for_put.ensures.chosen ∙ c.in-Some.is)
    c.in_ok-told.ensures (made c) (returns-clause-kept c)

pub returns-clause-loads : goal.returns-clause-loads
returns-clause-loads c = c.give_grant.ensures.loads ∙ sym (turned _ c.raise_turn.new.image c.raise_turn.ensures)
