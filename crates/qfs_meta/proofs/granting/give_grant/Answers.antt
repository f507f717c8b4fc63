use Rattle.std.proofs.Common.{◌≡◌, ◌∙◌, ◌≤◌, Some, is_some, length, ap, sym, subst}
use Rattle.qfs_base.specs.declared.image.MetaImage.{MetaImage}
use Rattle.qfs_base.specs.declared.image.SlotRecord.{SlotRecord}
use Rattle.qfs_base.specs.Sizes.{MOST_SERVERS}
use Rattle.qfs_base.specs.Table.{IsRising, place}
use Rattle.qfs_model_meta.specs.Condemned.{condemn_any}
use Rattle.qfs_model_meta.specs.Servers.{server_at}
use Rattle.qfs_model_meta.specs.Slots.{slot_at, slot_cmp, with_slot}
use Rattle.qfs_meta.specs.Granting.{granted_anew}
use Rattle.qfs_meta.specs.Kept.{IsGrantPossible}
use Rattle.qfs_meta.specs.Loads.{loads_of}
use Rattle.qfs_laws_slots.specs.Condemning.{condemn_any-frame}
use Rattle.qfs_laws_slots.specs.Losing.{condemned-slots}
use Rattle.qfs_meta.proofs.GrantLaws.{first-grant, next-grant}
use Rattle.qfs_meta.proofs.KeptLaws.{granted_at}
use Rattle.std.proofs.lemmas.Result.{on_ok_weaker}
use Rattle.qfs_meta.proofs.granting.give_grant.Goals as goal

pub granted-requires : goal.granted-requires
granted-requires c = subst IsGrantPossible (sym c.requires.state) (granted_at c.args.image.now.slots c.args.id c.requires.kept.grants)

pub returns-in_default-clause-ok : goal.returns-in_default-clause-ok
unfolding with_slot
returns-in_default-clause-ok c =
    let m = c.args.image.now in
    let state = c.granted.ensures
    ∙ (λ i. granted_anew c.args.server ((c.server_at-life.ensures ∙ ap (λ servers. server_at servers c.args.server) c.as_slice.ensures) i).life c.args.actor (c.requires.state i)) in
    on_ok_weaker c.place_slot.result (λ placed. first-grant c.args.id c.args.server c.args.actor m c.place_slot.new.slots
    (ap (λ (state : SlotRecord). state.grant) (sym c.requires.state) ∙ c.in_default.is)
    (placed ∙ (λ i. place slot_cmp (record { block = c.args.id.block; slot = c.args.id.slot; state = state i }) m.slots)))
    c.place_slot.ensures.ok

slots_stay : (c : goal.After-replace_slot-arg-2-1) → c.condemn.new.image.slots ≡ c.args.image.now.slots
unfolding condemn_any
slots_stay c =
    ap (λ (n : MetaImage). n.slots) c.in_ok-condemn.ensures.ok
    ∙ condemned-slots c.args.id.block c.args.id.slot c.args.image.now (Some c.in-Some.pending.copy)

servers_stay : (c : goal.After-replace_slot-arg-2-1) → c.as_slice-2.result.now ≡ c.args.image.now.servers
unfolding condemn_any
servers_stay c =
    c.as_slice-2.ensures
    ∙ ap (λ (n : MetaImage). n.servers) c.in_ok-condemn.ensures.ok
    ∙ ap (λ (n : MetaImage). n.servers) (condemn_any-frame c.args.id.block c.args.id.slot c.args.image.now (Some c.in-Some.pending.copy)).is

pub replace_slot-requires-clause-servers : goal.replace_slot-requires-clause-servers
replace_slot-requires-clause-servers c = subst (λ servers. length servers ≤ MOST_SERVERS) (sym (servers_stay c)) c.requires.kept.servers

pub replace_slot-requires-clause-order : goal.replace_slot-requires-clause-order
replace_slot-requires-clause-order c = subst (IsRising slot_cmp) (sym (slots_stay c)) c.requires.kept.slots

pub replace_slot-requires-clause-loads : goal.replace_slot-requires-clause-loads
replace_slot-requires-clause-loads c = c.requires.loads ∙ (λ i. loads_of (sym (servers_stay c) i) (sym (slots_stay c) i))

pub replace_slot-requires-clause-pending : goal.replace_slot-requires-clause-pending
replace_slot-requires-clause-pending c =
    ap (λ slots. is_some (slot_at slots c.args.id.block c.args.id.slot).grant) (slots_stay c)
    ∙ ap (λ (state : SlotRecord). is_some state.grant) (sym c.requires.state)
    ∙ ap is_some c.in-Some.is

pub returns-clause-ok : goal.returns-clause-ok
unfolding with_slot condemn_any
returns-clause-ok c =
    let m = c.args.image.now in
    let state = c.granted.ensures
    ∙ (λ i. granted_anew c.args.server ((c.server_at-life.ensures ∙ ap (λ servers. server_at servers c.args.server) c.as_slice.ensures) i).life c.args.actor (c.requires.state i)) in
    let slots = ap (λ (n : MetaImage). n.slots) c.in_ok-condemn.ensures.ok
    ∙ condemned-slots c.args.id.block c.args.id.slot m (Some c.in-Some.pending.copy) in
    next-grant c.args.id c.args.server c.args.actor m c.condemn.new.image c.in-Some.pending c.replace_slot.new.slots
    (ap (λ (state : SlotRecord). state.grant) (sym c.requires.state) ∙ c.in-Some.is)
    c.in_ok-condemn.ensures.ok
    (c.replace_slot.ensures.slots
    ∙ (λ i. place slot_cmp (record { block = c.args.id.block; slot = c.args.id.slot; state = state i }) (slots i)))
