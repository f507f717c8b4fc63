-- What the check leaves to show of `barred::barred_for_put`.
use Rattle.std.proofs.Common.{◌≡◌, ◌∙◌, length, IfSome, ap, sym, subst}
use Rattle.std.specs.List.{flat_map, range_with_len}
use Rattle.qfs_base.specs.declared.image.SlotRecord.{SlotRecord}
use Rattle.qfs_model_meta.specs.Placing.{with_live_servers}
use Rattle.qfs_model_meta.specs.PutRequests.{failed_with}
use Rattle.qfs_model_meta.specs.Slots.{granted_copy, slot_at}
use Rattle.qfs_place.specs.Barred.{HasNumber}
use Rattle.qfs_place.specs.NineLaws.{nine_bar_puts, state_grants}
use Rattle.qfs_plan_slots.proofs.Bars.{bars_next, bars_end, grant_numbered}
use Rattle.qfs_plan_slots.proofs.barred.barred_for_put.Goals as goal

pub failed_with-barred-requires : goal.failed_with-barred-requires
failed_with-barred-requires c =
    subst (λ (state : SlotRecord). IfSome (granted_copy state.grant) HasNumber)
    (sym (c.slot_at-own.ensures
    ∙ ap (λ slots. slot_at slots c.args.id.block c.args.id.slot) c.blocks-blocks.ensures.slots))
    (grant_numbered (length c.args.state.now.image.servers) c.servers.ensures.fit.few
    c.args.state.now.image.slots c.blocks-blocks.ensures.fit.on_servers c.args.id.block
    c.args.id.slot)

pub loop-slot-init : goal.loop-slot-init
loop-slot-init c =
    let own : c.slot_at-own.result
    ≡ slot_at c.args.state.now.image.slots c.args.id.block c.args.id.slot =
    c.slot_at-own.ensures
    ∙ ap (λ slots. slot_at slots c.args.id.block c.args.id.slot) c.blocks-blocks.ensures.slots in
    ap (λ set. with_live_servers c.args.state.now.image.servers set
    (flat_map (λ slot. state_grants (slot_at c.args.state.now.image.slots c.args.id.block slot))
    (range_with_len 0 9)))
    (c.failed_with-barred.ensures ∙ (λ i. failed_with (own i).failed (own i).grant))
    ∙ sym (nine_bar_puts c.args.state.now.image.servers c.args.state.now.image.slots
    c.args.id.block _ c.blocks-blocks.ensures.fit.in_order
    c.blocks-blocks.ensures.fit.slot_numbers)

pub bar_grant-barred-requires : goal.bar_grant-barred-requires
bar_grant-barred-requires c =
    subst (λ (state : SlotRecord). IfSome (granted_copy state.grant) HasNumber)
    (sym (c.slot_at-record.ensures
    ∙ ap (λ slots. slot_at slots c.args.id.block c.loop-slot.slot)
    c.blocks-blocks.ensures.slots))
    (grant_numbered (length c.args.state.now.image.servers) c.servers.ensures.fit.few
    c.args.state.now.image.slots c.blocks-blocks.ensures.fit.on_servers c.args.id.block
    c.loop-slot.slot)

pub loop-slot-preserved : goal.loop-slot-preserved
loop-slot-preserved c =
    let servers : c.as_slice-servers.result.now ≡ c.args.state.now.image.servers =
    c.as_slice-servers.ensures ∙ c.servers.ensures.servers in
    let known : c.slot_at-record.result
    ≡ slot_at c.args.state.now.image.slots c.args.id.block c.loop-slot.slot =
    c.slot_at-record.ensures
    ∙ ap (λ slots. slot_at slots c.args.id.block c.loop-slot.slot)
    c.blocks-blocks.ensures.slots in
    bars_next c.args.state.now.image.servers
    (λ slot. state_grants (slot_at c.args.state.now.image.slots c.args.id.block slot))
    c.loop-slot.barred _ _ c.loop-slot.slot 9 c.loop-slot-test.true c.loop-slot.invariant
    (c.bar_grant-barred.ensures
    ∙ (λ i. with_live_servers (servers i) c.loop-slot.barred (state_grants (known i))))

pub returns : goal.returns
returns c =
    bars_end c.args.state.now.image.servers
    (λ slot. state_grants (slot_at c.args.state.now.image.slots c.args.id.block slot))
    c.loop-slot.barred _ c.loop-slot.slot 9 c.loop-slot-test.false c.loop-slot.invariant
