-- What the check leaves to show of `barred::barred_for_block`.
use Rattle.std.proofs.Common.{◌≡◌, ◌∙◌, length, ap, sym, subst}
use Rattle.std.specs.List.{flat_map, range_with_len}
use Rattle.qfs_model_meta.specs.Placing.{with_live_servers}
use Rattle.qfs_model_meta.specs.Slots.{slot_at}
use Rattle.qfs_place.specs.Barred.{row_copies}
use Rattle.qfs_place.specs.NineLaws.{nine_bar_blocks}
use Rattle.qfs_plan_repairs.proofs.Bars.{bars_next, bars_end}
use Rattle.qfs_plan_repairs.proofs.Found.{HaveNumbers, copies_numbered}
use Rattle.qfs_plan_repairs.proofs.barred.barred_for_block.Goals as goal

pub loop-slot-init : goal.loop-slot-init
loop-slot-init c =
    ap (λ set. with_live_servers c.args.state.now.image.servers set
    (flat_map (λ slot. row_copies (slot_at c.args.state.now.image.slots c.args.block slot))
    (range_with_len 0 9))) c.none-barred.ensures
    ∙ sym (nine_bar_blocks c.args.state.now.image.servers c.args.state.now.image.slots
    c.args.block c.blocks-blocks.ensures.fit.in_order c.blocks-blocks.ensures.fit.slot_numbers)

known : (c : goal.After-record-1) → c.slot_at-record.result
    ≡ slot_at c.args.state.now.image.slots c.args.block c.loop-slot.slot
known c =
    c.slot_at-record.ensures
    ∙ ap (λ slots. slot_at slots c.args.block c.loop-slot.slot) c.blocks-blocks.ensures.slots

numbered : (c : goal.After-record-1) → HaveNumbers c.slot_at-record.result
numbered c =
    subst HaveNumbers (sym (known c))
    (copies_numbered (length c.args.state.now.image.servers) c.servers.ensures.fit.few
    c.args.state.now.image.slots c.blocks-blocks.ensures.fit.on_servers c.args.block
    c.loop-slot.slot)

pub bar_copies-barred-requires-clause-current : goal.bar_copies-barred-requires-clause-current
bar_copies-barred-requires-clause-current c = (numbered c).0

pub bar_copies-barred-requires-clause-granted : goal.bar_copies-barred-requires-clause-granted
bar_copies-barred-requires-clause-granted c = (numbered c).1

pub loop-slot-preserved : goal.loop-slot-preserved
loop-slot-preserved c =
    let servers : c.as_slice-servers.result.now ≡ c.args.state.now.image.servers =
    c.as_slice-servers.ensures ∙ c.servers.ensures.servers in
    let known : c.slot_at-record.result
    ≡ slot_at c.args.state.now.image.slots c.args.block c.loop-slot.slot =
    c.slot_at-record.ensures
    ∙ ap (λ slots. slot_at slots c.args.block c.loop-slot.slot)
    c.blocks-blocks.ensures.slots in
    bars_next c.args.state.now.image.servers
    (λ slot. row_copies (slot_at c.args.state.now.image.slots c.args.block slot))
    c.loop-slot.barred _ _ c.loop-slot.slot 9 c.loop-slot-test.true c.loop-slot.invariant
    (c.bar_copies-barred.ensures
    ∙ (λ i. with_live_servers (servers i) c.loop-slot.barred (row_copies (known i))))

pub returns : goal.returns
returns c =
    bars_end c.args.state.now.image.servers
    (λ slot. row_copies (slot_at c.args.state.now.image.slots c.args.block slot))
    c.loop-slot.barred _ c.loop-slot.slot 9 c.loop-slot-test.false c.loop-slot.invariant
