-- What the check leaves to show of `room::Needs::of_all`.
use Rattle.std.proofs.Common.{◌+◌, ◌∙◌, ap, drop, sym}
use Rattle.qfs_state.specs.Held.{Room}
use Rattle.qfs_state.specs.Rooms.{add_room, needs_all}
use Rattle.qfs_state.proofs.RoomLaws.{needs_end, needs_next, none_first}
use Rattle.qfs_state.proofs.room.Needs.of_all.Goals as goal

pub loop-change-init : goal.loop-change-init
loop-change-init c =
    ap (λ (all : Room). add_room all (needs_all c.args.changes.now)) c.none-all.ensures
    ∙ none_first (needs_all c.args.changes.now)

pub loop-change-preserved : goal.loop-change-preserved
loop-change-preserved c =
    let changes = c.args.changes.now in
    let at = c.loop-change.change-index in
    let all = c.in_ok-all.ensures ∙ ap (add_room c.loop-change.all) c.in_ok-of.ensures in
    ap (λ (all : Room). add_room all (needs_all (drop (at + 1) changes))) all
    ∙ needs_next c.loop-change.all changes at c.change-item.result c.loop-change-test.true
    c.change-item.is
    ∙ c.loop-change.invariant

pub returns : goal.returns
returns c =
    sym (needs_end c.loop-change.all c.args.changes.now c.loop-change.change-index
    c.loop-change-test.false)
    ∙ c.loop-change.invariant
