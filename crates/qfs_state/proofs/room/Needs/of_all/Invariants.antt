-- What the loop of `room::Needs::of_all` keeps.
use Rattle.std.proofs.Common.{◌≡◌, drop}
use Rattle.qfs_state.specs.Rooms.{add_room, needs_all}
use Rattle.qfs_state.proofs.room.Needs.of_all.Given as goal

-- what is needed so far, and what the changes to come need, is all
abbrev pub invariant-loop-change : goal.invariant-loop-change
invariant-loop-change l =
    add_room l.all (needs_all (drop l.change-index l.changes)) ≡ needs_all l.changes
