-- The room that changes need, and that it is room for all of them one after another.
use Rattle.std.proofs.Common.{◌≡◌, ◌≤◌, ◌<◌, ◌+◌, ◌∙◌, arith, ap, sym, ℕ, List}
use Rattle.std.proofs.Common.{drop, length, slice_index_or}
use Rattle.std.proofs.lemmas.List.{drop_more}
use Rattle.std.proofs.Math.ListN.{drop_of_length-le}
use Rattle.qfs_base.specs.declared.image.DroppedActor.{DroppedActor}
use Rattle.qfs_base.specs.declared.image.Load.{Load}
use Rattle.qfs_base.specs.declared.image.ServerView.{ServerView}
use Rattle.qfs_blocks.specs.BlockTables.{BlockTables}
use Rattle.qfs_lease.specs.LiveLeases.{LiveLeases}
use Rattle.qfs_state.specs.declared.prepared.Prepared.{Prepared}
use Rattle.qfs_state.specs.Held.{IsHeld, Room}
use Rattle.qfs_state.specs.Rooms.{add_room, needs, needs_all, no_room}

room_is : (a b : Room) → a.names ≡ b.names → a.entries ≡ b.entries → a.slots ≡ b.slots
    → a.condemned ≡ b.condemned → a.leases ≡ b.leases → a.dropped ≡ b.dropped → a ≡ b
room_is a b names entries slots condemned leases dropped = λ i. record {
  names = names i;
  entries = entries i;
  slots = slots i;
  condemned = condemned i;
  leases = leases i;
  dropped = dropped i;
}

add_assoc : (a b c : Room) → add_room (add_room a b) c ≡ add_room a (add_room b c)
add_assoc a b c =
    room_is _ _ (omega arith) (omega arith) (omega arith) (omega arith) (omega arith) (omega arith)

pub none_first : (a : Room) → add_room no_room a ≡ a
none_first a =
    room_is _ _ (omega arith) (omega arith) (omega arith) (omega arith) (omega arith) (omega arith)

none_last : (a : Room) → add_room a no_room ≡ a
none_last a =
    room_is _ _ (omega arith) (omega arith) (omega arith) (omega arith) (omega arith) (omega arith)

-- what is needed so far, and that of one change more
pub needs_next : (all : Room) (changes : List Prepared) (at : ℕ) (change : Prepared)
    → at < length changes → change ≡ slice_index_or changes at change
    → add_room (add_room all (needs change)) (needs_all (drop (at + 1) changes))
    ≡ add_room all (needs_all (drop at changes))
needs_next all changes at change within is =
    add_assoc all (needs change) (needs_all (drop (at + 1) changes))
    ∙ ap (λ c. add_room all (add_room (needs c) (needs_all (drop (at + 1) changes)))) is
    ∙ ap (λ left. add_room all (needs_all left)) (sym (drop_more changes at change within))

-- what all need
pub needs_end : (all : Room) (changes : List Prepared) (at : ℕ) → length changes ≤ at
    → add_room all (needs_all (drop at changes)) ≡ all
needs_end all changes at past =
    ap (λ left. add_room all (needs_all left)) (drop_of_length-le changes past) ∙ none_last all

-- the parts of a state with other room fit together as before
pub held_again : (servers : List ServerView) (before after : BlockTables) (old new : LiveLeases)
    (dropped later : List DroppedActor) (loads : List Load)
    → IsHeld servers before old dropped loads
    → after.slots ≡ before.slots → after.condemned ≡ before.condemned
    → new.leases ≡ old.leases → new.next ≡ old.next → later ≡ dropped
    → IsHeld servers after new later loads
held_again servers before after old new dropped later loads held slots condemned leases next list =
    record {
      servers_fit = held.servers_fit;
      slots_fit = rw slots held.slots_fit;
      next_lease = rw (leases, next) held.next_lease;
      below = rw (condemned, next) held.below;
      dropped_in_order = rw list held.dropped_in_order;
      counted = rw slots held.counted;
    }
