-- The room that changes take.
use Rattle.std.specs.Prelude.{◌≤◌, ◌+◌, List, [], ◌∷◌, length}
use Rattle.qfs_base.specs.Sizes.{LAST_U32, LAST_U64}
use Rattle.qfs_state.specs.declared.prepared.Prepared.{Prepared}
use Rattle.qfs_state.specs.declared.prepared.Prepared.TheVariants.{AddDirectory, TakeDirectory, AddFile, CloseFile, AbortFile, RemoveFile, MovePath, GrantSlot, FailGrant, GiveUp, ConfirmSlot, EmptySlot, GiveLease, CondemnStray, DropActor}
use Rattle.qfs_state.specs.Held.{Held, Room}

-- no room, and that of two lists of changes together
abbrev pub no_room : Room
no_room = record { names = 0; entries = 0; slots = 0; condemned = 0; leases = 0; dropped = 0 }

abbrev pub add_room : Room → Room → Room
add_room a b =
    record {
      names = a.names + b.names;
      entries = a.entries + b.entries;
      slots = a.slots + b.slots;
      condemned = a.condemned + b.condemned;
      leases = a.leases + b.leases;
      dropped = a.dropped + b.dropped;
    }

-- the most room that a change takes
abbrev pub needs : Prepared → Room
needs (AddDirectory path entry) = record no_room { names = 1; entries = 1 }
needs (TakeDirectory path entry) = record no_room { entries = 1 }
needs (AddFile path again actor command len entry) = record no_room { names = 1; entries = 1 }
needs (CloseFile file actor command) = record no_room { entries = 1 }
needs (AbortFile file) = record no_room { entries = 1 }
needs (RemoveFile path file entry) = record no_room { entries = 1 }
needs (MovePath from to moved entry) =
    record no_room { names = length moved.rows.items; entries = 1 }
needs (GrantSlot id server actor lease) = record no_room { slots = 1 }
needs (FailGrant id) = record no_room { condemned = 1 }
needs (GiveUp id) = record no_room { condemned = 1 }
needs (ConfirmSlot id) = record no_room { condemned = 1 }
needs (EmptySlot id) = record no_room { condemned = 2 }
needs (GiveLease actor file until) = record no_room { leases = 1 }
needs (CondemnStray server life key) = record no_room { condemned = 1 }
needs (DropActor actor) = record no_room { dropped = 1 }
needs _ = no_room

abbrev pub needs_all : List Prepared → Room
needs_all [] = no_room
needs_all (change ∷ later) = add_room (needs change) (needs_all later)

-- a state has this room in its tables, and as many numbers left for what goes into it
pub record HasRoom (need : Room) (held : Held) : Type 0 where
  pub names : need.names ≤ held.room.names
  pub entries : need.entries ≤ held.room.entries
  pub slots : need.slots ≤ held.room.slots
  pub condemned : need.condemned ≤ held.room.condemned
  pub leases : need.leases ≤ held.room.leases
  pub dropped : need.dropped ≤ held.room.dropped
  pub file_numbers : held.image.next_file + need.names ≤ LAST_U32
  pub lease_numbers : held.image.next_lease + need.leases ≤ LAST_U64
  pub condemned_numbers : held.image.next_condemned + need.condemned ≤ LAST_U64
  pub places : length held.image.history + need.entries ≤ LAST_U32

-- a change took at most this room
pub record TakesRoom (need : Room) (old new : Held) : Type 0 where
  pub names : old.room.names ≤ new.room.names + need.names
  pub entries : old.room.entries ≤ new.room.entries + need.entries
  pub slots : old.room.slots ≤ new.room.slots + need.slots
  pub condemned : old.room.condemned ≤ new.room.condemned + need.condemned
  pub leases : old.room.leases ≤ new.room.leases + need.leases
  pub dropped : old.room.dropped ≤ new.room.dropped + need.dropped
  pub file_numbers : new.image.next_file ≤ old.image.next_file + need.names
  pub lease_numbers : new.image.next_lease ≤ old.image.next_lease + need.leases
  pub condemned_numbers : new.image.next_condemned ≤ old.image.next_condemned + need.condemned
  pub places : length new.image.history ≤ length old.image.history + need.entries
