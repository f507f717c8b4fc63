-- Room that is made, and numbers that are left, before changes are made.
use Rattle.std.specs.Prelude.{◌≤◌, ◌+◌, length}
use Rattle.qfs_base.specs.declared.image.MetaImage.{MetaImage}
use Rattle.qfs_base.specs.Sizes.{LAST_U32, LAST_U64}
use Rattle.qfs_state.specs.Held.{Room}

-- one room is part of another
pub record IsWithin (part whole : Room) : Type 0 where
  pub names : part.names ≤ whole.names
  pub entries : part.entries ≤ whole.entries
  pub slots : part.slots ≤ whole.slots
  pub condemned : part.condemned ≤ whole.condemned
  pub leases : part.leases ≤ whole.leases
  pub dropped : part.dropped ≤ whole.dropped

-- there are numbers left for what goes into so much room, and places in the file history
pub record HasNumbers (need : Room) (image : MetaImage) : Type 0 where
  pub files : image.next_file + need.names ≤ LAST_U32
  pub leases : image.next_lease + need.leases ≤ LAST_U64
  pub condemned : image.next_condemned + need.condemned ≤ LAST_U64
  pub places : length image.history + need.entries ≤ LAST_U32
