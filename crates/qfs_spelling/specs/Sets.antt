-- The parts of an image's rows that the program reads one by one. Sets of servers are lists that rise and name 64 servers
-- at most, as every image has them.
use Rattle.std.specs.Prelude.{ℕ, ◌&&◌, nat_le, Bool, List}
use Rattle.std.specs.Int.{w16, w32}
use Rattle.std.specs.List.{list_all}
use Rattle.std.specs.Ordering.{nat_cmp}
use Rattle.qfs_base.specs.Sizes.{MOST_SERVERS}
use Rattle.qfs_base.specs.declared.image.SlotRecord.{SlotRecord}
use Rattle.qfs_base.specs.declared.image.SlotRow.{SlotRow}
use Rattle.qfs_model_disks.specs.Image.{grant}
use Rattle.qfs_model_disks.specs.Tests.{are_rising}
use Rattle.qfs_model_disks.specs.Values.{copy, from_one}
use Rattle.qfs_record.specs.ChunkRecord.{block, slot}
use Rattle.qfs_record.specs.Part.{Part, flag, listed, number, optional, pair, shaped, such}

-- whether numbers are a set of servers
abbrev pub is_set : List ℕ → Bool
is_set servers = are_rising nat_cmp servers && list_all (λ server. nat_le server MOST_SERVERS) servers

abbrev pub server_set : Part (List ℕ)
server_set = such is_set (listed from_one)

-- the record of a slot
abbrev pub set_record : Part SlotRecord
set_record =
    shaped
    (λ v. record { next = v.0; current = v.1.0; grant = v.1.1.0; failed = v.1.1.1 })
    (λ (r : SlotRecord). (r.next, (r.current, (r.grant, r.failed))))
    (pair (number w32) (pair (optional copy) (pair (optional grant) server_set)))

-- a slot with such a record
abbrev pub set_row : Part SlotRow
set_row =
    shaped
    (λ v. record {
      block = v.0;
      slot = v.1.0;
      state = record { next = v.1.1.0; current = v.1.1.1.0; grant = v.1.1.1.1.0; failed = v.1.1.1.1.1 };
    })
    (λ (r : SlotRow). (r.block, (r.slot, (r.state.next, (r.state.current, (r.state.grant, r.state.failed))))))
    (pair block (pair slot (pair (number w32) (pair (optional copy) (pair (optional grant) server_set)))))

-- ---- rows of the tree

-- what a row of the tree has beside its path
abbrev pub made : Part (ℕ × (Bool × (ℕ × (ℕ × ℕ))))
made = pair (number w32) (pair flag (pair (number w16) (pair (number w16) (number w32))))
