-- Indexes of leases: by file, and by the reading of the clock at which they end.
use Rattle.std.specs.Prelude.{◌≡◌, ℕ, ◌==◌, Bool, true, not, ◌&&◌, cond, List}
use Rattle.std.specs.List.{list_any}
use Rattle.qfs_base.specs.declared.image.Lease.{Lease}
use Rattle.qfs_base.specs.Table.{place}
use Rattle.qfs_lease.specs.declared.index.IndexRow.{IndexRow}
use Rattle.qfs_lease.specs.IndexKeys.{index_cmp}

-- by what an index has a lease
abbrev pub file_of : Lease → ℕ
file_of lease = lease.file

abbrev pub end_of : Lease → ℕ
end_of lease = lease.until

-- which leases it has: all of them, or those that end by themselves
abbrev pub is_any : Lease → Bool
is_any lease = true

abbrev pub has_end : Lease → Bool
has_end lease = not (lease.until == 0)

-- the row of a lease
abbrev pub row_by : (Lease → ℕ) → Lease → IndexRow
row_by by lease = record { by = by lease; lease = lease.lease }

-- the index by end with a new lease
abbrev pub place_end : Lease → List IndexRow → List IndexRow
place_end lease rows = cond (has_end lease) (place index_cmp (row_by end_of lease) rows) rows

-- whether an index has a lease, and its row passes a test
abbrev pub has_row : (Lease → Bool) → (Lease → ℕ) → (IndexRow → Bool) → Lease → Bool
has_row has by test lease = has lease && test (row_by by lease)

-- an index has the rows of its leases and no others
abbrev pub IsIndex : (Lease → Bool) → (Lease → ℕ) → List IndexRow → List Lease → Type 0
IsIndex has by rows leases =
    (test : IndexRow → Bool) → list_any test rows ≡ list_any (has_row has by test) leases
