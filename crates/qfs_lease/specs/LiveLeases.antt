-- The live leases as the callers of `Leases` see them, and what its tables are.
use Rattle.std.specs.Prelude.{◌≡◌, ◌<◌, ◌≤◌, ℕ, ◌==◌, nat_lt, Bool, false, true, List}
use Rattle.std.specs.List.{list_any}
use Rattle.qfs_base.specs.declared.image.Lease.{Lease}
use Rattle.qfs_base.specs.Sizes.{LAST_U64}
use Rattle.qfs_base.specs.Table.{Each, IsRising}
use Rattle.qfs_model_meta.specs.Leases.{has_run_out, is_lease, lease_cmp, leases_on}
use Rattle.qfs_table.specs.Tables.{Contents}
use Rattle.qfs_lease.specs.declared.index.IndexRow.{IndexRow}
use Rattle.qfs_lease.specs.Indexes.{IsIndex, end_of, file_of, has_end, is_any}

-- the live leases by number, the number that the next one gets, and how many more have room
pub record LiveLeases : Type 0 where
  pub leases : List Lease
  pub next : ℕ
  pub spare : ℕ

-- who holds a lease, and on which file
abbrev pub holder_of : Lease → ℕ × ℕ
holder_of lease = (lease.actor, lease.file)

-- whether a lease is an actor's
abbrev pub is_of_actor : ℕ → Lease → Bool
is_of_actor actor lease = lease.actor == actor

-- whether a live lease on a file has a number below this one
abbrev pub is_held_below : ℕ → ℕ → List Lease → Bool
is_held_below file below leases = list_any (λ lease. nat_lt lease below) (leases_on file leases)

-- the time has come of the lease with this number
abbrev pub AllRunOut : ℕ → ℕ → List Lease → Type 0
AllRunOut clock number leases =
    Each (λ lease. is_lease number lease ≡ true → has_run_out clock lease ≡ true) leases

-- no lease is an actor's that has a number below one
abbrev pub HasPassed : ℕ → ℕ → List Lease → Type 0
HasPassed actor from leases =
    Each (λ (lease : Lease). lease.lease < from → is_of_actor actor lease ≡ false) leases

-- the tables of leases have the same leases, with numbers below the next one, and each has room
-- for as many more as the one by number
pub record AreLeases (by_number : Contents Lease) (by_file by_end : Contents IndexRow)
    (next : ℕ) : Type 0 where
  pub in_order : IsRising lease_cmp by_number.rows
  pub numbers : Each (λ (lease : Lease). lease.lease < next) by_number.rows
  pub files : IsIndex is_any file_of by_file.rows by_number.rows
  pub ends : IsIndex has_end end_of by_end.rows by_number.rows
  pub last : next ≤ LAST_U64
  pub file_room : by_number.spare ≤ by_file.spare
  pub end_room : by_number.spare ≤ by_end.spare
