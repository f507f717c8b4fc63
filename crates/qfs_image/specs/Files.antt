-- The files of a tree and the leases on each, by number, as they are looked up while the rules of an image are tested.
use Rattle.std.specs.Prelude.{ℕ, ◌==◌, Bool, false, List, [], ◌∷◌, ◌++◌, Option, Some, None, if◌then◌else◌}
use Rattle.std.specs.List.{starts_with}
use Rattle.std.specs.Ordering.{nat_cmp}
use Rattle.std.specs.Prelude.{nat_eq}
use Rattle.qfs_base.specs.KeyMap.{has_key, value_at, with_entry, without_key}
use Rattle.qfs_base.specs.declared.image.Lease.{Lease}
use Rattle.qfs_base.specs.declared.image.TreeRow.{TreeRow}

-- files, each with whether it is closed; and leases, each list under its file
abbrev pub Files : Type 0
Files = List (ℕ × Bool)

abbrev pub Blocking : Type 0
Blocking = List (ℕ × List ℕ)

-- the files with those of more rows, unless two have one number
unfoldable pub with_files : Files → List TreeRow → Option Files
with_files files [] = Some files
with_files files (row ∷ rows) =
    if row.file == 0 then with_files files rows
    else if has_key nat_cmp files row.file then None
    else with_files (with_entry nat_cmp files row.file row.closed) rows

-- whether a file is there and closed
unfoldable pub is_closed_in : Option Bool → Bool
is_closed_in None = false
is_closed_in (Some closed) = closed

-- the leases on a file
unfoldable pub or_none : Option (List ℕ) → List ℕ
or_none None = []
or_none (Some leases) = leases

abbrev pub blocking_on : Blocking → ℕ → List ℕ
blocking_on blocking file = or_none (value_at nat_cmp blocking file)

-- the leases with one more behind those on its file, and with more
unfoldable pub with_lease : Blocking → Lease → Blocking
with_lease blocking lease =
    with_entry nat_cmp (without_key nat_cmp blocking lease.file) lease.file
    (blocking_on blocking lease.file ++ lease.lease ∷ [])

unfoldable pub with_leases : Blocking → List Lease → Blocking
with_leases blocking [] = blocking
with_leases blocking (lease ∷ leases) = with_leases (with_lease blocking lease) leases

-- whether these are the first of the leases on a file
unfoldable pub begin_leases : Blocking → ℕ → List ℕ → Bool
begin_leases blocking file blockers = starts_with nat_eq (blocking_on blocking file) blockers
