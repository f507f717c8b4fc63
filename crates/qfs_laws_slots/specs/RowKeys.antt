-- The tests of leases, condemned copies and files by their key, as equalities of numbers. Cited by
-- the laws of the tree, of the metaserver and of puts and gets.
use Rattle.qfs_base.specs.declared.image.CondemnedRow.{CondemnedRow}
use Rattle.qfs_base.specs.declared.image.Lease.{Lease}
use Rattle.qfs_base.specs.declared.image.TreeRow.{TreeRow}
use Rattle.qfs_model_meta.specs.Condemned.{is_numbered}
use Rattle.qfs_model_meta.specs.Leases.{is_lease}
use Rattle.qfs_model_meta.specs.TreeRows.{has_file}
use Rattle.std.proofs.Common.{sym, true, ℕ, ◌==◌, ◌∙◌, ◌≡◌}
use Rattle.std.proofs.lemmas.Bool.{eqb-true}
use Rattle.qfs_laws_tables.specs.Keys.{key-is}

pub is_lease-is : (number : ℕ) (lease : Lease) → is_lease number lease ≡ (lease.lease == number)
unfolding is_lease
is_lease-is number lease = key-is number lease.lease

pub own-lease : (number : ℕ) (lease : Lease) → is_lease number lease ≡ true → lease.lease ≡ number
own-lease number lease is = eqb-true lease.lease number (sym (is_lease-is number lease) ∙ is)

pub is_numbered-is : (number : ℕ) (row : CondemnedRow)
    → is_numbered number row ≡ (row.condemned.number == number)
unfolding is_numbered
is_numbered-is number row = key-is number row.condemned.number

pub own-number : (number : ℕ) (row : CondemnedRow) → is_numbered number row ≡ true
    → row.condemned.number ≡ number
own-number number row is =
    eqb-true row.condemned.number number (sym (is_numbered-is number row) ∙ is)

pub has_file-is : (file : ℕ) (row : TreeRow) → has_file file row ≡ (row.file == file)
unfolding has_file
has_file-is file row = key-is file row.file

pub own-file : (file : ℕ) (row : TreeRow) → has_file file row ≡ true → row.file ≡ file
own-file file row is = eqb-true row.file file (sym (has_file-is file row) ∙ is)
