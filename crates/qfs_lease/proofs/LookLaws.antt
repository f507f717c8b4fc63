-- What a look into an index tells of the leases: whether one on a file has a number below another,
-- and whether the time of one has come. For `Leases::live_on` and `Leases::expire`.
use Rattle.std.proofs.Common.{◌≡◌, ◌∙◌, ap, sym, refl, arith, ℕ, nat_lt, nat_le, ◌==◌}
use Rattle.std.proofs.Common.{Bool, true, false, ◌&&◌, cond, List, find, filter, Some, None}
use Rattle.std.proofs.lemmas.Bool.Decides.{nat_tests}
use Rattle.std.specs.Cmp.{tied_then}
use Rattle.std.specs.List.{list_any}
use Rattle.std.specs.Ordering.{is_eq, nat_cmp}
use Rattle.std.specs.Prelude.{is_some, ⊤}
use Rattle.std.specs.declared.cmp.Ordering.TheVariants.{Less, Equal}
use Rattle.qfs_base.specs.declared.image.Lease.{Lease}
use Rattle.qfs_base.specs.Table.{IsRising, has_key, without}
use Rattle.qfs_model_meta.specs.Leases.{has_run_out, is_lease, is_live_lease, lease_cmp, leases_on}
use Rattle.qfs_laws_tables.specs.EachRow.{each_of_all, found_has, without_none}
use Rattle.qfs_laws_tables.specs.Keys.{key-is}
use Rattle.qfs_laws_tables.specs.SomeRow.{any_mapped, found-any, none_any, some-any}
use Rattle.qfs_lease.specs.declared.index.IndexRow.{IndexRow}
use Rattle.qfs_lease.specs.Indexes.{IsIndex, end_of, file_of, has_end, is_any, row_by}
use Rattle.qfs_lease.specs.IndexKeys.{below_order, up_to_order}
use Rattle.qfs_lease.specs.LiveLeases.{AllRunOut, is_held_below}
use Rattle.qfs_lease.proofs.LeaseLaws.{one_live, one_number}
use Rattle.qfs_lease.proofs.RowLaws.{and_swap, any_alike, any_kept}

-- a look for the leases on a file below a number
pub held_below : (file below : ℕ) (rows : List IndexRow) (leases : List Lease)
    → IsIndex is_any file_of rows leases
    → is_some (find (has_key (below_order file below)) rows) ≡ is_held_below file below leases
unfolding leases_on
held_below file below rows leases is =
    let on = λ (lease : Lease). lease.file == file in
    some-any (has_key (below_order file below)) rows
    ∙ is (has_key (below_order file below))
    ∙ any_alike _ (λ lease. on lease && nat_lt lease.lease below) leases
    (each_of_all _ alike leases)
    ∙ sym (any_kept (λ lease. nat_lt lease.lease below) on leases)
    ∙ sym (any_mapped (λ (lease : Lease). lease.lease) (λ lease. nat_lt lease below)
    (filter on leases))
  where
    answer : (b : Bool) → is_eq (cond b Equal Less) ≡ b
    answer true = refl
    answer false = refl

    alike : (lease : Lease) → has_key (below_order file below) (row_by file_of lease)
        ≡ ((lease.file == file) && nat_lt lease.lease below)
    alike lease =
        let within = cond (nat_lt lease.lease below) Equal Less in
        sym (tied_then (nat_cmp file lease.file) within)
        ∙ ap (λ b. b && is_eq within) (key-is file lease.file)
        ∙ ap (λ b. (lease.file == file) && b) (answer (nat_lt lease.lease below))

reached : (clock : ℕ) (row : IndexRow) → has_key (up_to_order clock) row ≡ nat_le row.by clock
reached clock row =
    elim (nat_le row.by clock) as (λ b. is_eq (cond b Equal Less) ≡ b)
    [ true ↦ refl | false ↦ refl ]

module _ (clock : ℕ) (rows : List IndexRow) (leases : List Lease)
    (is : IsIndex has_end end_of rows leases) where
  -- the lease of a row whose reading has come
  some_over : (row : IndexRow) → find (has_key (up_to_order clock)) rows ≡ Some row
      → list_any (λ lease. is_lease row.lease lease && has_run_out clock lease) leases ≡ true
  unfolding has_run_out is_lease
  some_over row at =
      let test = λ (other : IndexRow). (other.lease == row.lease) && nat_le other.by clock in
      sym (any_alike _ _ leases (each_of_all _ alike leases))
      ∙ sym (is test)
      ∙ found-any (has_key (up_to_order clock)) test rows row at both
    where
      both : ((row.lease == row.lease) && nat_le row.by clock) ≡ true
      both =
          let own : (row.lease == row.lease) ≡ true = grind (arith, nat_tests) in
          ap (λ b. b && nat_le row.by clock) own ∙ sym (reached clock row)
          ∙ (found_has (λ _. ⊤) (has_key (up_to_order clock)) rows row at
          (each_of_all _ (λ _. tt) rows)).1

      alike : (lease : Lease)
          → (has_end lease && ((lease.lease == row.lease) && nat_le lease.until clock))
          ≡ (is_lease row.lease lease && (has_end lease && nat_le lease.until clock))
      alike lease =
          and_swap (has_end lease) (lease.lease == row.lease) (nat_le lease.until clock)
          ∙ ap (λ b. b && (has_end lease && nat_le lease.until clock))
          (sym (key-is row.lease lease.lease))

  pub over_live : (row : IndexRow) → find (has_key (up_to_order clock)) rows ≡ Some row
      → is_live_lease row.lease leases ≡ true
  unfolding is_live_lease
  over_live row at = one_live row.lease (has_run_out clock) leases (some_over row at)

  pub over_all : (row : IndexRow) → IsRising lease_cmp leases
      → find (has_key (up_to_order clock)) rows ≡ Some row → AllRunOut clock row.lease leases
  over_all row rising at =
      one_number row.lease (has_run_out clock) leases rising (some_over row at)

  pub over_none : find (has_key (up_to_order clock)) rows ≡ None
      → without (has_run_out clock) leases ≡ leases
  unfolding has_run_out
  over_none none =
      without_none (has_run_out clock) leases (none_any (has_run_out clock) leases
      (sym (is (λ row. nat_le row.by clock))
      ∙ any_alike _ (has_key (up_to_order clock)) rows
      (each_of_all _ (λ row. sym (reached clock row)) rows)
      ∙ sym (some-any (has_key (up_to_order clock)) rows)
      ∙ ap is_some none))
