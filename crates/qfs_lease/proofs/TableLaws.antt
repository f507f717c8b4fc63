-- The tables of leases after a lease was given or ended. For the calls of `Leases`.
use Rattle.std.proofs.Common.{◌≡◌, ◌<◌, ◌≤◌, ◌+◌, ◌∙◌, ap, sym, subst, arith, refl, ℕ, Bool, true, false, List, [], ◌∷◌, ◌++◌, find, Some, None}
use Rattle.std.specs.List.{list_any}
use Rattle.std.specs.Cmp.{nat_cmp_is}
use Rattle.std.specs.declared.cmp.Ordering.TheVariants.{Less}
use Rattle.std.proofs.lemmas.Cmp.{nat_cmp_total, on_total}
use Rattle.qfs_base.specs.declared.image.Lease.{Lease}
use Rattle.qfs_base.specs.EachLaws.{each_filter, each_weaker}
use Rattle.qfs_base.specs.Sizes.{LAST_U64}
use Rattle.qfs_base.specs.Table.{Each, IsRising, has_key, place, without}
use Rattle.qfs_model_meta.specs.Leases.{is_lease, lease_cmp, lease_order}
use Rattle.qfs_laws_tables.specs.EachRow.{each_push, none_found, without_none}
use Rattle.qfs_laws_tables.specs.InOrder.{filter_rises, push_rises}
use Rattle.qfs_table.specs.Tables.{Contents}
use Rattle.qfs_lease.specs.declared.index.IndexRow.{IndexRow}
use Rattle.qfs_lease.specs.Indexes.{IsIndex, end_of, file_of, has_end, has_row, is_any, place_end, row_by}
use Rattle.qfs_lease.specs.IndexKeys.{index_cmp}
use Rattle.qfs_lease.specs.LiveLeases.{AreLeases}
use Rattle.qfs_lease.proofs.IndexLaws.{index_ended, index_given, index_passed}
use Rattle.qfs_lease.proofs.LeaseLaws.{found_number}
use Rattle.qfs_lease.proofs.RowLaws.{placed_last}

-- an index of equal rows and leases
same_index : (has : Lease → Bool) (by : Lease → ℕ) (rows new_rows : List IndexRow)
    (leases new_leases : List Lease) → new_rows ≡ rows → new_leases ≡ leases
    → IsIndex has by rows leases → IsIndex has by new_rows new_leases
same_index has by rows new_rows leases new_leases same alike is test =
    ap (list_any test) same ∙ is test ∙ ap (list_any (has_row has by test)) (sym alike)

-- a lease above all others is placed behind them
pub given_last : {by_number : Contents Lease} {by_file by_end : Contents IndexRow} {next : ℕ}
    → AreLeases by_number by_file by_end next → (new : Lease) → next ≤ new.lease
    → place lease_cmp new by_number.rows ≡ by_number.rows ++ new ∷ []
given_last {by_number = by_number} {next = next} are new high =
    placed_last (on_total (λ (lease : Lease). lease.lease) nat_cmp_total) new by_number.rows
    (each_weaker (λ (lease : Lease). lease.lease < next) _
    (λ lease less. sym (nat_cmp_is lease.lease new.lease Less (omega arith)))
    by_number.rows are.numbers)

module _ {by_number : Contents Lease} {by_file by_end : Contents IndexRow} {next : ℕ}
    (are : AreLeases by_number by_file by_end next)
    (numbers : Contents Lease) (files ends : Contents IndexRow) where
  -- the lease of a number ended
  pub tables_ended : (number : ℕ) (found : Lease)
      → find (has_key (lease_order number)) by_number.rows ≡ Some found
      → numbers.rows ≡ without (has_key (lease_order number)) by_number.rows
      → files.rows ≡ without (has_key (index_cmp (row_by file_of found))) by_file.rows
      → ends.rows ≡ without (has_key (index_cmp (row_by end_of found))) by_end.rows
      → numbers.spare ≡ by_number.spare → files.spare ≡ by_file.spare → ends.spare ≡ by_end.spare
      → AreLeases numbers files ends next
  unfolding is_lease
  tables_ended number found at n f e room file_room end_room =
      let own = found_number number found by_number.rows at in
      record {
        in_order = subst (IsRising lease_cmp) (sym n)
            (filter_rises lease_cmp _ by_number.rows are.in_order);
        numbers = subst (Each (λ (lease : Lease). lease.lease < next)) (sym n)
            (each_filter _ _ by_number.rows are.numbers);
        files = same_index is_any file_of _ files.rows _ numbers.rows f n
            (index_ended is_any file_of number found by_file.rows by_number.rows are.files
            are.in_order own at);
        ends = same_index has_end end_of _ ends.rows _ numbers.rows e n
            (index_ended has_end end_of number found by_end.rows by_number.rows are.ends
            are.in_order own at);
        last = are.last;
        file_room = omega (arith, are.file_room);
        end_room = omega (arith, are.end_room);
      }

  -- a lease above all others was given
  pub tables_given : (new : Lease) → next ≤ new.lease → new.lease < LAST_U64
      → numbers.rows ≡ place lease_cmp new by_number.rows
      → files.rows ≡ place index_cmp (row_by file_of new) by_file.rows
      → ends.rows ≡ place_end new by_end.rows
      → numbers.spare + 1 ≡ by_number.spare → by_file.spare ≤ files.spare + 1
      → by_end.spare ≤ ends.spare + 1 → AreLeases numbers files ends (new.lease + 1)
  tables_given new high low n f e room file_room end_room =
      let below : Each (λ (lease : Lease). lease.lease < new.lease) by_number.rows =
      each_weaker (λ (lease : Lease). lease.lease < next) _ (λ lease less. omega arith)
      by_number.rows are.numbers in
      let less : Each (λ lease. lease_cmp lease new ≡ Less) by_number.rows =
      each_weaker (λ (lease : Lease). lease.lease < new.lease) _
      (λ lease less. sym (nat_cmp_is lease.lease new.lease Less less)) by_number.rows below in
      let last = n ∙ given_last are new high in
      record {
        in_order = subst (IsRising lease_cmp) (sym last)
            (push_rises lease_cmp by_number.rows new are.in_order less);
        numbers = subst (Each (λ (lease : Lease). lease.lease < new.lease + 1)) (sym last)
            (each_push _ by_number.rows new
            (each_weaker (λ (lease : Lease). lease.lease < new.lease) _
            (λ lease under. omega arith) by_number.rows below) (omega arith));
        files = same_index is_any file_of _ files.rows _ numbers.rows f last
            (index_given is_any file_of new by_file.rows by_number.rows are.files below refl);
        ends = same_index has_end end_of _ ends.rows _ numbers.rows e last
            (ends_given (has_end new) refl below);
        last = omega (arith, low);
        file_room = omega (arith, are.file_room);
        end_room = omega (arith, are.end_room);
      }
    where
      ends_given : (b : Bool) → has_end new ≡ b
          → Each (λ (lease : Lease). lease.lease < new.lease) by_number.rows
          → IsIndex has_end end_of (place_end new by_end.rows) (by_number.rows ++ new ∷ [])
      ends_given true is below =
          rw is (index_given has_end end_of new by_end.rows by_number.rows are.ends below is)
      ends_given false is below =
          rw is (index_passed has_end end_of new by_end.rows by_number.rows are.ends is)

-- no lease has the number that was to end
pub tables_kept : {by_number : Contents Lease} {by_file by_end : Contents IndexRow} {next : ℕ}
    → AreLeases by_number by_file by_end next → (numbers : Contents Lease) (number : ℕ)
    → find (has_key (lease_order number)) by_number.rows ≡ None
    → numbers.rows ≡ without (has_key (lease_order number)) by_number.rows
    → numbers.spare ≡ by_number.spare → AreLeases numbers by_file by_end next
tables_kept {by_number = by_number} are numbers number none n room =
    let same = n ∙ without_none (has_key (lease_order number)) by_number.rows
    (none_found (has_key (lease_order number)) by_number.rows none) in
    record {
      in_order = subst (IsRising lease_cmp) (sym same) are.in_order;
      numbers = subst (Each (λ (lease : Lease). lease.lease < _)) (sym same) are.numbers;
      files = same_index is_any file_of _ _ _ numbers.rows refl same are.files;
      ends = same_index has_end end_of _ _ _ numbers.rows refl same are.ends;
      last = are.last;
      file_room = omega (arith, are.file_room);
      end_room = omega (arith, are.end_room);
    }
