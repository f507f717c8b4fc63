-- Indexes of leases after a lease was given or ended. For the tables of `Leases`.
use Rattle.std.proofs.Common.{◌≡◌, ◌<◌, ◌∙◌, ap, sym, refl, arith, ℕ, nat_le}
use Rattle.std.proofs.Common.{Bool, true, false, true≢false, not, ◌&&◌, ◌||◌, List, [], ◌∷◌, ◌++◌}
use Rattle.std.proofs.Common.{find, Some}
use Rattle.std.proofs.Math.Bool.{and-false}
use Rattle.std.proofs.lemmas.Bool.{and_parts}
use Rattle.std.proofs.lemmas.Bool.Decides.{nat_tests}
use Rattle.std.proofs.lemmas.Cmp.{ranked, tied_itself, nat_cmp_total}
use Rattle.std.specs.Cmp.{tied_then}
use Rattle.std.specs.List.{list_any}
use Rattle.std.specs.Ordering.{is_eq, nat_cmp}
use Rattle.std.specs.declared.cmp.Ordering.{Ordering}
use Rattle.std.specs.declared.cmp.Ordering.TheVariants.{Less, Equal, Greater}
use Rattle.qfs_base.specs.declared.image.Lease.{Lease}
use Rattle.qfs_base.specs.EachLaws.{each_weaker}
use Rattle.qfs_base.specs.Table.{Each, IsRising, has_key, place, without}
use Rattle.qfs_model_meta.specs.Leases.{is_lease, lease_cmp}
use Rattle.qfs_laws_tables.specs.Placed.{Apart, any-placed}
use Rattle.qfs_laws_tables.specs.SomeRow.{any_none, any_of_append, none_any}
use Rattle.qfs_lease.specs.declared.index.IndexRow.{IndexRow}
use Rattle.qfs_lease.specs.Indexes.{IsIndex, has_row, row_by}
use Rattle.qfs_lease.specs.IndexKeys.{index_cmp}
use Rattle.qfs_lease.proofs.LeaseLaws.{alone}
use Rattle.qfs_lease.proofs.RowLaws.{and_swap, any_alike, any_kept}

-- the key of a lease's row tells leases apart as their numbers do
tied_as : (by : Lease → ℕ) (number : ℕ) (found lease : Lease) → found.lease ≡ number
    → (is_lease number lease ≡ true → lease ≡ found)
    → has_key (index_cmp (row_by by found)) (row_by by lease) ≡ is_lease number lease
unfolding is_lease
tied_as by number found lease own alone =
    elim (is_eq (nat_cmp number lease.lease)) as (λ b. is_eq (nat_cmp number lease.lease) ≡ b
    → has_key (index_cmp (row_by by found)) (row_by by lease) ≡ b) [
      | true ↦ λ is. rw (alone is)
          (sym (tied_then (nat_cmp (by found) (by found)) (nat_cmp found.lease found.lease))
          ∙ rw (tied_itself nat_cmp_total (by found))
          (ap is_eq (tied_itself nat_cmp_total found.lease)))
      | false ↦ λ is.
          let front = is_eq (nat_cmp (by found) (by lease)) in
          sym (tied_then (nat_cmp (by found) (by lease)) (nat_cmp found.lease lease.lease))
          ∙ ap (λ b. front && b) (ap (λ n. is_eq (nat_cmp n lease.lease)) own ∙ is)
          ∙ and-false front
    ] refl

module _ (has : Lease → Bool) (by : Lease → ℕ) where
  -- a lease ended, and its row with it
  pub index_ended : (number : ℕ) (found : Lease) (rows : List IndexRow) (leases : List Lease)
      → IsIndex has by rows leases → IsRising lease_cmp leases → found.lease ≡ number
      → find (is_lease number) leases ≡ Some found
      → IsIndex has by (without (has_key (index_cmp (row_by by found))) rows)
      (without (is_lease number) leases)
  index_ended number found rows leases is rising own at test =
      let tied = λ (row : IndexRow). has_key (index_cmp (row_by by found)) row in
      any_kept test (λ row. not (tied row)) rows
      ∙ is (λ row. not (tied row) && test row)
      ∙ any_alike _ _ leases (each_weaker _ _ (λ lease one.
      ap (λ b. has lease && (not b && test (row_by by lease)))
      (tied_as by number found lease own one)
      ∙ and_swap (has lease) (not (is_lease number lease)) (test (row_by by lease))) leases
      (alone number found leases rising at))
      ∙ sym (any_kept (has_row has by test) (λ lease. not (is_lease number lease)) leases)

  -- what an index tells of the leases, and of one behind them
  one_more : (new : Lease) (leases : List Lease) (test : IndexRow → Bool) (b : Bool)
      → has new ≡ b
      → (list_any (has_row has by test) leases || ((b && test (row_by by new)) || false))
      ≡ list_any (has_row has by test) (leases ++ new ∷ [])
  one_more new leases test b is =
      ap (λ b. list_any (has_row has by test) leases || ((b && test (row_by by new)) || false))
      (sym is)
      ∙ sym (any_of_append (has_row has by test) leases (new ∷ []))

  -- a lease that the index isn't for was given
  pub index_passed : (new : Lease) (rows : List IndexRow) (leases : List Lease)
      → IsIndex has by rows leases → has new ≡ false → IsIndex has by rows (leases ++ new ∷ [])
  index_passed new rows leases is off test =
      is test ∙ aside (list_any (has_row has by test) leases) ∙ one_more new leases test false off
    where
      aside : (a : Bool) → a ≡ (a || false)
      aside true = refl
      aside false = refl

  -- a lease that the index is for was given, and its row was placed
  pub index_given : (new : Lease) (rows : List IndexRow) (leases : List Lease)
      → IsIndex has by rows leases → Each (λ (lease : Lease). lease.lease < new.lease) leases
      → has new ≡ true → IsIndex has by (place index_cmp (row_by by new) rows) (leases ++ new ∷ [])
  index_given new rows leases is below own test =
      any-placed index_cmp test (row_by by new) rows row_apart
      ∙ ap (λ b. test (row_by by new) || b) (is test)
      ∙ turned (test (row_by by new)) (list_any (has_row has by test) leases)
      ∙ one_more new leases test true own
    where
      turned : (a b : Bool) → (a || b) ≡ (b || (a || false))
      turned true true = refl
      turned true false = refl
      turned false true = refl
      turned false false = refl

      -- no row is as high as the new lease
      under : (b : Bool) (number : ℕ) → number < new.lease → (b && nat_le new.lease number) ≡ false
      under true number less = grind (arith, nat_tests)
      under false number less = refl

      reaches : (row : IndexRow) (o : Ordering) → nat_cmp new.lease row.lease ≡ o → is_eq o ≡ true
          → nat_le new.lease row.lease ≡ true
      reaches row Equal tie is =
          let own : new.lease ≡ row.lease = ranked _ _ Equal (sym tie) in grind (arith, nat_tests)
      reaches row Less tie is = absurd cc
      reaches row Greater tie is = absurd cc

      apart : (row : IndexRow) → nat_le new.lease row.lease ≡ false
          → index_cmp (row_by by new) row ≡ Equal → ⊥
      apart row off tie =
          let front = nat_cmp (by new) row.by in
          let behind = nat_cmp new.lease row.lease in
          let both = and_parts (is_eq front) (is_eq behind)
          (tied_then front behind ∙ ap is_eq tie) in
          true≢false (sym (reaches row behind refl both.1) ∙ off)

      row_apart : Apart index_cmp (row_by by new) rows
      row_apart =
          each_weaker _ _ apart rows (none_any (λ row. nat_le new.lease row.lease) rows
          (is (λ row. nat_le new.lease row.lease) ∙ any_none _ leases
          (each_weaker _ _ (λ lease less. under (has lease) lease.lease less) leases below)))
