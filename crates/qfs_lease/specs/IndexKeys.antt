-- The keys by which leases are found, with their laws: for the rows of the tables of leases.
use Rattle.std.proofs.Common.{◌≡◌, ◌<◌, ◌≤◌, ◌⊎◌, inl, inr, ⊎_elim, ℕ, Bool, true, false, true≢false, nat_le, nat_lt, cond, sym, refl, arith}
use Rattle.std.proofs.lemmas.Bool.Decides.{nat_tests}
use Rattle.std.proofs.lemmas.Cmp.{ranked, on_total, then_total, nat_cmp_total}
use Rattle.std.specs.Cmp.{IsTotalOrder, nat_cmp_is}
use Rattle.std.specs.Ordering.{nat_cmp, ordering_then}
use Rattle.std.specs.declared.cmp.Ordering.{Ordering}
use Rattle.std.specs.declared.cmp.Ordering.TheVariants.{Less, Equal, Greater}
use Rattle.qfs_base.specs.declared.image.Lease.{Lease}
use Rattle.qfs_model_meta.specs.Leases.{lease_cmp}
use Rattle.qfs_table.specs.Keys.{Falls, Follows}
use Rattle.qfs_lease.specs.declared.index.IndexRow.{IndexRow}

-- rows of an index stand by their number, and then by their lease's
abbrev pub index_cmp : IndexRow → IndexRow → Ordering
index_cmp a b = ordering_then (nat_cmp a.by b.by) (nat_cmp a.lease b.lease)

pub index_total : IsTotalOrder index_cmp
index_total =
    then_total (on_total (λ (row : IndexRow). row.by) nat_cmp_total)
    (on_total (λ (row : IndexRow). row.lease) nat_cmp_total)

-- the leases with a number and those above it
abbrev pub from_order : ℕ → Lease → Ordering
from_order number lease = cond (nat_le number lease.lease) Equal Greater

-- the rows under a number whose leases are below one
abbrev pub below_order : ℕ → ℕ → IndexRow → Ordering
below_order by below row =
    ordering_then (nat_cmp by row.by) (cond (nat_lt row.lease below) Equal Less)

-- the rows under a number and those before it
abbrev pub up_to_order : ℕ → IndexRow → Ordering
up_to_order by row = cond (nat_le row.by by) Equal Less

-- what keeps its answer up to some row
upper_falls : (first later : Bool) → (later ≡ true → first ≡ true)
    → Falls (cond first Equal Less) (cond later Equal Less)
upper_falls true true goes = (λ is. absurd (cc), λ _. refl)
upper_falls true false goes = (λ is. absurd (cc), λ _. refl)
upper_falls false true goes =
    (λ is. absurd (cc), λ is. absurd (true≢false (sym (goes refl))))
upper_falls false false goes = (λ is. absurd (cc), λ is. absurd (cc))

lower_falls : (first later : Bool) → (first ≡ true → later ≡ true)
    → Falls (cond first Equal Greater) (cond later Equal Greater)
lower_falls false true goes = (λ _. refl, λ _. refl)
lower_falls false false goes = (λ _. refl, λ _. refl)
lower_falls true true goes = (λ is. absurd (cc), λ _. refl)
lower_falls true false goes = absurd (true≢false (sym (goes refl)))

pub from_falls : (number : ℕ) → Follows lease_cmp (from_order number)
from_falls number a b less =
    let below : a.lease < b.lease = ranked a.lease b.lease Less (sym less) in
    lower_falls (nat_le number a.lease) (nat_le number b.lease)
    (λ is. grind (arith, nat_tests))

index_less : (a b : IndexRow) → index_cmp a b ≡ Less
    → (a.by < b.by) ⊎ ((a.by ≡ b.by) × (a.lease < b.lease))
index_less a b =
    elim (nat_cmp a.by b.by) as (λ o. nat_cmp a.by b.by ≡ o
    → ordering_then o (nat_cmp a.lease b.lease) ≡ Less
    → (a.by < b.by) ⊎ ((a.by ≡ b.by) × (a.lease < b.lease))) [
      | Less ↦ λ is _. inl (ranked a.by b.by Less (sym is))
      | Equal ↦ λ is less. inr
          (ranked a.by b.by Equal (sym is), ranked a.lease b.lease Less (sym less))
      | Greater ↦ λ is less. absurd cc
    ] refl

pub up_to_falls : (by : ℕ) → Follows index_cmp (up_to_order by)
up_to_falls by a b less =
    ⊎_elim (λ below. falls a b (omega arith)) (λ same. let is = same.0 in falls a b (omega arith))
    (index_less a b less)
  where
    falls : (a b : IndexRow) → a.by ≤ b.by → Falls (up_to_order by a) (up_to_order by b)
    falls a b upto = upper_falls (nat_le a.by by) (nat_le b.by by)
        (λ is. grind (arith, nat_tests))

-- the rest of a key decides where the front is that of the row
then_falls : (first later a b : Ordering) → (later ≡ Greater → first ≡ Greater)
    → (later ≡ Equal → (first ≡ Greater) ⊎ ((first ≡ Equal) × Falls a b))
    → Falls (ordering_then first a) (ordering_then later b)
then_falls first Less a b above same = (λ is. absurd (cc), λ is. absurd (cc))
then_falls first Greater a b above same = rw (above refl) (λ _. refl, λ _. refl)
then_falls first Equal a b above same =
    ⊎_elim (λ over. rw over (λ _. refl, λ _. refl)) (λ both. rw both.0 both.1) (same refl)

pub below_falls : (by below : ℕ) → Follows index_cmp (below_order by below)
below_falls by below a b less =
    then_falls (nat_cmp by a.by) (nat_cmp by b.by) _ _
    (λ is. let over = ranked by b.by Greater (sym is) in
    ⊎_elim (λ before. sym (nat_cmp_is by a.by Greater (omega arith)))
    (λ tied. let same = tied.0 in sym (nat_cmp_is by a.by Greater (omega arith)))
    (index_less a b less))
    (λ is. let own = ranked by b.by Equal (sym is) in
    ⊎_elim (λ before. inl (sym (nat_cmp_is by a.by Greater (omega arith))))
    (λ tied. let same = tied.0 in let before = tied.1 in inr (
      sym (nat_cmp_is by a.by Equal (omega arith)),
      upper_falls (nat_lt a.lease below) (nat_lt b.lease below) (λ is. grind (arith, nat_tests)),
    )) (index_less a b less))
