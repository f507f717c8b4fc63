-- The leases passed one after another, by number: those of an actor end. For `Leases::drop_of`.
use Rattle.std.proofs.Common.{◌≡◌, ◌<◌, ◌≤◌, ◌+◌, ◌∙◌, ◌⊎◌, inl, inr, ⊎_elim, ap, sym, subst}
use Rattle.std.proofs.Common.{refl, arith, ℕ, nat_le, List, [], ◌∷◌, find, Some, None}
use Rattle.std.proofs.Common.{Bool, true, false, true≢false, not, cond}
use Rattle.std.proofs.lemmas.Bool.Decides.{nat_tests}
use Rattle.std.proofs.lemmas.Cmp.{ranked}
use Rattle.std.specs.Cmp.{nat_cmp_is}
use Rattle.std.specs.Ordering.{is_eq, nat_cmp}
use Rattle.std.specs.declared.cmp.Ordering.TheVariants.{Less, Equal, Greater}
use Rattle.qfs_base.specs.declared.image.Lease.{Lease}
use Rattle.qfs_base.specs.EachLaws.{each_filter, each_weaker}
use Rattle.qfs_base.specs.Table.{Each, IsRising, has_key, without}
use Rattle.qfs_model_meta.specs.Leases.{end_lease, is_lease, lease_cmp}
use Rattle.qfs_laws_tables.specs.EachRow.{each_both, each_passes, none_found, without_none}
use Rattle.qfs_laws_tables.specs.Keys.{equal-is}
use Rattle.qfs_lease.specs.IndexKeys.{from_order}
use Rattle.qfs_lease.specs.LiveLeases.{HasPassed, is_of_actor}
use Rattle.qfs_lease.proofs.RowLaws.{without_after}

-- where a lease stands beside the first one from a number on
abbrev pub IsBeside : ℕ → Lease → Lease → Type 0
IsBeside from found lease =
    (lease.lease < from) ⊎ (lease ≡ found) ⊎ (found.lease < lease.lease)

pub beside_first : (from : ℕ) (found : Lease) (leases : List Lease) → IsRising lease_cmp leases
    → find (has_key (from_order from)) leases ≡ Some found
    → (from ≤ found.lease) × Each (IsBeside from found) leases
beside_first from found [] rising at = absurd (cc)
beside_first from found (lease ∷ leases) rising at =
    elim (nat_le from lease.lease) as (λ b. nat_le from lease.lease ≡ b
    → cond (is_eq (cond b Equal Greater)) (Some lease) (find (has_key (from_order from)) leases)
    ≡ Some found
    → (from ≤ found.lease) × (IsBeside from found lease × Each (IsBeside from found) leases)) [
      | true ↦ λ is at.
          let same : lease ≡ found = cc in
          let low : from ≤ lease.lease = grind (arith, nat_tests) in
          let above = each_weaker (λ later. lease_cmp lease later ≡ Less) (IsBeside from lease)
          (λ later above. inr (inr (ranked lease.lease later.lease Less (sym above)))) leases
          rising.0 in (
            subst (λ (it : Lease). from ≤ it.lease) same low,
            (inr (inl same), subst (λ it. Each (IsBeside from it) leases) same above),
          )
      | false ↦ λ is at.
          let rest = beside_first from found leases rising.1 at in
          let low : lease.lease < from = grind (arith, nat_tests) in
          (rest.0, (inl low, rest.1))
    ] refl at

module _ (actor from : ℕ) (found : Lease) (leases : List Lease)
    (rising : IsRising lease_cmp leases)
    (at : find (has_key (from_order from)) leases ≡ Some found) where
  -- another's lease is passed by
  pub other_passed : HasPassed actor from leases → is_of_actor actor found ≡ false
      → HasPassed actor (found.lease + 1) leases
  other_passed passed other =
      each_weaker _ _ (λ lease both below. ⊎_elim both.1
      (⊎_elim (λ same. ap (is_of_actor actor) same ∙ other)
      (λ above. absurd (omega arith))) both.0)
      leases (each_both _ _ leases (beside_first from found leases rising at).1 passed)

  -- an actor's lease is passed by, once it has ended
  pub ended_passed : HasPassed actor from leases
      → HasPassed actor (found.lease + 1) (end_lease found.lease leases)
  unfolding end_lease is_lease
  ended_passed passed =
      let kept = λ (lease : Lease). not (is_lease found.lease lease) in
      each_weaker _ _ (λ lease both below. ⊎_elim both.0.1
      (⊎_elim (λ same. absurd (gone lease same both.1)) (λ above. absurd (omega arith))) both.0.0)
      (end_lease found.lease leases)
      (each_both _ _ (end_lease found.lease leases) (each_filter _ kept leases
      (each_both _ _ leases (beside_first from found leases rising at).1 passed))
      (each_passes kept leases))
    where
      gone : (lease : Lease) → lease ≡ found → not (is_lease found.lease lease) ≡ true → ⊥
      gone lease same off =
          let own : nat_cmp found.lease lease.lease ≡ Equal =
          sym (nat_cmp_is found.lease lease.lease Equal
          (ap (λ (it : Lease). it.lease) (sym same))) in
          true≢false (sym off ∙ ap (λ o. not (is_eq o)) own)

  -- an actor's lease that ended would have gone anyway
  pub ended_anyway : is_of_actor actor found ≡ true
      → without (is_of_actor actor) (end_lease found.lease leases)
      ≡ without (is_of_actor actor) leases
  unfolding end_lease is_lease
  ended_anyway own =
      let beside = beside_first from found leases rising at in
      without_after (is_lease found.lease) (is_of_actor actor) leases
      (each_weaker _ _ (λ lease where_is tied.
      let same : found.lease ≡ lease.lease =
      ranked found.lease lease.lease Equal (sym (equal-is _ tied)) in
      let low = beside.0 in
      ⊎_elim (λ below. absurd (omega arith))
      (⊎_elim (λ is. ap (is_of_actor actor) is ∙ own) (λ above. absurd (omega arith))) where_is)
      leases beside.1)

-- none of an actor's is left once all are passed
pub all_passed : (actor from : ℕ) (leases : List Lease)
    → find (has_key (from_order from)) leases ≡ None → HasPassed actor from leases
    → without (is_of_actor actor) leases ≡ leases
all_passed actor from leases none passed =
    without_none (is_of_actor actor) leases (each_weaker _ _
    (λ lease both. both.1 (before lease (nat_le from lease.lease) refl both.0)) leases
    (each_both _ _ leases (none_found (has_key (from_order from)) leases none) passed))
  where
    before : (lease : Lease) (b : Bool) → nat_le from lease.lease ≡ b
        → is_eq (cond (nat_le from lease.lease) Equal Greater) ≡ false → lease.lease < from
    before lease true is off =
        absurd (true≢false (sym (ap (λ b. is_eq (cond b Equal Greater)) is) ∙ off))
    before lease false is off = grind (arith, nat_tests)
