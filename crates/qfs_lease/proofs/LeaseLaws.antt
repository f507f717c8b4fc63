-- Lists of leases by number: at most one has a number. For the calls of `Leases` that name one.
use Rattle.std.proofs.Common.{◌≡◌, ◌<◌, ◌≤◌, ◌+◌, ◌∙◌, ap, sym, refl, arith, ℕ}
use Rattle.std.proofs.Common.{Bool, true, false, true≢false, ◌==◌, ◌&&◌, ◌||◌, cond}
use Rattle.std.proofs.Common.{List, [], ◌∷◌, ◌++◌, find, Some, None}
use Rattle.std.proofs.lemmas.Bool.{and_parts}
use Rattle.std.proofs.lemmas.Cmp.{ranked}
use Rattle.std.specs.Cmp.{nat_cmp_is}
use Rattle.std.specs.List.{list_any}
use Rattle.std.specs.Ordering.{is_eq, nat_cmp}
use Rattle.std.specs.Prelude.{⊤}
use Rattle.std.specs.declared.cmp.Ordering.TheVariants.{Less, Equal, Greater}
use Rattle.qfs_base.specs.declared.image.Lease.{Lease}
use Rattle.qfs_base.specs.EachLaws.{each_weaker}
use Rattle.qfs_base.specs.Table.{Each, IsRising, has_key}
use Rattle.qfs_model_meta.specs.Leases.{holds_lease, is_lease, lease_cmp, lease_order}
use Rattle.qfs_laws_tables.specs.EachRow.{each_of_all, found_has, none_found}
use Rattle.qfs_laws_tables.specs.Keys.{equal-is}
use Rattle.qfs_laws_tables.specs.SomeRow.{any_each, any_none, found-any}

-- what is found has the number that was sought
pub found_number : (number : ℕ) (found : Lease) (leases : List Lease)
    → find (has_key (lease_order number)) leases ≡ Some found → found.lease ≡ number
found_number number found leases at =
    let passes = found_has (λ _. ⊤) (has_key (lease_order number)) leases found at
    (each_of_all _ (λ _. tt) leases) in
    sym (ranked number found.lease Equal (sym (equal-is _ passes.1)))

-- the lease that is found is the one of its number
pub alone : (number : ℕ) (found : Lease) (leases : List Lease) → IsRising lease_cmp leases
    → find (is_lease number) leases ≡ Some found
    → Each (λ lease. is_lease number lease ≡ true → lease ≡ found) leases
unfolding is_lease
alone number found [] rising is = tt
alone number found (lease ∷ leases) rising is =
    elim (nat_cmp number lease.lease) as (λ o. nat_cmp number lease.lease ≡ o
    → cond (is_eq o) (Some lease) (find (is_lease number) leases) ≡ Some found
    → (is_eq o ≡ true → lease ≡ found)
    × Each (λ lease. is_lease number lease ≡ true → lease ≡ found) leases) [
      | Less ↦ λ _ is. ((λ tied. absurd (cc)), alone number found leases rising.1 is)
      | Greater ↦ λ _ is. ((λ tied. absurd (cc)), alone number found leases rising.1 is)
      | Equal ↦ λ own is. (
        (λ _. cc),
        each_weaker (λ later. lease_cmp lease later ≡ Less)
            (λ later. is_lease number later ≡ true → later ≡ found)
            (λ later above tied. absurd (apart later own above tied)) leases rising.0,
      )
    ] refl is
  where
    apart : (later : Lease) → nat_cmp number lease.lease ≡ Equal → lease_cmp lease later ≡ Less
        → is_lease number later ≡ true → ⊥
    apart later own above tied =
        let same : number ≡ lease.lease = ranked number lease.lease Equal (sym own) in
        let below : lease.lease < later.lease = ranked lease.lease later.lease Less (sym above) in
        let less : nat_cmp number later.lease ≡ Less =
        sym (nat_cmp_is number later.lease Less (omega arith)) in
        true≢false (sym tied ∙ ap is_eq less)

-- what is so of some lease with a number is so of each, since there is one
pub one_number : (number : ℕ) (test : Lease → Bool) (leases : List Lease)
    → IsRising lease_cmp leases
    → list_any (λ lease. is_lease number lease && test lease) leases ≡ true
    → Each (λ lease. is_lease number lease ≡ true → test lease ≡ true) leases
one_number number test leases rising any =
    elim (find (is_lease number) leases) as (λ o. find (is_lease number) leases ≡ o
    → Each (λ lease. is_lease number lease ≡ true → test lease ≡ true) leases) [
      | None ↦ λ none. each_weaker (λ lease. is_lease number lease ≡ false) _
          (λ lease off own. absurd (true≢false (sym own ∙ off))) leases
          (none_found (is_lease number) leases none)
      | Some found ↦ λ at.
          let one = alone number found leases rising at in
          let passes : test found ≡ true = any_each (test found ≡ true)
          (λ lease. is_lease number lease ≡ true → lease ≡ found)
          (λ lease. is_lease number lease && test lease)
          (λ lease same both. let parts = and_parts (is_lease number lease) (test lease) both in
          ap test (sym (same parts.0)) ∙ parts.1) leases one any in
          each_weaker _ _ (λ lease same own. ap test (same own) ∙ passes) leases one
    ] refl

-- where some lease with a number passes a test, some has that number
pub one_live : (number : ℕ) (test : Lease → Bool) (leases : List Lease)
    → list_any (λ lease. is_lease number lease && test lease) leases ≡ true
    → list_any (is_lease number) leases ≡ true
one_live number test [] any = any
one_live number test (lease ∷ leases) any =
    elim (is_lease number lease) as (λ b.
    ((b && test lease) || list_any (λ lease. is_lease number lease && test lease) leases) ≡ true
    → (b || list_any (is_lease number) leases) ≡ true) [
      | true ↦ λ _. refl
      | false ↦ λ any. one_live number test leases any
    ] any

-- an actor holds the lease of a number where the one that is found is the actor's
pub held_as_found : (actor number : ℕ) (found : Lease) (leases : List Lease)
    → IsRising lease_cmp leases → find (is_lease number) leases ≡ Some found
    → (found.actor == actor) ≡ holds_lease actor number leases
unfolding holds_lease
held_as_found actor number found leases rising at =
    elim (found.actor == actor) as (λ b. (found.actor == actor) ≡ b
    → b ≡ list_any (λ lease. is_lease number lease && (lease.actor == actor)) leases) [
      | true ↦ λ own. sym (found-any (is_lease number)
          (λ lease. is_lease number lease && (lease.actor == actor)) leases found at
          (ap (λ b. b && (found.actor == actor)) (found_has (λ _. ⊤) (is_lease number) leases
          found at (each_of_all _ (λ _. tt) leases)).1 ∙ own))
      | false ↦ λ other. sym (any_none _ leases
          (each_weaker _ _ (λ lease one. off other lease (is_lease number lease) refl one) leases
          (alone number found leases rising at)))
    ] refl
  where
    off : (found.actor == actor) ≡ false → (lease : Lease) (b : Bool) → is_lease number lease ≡ b
        → (is_lease number lease ≡ true → lease ≡ found)
        → (is_lease number lease && (lease.actor == actor)) ≡ false
    off other lease true is one =
        ap (λ b. b && (lease.actor == actor)) is
        ∙ ap (λ (it : Lease). it.actor == actor) (one is) ∙ other
    off other lease false is one = ap (λ b. b && (lease.actor == actor)) is

-- nobody holds the lease of a number that none has
pub held_by_none : (actor number : ℕ) (leases : List Lease)
    → find (is_lease number) leases ≡ None → false ≡ holds_lease actor number leases
unfolding holds_lease
held_by_none actor number leases none =
    sym (any_none _ leases (each_weaker (λ lease. is_lease number lease ≡ false) _
    (λ lease off. ap (λ b. b && (lease.actor == actor)) off) leases
    (none_found (is_lease number) leases none)))

-- the leases behind one have numbers above its own
pub above_later : (lease : Lease) (before later : List Lease)
    → IsRising lease_cmp (before ++ lease ∷ later)
    → Each (λ (it : Lease). lease.lease + 1 ≤ it.lease) later
above_later lease [] later rising =
    each_weaker (λ it. lease_cmp lease it ≡ Less) _ (λ it above.
    let below : lease.lease < it.lease = ranked lease.lease it.lease Less (sym above) in
    omega arith) later rising.0
above_later lease (first ∷ before) later rising = above_later lease before later rising.1
