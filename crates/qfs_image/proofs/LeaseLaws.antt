-- The leases on each file, by number: those that are found on a file are the leases on it.
use Rattle.std.proofs.Common.{◌≡◌, ◌∙◌, refl, sym, ap, ℕ, ◌+◌, ◌<◌, ◌≤◌, Bool, true, false, cond, ◌&&◌, ◌==◌, List, [], ◌∷◌, ◌++◌, length, drop, get_or, append_assoc, append-nil, Option, Some, None}
use Rattle.std.specs.Prelude.{nat_eq, map, filter}
use Rattle.std.specs.Cmp.{nat_cmp_total}
use Rattle.std.specs.List.{starts_with}
use Rattle.std.specs.Ordering.{nat_cmp}
use Rattle.std.proofs.lemmas.Bool.{eqb-true}
use Rattle.std.proofs.lemmas.List.{at_drop_all, at_drop_more}
use Rattle.qfs_base.specs.KeyMap.{value_at, without_key}
use Rattle.qfs_base.specs.KeyMapLaws.{value_at-without_key}
use Rattle.qfs_base.specs.declared.image.Lease.{Lease}
use Rattle.qfs_laws_tables.specs.Keys.{key-is}
use Rattle.qfs_model_disks.specs.Tests.{are_first}
use Rattle.qfs_model_meta.specs.Leases.{leases_on}
use Rattle.qfs_image.specs.Files.{Blocking, begin_leases, blocking_on, or_none, with_lease, with_leases}
use Rattle.qfs_image.proofs.FileLaws.{at-with}

abbrev one_if : Bool → ℕ → List ℕ
one_if true n = n ∷ []
one_if false n = []

one_more : (blocking : Blocking) (lease : Lease) (file : ℕ) → blocking_on (with_lease blocking lease) file ≡ blocking_on blocking file ++ one_if (lease.file == file) lease.lease
unfolding with_lease or_none
one_more blocking lease file =
    let new = blocking_on blocking lease.file ++ lease.lease ∷ [] in
    let without : value_at nat_cmp (without_key nat_cmp blocking lease.file) file ≡ cond (lease.file == file) None (value_at nat_cmp blocking file) =
    value_at-without_key nat_cmp_total blocking lease.file file
    ∙ ap (λ b. cond b None (value_at nat_cmp blocking file)) (key-is file lease.file) in
    ap or_none (at-with (without_key nat_cmp blocking lease.file) lease.file new file)
    ∙ ap (λ (o : Option (List ℕ)). or_none (cond (lease.file == file) (Some new) o)) without
    ∙ (elim (lease.file == file) as (λ b. (lease.file == file) ≡ b
    → or_none (cond b (Some new) (cond b None (value_at nat_cmp blocking file))) ≡ blocking_on blocking file ++ one_if b lease.lease) [
      | true ↦ λ e. ap (λ (n : ℕ). blocking_on blocking n ++ lease.lease ∷ []) (eqb-true lease.file file e)
      | false ↦ λ e. sym (append-nil (blocking_on blocking file))
    ]) refl

on_one : (lease : Lease) (leases : List Lease) (file : ℕ) → leases_on file (lease ∷ leases) ≡ one_if (lease.file == file) lease.lease ++ leases_on file leases
unfolding leases_on
on_one lease leases file =
    elim (lease.file == file) as (λ b. map (λ (lease : Lease). lease.lease) (cond b (lease ∷ filter (λ (lease : Lease). lease.file == file) leases) (filter (λ (lease : Lease). lease.file == file) leases))
    ≡ one_if b lease.lease ++ map (λ (lease : Lease). lease.lease) (filter (λ (lease : Lease). lease.file == file) leases)) [ true ↦ refl | false ↦ refl ]

all_more : (blocking : Blocking) (leases : List Lease) (file : ℕ) → blocking_on (with_leases blocking leases) file ≡ blocking_on blocking file ++ leases_on file leases
unfolding with_leases
all_more blocking [] file = unfold leases_on in sym (append-nil (blocking_on blocking file))
all_more blocking (lease ∷ leases) file =
    all_more (with_lease blocking lease) leases file
    ∙ ap (λ (on_file : List ℕ). on_file ++ leases_on file leases) (one_more blocking lease file)
    ∙ append_assoc (blocking_on blocking file) (one_if (lease.file == file) lease.lease) (leases_on file leases)
    ∙ ap (λ (on_file : List ℕ). blocking_on blocking file ++ on_file) (sym (on_one lease leases file))

first_are : (blockers leases : List ℕ) → are_first blockers leases ≡ starts_with nat_eq leases blockers
unfolding are_first
first_are [] leases = refl
first_are (b ∷ blockers) [] = refl
first_are (b ∷ blockers) (lease ∷ leases) = ap (λ rest. (b == lease) && rest) (first_are blockers leases)

-- blockers begin the leases that are found on their file exactly where they are the first of those on it
pub blockers_begin : (leases : List Lease) (file : ℕ) (blockers : List ℕ) → begin_leases (with_leases [] leases) file blockers ≡ are_first blockers (leases_on file leases)
unfolding begin_leases
blockers_begin leases file blockers =
    ap (λ (on_file : List ℕ). starts_with nat_eq on_file blockers) (all_more [] leases file)
    ∙ (unfold or_none in sym (first_are blockers (leases_on file leases)))

-- ---- in the loop over the leases

pub lease_step : (blocking : Blocking) (leases : List Lease) (i : ℕ) (lease : Lease) → i < length leases → lease ≡ get_or leases i lease
    → with_leases (with_lease blocking lease) (drop (i + 1) leases) ≡ with_leases blocking (drop i leases)
unfolding with_leases
lease_step blocking leases i lease inside at =
    sym (at_drop_more (with_leases blocking) leases i lease inside ∙ ap (λ (l : Lease). with_leases blocking (l ∷ drop (i + 1) leases)) (sym at))

pub leases_end : (blocking : Blocking) (leases : List Lease) (i : ℕ) → length leases ≤ i → blocking ≡ with_leases blocking (drop i leases)
unfolding with_leases
leases_end blocking leases i past = sym (at_drop_all (with_leases blocking) leases i past)
