-- Leases: who holds one on which file and until which reading of the clock, by number.
use Rattle.std.specs.Prelude.{ℕ, ◌==◌, nat_le, Bool, cond, not, ◌&&◌, List, [], ◌∷◌, ◌++◌, map, filter}
use Rattle.std.specs.List.{list_any}
use Rattle.std.specs.declared.cmp.Ordering.{Ordering}
use Rattle.std.specs.Ordering.{nat_cmp}
use Rattle.qfs_base.specs.declared.image.Lease.{Lease}
use Rattle.qfs_base.specs.Table.{has_key, without}
use Rattle.qfs_model_meta.specs.Servers.{reading_after}

-- the order of leases: by number
abbrev pub lease_order : ℕ → Lease → Ordering
lease_order number lease = nat_cmp number lease.lease

abbrev pub lease_cmp : Lease → Lease → Ordering
lease_cmp a b = lease_order a.lease b

-- whether a lease has this number
unfoldable pub is_lease : ℕ → Lease → Bool
is_lease number lease = has_key (lease_order number) lease

-- whether the lease of this number is live, and whether it is an actor's
unfoldable pub is_live_lease : ℕ → List Lease → Bool
is_live_lease number leases = list_any (is_lease number) leases

unfoldable pub holds_lease : ℕ → ℕ → List Lease → Bool
holds_lease actor number leases =
    list_any (λ (lease : Lease). is_lease number lease && (lease.actor == actor)) leases

-- the reading until which a lease lives that is given now: so many ticks, or for good where the term is 0
unfoldable pub lease_end : ℕ → ℕ → ℕ
lease_end term clock = cond (term == 0) 0 (reading_after clock term)

-- the leases and a new one, whose number is above theirs
unfoldable pub give_lease : ℕ → ℕ → ℕ → ℕ → List Lease → List Lease
give_lease number actor file until leases =
    leases ++ record { lease = number; actor = actor; file = file; until = until } ∷ []

-- the leases but for one that ended
unfoldable pub end_lease : ℕ → List Lease → List Lease
end_lease number leases = without (is_lease number) leases

-- whether a lease's time has come: one that lasts has none
unfoldable pub has_run_out : ℕ → Lease → Bool
has_run_out clock lease = not (lease.until == 0) && nat_le lease.until clock

-- the numbers of the live leases on a file, of those of an actor, and of those whose time has come
unfoldable pub leases_on : ℕ → List Lease → List ℕ
leases_on file leases = map (λ (lease : Lease). lease.lease) (filter (λ (lease : Lease). lease.file == file) leases)

unfoldable pub leases_of : ℕ → List Lease → List ℕ
leases_of actor leases = map (λ (lease : Lease). lease.lease) (filter (λ (lease : Lease). lease.actor == actor) leases)

unfoldable pub leases_over : ℕ → List Lease → List ℕ
leases_over clock leases = map (λ (lease : Lease). lease.lease) (filter (has_run_out clock) leases)
