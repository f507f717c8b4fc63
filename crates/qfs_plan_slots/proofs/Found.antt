-- What was found, by what is read of it.
use Rattle.std.proofs.Common.{◌≡◌, ◌∙◌, ℕ, List, find, Option, Some, None, is_some, unwrap_or, ap, refl}
use Rattle.std.specs.Option.{option_map}
use Rattle.qfs_base.specs.declared.image.Lease.{Lease}
use Rattle.qfs_laws_tables.specs.SomeRow.{some-any}
use Rattle.qfs_lease.specs.LiveLeases.{holder_of}
use Rattle.qfs_model_meta.specs.Leases.{is_lease, is_live_lease}

pub found_by : {X Y : Type 0} (read : X → Y) (found : Option X) (y : Y)
    → option_map read found ≡ Some y → (x : X) × ((found ≡ Some x) × (read x ≡ y))
found_by read None y e = absurd (none_some e)
  where
    none_some : None ≡ Some y → ⊥
    none_some e = cc
found_by read (Some x) y e = (x, (refl, ap (λ o. unwrap_or o y) e))

pub none_by : {X Y : Type 0} (read : X → Y) (found : Option X) → option_map read found ≡ None
    → found ≡ None
none_by read None e = refl
none_by read (Some x) e = absurd (some_none e)
  where
    some_none : Some (read x) ≡ None → ⊥
    some_none e = cc

-- something is read where something was found
pub some_by : {X Y : Type 0} (read : X → Y) (found : Option X)
    → is_some (option_map read found) ≡ is_some found
some_by read None = refl
some_by read (Some x) = refl

-- a lease that has a holder is live
pub some_holder : (lease : ℕ) (leases : List Lease)
    → is_some (option_map holder_of (find (is_lease lease) leases)) ≡ is_live_lease lease leases
unfolding is_live_lease
some_holder lease leases =
    some_by holder_of (find (is_lease lease) leases) ∙ some-any (is_lease lease) leases
