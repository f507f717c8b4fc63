-- Stores whose devices go on.
use Rattle.std.proofs.Common.{◌≡◌, ℕ, suc, zero, List, [], ◌∷◌, length, Some, refl, sym, subst, arith, slice_get, slice_set, ◌<◌}
use Rattle.std.specs.List.{AllZip}
use Rattle.std.proofs.lemmas.List.Elements.{length_all_zip, AllZip-get_or}
use Rattle.std.specs.Prelude.{IsTrue}
use Rattle.qfs_store.specs.Stored.{Stored}
use Rattle.qfs_world.specs.Calls.{GoesOn}
use Rattle.qfs_world.specs.View.{AllTell}

goes-on : (stored : Stored) → GoesOn stored stored
goes-on stored = record { tells = refl; never_falls = omega arith }

pub all-go_on : (stores : List Stored) → AllZip GoesOn stores stores
all-go_on [] = tt
all-go_on (stored ∷ stores) = (goes-on stored, all-go_on stores)

pub goes-set : (stores : List Stored) (place : ℕ) (stored next : Stored) → slice_get stores place ≡ Some stored → GoesOn stored next
    → AllZip GoesOn stores (slice_set stores place next)
goes-set [] place stored next e goes = absurd (cc)
goes-set (first ∷ rest) zero stored next e goes =
    let same : first ≡ stored = cc in (subst (λ s. GoesOn s next) (sym same) goes, all-go_on rest)
goes-set (first ∷ rest) (suc place) stored next e goes = (goes-on first, goes-set rest place stored next e goes)

-- stores that tell what they hold told it before
pub all-told_before : (before behind : List Stored) → AllZip GoesOn before behind → AllTell behind → AllTell before
all-told_before before behind go_on tell = λ k d below.
    let same : length before ≡ length behind = length_all_zip GoesOn before behind go_on in
    let below_too : k < length behind = omega arith in
    subst IsTrue (AllZip-get_or GoesOn before behind k d d go_on below).tells (tell k d below_too)
