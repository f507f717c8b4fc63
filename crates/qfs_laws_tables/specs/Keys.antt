-- What keys that compare as equal, or don't, say of numbers and orderings. Cited by the other laws,
-- and for tables, leases, names and the metaserver in memory.
use Rattle.std.proofs.Common.{arith, refl, sym, true, ℕ, ◌<◌, ◌==◌, ◌≡◌}
use Rattle.std.proofs.lemmas.Bool.{true≢false}
use Rattle.std.proofs.lemmas.Bool.Decides.{nat_tests}
use Rattle.std.specs.Cmp.{ranked}
use Rattle.std.specs.Ordering.{is_eq, nat_cmp}
use Rattle.std.specs.declared.cmp.Ordering.{Ordering}
use Rattle.std.specs.declared.cmp.Ordering.TheVariants.{Equal, Greater, Less}

pub equal-is : (o : Ordering) → is_eq o ≡ true → o ≡ Equal
equal-is Less e = absurd (true≢false (sym e))
equal-is Equal e = refl
equal-is Greater e = absurd (true≢false (sym e))

-- a number has the key of another where the two are equal
pub key-is : (key n : ℕ) → is_eq (nat_cmp key n) ≡ (n == key)
key-is key n =
    elim (nat_cmp key n) as (λ o. nat_cmp key n ≡ o → is_eq o ≡ (n == key)) [
      | Less ↦ λ o. let apart : key < n = ranked key n Less (sym o) in grind (arith, nat_tests)
      | Equal ↦ λ o. let same : key ≡ n = ranked key n Equal (sym o) in grind (arith, nat_tests)
      | Greater ↦ λ o. let apart : n < key = ranked key n Greater (sym o) in grind
          (arith, nat_tests)
    ] refl

pub less-not : Less ≡ Equal → ⊥
less-not e = cc

pub greater-not : Greater ≡ Equal → ⊥
greater-not e = cc
