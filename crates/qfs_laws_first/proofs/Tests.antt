-- The test of a number by the order of numbers. Cited by the steps of puts and gets.
use Rattle.std.proofs.Common.{◌≡◌, ℕ, true, false, sym, ap}
use Rattle.std.specs.Cmp.{nat_cmp_total, ranked, tied_itself, Equal-is}
use Rattle.std.specs.Ordering.{nat_cmp, is_eq}
use Rattle.std.specs.declared.cmp.Ordering.TheVariants.{Equal}
use Rattle.std.proofs.lemmas.Bool.{false_from_ne_true}

pub own-key : (n : ℕ) → is_eq (nat_cmp n n) ≡ true
own-key n = ap is_eq (tied_itself nat_cmp_total n)

pub same-key : (a b : ℕ) → is_eq (nat_cmp a b) ≡ true → a ≡ b
same-key a b h = ranked a b Equal (sym ((Equal-is (nat_cmp a b)).0 h))

pub apart-key : (a b : ℕ) → (a ≡ b → ⊥) → is_eq (nat_cmp a b) ≡ false
apart-key a b differ = false_from_ne_true (is_eq (nat_cmp a b)) (λ h. differ (same-key a b h))
