-- Facts on lists, options and numbers that std doesn't have.
use Rattle.std.proofs.Common.{◌≡◌, ◌<◌, ◌≤◌, ◌+◌, ◌*◌, ℕ, zero, suc, arith, refl, Bool, true, false, List, [], ◌∷◌, ◌++◌, length, slice_get, Option, Some, None, cond, lt_of_mul-lt-mul_right}
use Rattle.std.specs.Int.{div_ceil}
use Rattle.std.proofs.lemmas.Grind.{div_ceil_times}

-- what stands at a place stands there with more behind it
pub slice_get-more : {X : Type 0} (xs ys : List X) (k : ℕ) (x : X) → slice_get xs k ≡ Some x → slice_get (xs ++ ys) k ≡ Some x
slice_get-more [] ys k x found = absurd (cc)
slice_get-more (z ∷ zs) ys zero x found = found
slice_get-more (z ∷ zs) ys (suc k) x found = slice_get-more zs ys k x found

-- the item that was put behind a list stands at its end
pub slice_get-last : {X : Type 0} (xs : List X) (x : X) → slice_get (xs ++ x ∷ []) (length xs) ≡ Some x
slice_get-last [] x = refl
slice_get-last (y ∷ ys) x = slice_get-last ys x

-- an answer that a test lets through
pub cond_passed : {X : Type 0} (b : Bool) (answer : Option X) (x : X) → cond b answer None ≡ Some x → (b ≡ true) × (answer ≡ Some x)
cond_passed true answer x is = (refl, is)
cond_passed false answer x is = absurd cc

-- a test that let nothing through
pub cond_stopped : {X : Type 0} (b : Bool) (x : X) → cond b (Some x) None ≡ None → b ≡ false
cond_stopped true x is = absurd cc
cond_stopped false x is = refl

-- so many parts that hold all are no fewer than the parts
pub div_ceil-least : (a b q : ℕ) → 0 < b → a ≤ q * b → div_ceil a b ≤ q
div_ceil-least a b q some fits =
    let d = div_ceil a b in
    let below : d * b < suc q * b = omega (arith, (div_ceil_times a b some).1, fits, suc_times q b) in
    let less : d < suc q = lt_of_mul-lt-mul_right b below in omega (arith, less)
  where
    suc_times : (q b : ℕ) → suc q * b ≡ q * b + b
    suc_times q b = grind arith
