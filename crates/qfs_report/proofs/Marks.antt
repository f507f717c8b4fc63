-- Sets of slots, into which slots are put one by one.
use Rattle.std.proofs.Common.{◌≡◌, ℕ, ◌==◌, ltb, Bool, true, false, ◌||◌, List, [], ◌∷◌, cond, refl, ap, ◌∙◌, arith}
use Rattle.qfs_base.specs.Mask.{has_slot, insert_slot}

swap : (a b c : Bool) → (b || (a || c)) ≡ (a || (b || c))
swap true true c = refl
swap true false c = refl
swap false true c = refl
swap false false c = refl

twice : (a c : Bool) → (a || c) ≡ (a || (a || c))
twice true c = refl
twice false c = refl

-- the slot goes before a later one, is there, or goes behind
inserted-further : (s t u : ℕ) (us : List ℕ) → has_slot (insert_slot s us) t
    ≡ ((s == t) || has_slot us t)
    → (less same : Bool) → (s == u) ≡ same
    → has_slot (cond less (s ∷ u ∷ us) (cond same (u ∷ us) (u ∷ insert_slot s us))) t
    ≡ ((s == t) || has_slot (u ∷ us) t)
unfolding has_slot
inserted-further s t u us more true same is = refl
inserted-further s t u us more false true is = let e : s
    ≡ u = grind arith in rw e (twice (u == t) (has_slot us t))
inserted-further s t u us more false false is = ap (λ b. (u == t) || b) more
    ∙ swap (s == t) (u == t) (has_slot us t)

-- a slot is in a set into which one was put if it is that one, or was there
pub has-inserted : (s t : ℕ) (slots : List ℕ) → has_slot (insert_slot s slots) t
    ≡ ((s == t) || has_slot slots t)
unfolding has_slot insert_slot
has-inserted s t [] = refl
has-inserted s t (u ∷ us) = inserted-further s t u us (has-inserted s t us) (ltb s u) (s == u) refl
