-- What slots count in the three equations, and in a combination from which two slots drop out.
use Rattle.std.proofs.Common.{◌≡◌, ◌≢◌, ℕ, zero, suc, ◌*◌, ◌<◌, Bool, true, false, not, cond, ◌||◌, ◌==◌, ltb, List, [], ◌∷◌, slice_index_or, lt-ltb, zero-mul, one-mul, refl, sym, ap, ap₂, ◌∙◌, arith, eqb-true, eq-eqb, ne_eqb, ⊎_elim, true≢false}
use Rattle.std.specs.List.{list_all}
use Rattle.std.proofs.lemmas.Bool.{or_cases, not-true}
use Rattle.qfs_galois.specs.Field.{polynomial_product, remainder, product, power}
use Rattle.qfs_galois.proofs.Additive.{holds_below, at_each_below}
use Rattle.qfs_galois.proofs.FieldLaws.{power-zero}
use Rattle.qfs_model_slot.specs.Restored.{dot, counts, counts_of, minor, cross, without_slots}

pub counts_of-data : (j : ℕ) → j < 6 → counts_of j ≡ 1 ∷ power 2 j ∷ power 2 (2 * j) ∷ []
unfolding counts_of counts
counts_of-data j l = let low = lt-ltb j 6 l in simp (low, zero-mul, one-mul, power-zero)

-- ---- the nine lists, written out

table : List (List ℕ)
table =
    (1 ∷ 1 ∷ 1 ∷ []) ∷ (1 ∷ 2 ∷ 4 ∷ []) ∷ (1 ∷ 4 ∷ 16 ∷ []) ∷ (1 ∷ 8 ∷ 64 ∷ []) ∷ (1 ∷ 16 ∷ 29 ∷ []) ∷ (1 ∷ 32 ∷ 116 ∷ [])
    ∷ (1 ∷ 0 ∷ 0 ∷ []) ∷ (0 ∷ 1 ∷ 0 ∷ []) ∷ (0 ∷ 0 ∷ 1 ∷ []) ∷ []

pub row : ℕ → List ℕ
row j = slice_index_or table j []

counts_of-row : (j : ℕ) → j < 9 → counts_of j ≡ row j
unfolding counts_of counts row table power product remainder polynomial_product
counts_of-row zero _ = refl
counts_of-row (suc zero) _ = refl
counts_of-row (suc (suc zero)) _ = refl
counts_of-row (suc (suc (suc zero))) _ = refl
counts_of-row (suc (suc (suc (suc zero)))) _ = refl
counts_of-row (suc (suc (suc (suc (suc zero))))) _ = refl
counts_of-row (suc (suc (suc (suc (suc (suc zero)))))) _ = refl
counts_of-row (suc (suc (suc (suc (suc (suc (suc zero))))))) _ = refl
counts_of-row (suc (suc (suc (suc (suc (suc (suc (suc zero)))))))) _ = refl
counts_of-row (suc (suc (suc (suc (suc (suc (suc (suc (suc j))))))))) l = absurd (omega arith)

-- ---- two slots drop out of their combination, and no third does

-- what slot j counts in the combination without b and c
total : ℕ → ℕ → ℕ → ℕ
total b c j = dot (cross (row b) (row c)) (row j)

drops : ℕ → ℕ → ℕ → Bool
drops b c j = b == c || (cond (j == b || j == c) (total b c j == 0) (not (total b c j == 0)))

all_drop : holds_below 9 (λ b. holds_below 9 (λ c. holds_below 9 (drops b c))) ≡ true
unfolding holds_below drops total row table dot cross minor product remainder polynomial_product
all_drop = refl

-- the test at three slots, as the definitions say it
module _ (b c j : ℕ) (lb : b < 9) (lc : c < 9) (lj : j < 9) (other : b ≢ c) where
  is_total : dot (without_slots b c) (counts_of j) ≡ total b c j
  unfolding total without_slots
  is_total =
      ap₂ dot (ap₂ cross (counts_of-row b lb) (counts_of-row c lc)) (counts_of-row j lj)

  outcome : cond (j == b || j == c) (total b c j == 0) (not (total b c j == 0)) ≡ true
  unfolding drops
  outcome =
      ⊎_elim (λ e. absurd (other (eqb-true b c e))) (λ h. h)
      (or_cases (b == c) (cond (j == b || j == c) (total b c j == 0) (not (total b c j == 0)))
      (at_each_below 9 (drops b c) (at_each_below 9 (λ c. holds_below 9 (drops b c)) (at_each_below 9 (λ b. holds_below 9 (λ c. holds_below 9 (drops b c))) all_drop b lb) c lc) j lj))

  pub drops_out : (j == b || j == c) ≡ true → dot (without_slots b c) (counts_of j) ≡ 0
  drops_out h =
      let zero_there = sym (ap (λ t. cond t (total b c j == 0) (not (total b c j == 0))) h) ∙ outcome in
      is_total ∙ eqb-true (total b c j) 0 zero_there

  pub stays_in : (j == b || j == c) ≡ false → dot (without_slots b c) (counts_of j) ≢ 0
  stays_in h none =
      let nonzero = sym (ap (λ t. cond t (total b c j == 0) (not (total b c j == 0))) h) ∙ outcome in
      true≢false (sym (eq-eqb (total b c j) 0 (sym is_total ∙ none)) ∙ not-true (total b c j == 0) nonzero)

-- what slots count are bytes
counts_fit : holds_below 9 (λ j. list_all (λ x. ltb x 256) (row j)) ≡ true
unfolding holds_below row table
counts_fit = refl

pub counts_are_bytes : (j : ℕ) → j < 9 → list_all (λ x. ltb x 256) (counts_of j) ≡ true
counts_are_bytes j l = ap (list_all (λ x. ltb x 256)) (counts_of-row j l) ∙ at_each_below 9 _ counts_fit j l

-- and so is what they count where two slots drop out
crosses_fit : holds_below 9 (λ b. holds_below 9 (λ c. list_all (λ x. ltb x 256) (cross (row b) (row c)))) ≡ true
unfolding holds_below row table cross minor product remainder polynomial_product
crosses_fit = refl

pub without_slots_are_bytes : (b c : ℕ) → b < 9 → c < 9 → list_all (λ x. ltb x 256) (without_slots b c) ≡ true
unfolding without_slots
without_slots_are_bytes b c lb lc =
    ap (list_all (λ x. ltb x 256)) (ap₂ cross (counts_of-row b lb) (counts_of-row c lc))
    ∙ at_each_below 9 _ (at_each_below 9 (λ b. holds_below 9 (λ c. list_all (λ x. ltb x 256) (cross (row b) (row c)))) crosses_fit b lb) c lc

-- what three slots count is independent
pub independent : (a b c : ℕ) → a < 9 → b < 9 → c < 9 → a ≢ b → c ≢ a → c ≢ b → dot (cross (counts_of a) (counts_of b)) (counts_of c) ≢ 0
unfolding without_slots
independent a b c la lb lc other na nb = stays_in a b c la lb lc other (ap₂ (λ x y. x || y) (ne_eqb c a na) (ne_eqb c b nb))
