-- Which slots are left out: with six slots at hand, every slot that isn't at hand is the wanted one or one of the two.
use Rattle.std.proofs.Common.{◌≡◌, ◌≢◌, ℕ, ◌<◌, ◌≤◌, Bool, true, false, not, cond, ◌&&◌, ◌||◌, ◌==◌, ltb, List, [], ◌∷◌, length, filter, refl, sym, ap, ap₂, ◌∙◌, arith, eq-eqb, ne_eqb, ltb-true, ⊎_elim, true≢false}
use Rattle.std.proofs.lemmas.Bool.{cases_Bool, or_cases, and_parts, not-true}
use Rattle.qfs_base.specs.Mask.{all_slots, slots_that, has_slot, IsMask}
use Rattle.qfs_galois.proofs.Additive.{holds_below, at_each_below}
use Rattle.qfs_model_slot.specs.Restored.{is_spare, first_spare, last_besides, left_out}

-- a test of each list that a filter can leave of one
holds_of_picks : List ℕ → (List ℕ → Bool) → Bool
holds_of_picks [] test = test []
holds_of_picks (x ∷ xs) test = holds_of_picks xs test && holds_of_picks xs (λ ys. test (x ∷ ys))

of_pick : (xs : List ℕ) (test : List ℕ → Bool) → holds_of_picks xs test ≡ true → (p : ℕ → Bool) → test (filter p xs) ≡ true
unfolding holds_of_picks
of_pick [] test h p = h
of_pick (x ∷ xs) test h p =
    let parts = and_parts (holds_of_picks xs test) (holds_of_picks xs (λ ys. test (x ∷ ys))) h in
    ⊎_elim
    (λ kept. ap (λ b. test (cond b (x ∷ filter p xs) (filter p xs))) kept ∙ of_pick xs (λ ys. test (x ∷ ys)) parts.1 p)
    (λ dropped. ap (λ b. test (cond b (x ∷ filter p xs) (filter p xs))) dropped ∙ of_pick xs test parts.0 p)
    (cases_Bool (p x))

covers : List ℕ → ℕ → ℕ → ℕ → ℕ → Bool
covers have want b c j = has_slot have j || (j == want || (j == b || j == c))

apart : ℕ → ℕ → ℕ → Bool
apart want b c = ltb b 9 && (ltb c 9 && (not (b == want) && (not (c == want) && not (b == c))))

fits_pair : List ℕ → ℕ → ℕ → ℕ → Bool
fits_pair have want b c = apart want b c && holds_below 9 (covers have want b c)

fits : List ℕ → ℕ → Bool
fits have want = has_slot have want || fits_pair have want (left_out have want want) (left_out have want (left_out have want want))

test : List ℕ → Bool
test have = ltb (length have) 6 || holds_below 9 (fits have)

all_fit : holds_of_picks all_slots test ≡ true
unfolding holds_of_picks test fits fits_pair apart covers holds_below has_slot left_out first_spare last_besides is_spare
all_fit = refl

-- ---- what it says of a set of six slots or more

abbrev pub first_out : List ℕ → ℕ → ℕ
first_out have want = left_out have want want

abbrev pub second_out : List ℕ → ℕ → ℕ
second_out have want = left_out have want (first_out have want)

-- the pair and the wanted slot are three slots
pub record LeavesOut (have : List ℕ) (want : ℕ) : Type 0 where
  pub first_slot : first_out have want < 9
  pub second_slot : second_out have want < 9
  pub others : (want == first_out have want || want == second_out have want) ≡ false
  pub two : first_out have want ≢ second_out have want

unequal : (x y : ℕ) → not (x == y) ≡ true → x ≢ y
unequal x y h e = true≢false (sym (eq-eqb x y e) ∙ not-true (x == y) h)

module _ (have : List ℕ) (want : ℕ) (mask : IsMask have) (enough : 6 ≤ length have) (lw : want < 9) (missing : has_slot have want ≡ false) where
  tested : test have ≡ true
  unfolding slots_that
  tested = ap test (sym mask.rising) ∙ of_pick all_slots test all_fit (has_slot have)

  pair_fits : fits_pair have want (first_out have want) (second_out have want) ≡ true
  unfolding test fits
  pair_fits =
      let few : ltb (length have) 6 ≡ true → ⊥ = λ h. omega (arith, ltb-true (length have) 6 h) in
      let each = ⊎_elim (λ h. absurd (few h)) (λ h. h) (or_cases (ltb (length have) 6) (holds_below 9 (fits have)) tested) in
      ⊎_elim (λ h. absurd (true≢false (sym h ∙ missing))) (λ h. h)
      (or_cases (has_slot have want) (fits_pair have want (first_out have want) (second_out have want)) (at_each_below 9 (fits have) each want lw))

  pair_parts : (apart want (first_out have want) (second_out have want) ≡ true) × (holds_below 9 (covers have want (first_out have want) (second_out have want)) ≡ true)
  unfolding fits_pair
  pair_parts = and_parts (apart want (first_out have want) (second_out have want)) (holds_below 9 (covers have want (first_out have want) (second_out have want))) pair_fits

  pub leaves_out : LeavesOut have want
  unfolding apart
  leaves_out =
      let a = and_parts (ltb (first_out have want) 9) (ltb (second_out have want) 9 && (not (first_out have want == want) && (not ((second_out have want) == want) && not ((first_out have want) == (second_out have want))))) pair_parts.0 in
      let b = and_parts (ltb (second_out have want) 9) (not (first_out have want == want) && (not ((second_out have want) == want) && not ((first_out have want) == (second_out have want)))) a.1 in
      let c = and_parts (not (first_out have want == want)) (not ((second_out have want) == want) && not ((first_out have want) == (second_out have want))) b.1 in
      let d = and_parts (not ((second_out have want) == want)) (not ((first_out have want) == (second_out have want))) c.1 in
      record {
        first_slot = ltb-true (first_out have want) 9 a.0;
        second_slot = ltb-true (second_out have want) 9 b.0;
        others =
            ap₂ (λ x y. x || y)
            (ne_eqb want (first_out have want) (λ e. unequal (first_out have want) want c.0 (sym e)))
            (ne_eqb want (second_out have want) (λ e. unequal (second_out have want) want d.0 (sym e)));
        two = unequal (first_out have want) (second_out have want) d.1;
      }

  -- each slot is at hand, the wanted one, or left out
  pub covered : (j : ℕ) → j < 9 → has_slot have j ≡ false → (j == want) ≡ false → (j == (first_out have want) || j == (second_out have want)) ≡ true
  unfolding covers
  covered j lj away other =
      let at = at_each_below 9 (covers have want (first_out have want) (second_out have want)) pair_parts.1 j lj in
      ap (λ b. b || (j == (first_out have want) || j == (second_out have want))) (sym other) ∙ ap (λ b. b || (j == want || (j == (first_out have want) || j == (second_out have want)))) (sym away) ∙ at
