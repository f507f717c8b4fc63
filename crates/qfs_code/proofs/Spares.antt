-- The search for a slot to leave out, step by step.
use Rattle.std.proofs.Common.{◌≡◌, ℕ, suc, ◌+◌, ◌-◌, ◌<◌, true, false, cond, List, Some, None, find, ap, ◌∙◌, arith}
use Rattle.std.specs.List.{range_with_len}
use Rattle.qfs_model_slot.specs.Restored.{is_spare, first_spare}

module _ (have : List ℕ) (want other from : ℕ) where
  step : from < 9 → first_spare have want other from ≡ cond (is_spare have want other from) (Some from) (first_spare have want other (from + 1))
  unfolding first_spare
  step l =
      let count : 9 - from ≡ suc (9 - (from + 1)) = omega arith in
      ap (λ n. find (is_spare have want other) (range_with_len from n)) count

  pub first_spare_here : from < 9 → is_spare have want other from ≡ true → first_spare have want other from ≡ Some from
  first_spare_here l h = step l ∙ ap (λ b. cond b (Some from) (first_spare have want other (from + 1))) h

  pub first_spare_later : from < 9 → is_spare have want other from ≡ false → first_spare have want other from ≡ first_spare have want other (from + 1)
  first_spare_later l h = step l ∙ ap (λ b. cond b (Some from) (first_spare have want other (from + 1))) h

pub first_spare_past : (have : List ℕ) (want other from : ℕ) → from ≡ 9 → first_spare have want other from ≡ None
unfolding first_spare
first_spare_past have want other from e = ap (λ f. find (is_spare have want other) (range_with_len f (9 - f))) e
