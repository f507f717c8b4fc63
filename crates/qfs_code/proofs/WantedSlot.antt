-- The equation of a slot that isn't at hand: the slot counts 1 there, and each other that isn't at hand counts 0.
use Rattle.std.proofs.Common.{◌≡◌, ◌≢◌, ℕ, ◌<◌, ◌≤◌, true, false, ◌==◌, ltb, List, length, ap, ◌∙◌}
use Rattle.std.specs.List.{list_all}
use Rattle.qfs_base.specs.Mask.{has_slot, IsMask}
use Rattle.qfs_galois.specs.Field.{product, inverse}
use Rattle.qfs_galois.proofs.FieldLaws.{product_comm, product-zero}
use Rattle.qfs_galois.proofs.Inverses.{product-inverse, inverse-lt}
use Rattle.qfs_model_slot.specs.Restored.{dot, counts_of, combination, scaled_to, equation}
use Rattle.qfs_code.proofs.Dot.{dot-scaled, dot-lt, multiples_are_bytes}
use Rattle.qfs_code.proofs.Counts.{drops_out, stays_in, counts_are_bytes, without_slots_are_bytes}
use Rattle.qfs_code.proofs.LeftOut.{first_out, second_out, LeavesOut, leaves_out, covered}

module _ (have : List ℕ) (want : ℕ) (mask : IsMask have) (enough : 6 ≤ length have) (lw : want < 9) (missing : has_slot have want ≡ false) where
  out : LeavesOut have want
  out = leaves_out have want mask enough lw missing

  count : ℕ
  count = dot (combination have want) (counts_of want)

  pub counts_some : dot (combination have want) (counts_of want) ≢ 0
  unfolding combination
  counts_some = stays_in (first_out have want) (second_out have want) want out.first_slot out.second_slot lw out.two out.others

  combination_are_bytes : list_all (λ x. ltb x 256) (combination have want) ≡ true
  unfolding combination
  combination_are_bytes = without_slots_are_bytes (first_out have want) (second_out have want) out.first_slot out.second_slot

  count-lt : count < 256
  unfolding count
  count-lt = dot-lt (combination have want) (counts_of want) combination_are_bytes (counts_are_bytes want lw)

  scale-lt : inverse count < 256
  unfolding count
  scale-lt = inverse-lt count counts_some count-lt

  pub equation_are_bytes : list_all (λ x. ltb x 256) (equation have want) ≡ true
  unfolding equation scaled_to count
  equation_are_bytes = multiples_are_bytes (inverse count) (combination have want) scale-lt combination_are_bytes

  counted : (j : ℕ) → j < 9 → dot (equation have want) (counts_of j) ≡ product (inverse count) (dot (combination have want) (counts_of j))
  unfolding equation scaled_to count
  counted j lj = dot-scaled (inverse count) (combination have want) (counts_of j) scale-lt combination_are_bytes (counts_are_bytes j lj)

  pub counts_one : dot (equation have want) (counts_of want) ≡ 1
  unfolding count
  counts_one = counted want lw ∙ product_comm (inverse count) count scale-lt count-lt ∙ product-inverse count counts_some count-lt

  pub counts_none : (j : ℕ) → j < 9 → has_slot have j ≡ false → (j == want) ≡ false → dot (equation have want) (counts_of j) ≡ 0
  unfolding combination
  counts_none j lj away other =
      let gone = drops_out (first_out have want) (second_out have want) j out.first_slot out.second_slot lj out.two
      (covered have want mask enough lw missing j lj away other) in
      counted j lj ∙ ap (product (inverse count)) gone ∙ product-zero (inverse count)
