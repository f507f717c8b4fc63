-- The parity byte of six data bytes, as a sum of products.
use Rattle.std.proofs.Common.{◌≡◌, ℕ, List, [], ◌∷◌, length, refl, arith}
use Rattle.qfs_model_slot.specs.CodeWord.{weighted_sum, parity}
use Rattle.qfs_model_slot.specs.Restored.{dot}
use Rattle.qfs_code.specs.Code.{parity_row}

pub parity_by_row : (e : ℕ) (six : List ℕ) → length six ≡ 6 → parity e six ≡ dot (parity_row e) six
unfolding parity weighted_sum dot parity_row
parity_by_row e (a ∷ b ∷ c ∷ d ∷ f ∷ g ∷ []) long = refl
parity_by_row e [] long = absurd (omega arith)
parity_by_row e (a ∷ []) long = absurd (omega arith)
parity_by_row e (a ∷ b ∷ []) long = absurd (omega arith)
parity_by_row e (a ∷ b ∷ c ∷ []) long = absurd (omega arith)
parity_by_row e (a ∷ b ∷ c ∷ d ∷ []) long = absurd (omega arith)
parity_by_row e (a ∷ b ∷ c ∷ d ∷ f ∷ []) long = absurd (omega arith)
parity_by_row e (a ∷ b ∷ c ∷ d ∷ f ∷ g ∷ h ∷ more) long = absurd (omega arith)
