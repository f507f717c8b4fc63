use Rattle.std.proofs.Common.{◌≡◌, ℕ, ◌<◌, length, get_or}
use Rattle.qfs_model_slot.specs.Restored.{equation, weight}
use Rattle.qfs_code.proofs.equation.weights.Given as goal

abbrev pub invariant-loop-slot : goal.invariant-loop-slot
invariant-loop-slot l =
    (length l.weights ≡ 9) × ((k : ℕ) → k < l.slot → get_or l.weights k 0 ≡ weight l.have (equation l.have l.want) k)
