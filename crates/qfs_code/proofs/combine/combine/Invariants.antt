use Rattle.std.proofs.Common.{◌≡◌, ℕ, ◌<◌, bit_xor, drop, get_or, length}
use Rattle.qfs_model_slot.specs.CodeWord.{column}
use Rattle.qfs_model_slot.specs.Restored.{dot}
use Rattle.qfs_code.specs.Code.{slots_of}
use Rattle.qfs_code.proofs.combine.combine.Given as goal

-- at each offset, the sum so far and that of the slots from j on
abbrev pub invariant-loop-j : goal.invariant-loop-j
invariant-loop-j l =
    (t : ℕ) → t < l.size
    → let bytes = column (slots_of (length l.weights) l.size l.slots) t in
    bit_xor (get_or l.out t 0) (dot (drop l.j l.weights) (drop l.j bytes)) ≡ dot l.weights bytes
