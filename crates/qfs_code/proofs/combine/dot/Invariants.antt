use Rattle.std.proofs.Common.{◌≡◌, bit_xor, drop}
use Rattle.qfs_model_slot.specs.Restored.{dot}
use Rattle.qfs_code.proofs.combine.dot.Given as goal

-- the sum so far and that of the other products
abbrev pub invariant-loop-i : goal.invariant-loop-i
invariant-loop-i l = bit_xor l.sum (dot (drop l.i l.xs) (drop l.i l.ys)) ≡ dot l.xs l.ys
