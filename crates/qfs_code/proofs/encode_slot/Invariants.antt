use Rattle.std.proofs.Common.{◌≡◌, ℕ, ◌-◌, ◌<◌, drop, get_or}
use Rattle.qfs_galois.specs.Field.{power}
use Rattle.qfs_model_slot.specs.CodeWord.{column}
use Rattle.qfs_code.specs.Code.{slots_of}
use Rattle.qfs_code.proofs.Horner.{horner}
use Rattle.qfs_code.proofs.encode_slot.Given as goal

-- at each offset, the value for the slots that are done, the last ones
abbrev pub invariant-loop-done : goal.invariant-loop-done
invariant-loop-done l =
    (t : ℕ) → t < l.size → get_or l.out t 0 ≡ horner (power 2 l.number) (drop (6 - l.done) (column (slots_of 6 l.size l.six) t))
