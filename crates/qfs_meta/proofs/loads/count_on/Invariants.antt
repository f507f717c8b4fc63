use Rattle.std.proofs.Common.{◌≡◌, ◌+◌, ◌*◌, ◌≤◌, drop}
use Rattle.qfs_model_meta.specs.Slots.{count_on}
use Rattle.qfs_meta.proofs.loads.count_on.Given as goal

-- the copies so far and those of the rows that are left
abbrev pub invariant-loop-row : goal.invariant-loop-row
invariant-loop-row l =
    (l.count + count_on l.server l.life (drop l.row-index l.slots) ≡ count_on l.server l.life l.slots)
    × (l.count ≤ 2 * l.row-index)
