use Rattle.std.proofs.Common.{◌≡◌, ℕ, ◌*◌, ◌<◌, length, get_or}
use Rattle.qfs_galois.specs.Field.{product}
use Rattle.qfs_galois.proofs.lanes.table.Given as goal

abbrev pub invariant-loop-j : goal.invariant-loop-j
invariant-loop-j l = record {
  sixteen : length l.entries ≡ 16;
  each : (k : ℕ) → k < l.j → get_or l.entries k 0 ≡ product l.c (k * l.step);
}
