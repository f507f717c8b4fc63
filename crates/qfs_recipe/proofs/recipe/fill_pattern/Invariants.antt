use Rattle.std.proofs.Common.{◌≡◌, ℕ, ◌+◌, ◌*◌, ◌%◌, ◌^◌, ◌<◌, get_or}
use Rattle.qfs_base.specs.Recipe.{pattern_byte}
use Rattle.qfs_recipe.proofs.recipe.fill_pattern.Given as goal

abbrev pub invariant-loop-byte : goal.invariant-loop-byte
invariant-loop-byte l = record {
  product : l.product ≡ (l.start + (l.offset + l.byte-index)) % 2 ^ 32 * 2654435761 % 2 ^ 32;
  written : (k : ℕ) → k < l.byte-index → get_or l.out k 0 ≡ pattern_byte l.start (l.offset + k);
}
