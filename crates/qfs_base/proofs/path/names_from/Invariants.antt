use Rattle.std.proofs.Common.{◌≡◌, ℕ, ◌+◌, ◌≤◌, ◌++◌, List, length, Option, Some, None, Bor}
use Rattle.std.specs.Prelude.{All}
use Rattle.qfs_base.specs.Path.{IsName, split_names, names_left}
use Rattle.qfs_base.proofs.path.names_from.Given as goal

abbrev pub invariant-loop-rest : goal.invariant-loop-rest
invariant-loop-rest l = record {
  split : l.names ++ names_left l.rest ≡ split_names l.text;
  named : All IsName l.names;
  few : length l.names ≤ 32;
}

-- a text that is left counts as one more than its bytes
abbrev length_left : Option (Bor (List ℕ)) → ℕ
length_left None = 0
length_left (Some text) = length text.now + 1

abbrev pub decreases-loop-rest : goal.decreases-loop-rest
decreases-loop-rest l = length_left l.rest
