use Rattle.std.proofs.Common.{◌≡◌, ◌+◌, ◌≤◌, length}
use Rattle.qfs_model_grammar.specs.ReadScript.{read_lines}
use Rattle.qfs_script.proofs.script.read_lines.Given as goal

abbrev pub invariant-loop-line : goal.invariant-loop-line
invariant-loop-line l = record {
  said : read_lines l.initial.so_far 1 l.initial.lines ≡ read_lines l.so_far l.number l.lines;
  counted : length l.initial.lines + 1 ≡ l.number + length l.lines;
  few : l.number ≤ 100001;
}

abbrev pub decreases-loop-line : goal.decreases-loop-line
decreases-loop-line l = length l.lines
