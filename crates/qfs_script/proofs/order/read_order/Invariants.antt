use Rattle.std.proofs.Common.{◌≡◌, length}
use Rattle.qfs_model_grammar.specs.Kinds.{run_in}
use Rattle.qfs_model_grammar.specs.Said.{read_each}
use Rattle.qfs_script.specs.Goes.{order_said}
use Rattle.qfs_script.proofs.Orders.{after}
use Rattle.qfs_script.proofs.order.read_order.Given as goal

abbrev pub invariant-loop-word : goal.invariant-loop-word
invariant-loop-word l = order_said l.initial.words ≡ after l.order (read_each run_in l.words)

abbrev pub decreases-loop-word : goal.decreases-loop-word
decreases-loop-word l = length l.words
