use Rattle.std.proofs.Common.{◌≡◌, ◌++◌, drop}
use Rattle.qfs_base.specs.Order.{all_steps}
use Rattle.qfs_model_text.specs.Line.{more_words}
use Rattle.qfs_model_text.specs.Order.{runs}
use Rattle.qfs_report.specs.Pending.{IsPending, words_to_come}
use Rattle.qfs_report.proofs.order.push_runs.Given as goal

-- with the run that isn't told yet and the runs that are left, the text is that of the whole order
abbrev pub invariant-loop-run : goal.invariant-loop-run
invariant-loop-run l = record {
  pending : IsPending l.pending;
  told : l.out.items ++ more_words
      (words_to_come l.pending (all_steps (drop l.run-index l.runs) l.last))
      ≡ l.initial.out.items ++ more_words (runs (all_steps l.runs l.last));
}
