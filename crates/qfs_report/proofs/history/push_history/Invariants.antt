use Rattle.std.proofs.Common.{◌≡◌, ◌++◌, drop}
use Rattle.qfs_model_text.specs.History.{history_lines, history_lines_from}
use Rattle.qfs_report.proofs.history.push_history.Given as goal

-- with the entries that are left, the text is that of the whole history
abbrev pub invariant-loop-place : goal.invariant-loop-place
invariant-loop-place l =
    l.out.items ++ history_lines_from l.place (drop l.place l.history)
    ≡ l.initial.out.items ++ history_lines l.history
