use Rattle.qfs_laws_tree.specs.History.{history-moved, history-taken}
use Rattle.qfs_laws_tree.proofs.changes_are_history.Goals as goal

pub returns : goal.returns
returns c = record {
  moved = λ m from to is free h. history-moved m from to (record { is_path = is; free = free }) h;
  emptied = history-taken;
}
