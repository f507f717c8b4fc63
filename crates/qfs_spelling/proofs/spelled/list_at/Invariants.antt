use Rattle.std.proofs.Common.{◌≡◌, ◌-◌}
use Rattle.qfs_record.specs.Part.{many_at}
use Rattle.qfs_spelling.proofs.Lists.{behind}
use Rattle.qfs_spelling.proofs.spelled.list_at.Given as goal

abbrev pub invariant-loop-i : goal.invariant-loop-i
invariant-loop-i g l =
    behind g.T.Spelled.part l.values (l.count - l.i) l.rest ≡ many_at g.T.Spelled.part l.count l.initial.rest
