use Rattle.std.proofs.Common.{◌≡◌, take, count_by, is_ok}
use Rattle.qfs_window.specs.Sources.{PassesTo}
use Rattle.qfs_window.proofs.sources.next_source.Given as goal

abbrev pub invariant-loop-next : goal.invariant-loop-next
invariant-loop-next l =
    record {
      before : count_by is_ok (take l.next l.sources) ≡ count_by is_ok (take l.fn.slot l.sources);
      passed : PassesTo l.sources l.fn.slot l.next;
    }
