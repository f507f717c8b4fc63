use Rattle.std.proofs.Common.{◌≡◌, ◌+◌, ◌++◌, [], drop}
use Rattle.qfs_model_meta.specs.Placing.{census}
use Rattle.qfs_place.proofs.BuiltLaws.{empty_from}
use Rattle.qfs_place.proofs.loads.Loads.new.Given as goal

-- the loads so far and those of the servers that are left
abbrev pub invariant-loop-server : goal.invariant-loop-server
invariant-loop-server l =
    l.census ++ empty_from (l.server-index + 1) (drop l.server-index l.servers)
    ≡ census l.servers []
