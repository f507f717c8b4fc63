-- What the loop of `hello::arrival` keeps.
use Rattle.std.proofs.Common.{◌≡◌, ◌∷◌, ◌++◌, map}
use Rattle.std.specs.Slice.Iter.{iter_rest}
use Rattle.qfs_state.specs.declared.prepared.Prepared.TheVariants.{CondemnStray, ServerUp}
use Rattle.qfs_plan_servers.proofs.hello.arrival.Given as goal

-- the changes so far and those of the keys that are left
abbrev pub invariant-loop-key : goal.invariant-loop-key
invariant-loop-key l =
    l.changes.items ++ map (CondemnStray l.server l.life) (iter_rest l.key-iterator)
    ≡ ServerUp l.server l.life l.count ∷ map (CondemnStray l.server l.life) l.keys
