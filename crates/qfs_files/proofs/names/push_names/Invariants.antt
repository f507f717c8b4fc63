-- What the loop of `names::push_names` keeps.
use Rattle.std.proofs.Common.{◌≡◌, ◌++◌, take}
use Rattle.qfs_files.proofs.names.push_names.Given as goal

-- the names so far are behind what was there
abbrev pub invariant-loop-name : goal.invariant-loop-name
invariant-loop-name l = l.out ≡ l.fn.out ++ take l.name-index l.names
