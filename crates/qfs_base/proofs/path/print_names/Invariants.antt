use Rattle.std.proofs.Common.{◌≡◌, ◌++◌, take}
use Rattle.qfs_base.specs.Path.{names_text}
use Rattle.qfs_base.proofs.path.print_names.Given as goal

abbrev pub invariant-loop-name : goal.invariant-loop-name
invariant-loop-name l = l.out.items ≡ l.initial.out.items ++ names_text (take l.name-index l.names)
