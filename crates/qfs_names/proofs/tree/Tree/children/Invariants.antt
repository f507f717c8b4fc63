-- What the loop of `tree::Tree::children` keeps.
use Rattle.std.specs.Option.{option_copied}
use Rattle.qfs_names.proofs.ChildLaws.{IsAt, rows_left}
use Rattle.qfs_names.proofs.tree.Tree.children.Given as goal

-- the names so far are those of the rows before the next
abbrev pub invariant-children : goal.invariant-children
invariant-children l = IsAt l.directory l.self.rows l.found (option_copied l.next)

abbrev pub decreases-children : goal.decreases-children
decreases-children l = rows_left l.self.rows (option_copied l.next)
