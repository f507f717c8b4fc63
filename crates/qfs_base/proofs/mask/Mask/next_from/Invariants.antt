use Rattle.std.proofs.Common.{◌≡◌, find, leb}
use Rattle.qfs_base.proofs.mask.Mask.next_from.Given as goal

-- what is looked for isn't below the slot that the loop has come to
abbrev pub invariant-loop-next : goal.invariant-loop-next
invariant-loop-next l = find (λ s. leb l.slot s) l.self ≡ find (λ s. leb l.next s) l.self
