use Rattle.std.proofs.Common.{◌≡◌, find, leb, sym, ap, ◌∙◌, arith}
use Rattle.qfs_base.proofs.MaskLemmas.{find_here, find_later, find_past}
use Rattle.qfs_base.proofs.mask.Mask.next_from.Goals as goal

pub returns-then-contains : goal.returns-then-contains
returns-then-contains c =
    sym (c.loop-next.invariant ∙ find_here c.self.inside.bits c.loop-next.next _ c.self.view_is c.self.invariant c.loop-next-test.true (sym c.contains.ensures.member ∙ c.if-contains.true))

pub loop-next-preserved : goal.loop-next-preserved
loop-next-preserved c =
    c.loop-next.invariant ∙ find_later c.self.inside.bits c.loop-next.next _ c.self.view_is c.self.invariant c.loop-next-test.true (sym c.contains.ensures.member ∙ c.if-contains.false)

pub returns : goal.returns
returns c =
    let end : c.loop-next.next ≡ 9 = omega arith in
    sym (c.loop-next.invariant ∙ ap (λ n. find (λ s. leb n s) c.args.self.now) end ∙ find_past c.self.inside.bits _ c.self.view_is c.self.invariant)
