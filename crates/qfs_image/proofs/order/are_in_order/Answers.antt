use Rattle.std.proofs.Common.{◌≡◌, ◌∙◌, ◌+◌, ◌-◌, ◌&&◌, ℕ, Bool, ap, arith, drop, false, sym, true}
use Rattle.qfs_image.specs.Rules.{follow}
use Rattle.qfs_image.proofs.OrderLaws.{few_follow, step_from}
use Rattle.qfs_image.proofs.order.are_in_order.Goals as goal

pub returns-then-not-is_before : goal.returns-then-not-is_before
returns-then-not-is_before g c =
    let before = g.T.InOrder.before in
    let rows = c.args.rows.now in
    let one = c.index-rows-i.result in
    let next = c.index-rows-i-in-loop-i.result in
    let step = step_from before rows (c.loop-i.i - 1) c.loop-i.i one next (omega (arith, c.loop-i.auto.i)) c.loop-i-test.true c.index-rows-i.is c.index-rows-i-in-loop-i.is in
    let off : before one next ≡ false = sym c.is_before.ensures ∙ c.if-not-is_before.true in
    sym (sym c.loop-i.invariant ∙ step ∙ ap (λ (b : Bool). b && follow before (drop c.loop-i.i rows)) off)

pub loop-i-preserved : goal.loop-i-preserved
loop-i-preserved g c =
    let before = g.T.InOrder.before in
    let rows = c.args.rows.now in
    let one = c.index-rows-i.result in
    let next = c.index-rows-i-in-loop-i.result in
    let step = step_from before rows (c.loop-i.i - 1) c.loop-i.i one next (omega (arith, c.loop-i.auto.i)) c.loop-i-test.true c.index-rows-i.is c.index-rows-i-in-loop-i.is in
    let is : before one next ≡ true = sym c.is_before.ensures ∙ c.if-not-is_before.false in
    let same : c.loop-i.i + 1 - 1 ≡ c.loop-i.i = omega arith in
    ap (λ (n : ℕ). follow before (drop n rows)) same ∙ sym (step ∙ ap (λ (b : Bool). b && follow before (drop c.loop-i.i rows)) is) ∙ c.loop-i.invariant

pub returns : goal.returns
returns g c =
    sym (few_follow g.T.InOrder.before c.args.rows.now (c.loop-i.i - 1) (omega (arith, c.loop-i-test.false, c.loop-i.auto.i))) ∙ c.loop-i.invariant
