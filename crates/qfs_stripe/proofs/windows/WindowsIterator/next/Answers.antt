use Rattle.std.proofs.Common.{◌≡◌, ◌∙◌, sym, ap, arith, ◌+◌, ◌-◌, ◌<◌, List, ◌++◌, length, length-append}
use Rattle.std.specs.Prelude.{flat_map}
use Rattle.std.specs.List.{range_with_len}
use Rattle.qfs_base.specs.declared.layout.Window.{Window}
use Rattle.qfs_base.specs.Layout.{windows_touched}
use Rattle.qfs_stripe.proofs.Touched.{first_in_blocks, first_of_front, fewer_left}
use Rattle.qfs_stripe.proofs.windows.WindowsIterator.next.Goals as goal

-- the windows of the blocks behind the next one
rest_of : goal.After-next-2 → List Window
rest_of c =
    let w = c.self.inside in
    flat_map (windows_touched w.layout.s w.layout.r w.from w.to) (range_with_len (w.block + 1) (w.past - (w.block + 1)))

-- those of the next block come first
all_is : (c : goal.After-next-2) → c.args.self.now ≡ c.windows_in-self-inside.result ++ rest_of c
unfolding rest_of
all_is c =
    let w = c.self.inside in
    let f = windows_touched w.layout.s w.layout.r w.from w.to in
    sym c.self.view_is
    ∙ ap (λ (xs : List Window). xs ++ flat_map f (range_with_len w.block (w.past - w.block))) c.in_default.ensures.steps.0
    ∙ first_in_blocks f w.block w.past c.if-self.false
    ∙ ap (λ (xs : List Window). xs ++ rest_of c) (sym c.windows_in-self-inside.ensures.value)

pub returns-clause-steps : goal.returns-clause-steps
unfolding rest_of
returns-clause-steps c =
    first_of_front c.args.self.now c.windows_in-self-inside.result (rest_of c) c.next-2.result c.next-2.new.self (all_is c)
    c.windows_in-self-inside.ensures.some c.next-2.ensures.steps

pub returns-clause-goes : goal.returns-clause-goes
returns-clause-goes c =
    let some : 0 < length c.args.self.now =
    omega (arith, ap length (all_is c), length-append c.windows_in-self-inside.result (rest_of c), c.windows_in-self-inside.ensures.some) in
    fewer_left c.args.self.now c.next-2.result _ some (returns-clause-steps c)
