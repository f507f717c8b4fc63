-- What the check leaves to show of `table::Table::remove`.
use Rattle.std.proofs.Common.{◌-◌, sym, subst, ap, length, ◌∙◌, arith}
use Rattle.std.specs.Option.{is_some}
use Rattle.qfs_base.specs.Table.{IsRising, without, has_key}
use Rattle.qfs_table.specs.Chunks.{flat}
use Rattle.qfs_table.specs.Tables.{Contents}
use Rattle.qfs_table.proofs.RowLaws.{first_rises, first_only, none_first, one_less}
use Rattle.qfs_table.proofs.TableLaws.{shrunk}
use Rattle.qfs_table.proofs.table.Table.remove.Goals as goal

pub invariant_of-self : goal.invariant_of-self
invariant_of-self g c =
    let made = c.take_first-row.ensures in
    let was = c.self.invariant in
    let old = flat c.self.inside.chunks.items in
    let test = has_key (g.K.Key.order c.args.key.now) in
    let found = sym (ap is_some made.row) ∙ sym c.is_some.ensures ∙ c.if-is_some.true in
    let less = one_less test old found in
    shrunk was c.take_first-row.new.chunks c.take_first-row.new.spare (c.self.inside.count - 1)
    (subst (IsRising g.T.Row.cmp) (sym made.rows) (first_rises g.T.Row.cmp test old was.rising))
    made.sound made.spares made.slots made.spare_slots made.count made.more made.strain
    (omega (arith, less, was.counted, ap length made.rows)) (omega arith)

pub invariant_of-self-else-is_some : goal.invariant_of-self-else-is_some
invariant_of-self-else-is_some g c =
    let made = c.take_first-row.ensures in
    let was = c.self.invariant in
    let old = flat c.self.inside.chunks.items in
    let test = has_key (g.K.Key.order c.args.key.now) in
    let none = sym (ap is_some made.row) ∙ sym c.is_some.ensures ∙ c.if-is_some.false in
    let same = made.rows ∙ none_first test old none in
    shrunk was c.take_first-row.new.chunks c.take_first-row.new.spare c.self.inside.count
    (subst (IsRising g.T.Row.cmp) (sym same) was.rising)
    made.sound made.spares made.slots made.spare_slots made.count made.more made.strain
    (was.counted ∙ sym (ap length same)) (omega arith)

pub returns-then-is_some-clause-rows : goal.returns-then-is_some-clause-rows
returns-then-is_some-clause-rows g c =
    let seen = ap (λ (table : Contents g.row.T.Denot). table.rows) c.self.view_is in
    c.take_first-row.ensures.rows
    ∙ first_only g.T.Row.cmp (g.K.Key.order c.args.key.now) (g.met.K.WholeKey.alone c.args.key.now)
    (flat c.self.inside.chunks.items) c.self.invariant.rising
    ∙ ap (without (has_key (g.K.Key.order c.args.key.now))) seen

pub returns-else-is_some-clause-rows : goal.returns-else-is_some-clause-rows
returns-else-is_some-clause-rows g c =
    let seen = ap (λ (table : Contents g.row.T.Denot). table.rows) c.self.view_is in
    c.take_first-row.ensures.rows
    ∙ first_only g.T.Row.cmp (g.K.Key.order c.args.key.now) (g.met.K.WholeKey.alone c.args.key.now)
    (flat c.self.inside.chunks.items) c.self.invariant.rising
    ∙ ap (without (has_key (g.K.Key.order c.args.key.now))) seen
