-- What the check leaves to show of `table::Table::change`.
use Rattle.std.proofs.Common.{refl, sym, subst, ap, length, ◌∙◌, arith}
use Rattle.qfs_base.specs.Table.{IsRising, has_key}
use Rattle.qfs_table.specs.Chunks.{flat}
use Rattle.qfs_table.proofs.StepLaws.{change_rises, change_long}
use Rattle.qfs_table.proofs.TableLaws.{shrunk}
use Rattle.qfs_table.proofs.table.Table.change.Goals as goal

pub invariant_of-self : goal.invariant_of-self
invariant_of-self g c =
    let now = c.change_run.ensures in
    let was = c.self.invariant in
    let old = flat c.self.inside.chunks.items in
    let change = g.C.Change.changed c.args.change.now in
    let test = has_key (g.K.Key.order c.args.key.now) in
    let keeps = λ (a b : g.row.T.Denot). g.met.C.Change.keeps_key c.args.change.now a b in
    shrunk was c.change_run.new.chunks c.self.inside.spare c.self.inside.count
    (subst (IsRising g.T.Row.cmp) (sym now.rows)
    (change_rises g.met.T.Row.total change keeps test old was.rising))
    now.sound was.spares now.slots refl (omega (arith, now.count)) (omega arith)
    (omega (arith, now.strain))
    (was.counted ∙ sym (change_long test change old) ∙ sym (ap length now.rows)) (omega arith)
