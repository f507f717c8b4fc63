use Rattle.std.proofs.Common.{arith, refl}
use Rattle.qfs_base.specs.Table.{has_key}
use Rattle.qfs_meta.proofs.RunLaws.{place_new, place_again, part_of, filter_empty}
use Rattle.qfs_meta.proofs.rows.search.Goals as goal

pub returns-then-run-clause-found : goal.returns-then-run-clause-found
returns-then-run-clause-found g c =
    let is = c.run_of-run.ensures in
    (omega (arith, is.within), place_again g.T.Key.order c.args.row.now c.args.rows.now c.run_of-run.result c.if-run.true is)

pub returns-else-run-clause-absent : goal.returns-else-run-clause-absent
returns-else-run-clause-absent g c =
    let is = c.run_of-run.ensures in
    (omega (arith, is.rises, is.within), place_new g.T.Key.order c.args.row.now c.args.rows.now c.run_of-run.result c.if-run.false is)

pub returns-else-run-clause-none : goal.returns-else-run-clause-none
returns-else-run-clause-none g c =
    let order = g.T.Key.order c.args.row.now in
    let is = c.run_of-run.ensures in
    filter_empty (has_key order) c.args.rows.now c.run_of-run.result (part_of (has_key order) order c.args.rows.now c.run_of-run.result (λ row. refl) is) is.within
    (omega (arith, c.if-run.false))
