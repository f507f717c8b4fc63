use Rattle.std.proofs.Common.{arith, ◌+◌, ◌*◌, ◌≤◌}
use Rattle.std.proofs.Math.Nat.{mul-le-mul_right}
use Rattle.qfs_reader.proofs.Rowwise.{rows-step, no-rows}
use Rattle.qfs_reader.proofs.parts.add_rows.Goals as goal

pub loop-row-init : goal.loop-row-init
loop-row-init c =
    record { got = no-rows c.args.from c.args.to c.args.start c.args.stripe (c.args.rows * c.args.stripe) c.args.nine.now c.args.got.now; bound = omega (arith, c.requires.got) }

pub loop-row-preserved : goal.loop-row-preserved
loop-row-preserved c =
    let inside : (c.loop-row.row + 1) * c.args.stripe ≤ c.args.rows * c.args.stripe = mul-le-mul_right c.args.stripe (omega (arith, c.loop-row-test.true)) in
    record {
      got = rows-step c.args.from c.args.to c.args.start c.args.stripe c.loop-row.row (c.args.rows * c.args.stripe) c.args.nine.now c.args.got.now c.loop-row.got c.add_row.new.got
          inside c.requires.nine c.loop-row.invariant.got c.add_row.ensures.got;
      bound = omega (arith, c.add_row.ensures.bound);
    }
