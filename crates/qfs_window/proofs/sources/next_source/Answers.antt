use Rattle.std.proofs.Common.{◌∙◌}
use Rattle.qfs_window.proofs.Passing.{passes_over, count_ok-none}
use Rattle.qfs_window.proofs.sources.next_source.Goals as goal

pub loop-next-preserved : goal.loop-next-preserved
loop-next-preserved c =
    let sources = c.args.sources.now in
    record {
      before = count_ok-none sources c.loop-next.next c.in-Err.field-0 c.in-Err.ensures ∙ c.loop-next.invariant.before;
      passed = λ reading w wanted pieces behind.
          c.loop-next.invariant.passed reading w wanted pieces behind
          ∙ passes_over sources c.loop-next.next c.in-Err.field-0 c.loop-next-test.true c.in-Err.ensures reading w wanted pieces behind;
    }
