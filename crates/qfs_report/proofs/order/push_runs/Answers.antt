use Rattle.std.proofs.Common.{◌+◌, ◌++◌, ◌∙◌, ap, arith, drop}
use Rattle.qfs_base.specs.Order.{all_steps}
use Rattle.qfs_model_text.specs.Line.{more_words}
use Rattle.qfs_model_text.specs.Order.{runs}
use Rattle.qfs_report.specs.Pending.{words_to_come}
use Rattle.qfs_report.proofs.Runs.{runs_left, last_left, on_ok}
use Rattle.qfs_report.proofs.order.push_runs.Goals as goal

pub loop-run-preserved : goal.loop-run-preserved
loop-run-preserved c = record {
  pending = c.in_ok-pending.ensures.pending;
  told =
      c.in_ok-pending.ensures.told (all_steps
      (drop (c.loop-run.run-index + 1) c.parts-last.result.0.now) c.parts-last.result.1)
      ∙ ap (λ steps. c.loop-run.out.items ++ more_words (words_to_come c.loop-run.pending steps))
      (runs_left c.parts-last.result.0.now c.loop-run.run-index _ c.parts-last.result.1
      (omega arith))
      ∙ c.loop-run.invariant.told;
}

pub returns : goal.returns
returns c =
    let all = c.parts-last.result.0.now in
    let last = c.parts-last.result.1 in
    on_ok c.push_last.result
    (λ told. told
    ∙ ap (λ steps. c.loop-run.out.items ++ more_words (words_to_come c.loop-run.pending steps))
    (last_left all c.loop-run.run-index last c.loop-run-test.false)
    ∙ c.loop-run.invariant.told
    ∙ ap (λ steps. c.args.out.now.items ++ more_words (runs steps)) c.parts-last.ensures.steps)
    c.push_last.ensures
