use Rattle.std.proofs.Common.{◌≡◌, ◌∙◌, ap, subst, sym, List, Result, Ok, Err, OnOk, OnErr}
use Rattle.std.proofs.lemmas.Result.{on_ok_weaker}
use Rattle.qfs_base.specs.declared.order.StepRun.{StepRun}
use Rattle.qfs_base.specs.Order.{AreRuns, steps_of_runs}
use Rattle.qfs_base.proofs.OrderLaws.{further_run, goes_on, one_run_more, still_runs}
use Rattle.qfs_base.proofs.order.push_steps.Goals as goal

pub returns-in-Some-clause-ok : goal.returns-in-Some-clause-ok
returns-in-Some-clause-ok c =
    ap steps_of_runs c.set_last.ensures ∙ goes_on c.args.runs.now c.args.more c.in-Some.count c.in-Some.ensures

pub returns-in-Some-clause-few : goal.returns-in-Some-clause-few
returns-in-Some-clause-few c =
    subst AreRuns (sym c.set_last.ensures) (still_runs c.args.runs.now c.args.more c.in-Some.count c.requires.few c.in-Some.ensures)

pub returns-in-None-clause-ok : goal.returns-in-None-clause-ok
returns-in-None-clause-ok c =
    on_ok_weaker c.push.result
    (λ pushed. ap steps_of_runs pushed ∙ one_run_more c.args.runs.now c.args.more)
    c.push.ensures.ok

-- runs that were pushed to, or stay
pushed_runs : {E : Type 0} (r : Result Unit E) (runs pushed now : List StepRun) → OnOk r (now ≡ pushed) → OnErr r (now ≡ runs)
    → AreRuns runs → AreRuns pushed → AreRuns now
pushed_runs (Ok _) runs pushed now ok err few further = subst AreRuns (sym ok) further
pushed_runs (Err _) runs pushed now ok err few further = subst AreRuns (sym err) few

pub returns-in-None-clause-few : goal.returns-in-None-clause-few
returns-in-None-clause-few c =
    pushed_runs c.push.result c.args.runs.now _ _ c.push.ensures.ok c.push.ensures.err c.requires.few
    (further_run c.args.runs.now c.args.more c.requires.few c.in-None.ensures c.requires.some)
