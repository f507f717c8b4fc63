use Rattle.std.proofs.Common.{◌≢◌, ◌++◌, sym, ap, arith, rules}
use Rattle.std.proofs.lemmas.List.{append_assoc}
use Rattle.qfs_model_text.specs.Line.{more_words, spaced}
use Rattle.qfs_model_text.specs.Order.{run_word, runs_after}
use Rattle.qfs_report.proofs.Runs.{runs_first, runs_other}
use Rattle.qfs_report.proofs.order.push_behind.Goals as goal

pub returns-in-None-clause-told : goal.returns-in-None-clause-told
returns-in-None-clause-told c steps =
    rw c.in-None.is
    (ap (λ words. c.args.out.now.items ++ more_words words)
    (sym (runs_first c.args.step c.args.more steps (omega arith) (omega arith))))

pub returns-in_ok-push_run-in-Some-2-clause-told :
    goal.returns-in_ok-push_run-in-Some-2-clause-told
returns-in_ok-push_run-in-Some-2-clause-told c steps =
    let differ : c.in-Some-2.run'.step ≢ c.args.step = search rules in
    rw (c.in_ok-push_run-in-Some-2.ensures, c.in-Some-2.is)
    (rw (runs_other c.in-Some-2.run'.step c.args.step c.in-Some-2.run'.count c.args.more steps
    differ (omega arith) (omega arith))
    (append_assoc c.args.out.now.items
    (spaced (run_word c.in-Some-2.run'.step c.in-Some-2.run'.count))
    (more_words (runs_after c.args.step c.args.more steps))))
