use Rattle.std.proofs.Common.{◌++◌, ◌-◌, sym, ap, arith}
use Rattle.std.proofs.lemmas.List.{append_assoc}
use Rattle.qfs_base.specs.Sizes.{LONGEST_RUN}
use Rattle.qfs_model_text.specs.Line.{more_words, spaced}
use Rattle.qfs_model_text.specs.Order.{run_word, runs_after}
use Rattle.qfs_report.proofs.Runs.{runs_longer, runs_full}
use Rattle.qfs_report.proofs.order.push_equal.Goals as goal

pub returns-then-more-room-clause-told : goal.returns-then-more-room-clause-told
returns-then-more-room-clause-told c steps =
    ap (λ words. c.args.out.now.items ++ more_words words)
    (sym (runs_longer c.args.step c.args.count c.args.more steps (omega arith)))

pub returns-clause-told : goal.returns-clause-told
returns-clause-told c steps =
    rw c.in_ok-push_run.ensures
    (rw (runs_full c.args.step c.args.count c.args.more steps (omega arith) (omega arith)
    (omega arith))
    (append_assoc c.args.out.now.items (spaced (run_word c.args.step LONGEST_RUN))
    (more_words (runs_after c.args.step (c.args.more - (LONGEST_RUN - c.args.count)) steps))))
