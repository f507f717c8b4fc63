use Rattle.std.proofs.Common.{◌≡◌, ◌∙◌, sym, ap, ℕ, List}
use Rattle.qfs_base.specs.declared.history.Step.{Step}
use Rattle.qfs_model_grammar.specs.Kinds.{run_in}
use Rattle.qfs_model_grammar.specs.Said.{read_each}
use Rattle.qfs_script.proofs.Orders.{after, one_more, bad_run, all_read}
use Rattle.qfs_script.proofs.order.read_order.Goals as goal

pub loop-word-preserved : goal.loop-word-preserved
loop-word-preserved c =
    c.loop-word.invariant
    ∙ ap (λ (words : List (List ℕ)). after c.loop-word.order (read_each run_in words)) c.in-Some.ensures
    ∙ one_more _ _ _ _ (sym c.in-Ok.ensures.value)
    ∙ ap (λ (done : List Step). after done (read_each run_in c.next_word.new.self)) (sym c.in_ok-push_run-in-Ok.ensures.ok)

pub returns-in-Err : goal.returns-in-Err
returns-in-Err c =
    c.loop-word.invariant
    ∙ ap (λ (words : List (List ℕ)). after c.loop-word.order (read_each run_in words)) c.in-Some.ensures
    ∙ bad_run _ _ _ _ (sym c.in-Err.ensures.value)

pub returns : goal.returns
returns c =
    c.loop-word.invariant
    ∙ ap (λ (words : List (List ℕ)). after c.loop-word.order (read_each run_in words)) c.in_default.ensures.0
    ∙ all_read _
