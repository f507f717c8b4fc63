-- What the check leaves to show of `moves::plan_in_file`.
use Rattle.std.proofs.Common.{◌∙◌, ◌<◌, ◌≤◌, IfOk, IfErr, ap, subst, sym}
use Rattle.qfs_model_meta.specs.Lists.{block_count}
use Rattle.qfs_model_meta.specs.TreeRows.{row_at}
use Rattle.qfs_namespace.specs.Joined.{known_in}
use Rattle.qfs_namespace.specs.declared.file.KnownFile.{KnownFile}
use Rattle.qfs_planning.specs.Deciding.{unless_false, unless_true}
use Rattle.qfs_state.specs.Planning.{IsPlan, IsUnplanned}
use Rattle.qfs_plan_repairs.specs.MoveSteps.{move_current}
use Rattle.qfs_plan_repairs.proofs.Refusals.{below, not_below}
use Rattle.qfs_plan_repairs.proofs.moves.plan_in_file.Goals as goal

pub returns-then-index-blocks_of-clause-err : goal.returns-then-index-blocks_of-clause-err
returns-then-index-blocks_of-clause-err c =
    let known = c.file_at-known.ensures
    ∙ ap (λ tree. known_in (row_at tree c.args.path.now)) c.names.ensures.tree in
    unless_false _ _ _ (not_below c.args.index _
    (subst (λ n. n ≤ c.args.index) (c.blocks_of.ensures
    ∙ ap (λ (it : KnownFile). block_count c.args.layout.now it.len) known)
    c.if-index-blocks_of.true))

pub returns-clause-ok : goal.returns-clause-ok
returns-clause-ok c =
    let known = c.file_at-known.ensures
    ∙ ap (λ tree. known_in (row_at tree c.args.path.now)) c.names.ensures.tree in
    subst (λ decision. IfOk c.plan_slot.result (IsPlan c.args.state.now.image decision))
    (sym (unless_true _ _ _ (below c.args.index _
    (subst (λ n. c.args.index < n) (c.blocks_of.ensures
    ∙ ap (λ (it : KnownFile). block_count c.args.layout.now it.len) known)
    c.if-index-blocks_of.false))))
    (subst (λ (it : KnownFile). IfOk c.plan_slot.result (IsPlan c.args.state.now.image
    (move_current c.args.layout.now c.args.term c.args.actor
    (record { block = record { file = it.file; index = c.args.index }; slot = c.args.slot })
    c.args.to
    c.args.state.now.image))) known c.plan_slot.ensures.ok)

pub returns-clause-err : goal.returns-clause-err
returns-clause-err c =
    let known = c.file_at-known.ensures
    ∙ ap (λ tree. known_in (row_at tree c.args.path.now)) c.names.ensures.tree in
    subst (λ decision. IfErr c.plan_slot.result (IsUnplanned decision))
    (sym (unless_true _ _ _ (below c.args.index _
    (subst (λ n. c.args.index < n) (c.blocks_of.ensures
    ∙ ap (λ (it : KnownFile). block_count c.args.layout.now it.len) known)
    c.if-index-blocks_of.false))))
    (subst (λ (it : KnownFile). IfErr c.plan_slot.result (IsUnplanned
    (move_current c.args.layout.now c.args.term c.args.actor
    (record { block = record { file = it.file; index = c.args.index }; slot = c.args.slot })
    c.args.to
    c.args.state.now.image))) known c.plan_slot.ensures.err)
