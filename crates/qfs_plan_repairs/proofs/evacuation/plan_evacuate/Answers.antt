-- What the check leaves to show of `evacuation::plan_evacuate`.
use Rattle.std.proofs.Common.{◌∙◌, IfOk, IfErr, length, subst, sym}
use Rattle.qfs_model_meta.specs.MoveRequests.{decide_evacuate}
use Rattle.qfs_planning.specs.Deciding.{need_none, need_some}
use Rattle.qfs_state.specs.Planning.{IsPlan, IsUnplanned}
use Rattle.qfs_plan_repairs.proofs.ToMove.{first_is_next, next_is_free}
use Rattle.qfs_plan_repairs.proofs.evacuation.plan_evacuate.Goals as goal

pub plan_row-requires-clause-slot_number : goal.plan_row-requires-clause-slot_number
plan_row-requires-clause-slot_number c =
    (next_is_free c.args.layout.now (length c.args.state.now.image.servers) c.args.server
    c.args.after c.args.state.now.image c.in-Some.row c.blocks-blocks.ensures.fit
    (first_is_next c.args.layout.now c.args.server c.args.after c.args.state.now.image
    c.first_to_move.result c.first_to_move.ensures ∙ c.in-Some.is)).0

pub plan_row-requires-clause-free : goal.plan_row-requires-clause-free
plan_row-requires-clause-free c =
    (next_is_free c.args.layout.now (length c.args.state.now.image.servers) c.args.server
    c.args.after c.args.state.now.image c.in-Some.row c.blocks-blocks.ensures.fit
    (first_is_next c.args.layout.now c.args.server c.args.after c.args.state.now.image
    c.first_to_move.result c.first_to_move.ensures ∙ c.in-Some.is)).1

pub returns-in-None-clause-err : goal.returns-in-None-clause-err
unfolding decide_evacuate
returns-in-None-clause-err c =
    need_none _ _ _ (first_is_next c.args.layout.now c.args.server c.args.after
    c.args.state.now.image c.first_to_move.result c.first_to_move.ensures ∙ c.in-None.is)

pub returns-in-Some-clause-ok : goal.returns-in-Some-clause-ok
unfolding decide_evacuate
returns-in-Some-clause-ok c =
    subst (λ decision. IfOk c.plan_row.result (IsPlan c.args.state.now.image decision))
    (sym (need_some _ _ _ c.in-Some.row (first_is_next c.args.layout.now c.args.server
    c.args.after c.args.state.now.image c.first_to_move.result c.first_to_move.ensures
    ∙ c.in-Some.is))) c.plan_row.ensures.ok

pub returns-in-Some-clause-err : goal.returns-in-Some-clause-err
unfolding decide_evacuate
returns-in-Some-clause-err c =
    subst (λ decision. IfErr c.plan_row.result (IsUnplanned decision))
    (sym (need_some _ _ _ c.in-Some.row (first_is_next c.args.layout.now c.args.server
    c.args.after c.args.state.now.image c.first_to_move.result c.first_to_move.ensures
    ∙ c.in-Some.is))) c.plan_row.ensures.err
