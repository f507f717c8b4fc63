-- What the check leaves to show of `puts::plan_abort`.
use Rattle.std.proofs.Common.{◌≡◌, ◌∙◌, List, [], ◌∷◌, ap, refl, sym}
use Rattle.qfs_base.specs.declared.image.MetaImage.{MetaImage}
use Rattle.std.proofs.Common.{◌++◌, map, is_some}
use Rattle.std.specs.Option.{option_map}
use Rattle.qfs_base.specs.declared.change.Change.TheVariants as Made
use Rattle.qfs_base.specs.declared.image.SlotRow.{SlotRow}
use Rattle.qfs_base.specs.declared.reply.MetaReply.TheVariants as Told
use Rattle.qfs_model_meta.specs.Decision.{Makes}
use Rattle.qfs_model_meta.specs.PutRequests.{abort_changes, abort_unclosed, decide_abort}
use Rattle.qfs_model_meta.specs.Slots.{slot_id, slots_of}
use Rattle.qfs_model_meta.specs.TreeRows.{unclosed_file}
use Rattle.qfs_namespace.specs.Joined.{known_in}
use Rattle.qfs_plan_files.specs.Losing.{given_up}
use Rattle.qfs_planning.specs.Deciding.{plan_as, found_none, found_row, need_none, need_some}
use Rattle.qfs_planning.specs.Leaving.{lose_first}
use Rattle.qfs_state.specs.declared.prepared.Prepared.TheVariants.{AbortFile}
use Rattle.qfs_plan_files.proofs.puts.plan_abort.Goals as goal

pub returns-in_default-clause-err : goal.returns-in_default-clause-err
unfolding decide_abort
returns-in_default-clause-err c =
    need_none Told.Gone _ _
    (found_none _ (ap (λ tree. option_map known_in (unclosed_file c.args.actor c.args.file tree))
    (sym c.names.ensures.tree) ∙ sym c.unclosed_file.ensures ∙ c.in_default.is))

pub returns-clause-ok : goal.returns-clause-ok
unfolding decide_abort abort_unclosed abort_changes slot_id
returns-clause-ok c =
    let m : MetaImage = c.args.state.now.image in
    let found = found_row (unclosed_file c.args.actor c.args.file m.tree) c.in-Some._known
    (ap (λ tree. option_map known_in (unclosed_file c.args.actor c.args.file tree))
    (sym c.names.ensures.tree) ∙ sym c.unclosed_file.ensures ∙ c.in-Some.is) in
    let rows : List SlotRow = slots_of c.args.file m.slots in
    let changes : c.in_ok-changes.changes.items ≡ map given_up rows =
    c.in_ok-changes.ensures
    ∙ ap (map given_up) (c.rows_of.ensures ∙ ap (slots_of c.args.file) c.blocks-2.ensures.slots) in
    plan_as m _ _ c.in_ok-plan.plan
    (need_some Told.Gone (abort_unclosed c.args.file m) _ found.0 found.1.0
    ∙ ap (λ place. Makes (map (λ (row : SlotRow). Made.GiveUp row.block row.slot) rows
    ++ Made.AbortFile c.args.file ∷ []) (Told.Done place)) (sym c.in_ok-place.ensures))
    (lose_first given_up (λ (row : SlotRow). Made.GiveUp row.block row.slot) (λ row. refl)
    (λ row. ((λ n. tt), tt)) (AbortFile c.args.file) (Told.Done c.in_ok-place.place) rows m
    c.in_ok-changes.changes.items c.in_ok-plan.plan changes
    (λ n same. (
      c.args.actor,
      ap (λ tree. is_some (unclosed_file c.args.actor c.args.file tree)) same ∙ ap is_some found.1.0,
    ))
    c.in_ok-plan.ensures)
