-- What the check leaves to show of `puts::plan_close`.
use Rattle.std.proofs.Common.{◌≡◌, ◌∙◌, [], ◌∷◌, ap, sym}
use Rattle.qfs_base.specs.declared.image.MetaImage.{MetaImage}
use Rattle.std.specs.Option.{option_map}
use Rattle.qfs_base.specs.declared.change.Change.TheVariants as Made
use Rattle.qfs_base.specs.declared.reply.MetaReply.TheVariants as Told
use Rattle.qfs_model_meta.specs.Decision.{Makes}
use Rattle.qfs_model_meta.specs.Lists.{block_count}
use Rattle.qfs_model_meta.specs.PutRequests.{close_complete, decide_close, first_ungranted, incomplete}
use Rattle.qfs_model_meta.specs.TreeRows.{unclosed_file}
use Rattle.qfs_namespace.specs.declared.file.KnownFile.{KnownFile}
use Rattle.qfs_namespace.specs.Joined.{known_in}
use Rattle.qfs_planning.specs.Deciding.{plan_as, found_none, found_row, need_none, need_some, refuse_none, refuse_some}
use Rattle.std.proofs.Common.{is_some}
use Rattle.qfs_plan_files.proofs.puts.plan_close.Goals as goal

pub returns-in_default-clause-err : goal.returns-in_default-clause-err
unfolding decide_close
returns-in_default-clause-err c =
    need_none Told.Gone _ _
    (found_none _ (ap (λ tree. option_map known_in (unclosed_file c.args.actor c.args.file tree))
    (sym c.names.ensures.tree) ∙ sym c.unclosed_file.ensures ∙ c.in_default.is))

pub returns-in-Some-first_ungranted-clause-err : goal.returns-in-Some-first_ungranted-clause-err
unfolding decide_close close_complete incomplete
returns-in-Some-first_ungranted-clause-err c =
    let m : MetaImage = c.args.state.now.image in
    let found = found_row (unclosed_file c.args.actor c.args.file m.tree) c.in-Some.known
    (ap (λ tree. option_map known_in (unclosed_file c.args.actor c.args.file tree))
    (sym c.names.ensures.tree) ∙ sym c.unclosed_file.ensures ∙ c.in-Some.is) in
    let count : block_count c.args.layout.now found.0.len ≡ c.blocks_of-count.result =
    ap (λ (known : KnownFile). block_count c.args.layout.now known.len) found.1.1
    ∙ sym c.blocks_of-count.ensures in
    need_some Told.Gone (close_complete c.args.layout.now c.args.actor c.args.file m) _ found.0
    found.1.0
    ∙ refuse_some _ _ _
    ((λ i. incomplete (first_ungranted c.args.file (count i) (sym c.blocks-2.ensures.slots i)))
    ∙ ap incomplete (sym c.first_ungranted.ensures ∙ c.in-Some-first_ungranted.is))

pub returns-clause-ok : goal.returns-clause-ok
unfolding decide_close close_complete incomplete
returns-clause-ok c =
    let m : MetaImage = c.args.state.now.image in
    let found = found_row (unclosed_file c.args.actor c.args.file m.tree) c.in-Some.known
    (ap (λ tree. option_map known_in (unclosed_file c.args.actor c.args.file tree))
    (sym c.names.ensures.tree) ∙ sym c.unclosed_file.ensures ∙ c.in-Some.is) in
    let count : block_count c.args.layout.now found.0.len ≡ c.blocks_of-count.result =
    ap (λ (known : KnownFile). block_count c.args.layout.now known.len) found.1.1
    ∙ sym c.blocks_of-count.ensures in
    let command : found.0.command ≡ c.in-Some.known.command =
    ap (λ (known : KnownFile). known.command) found.1.1 in
    plan_as m _ _ c.in_ok-plan.plan
    (need_some Told.Gone (close_complete c.args.layout.now c.args.actor c.args.file m) _ found.0
    found.1.0
    ∙ refuse_none _ _
    ((λ i. incomplete (first_ungranted c.args.file (count i) (sym c.blocks-2.ensures.slots i)))
    ∙ ap incomplete (sym c.first_ungranted.ensures ∙ c.in_default-first_ungranted.is))
    ∙ (λ i. Makes (Made.CloseFile c.args.file c.args.actor (command i) ∷ [])
    (Told.Done (sym c.in_ok-place.ensures i))))
    (c.in_ok-plan.ensures m (ap is_some found.1.0))
