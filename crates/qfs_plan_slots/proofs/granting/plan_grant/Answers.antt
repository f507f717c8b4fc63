-- What the check leaves to show of `granting::plan_grant`.
use Rattle.std.proofs.Common.{◌≡◌, ◌∙◌, ◌<◌, ◌≤◌, IfOk, IfErr, ap, subst, sym}
use Rattle.std.specs.Option.{option_map}
use Rattle.qfs_base.specs.declared.image.MetaImage.{MetaImage}
use Rattle.qfs_base.specs.declared.reply.MetaReply.TheVariants as Told
use Rattle.qfs_model_meta.specs.Lists.{block_count}
use Rattle.qfs_model_meta.specs.PutRequests.{decide_grant, taken_refusal}
use Rattle.qfs_model_meta.specs.Slots.{slot_at}
use Rattle.qfs_model_meta.specs.TreeRows.{unclosed_file}
use Rattle.qfs_namespace.specs.declared.file.KnownFile.{KnownFile}
use Rattle.qfs_namespace.specs.Joined.{known_in}
use Rattle.qfs_plan_slots.proofs.Opening.{no_block, opened, taken}
use Rattle.qfs_plan_slots.specs.Steps.{grant_open}
use Rattle.qfs_planning.specs.Deciding.{found_none, found_row, need_none}
use Rattle.qfs_state.specs.Planning.{IsPlan, IsUnplanned}
use Rattle.qfs_plan_slots.proofs.granting.plan_grant.Goals as goal

pub returns-in_default-clause-err : goal.returns-in_default-clause-err
unfolding decide_grant
returns-in_default-clause-err c =
    need_none Told.Gone _ _
    (found_none _
    (ap (λ tree. option_map known_in (unclosed_file c.args.actor c.args.id.block.file tree))
    (sym c.names.ensures.tree) ∙ sym c.unclosed_file.ensures ∙ c.in_default.is))

pub returns-then-id-blocks_of-clause-err : goal.returns-then-id-blocks_of-clause-err
returns-then-id-blocks_of-clause-err c =
    let m : MetaImage = c.args.state.now.image in
    let found = found_row (unclosed_file c.args.actor c.args.id.block.file m.tree) c.in-Some.known
    (ap (λ tree. option_map known_in (unclosed_file c.args.actor c.args.id.block.file tree))
    (sym c.names.ensures.tree) ∙ sym c.unclosed_file.ensures ∙ c.in-Some.is) in
    let count : c.blocks_of.result ≡ block_count c.args.layout.now found.0.len =
    c.blocks_of.ensures
    ∙ ap (λ (known : KnownFile). block_count c.args.layout.now known.len) (sym found.1.1) in
    no_block c.args.layout.now c.args.actor c.args.id c.args.again m found.0 found.1.0
    (subst (λ n. n ≤ c.args.id.block.index) count c.if-id-blocks_of.true)

pub returns-in-Some-taken_refusal-clause-err : goal.returns-in-Some-taken_refusal-clause-err
returns-in-Some-taken_refusal-clause-err c =
    let m : MetaImage = c.args.state.now.image in
    let found = found_row (unclosed_file c.args.actor c.args.id.block.file m.tree) c.in-Some.known
    (ap (λ tree. option_map known_in (unclosed_file c.args.actor c.args.id.block.file tree))
    (sym c.names.ensures.tree) ∙ sym c.unclosed_file.ensures ∙ c.in-Some.is) in
    let count : c.blocks_of.result ≡ block_count c.args.layout.now found.0.len =
    c.blocks_of.ensures
    ∙ ap (λ (known : KnownFile). block_count c.args.layout.now known.len) (sym found.1.1) in
    taken c.args.layout.now c.args.actor c.args.id c.args.again m found.0
    c.in-Some-taken_refusal.refusal found.1.0
    (subst (λ n. c.args.id.block.index < n) count c.if-id-blocks_of.false)
    (ap (λ slots. taken_refusal c.args.again
    (slot_at slots c.args.id.block c.args.id.slot).grant) (sym c.blocks-2.ensures.slots)
    ∙ (λ i. taken_refusal c.args.again (sym c.slot_at-pending.ensures i).grant)
    ∙ sym c.taken_refusal.ensures ∙ c.in-Some-taken_refusal.is)

goes_on : (c : goal.After-plan_chosen) → decide_grant c.args.layout.now c.args.actor
    c.args.id.block c.args.id.slot c.args.again c.args.state.now.image
    ≡ grant_open c.args.layout.now c.args.actor c.in-Some.known.len c.args.id
    c.args.state.now.image
goes_on c =
    let m : MetaImage = c.args.state.now.image in
    let found = found_row (unclosed_file c.args.actor c.args.id.block.file m.tree) c.in-Some.known
    (ap (λ tree. option_map known_in (unclosed_file c.args.actor c.args.id.block.file tree))
    (sym c.names.ensures.tree) ∙ sym c.unclosed_file.ensures ∙ c.in-Some.is) in
    let count : c.blocks_of.result ≡ block_count c.args.layout.now found.0.len =
    c.blocks_of.ensures
    ∙ ap (λ (known : KnownFile). block_count c.args.layout.now known.len) (sym found.1.1) in
    opened c.args.layout.now c.args.actor c.args.id c.args.again m found.0 found.1.0
    (subst (λ n. c.args.id.block.index < n) count c.if-id-blocks_of.false)
    (ap (λ slots. taken_refusal c.args.again
    (slot_at slots c.args.id.block c.args.id.slot).grant) (sym c.blocks-2.ensures.slots)
    ∙ (λ i. taken_refusal c.args.again (sym c.slot_at-pending.ensures i).grant)
    ∙ sym c.taken_refusal.ensures ∙ c.in_default-taken_refusal.is)
    ∙ ap (λ (known : KnownFile). grant_open c.args.layout.now c.args.actor known.len c.args.id m)
    found.1.1

pub returns-clause-ok : goal.returns-clause-ok
returns-clause-ok c =
    subst (λ decision. IfOk c.plan_chosen.result (IsPlan c.args.state.now.image decision))
    (sym (goes_on c)) c.plan_chosen.ensures.ok

pub returns-clause-err : goal.returns-clause-err
returns-clause-err c =
    subst (λ decision. IfErr c.plan_chosen.result (IsUnplanned decision)) (sym (goes_on c))
    c.plan_chosen.ensures.err
