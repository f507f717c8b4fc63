use Rattle.std.proofs.Common.{◌≡◌, ◌∙◌, None, ap, sym, nat_lt, refl}
use Rattle.std.specs.Option.{option_copied}
use Rattle.qfs_base.specs.declared.image.SlotRecord.{SlotRecord}
use Rattle.qfs_base.specs.Outcome.{meta_outcome}
use Rattle.qfs_model_meta.specs.PutRequests.{taken_refusal}
use Rattle.qfs_model_meta.specs.Slots.{slot_at}
use Rattle.qfs_model_meta.specs.TreeRows.{unclosed_file}
use Rattle.qfs_meta.proofs.GrantLaws.{grant-gone, grant-no_block, grant-taken, grant-open, taken-pending, free-first, free-again}
use Rattle.std.proofs.lemmas.Bool.{le-ltb, lt-ltb}
use Rattle.std.proofs.lemmas.Result.{IfOk-weaker}
use Rattle.qfs_meta.proofs.granting.grant.Goals as goal
use Rattle.qfs_meta.proofs.granting.grant.Goals.{in_default-grant-via-in-Some-grant+else-not-again, in_default-grant-via-in_default-grant}

pub returns-in_default-clause-ok : goal.returns-in_default-clause-ok
returns-in_default-clause-ok c =
    grant-gone c.args.layout.now c.args.actor c.args.id c.args.again c.args.image.now
    (ap (unclosed_file c.args.actor c.args.id.block.file) (sym c.as_slice.ensures) ∙ sym c.unclosed_file.ensures ∙ ap option_copied c.in_default.is)

pub returns-then-id-blocks_of-clause-ok : goal.returns-then-id-blocks_of-clause-ok
returns-then-id-blocks_of-clause-ok c =
    grant-no_block c.args.layout.now c.args.actor c.args.id c.args.again c.args.image.now c.in-Some.row.now
    (ap (unclosed_file c.args.actor c.args.id.block.file) (sym c.as_slice.ensures) ∙ sym c.unclosed_file.ensures ∙ ap option_copied c.in-Some.is)
    (ap (λ count. nat_lt c.args.id.block.index count) (sym c.blocks_of.ensures) ∙ le-ltb _ _ c.if-id-blocks_of.true)

pub returns-in-Some-grant-clause-ok : goal.returns-in-Some-grant-clause-ok
unfolding meta_outcome
returns-in-Some-grant-clause-ok c =
    let pending = ap (λ slots. (slot_at slots c.args.id.block c.args.id.slot).grant) (sym c.as_slice-2.ensures)
    ∙ ap (λ (state : SlotRecord). state.grant) (sym c.slot_at.ensures) ∙ c.in-Some-grant.is in
    grant-taken c.args.layout.now c.args.actor c.args.id c.args.again c.args.image.now c.in-Some.row.now _
    (ap (unclosed_file c.args.actor c.args.id.block.file) (sym c.as_slice.ensures) ∙ sym c.unclosed_file.ensures ∙ ap option_copied c.in-Some.is)
    (ap (λ count. nat_lt c.args.id.block.index count) (sym c.blocks_of.ensures) ∙ lt-ltb _ _ c.if-id-blocks_of.false)
    (taken-pending c.args.again _ c.in-Some-grant.pending c.if-not-again.true pending) refl

pub returns-in_default-grant-clause-ok : goal.returns-in_default-grant-clause-ok
returns-in_default-grant-clause-ok c =
    let known = ap (λ slots. (slot_at slots c.args.id.block c.args.id.slot).grant) (sym c.as_slice-2.ensures)
    ∙ ap (λ (state : SlotRecord). state.grant) (sym c.slot_at.ensures) in
    let free : taken_refusal c.args.again (slot_at c.args.image.now.slots c.args.id.block c.args.id.slot).grant ≡ None =
    elim c.in_default-grant.branch [
      | in_default-grant-via-in-Some-grant+else-not-again w ↦ free-again c.args.again _ w.if-not-again.false
      | in_default-grant-via-in_default-grant w ↦ free-first c.args.again _ (known ∙ w.in_default-grant.is)
    ] in
    IfOk-weaker c.grant_open.result _ _
    (λ reply served.
    grant-open c.args.layout.now c.args.actor c.args.id c.args.again c.args.image.now c.in-Some.row.now _ reply
    (ap (unclosed_file c.args.actor c.args.id.block.file) (sym c.as_slice.ensures) ∙ sym c.unclosed_file.ensures ∙ ap option_copied c.in-Some.is)
    (ap (λ count. nat_lt c.args.id.block.index count) (sym c.blocks_of.ensures) ∙ lt-ltb _ _ c.if-id-blocks_of.false)
    free served)
    c.grant_open.ensures.ok
