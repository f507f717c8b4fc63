-- How the decision on a grant of a put goes on by what was found out.
use Rattle.std.proofs.Common.{◌≡◌, ◌∙◌, ◌<◌, ◌≤◌, ℕ, Bool, true, false, nat_lt, Some, None, arith}
use Rattle.std.proofs.lemmas.Bool.Decides.{nat_tests}
use Rattle.qfs_base.specs.declared.image.MetaImage.{MetaImage}
use Rattle.qfs_base.specs.declared.image.TreeRow.{TreeRow}
use Rattle.qfs_base.specs.declared.reply.MetaReply.{MetaReply}
use Rattle.qfs_base.specs.declared.reply.MetaReply.TheVariants as Told
use Rattle.qfs_base.specs.declared.request.SlotId.{SlotId}
use Rattle.qfs_base.specs.Shape.{Shape}
use Rattle.qfs_model_meta.specs.Decision.{Tells}
use Rattle.qfs_model_meta.specs.Lists.{block_count}
use Rattle.qfs_model_meta.specs.PutRequests.{decide_grant, grant_in, taken_refusal}
use Rattle.qfs_model_meta.specs.Slots.{slot_at}
use Rattle.qfs_model_meta.specs.TreeRows.{unclosed_file}
use Rattle.qfs_plan_slots.specs.Steps.{grant_open}
use Rattle.qfs_planning.specs.Deciding.{need_some, refuse_none, refuse_some, unless_false, unless_true}

below : (index count : ℕ) → index < count → nat_lt index count ≡ true
below index count low = grind (arith, nat_tests)

not_below : (index count : ℕ) → count ≤ index → nat_lt index count ≡ false
not_below index count high = grind (arith, nat_tests)

-- the file has no such block
pub no_block : (layout : Shape) (actor : ℕ) (id : SlotId) (again : Bool) (m : MetaImage)
    (row : TreeRow) → unclosed_file actor id.block.file m.tree ≡ Some row
    → block_count layout row.len ≤ id.block.index
    → decide_grant layout actor id.block id.slot again m ≡ Tells Told.NoBlock
unfolding decide_grant grant_in
no_block layout actor id again m row found high =
    need_some _ _ _ row found ∙ unless_false _ _ _ (not_below _ _ high)

-- the slot is taken
pub taken : (layout : Shape) (actor : ℕ) (id : SlotId) (again : Bool) (m : MetaImage)
    (row : TreeRow) (refusal : MetaReply) → unclosed_file actor id.block.file m.tree ≡ Some row
    → id.block.index < block_count layout row.len
    → taken_refusal again (slot_at m.slots id.block id.slot).grant ≡ Some refusal
    → decide_grant layout actor id.block id.slot again m ≡ Tells refusal
unfolding decide_grant grant_in
taken layout actor id again m row refusal found low is =
    need_some _ _ _ row found ∙ unless_true _ _ _ (below _ _ low) ∙ refuse_some _ _ _ is

-- the slot is open for a grant
pub opened : (layout : Shape) (actor : ℕ) (id : SlotId) (again : Bool) (m : MetaImage)
    (row : TreeRow) → unclosed_file actor id.block.file m.tree ≡ Some row
    → id.block.index < block_count layout row.len
    → taken_refusal again (slot_at m.slots id.block id.slot).grant ≡ None
    → decide_grant layout actor id.block id.slot again m ≡ grant_open layout actor row.len id m
unfolding decide_grant grant_in
opened layout actor id again m row found low is =
    need_some _ _ _ row found ∙ unless_true _ _ _ (below _ _ low) ∙ refuse_none _ _ is
