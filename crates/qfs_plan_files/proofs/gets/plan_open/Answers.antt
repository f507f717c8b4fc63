-- What the check leaves to show of `gets::plan_open`.
use Rattle.std.proofs.Common.{◌≡◌, ◌∙◌, [], ◌∷◌, None, length, ap, refl, sym}
use Rattle.qfs_base.specs.declared.image.MetaImage.{MetaImage}
use Rattle.qfs_base.specs.NameTree.{look_refusal}
use Rattle.qfs_base.specs.declared.image.TreeRow.{TreeRow}
use Rattle.qfs_model_meta.specs.GetRequests.{decide_open, opened}
use Rattle.qfs_model_meta.specs.Leases.{lease_end}
use Rattle.qfs_model_meta.specs.Lists.{block_count, listed_blocks}
use Rattle.qfs_model_meta.specs.TreeRows.{row_at}
use Rattle.qfs_namespace.specs.declared.file.KnownFile.{KnownFile}
use Rattle.qfs_namespace.specs.Joined.{known_in}
use Rattle.qfs_model_meta.specs.TreeRows.{standing}
use Rattle.qfs_model_meta.specs.Decision.{Makes}
use Rattle.qfs_base.specs.declared.reply.MetaReply.TheVariants as Told
use Rattle.qfs_base.specs.declared.change.Change.TheVariants as Made
use Rattle.qfs_planning.specs.Deciding.{told_refused, plan_as, refuse_file_none}
use Rattle.qfs_plan_files.proofs.gets.plan_open.Goals as goal

pub returns-in-Some-clause-err : goal.returns-in-Some-clause-err
unfolding decide_open
returns-in-Some-clause-err c =
    let m : MetaImage = c.args.state.now.image in
    told_refused m (decide_open c.args.layout.now c.args.term c.args.actor c.args.path.now m) _ _ c.in-Some.refusal c.in_ok-place.place _ refl
    (ap (λ tree. look_refusal (standing tree) c.args.path.now) (sym c.names.ensures.tree)
    ∙ sym c.look_refusal.ensures ∙ c.in-Some.is)
    c.in_ok-place.ensures c.refused.ensures

pub returns-clause-ok : goal.returns-clause-ok
unfolding decide_open opened
returns-clause-ok c =
    let m : MetaImage = c.args.state.now.image in
    let row : TreeRow = row_at m.tree c.args.path.now in
    let free : look_refusal (standing m.tree) c.args.path.now ≡ None =
    ap (λ tree. look_refusal (standing tree) c.args.path.now) (sym c.names.ensures.tree)
    ∙ sym c.look_refusal.ensures ∙ c.in_default.is in
    let known : c.file_at-known.result ≡ known_in row =
    c.file_at-known.ensures ∙ ap (λ tree. known_in (row_at tree c.args.path.now))
    c.names-2.ensures.tree in
    let file : row.file ≡ c.file_at-known.result.file = ap (λ (k : KnownFile). k.file) (sym known) in
    let len : row.len ≡ c.file_at-known.result.len = ap (λ (k : KnownFile). k.len) (sym known) in
    let count : block_count c.args.layout.now row.len ≡ c.blocks_of-count.result =
    ap (block_count c.args.layout.now) len ∙ sym c.blocks_of-count.ensures in
    let blocks : listed_blocks m.servers m.slots row.file (block_count c.args.layout.now row.len)
    ≡ c.in_ok-blocks.blocks =
    (λ i. listed_blocks m.servers m.slots (file i) (count i)) ∙ sym c.in_ok-blocks.ensures in
    let until : lease_end c.args.term m.clock ≡ c.lease_end-until.result =
    ap (lease_end c.args.term) (sym c.clock.ensures) ∙ sym c.lease_end-until.ensures in
    let lease : m.next_lease ≡ c.next-lease.result =
    sym c.leases.ensures.next ∙ sym c.next-lease.ensures.number in
    plan_as m _ _ c.in_ok-plan.plan
    (refuse_file_none (length m.history) _ _ free
    ∙ (λ i. Makes (Made.GiveLease c.args.actor (file i) (until i) ∷ [])
    (Told.Opened (record {
      lease = lease i;
      place = sym c.in_ok-place.ensures i;
      file = file i;
      len = len i;
      blocks = blocks i;
    }))))
    (c.in_ok-plan.ensures m tt)
