use Rattle.std.proofs.Common.{◌≡◌, ◌∙◌, ap, sym, subst, arith}
use Rattle.qfs_base.specs.declared.image.TreeRow.{TreeRow}
use Rattle.qfs_base.specs.NameTree.{look_refusal}
use Rattle.qfs_model_meta.specs.Apply.{apply}
use Rattle.qfs_base.specs.declared.change.Change.TheVariants.{GiveLease}
use Rattle.qfs_model_meta.specs.GetRequests.{opened}
use Rattle.qfs_model_meta.specs.Leases.{lease_end}
use Rattle.qfs_model_meta.specs.Lists.{block_count, listed_blocks}
use Rattle.qfs_model_meta.specs.Step.{next_turn}
use Rattle.qfs_model_meta.specs.TreeRows.{standing, row_at}
use Rattle.qfs_meta.specs.Kept.{IsKept}
use Rattle.qfs_meta.proofs.LoadLaws.{lease_given}
use Rattle.qfs_meta.proofs.GetLaws.{open-refused, open-made}
use Rattle.qfs_meta.proofs.KeptLaws.{kept-lease}
use Rattle.qfs_meta.proofs.StepLaws.{runs_out}
use Rattle.qfs_meta.proofs.gets.open.Goals as goal

pub returns-in-Some-clause-ok : goal.returns-in-Some-clause-ok
returns-in-Some-clause-ok c =
    open-refused c.args.layout.now c.args.term c.args.actor c.args.path.now c.args.image.now _ _ c.next_place-place.ensures
    (ap (λ tree. look_refusal (standing tree) c.args.path.now) (sym c.as_slice.ensures) ∙ sym c.look_refusal.ensures ∙ c.in-Some.is)

pub returns-then-lease-clause-ok : goal.returns-then-lease-clause-ok
returns-then-lease-clause-ok c = runs_out c.args.image.now _

file : (c : goal.After-raise_turn) → c.file_at-file.result.0 ≡ (row_at c.args.image.now.tree c.args.path.now).file
file c = c.file_at-file.ensures.file ∙ ap (λ tree. (row_at tree c.args.path.now).file) c.as_slice-2.ensures

len : (c : goal.After-raise_turn) → c.file_at-file.result.1 ≡ (row_at c.args.image.now.tree c.args.path.now).len
len c = c.file_at-file.ensures.len ∙ ap (λ tree. (row_at tree c.args.path.now).len) c.as_slice-2.ensures

made : (c : goal.After-raise_turn) → c.raise_turn.new.image ≡ next_turn (apply c.args.image.now (GiveLease c.args.actor (row_at c.args.image.now.tree c.args.path.now).file (lease_end c.args.term c.args.image.now.clock)))
made c =
    c.raise_turn.ensures
    ∙ ap next_turn c.in_ok-give_lease.ensures.ok
    ∙ (λ i. next_turn (apply c.args.image.now (GiveLease c.args.actor (file c i) (c.lease_end-until.ensures i))))

pub returns-clause-kept : goal.returns-clause-kept
returns-clause-kept c =
    subst IsKept (sym (made c)) (kept-lease c.args.image.now c.args.actor _ _ c.requires (omega arith))

pub returns-clause-ok : goal.returns-clause-ok
unfolding opened
returns-clause-ok c =
    let m = c.args.image.now in
    let row : TreeRow = row_at m.tree c.args.path.now in
    let count : c.blocks_of-count.result ≡ block_count c.args.layout.now row.len =
    c.blocks_of-count.ensures ∙ ap (block_count c.args.layout.now) (len c) in
    let blocks : c.in_ok-blocks.blocks ≡ listed_blocks m.servers m.slots row.file (block_count c.args.layout.now row.len) =
    c.in_ok-blocks.ensures ∙ (λ i. listed_blocks (c.as_slice-3.ensures i) (c.as_slice-4.ensures i) (file c i) (count i)) in
    open-made c.args.layout.now c.args.term c.args.actor c.args.path.now m _ _
    (ap (λ tree. look_refusal (standing tree) c.args.path.now) (sym c.as_slice.ensures) ∙ sym c.look_refusal.ensures ∙ c.in_default.is)
    (λ i. record { lease = m.next_lease; place = c.next_place-place.ensures i; file = file c i; len = len c i; blocks = blocks i })
    (made c) (returns-clause-kept c)

pub returns-clause-loads : goal.returns-clause-loads
returns-clause-loads c = lease_given c.args.image.now c.raise_turn.new.image c.args.actor _ _ (made c)
