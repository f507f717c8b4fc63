-- What the check leaves to show of `leases::Leases::list`.
use Rattle.std.proofs.Common.{◌≡◌, ◌++◌, ◌∷◌, [], ◌<◌, ℕ, ap, sym, subst, ◌∙◌, append_assoc}
use Rattle.std.proofs.lemmas.List.{append-nil}
use Rattle.qfs_base.specs.declared.image.Lease.{Lease}
use Rattle.qfs_base.specs.Table.{Each, IsRising}
use Rattle.qfs_model_meta.specs.Leases.{lease_cmp}
use Rattle.qfs_lease.specs.LiveLeases.{LiveLeases}
use Rattle.qfs_lease.proofs.leases.Leases.list.Goals as goal

pub loop-row-init : goal.loop-row-init
loop-row-init c =
    ap (λ list. list ++ c.into_iter-row-iterator.result) c.in_ok-list.ensures
    ∙ c.into_iter-row-iterator.ensures.into_iter_gives
    ∙ c.iter-row-items.ensures
    ∙ ap (λ (it : LiveLeases). it.leases) c.self.view_is

pub loop-row-preserved : goal.loop-row-preserved
loop-row-preserved c =
    let list = c.loop-row.list in
    let rest = c.next.new.self in
    let pushed : c.push.new.self ≡ list ++ c.lease.result ∷ [] = c.in_ok-push.ensures.ok in
    ap (λ list. list ++ rest) pushed
    ∙ append_assoc list (c.lease.result ∷ []) rest
    ∙ ap (λ lease. list ++ lease ∷ rest) c.lease.ensures
    ∙ ap (λ rows. list ++ rows) (sym c.in-Some.ensures.steps)
    ∙ c.loop-row.invariant

pub returns-clause-leases : goal.returns-clause-leases
returns-clause-leases c =
    sym (append-nil c.loop-row.list)
    ∙ ap (λ rows. c.loop-row.list ++ rows) (sym c.in-None.ensures.steps.0)
    ∙ c.loop-row.invariant

pub returns-clause-in_order : goal.returns-clause-in_order
returns-clause-in_order c =
    let all = sym (append-nil c.loop-row.list)
    ∙ ap (λ rows. c.loop-row.list ++ rows) (sym c.in-None.ensures.steps.0)
    ∙ c.loop-row.invariant ∙ sym (ap (λ (it : LiveLeases). it.leases) c.self.view_is) in
    subst (IsRising lease_cmp) (sym all) c.self.invariant.in_order

pub returns-clause-numbers : goal.returns-clause-numbers
returns-clause-numbers c =
    let all = sym (append-nil c.loop-row.list)
    ∙ ap (λ rows. c.loop-row.list ++ rows) (sym c.in-None.ensures.steps.0)
    ∙ c.loop-row.invariant ∙ sym (ap (λ (it : LiveLeases). it.leases) c.self.view_is) in
    let below = subst (λ (next : ℕ). Each (λ (lease : Lease). lease.lease < next)
    c.self.inside.by_number.rows) (ap (λ (it : LiveLeases). it.next) c.self.view_is)
    c.self.invariant.numbers in
    subst (Each (λ (lease : Lease). lease.lease < c.args.self.now.next)) (sym all) below
