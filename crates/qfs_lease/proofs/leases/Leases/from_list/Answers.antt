-- What the check leaves to show of `leases::Leases::from_list`.
use Rattle.std.proofs.Common.{◌≡◌, ◌≤◌, ◌<◌, ◌++◌, ◌∷◌, [], ap, sym, subst, ◌∙◌, arith, append_assoc}
use Rattle.std.proofs.lemmas.List.{append-nil, nil_from_length}
use Rattle.std.specs.Vec.Iter.{into_iter_items}
use Rattle.qfs_base.specs.declared.image.Lease.{Lease}
use Rattle.qfs_base.specs.Table.{Each, IsRising}
use Rattle.qfs_laws_tables.specs.EachRow.{each_of_all}
use Rattle.qfs_lease.specs.LiveLeases.{LiveLeases}
use Rattle.qfs_lease.proofs.LeaseLaws.{above_later}
use Rattle.qfs_model_meta.specs.Leases.{lease_cmp}
use Rattle.qfs_lease.proofs.leases.Leases.from_list.Goals as goal

pub loop-lease-init : goal.loop-lease-init
loop-lease-init c =
    let items = into_iter_items c.into_iter-lease-iterator.result in
    let high : Each (λ (lease : Lease). c.starting-leases.result.next ≤ lease.lease) items =
    each_of_all _ (λ lease. omega (arith, c.starting-leases.ensures.next)) items in
    record {
      joined = ap (λ leases. leases ++ items) c.starting-leases.ensures.leases
          ∙ c.into_iter-lease-iterator.ensures.into_iter_gives.0 ∙ c.into_vec-lease-items.ensures;
      high = high;
      spare = c.starting-leases.ensures.spare;
    }

pub put-requires-clause-number : goal.put-requires-clause-number
put-requires-clause-number c =
    let first = (subst (Each (λ (lease : Lease). c.loop-lease.leases.next ≤ lease.lease))
    c.in-Some.ensures.steps.0 c.loop-lease.invariant.high).0 in
    omega (arith, c.in_ok-reserve.ensures.next, first)

pub loop-lease-preserved : goal.loop-lease-preserved
loop-lease-preserved c =
    let was = c.loop-lease.invariant in
    let lease = c.in-Some.lease in
    let old = c.loop-lease.leases.leases in
    let rest = into_iter_items c.next.new.self in
    let all : old ++ lease ∷ rest ≡ c.args.list =
    ap (λ leases. old ++ leases) (sym c.in-Some.ensures.steps.0) ∙ was.joined in
    let high : Each (λ (it : Lease). c.put.new.self.next ≤ it.lease) rest =
    subst (λ next. Each (λ (it : Lease). next ≤ it.lease) rest) (sym c.put.ensures.next)
    (above_later lease old rest (subst (IsRising lease_cmp) (sym all) c.requires.in_order)) in
    record {
      joined = ap (λ leases. leases ++ rest) (c.put.ensures.leases
          ∙ ap (λ leases. leases ++ lease ∷ []) c.in_ok-reserve.ensures.leases)
          ∙ append_assoc old (lease ∷ []) rest ∙ all;
      high = high;
      spare = omega (arith, c.put.ensures.spare, c.in_ok-reserve.ensures.ok, was.spare);
    }

pub invariant_of-leases : goal.invariant_of-leases
invariant_of-leases c =
    let was = c.leases-2.invariant in
    let loop = c.loop-lease in
    let none = nil_from_length (into_iter_items loop.lease-iterator)
    (sym loop.lease-iterator.rest.ok.0 ∙ c.in-None.ensures.steps.0) in
    let rows = ap (λ (it : LiveLeases). it.leases) c.leases-2.view_is
    ∙ sym (append-nil loop.leases.leases)
    ∙ ap (λ rest. loop.leases.leases ++ rest) (sym none) ∙ loop.invariant.joined in
    record {
      in_order = was.in_order;
      numbers = subst (Each (λ (lease : Lease). lease.lease < c.args.next)) (sym rows)
          c.requires.numbers;
      files = was.files;
      ends = was.ends;
      last = omega (arith, c.ranges.next);
      file_room = was.file_room;
      end_room = was.end_room;
    }

pub returns-clause-leases : goal.returns-clause-leases
returns-clause-leases c =
    let loop = c.loop-lease in
    let none = nil_from_length (into_iter_items loop.lease-iterator)
    (sym loop.lease-iterator.rest.ok.0 ∙ c.in-None.ensures.steps.0) in
    ap (λ (it : LiveLeases). it.leases) c.leases-2.view_is
    ∙ sym (append-nil loop.leases.leases)
    ∙ ap (λ rest. loop.leases.leases ++ rest) (sym none)
    ∙ loop.invariant.joined

pub returns-clause-spare : goal.returns-clause-spare
returns-clause-spare c =
    ap (λ (it : LiveLeases). it.spare) c.leases-2.view_is ∙ c.loop-lease.invariant.spare
