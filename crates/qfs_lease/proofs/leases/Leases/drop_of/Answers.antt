-- What the check leaves to show of `leases::Leases::drop_of`.
use Rattle.std.proofs.Common.{◌≡◌, ◌+◌, ap, sym, subst, ◌∙◌, arith, false, true}
use Rattle.std.proofs.lemmas.Bool.Decides.{nat_tests}
use Rattle.qfs_base.specs.Table.{without}
use Rattle.qfs_lease.specs.LiveLeases.{HasPassed, LiveLeases, is_of_actor}
use Rattle.qfs_lease.proofs.PassLaws.{all_passed, beside_first, ended_anyway, ended_passed, other_passed}
use Rattle.qfs_lease.proofs.leases.Leases.drop_of.Goals as goal
use Rattle.qfs_lease.proofs.leases.Leases.drop_of.Goals.{then-lease-actor, else-lease-actor}

pub overflow_add-from : goal.overflow_add-from
overflow_add-from c = omega (arith, c.in-Some.ensures.below, c.in-Some.ensures.last)

pub loop-lease-smaller : goal.loop-lease-smaller
loop-lease-smaller c =
    let at = sym c.first_from.ensures.found ∙ c.in-Some.is in
    let low = (beside_first c.loop-lease.from c.in-Some.lease c.loop-lease.self.leases
    c.first_from.ensures.rising at).0 in
    let same : c.if-lease-actor.self.next ≡ c.loop-lease.self.next =
    elim c.if-lease-actor.branch [
      | then-lease-actor w ↦ ap (λ (it : LiveLeases). it.next) w.self-is ∙ w.end.ensures.next
      | else-lease-actor w ↦ ap (λ (it : LiveLeases). it.next) w.self-is
    ] in
    omega (arith, same, low, c.in-Some.ensures.below)

pub loop-lease-preserved : goal.loop-lease-preserved
loop-lease-preserved c =
    let actor = c.args.actor in
    let lease = c.in-Some.lease in
    let from = c.loop-lease.from in
    let leases = c.loop-lease.self.leases in
    let was = c.loop-lease.invariant in
    let rising = c.first_from.ensures.rising in
    let at = sym c.first_from.ensures.found ∙ c.in-Some.is in
    elim c.if-lease-actor.branch [
      | then-lease-actor w ↦
          let own : is_of_actor actor lease ≡ true =
          let is = w.if-lease-actor.true in grind (arith, nat_tests) in
          let now = ap (λ (it : LiveLeases). it.leases) w.self-is ∙ w.end.ensures.leases in
          record {
            left = ap (without (is_of_actor actor)) now
                ∙ ended_anyway actor from lease leases rising at own ∙ was.left;
            passed = subst (HasPassed actor (lease.lease + 1)) (sym now)
                (ended_passed actor from lease leases rising at was.passed);
            next = ap (λ (it : LiveLeases). it.next) w.self-is ∙ w.end.ensures.next ∙ was.next;
            spare = ap (λ (it : LiveLeases). it.spare) w.self-is ∙ w.end.ensures.spare ∙ was.spare;
          }
      | else-lease-actor w ↦
          let other : is_of_actor actor lease ≡ false =
          let is = w.if-lease-actor.false in grind (arith, nat_tests) in
          let now = ap (λ (it : LiveLeases). it.leases) w.self-is in
          record {
            left = ap (without (is_of_actor actor)) now ∙ was.left;
            passed = subst (HasPassed actor (lease.lease + 1)) (sym now)
                (other_passed actor from lease leases rising at was.passed other);
            next = ap (λ (it : LiveLeases). it.next) w.self-is ∙ was.next;
            spare = ap (λ (it : LiveLeases). it.spare) w.self-is ∙ was.spare;
          }
    ]

pub returns-clause-leases : goal.returns-clause-leases
returns-clause-leases c =
    let was = c.loop-lease.invariant in
    sym (all_passed c.args.actor c.loop-lease.from c.loop-lease.self.leases
    (sym c.first_from.ensures.found ∙ c.in_default.is) was.passed)
    ∙ was.left
