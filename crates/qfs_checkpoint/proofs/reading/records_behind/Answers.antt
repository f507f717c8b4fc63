use Rattle.std.proofs.Common.{◌≡◌, ◌∙◌, ap, sym, subst, arith, refl, ℕ, ◌+◌, ◌-◌, List, length, take, drop, Option, Some, None}
use Rattle.std.specs.Option.{option_map}
use Rattle.std.specs.Prelude.{◌≤◌, IfSome}
use Rattle.qfs_journal.specs.declared.log_reading.LogRead.{LogRead}
use Rattle.qfs_model_meta.specs.Step.{Logged}
use Rattle.qfs_checkpoint.specs.Reading.{HasRead}
use Rattle.qfs_model_disks.specs.LogRecord.{log_record_at}
use Rattle.qfs_checkpoint.proofs.DiskLaws.{tail_is}
use Rattle.qfs_checkpoint.proofs.LogLaws.{starts, goes_on, ends_shut, ends_bad, ends_out}
use Rattle.qfs_checkpoint.proofs.reading.records_behind.Goals as goal

pub loop-at-init : goal.loop-at-init
loop-at-init c = subst (λ (l : List Logged). HasRead c.args.bytes.now c.args.start c.args.start l) (sym c.new-records.ensures.items) (starts c.args.bytes.now c.args.start)

pub returns-then-bytes-at-ne-OPEN : goal.returns-then-bytes-at-ne-OPEN
returns-then-bytes-at-ne-OPEN c =
    let ends = ends_shut c.args.bytes.now c.args.start c.loop-at.at c.loop-at.records.items c.loop-at.invariant c.loop-at-test.true c.if-bytes-at-ne-OPEN.true in
    (ends.0, ends.1, c.loop-at-test.true)

pub returns-in_default : goal.returns-in_default
returns-in_default c =
    let bytes = c.args.bytes.now in
    let rest = take (length bytes - (c.loop-at.at + 1)) (drop (c.loop-at.at + 1) bytes) in (
      refl,
      ends_bad bytes c.args.start c.loop-at.at c.loop-at.records.items c.loop-at.invariant c.loop-at-test.true c.if-bytes-at-ne-OPEN.false
          (subst (λ (l : List ℕ). no_record ≡ log_record_at l) (tail_is (c.loop-at.at + 1) bytes)
          (ap (λ f. option_map (λ (it : LogRead). ((it.actor, it.request), drop it.length rest)) f) (sym c.in_default.is) ∙ c.in_ok-one.ensures.read)),
    )
  where
    no_record : Option (Logged × List ℕ)
    no_record = None

pub loop-at-preserved : goal.loop-at-preserved
loop-at-preserved c =
    let bytes = c.args.bytes.now in
    let rest = take (length bytes - (c.loop-at.at + 1)) (drop (c.loop-at.at + 1) bytes) in
    let one = c.in-Some.one in
    let next = c.loop-at.at + (1 + one.length) in
    subst (λ (l : List Logged). HasRead c.args.bytes.now c.args.start next l) (sym c.in_ok-push.ensures.items)
    (goes_on c.args.bytes.now c.args.start c.loop-at.at one.length c.loop-at.records.items (one.actor, one.request) c.loop-at.invariant c.loop-at-test.true c.if-bytes-at-ne-OPEN.false
    (subst (λ (l : List ℕ). one.length ≤ length l) (tail_is (c.loop-at.at + 1) bytes)
    (subst (λ f. IfSome f (λ (it : LogRead). it.length ≤ length rest)) c.in-Some.is c.in_ok-one.ensures.within))
    (subst (λ (l : List ℕ). Some ((one.actor, one.request), drop one.length l) ≡ log_record_at l) (tail_is (c.loop-at.at + 1) bytes)
    (ap (λ f. option_map (λ (it : LogRead). ((it.actor, it.request), drop it.length rest)) f) (sym c.in-Some.is) ∙ c.in_ok-one.ensures.read)))

pub returns : goal.returns
returns c = (refl, ends_out c.args.bytes.now c.args.start c.loop-at.at c.loop-at.records.items c.loop-at.invariant (omega (arith, c.loop-at-test.false)))
