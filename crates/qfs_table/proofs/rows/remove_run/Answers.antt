-- What the check leaves to show of `rows::remove_run`.
use Rattle.std.proofs.Common.{sym, subst, ap, length, ◌∙◌, arith}
use Rattle.std.specs.Option.{is_some}
use Rattle.qfs_base.specs.Table.{IsRising, without, has_key}
use Rattle.qfs_table.specs.Chunks.{flat}
use Rattle.qfs_table.proofs.RowLaws.{first_rises, none_first, none_out, one_less, without_again}
use Rattle.qfs_table.proofs.rows.remove_run.Goals as goal

pub run-preserved : goal.run-preserved
run-preserved g c =
    let test = has_key (g.K.Key.order c.args.key.now) in
    let old = flat c.run.chunks.items in
    let was = c.run.invariant in
    let made = c.take_first.ensures in
    let found = sym (ap is_some made.row) ∙ sym c.is_some.ensures ∙ c.if-is_some.true in
    let less = one_less test old found in
    record {
      rows = ap (without test) made.rows ∙ without_again test old ∙ was.rows;
      counted = omega (arith, less, was.counted, ap length made.rows);
      fewer = omega (arith, was.fewer);
      rising = subst (IsRising g.T.Row.cmp) (sym made.rows)
          (first_rises g.T.Row.cmp test old was.rising);
      sound = made.sound;
      spares = made.spares;
      slots = made.slots ∙ was.slots;
      spare_slots = made.spare_slots ∙ was.spare_slots;
      count = made.count ∙ was.count;
      more = omega (arith, made.more, was.more);
      strain = omega (arith, made.strain, was.strain);
    }

pub returns-clause-rows : goal.returns-clause-rows
returns-clause-rows g c =
    let test = has_key (g.K.Key.order c.args.key.now) in
    let old = flat c.run.chunks.items in
    let made = c.take_first.ensures in
    let none = sym (ap is_some made.row) ∙ sym c.is_some.ensures ∙ c.if-is_some.false in
    made.rows ∙ none_first test old none ∙ sym (none_out test old none) ∙ c.run.invariant.rows

pub returns-clause-counted : goal.returns-clause-counted
returns-clause-counted g c =
    let made = c.take_first.ensures in
    let none = sym (ap is_some made.row) ∙ sym c.is_some.ensures ∙ c.if-is_some.false in
    c.run.invariant.counted
    ∙ sym (ap length (made.rows ∙ none_first (has_key (g.K.Key.order c.args.key.now))
    (flat c.run.chunks.items) none))

pub returns-clause-rising : goal.returns-clause-rising
returns-clause-rising g c =
    subst (IsRising g.T.Row.cmp) (sym c.take_first.ensures.rows)
    (first_rises g.T.Row.cmp (has_key (g.K.Key.order c.args.key.now))
    (flat c.run.chunks.items) c.run.invariant.rising)
