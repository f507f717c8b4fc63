use Rattle.std.proofs.Common.{◌∙◌, ◌+◌, ◌*◌, refl, ap, sym, arith, inr}
use Rattle.qfs_reader.specs.Rest.{rest_from_slot}
use Rattle.qfs_reader.proofs.Slots.{AreBelow-more}
use Rattle.qfs_reader.proofs.Fetches.{six-pieces, next-piece, enough-few, wants-behind}
use Rattle.qfs_reader.proofs.fetch.given.Goals as goal

pub keep_part-position-requires : goal.keep_part-position-requires
keep_part-position-requires c =
    let readable = c.requires.at.readable in
    record {
      slot = readable.slot;
      nine = c.requires.room.nine ∙ ap (λ n. 9 * n) (sym c.requires.bytes);
      bytes = refl;
      below = readable.more.below;
    }

pub window_read-requires : goal.window_read-requires
window_read-requires c =
    let readable = c.requires.at.readable in
    let kept = c.keep_part-position.ensures in
    record {
      window = c.requires.at.window;
      enough = enough-few c.args.position.sources readable.more.enough;
      have = omega (arith, c.if-count.true, c.count.ensures.count);
      below = AreBelow-more (c.args.position.slot + 1) 9 _ (omega (arith, readable.slot)) kept.below;
      room = record { nine = kept.len ∙ ap (λ n. 9 * n) c.requires.bytes; spare = c.requires.room.spare };
    }

pub next_slot-requires : goal.next_slot-requires
next_slot-requires c =
    let readable = c.requires.at.readable in
    let kept = c.keep_part-position.ensures in
    record {
      window = c.requires.at.window;
      slot = readable.slot;
      more = wants-behind _ _ _ _ _ readable kept.count (omega (arith, c.if-count.false, c.count.ensures.count)) kept.below;
      room = inr (record { nine = kept.len ∙ ap (λ n. 9 * n) c.requires.bytes; spare = c.requires.room.spare });
    }

pub returns-then-count-clause-rest : goal.returns-then-count-clause-rest
returns-then-count-clause-rest c =
    let readable = c.requires.at.readable in
    let pieces = rw c.requires.bytes at c.keep_part-position.ensures.pieces in
    c.window_read.ensures.rest
    ∙ six-pieces c.args.get.now c.args.attempt c.args.position c.args.bytes.now _
    (omega (arith, readable.more.few, c.keep_part-position.ensures.count, c.if-count.true, c.count.ensures.count)) pieces

pub returns-clause-rest : goal.returns-clause-rest
unfolding rest_from_slot
returns-clause-rest c =
    let pieces = rw c.requires.bytes at c.keep_part-position.ensures.pieces in
    c.next_slot.ensures.rest ∙ next-piece c.args.get.now c.args.attempt c.args.position c.args.bytes.now _ _ c.keep_part-position.ensures.count pieces
