use Rattle.std.proofs.Common.{◌∙◌, ◌+◌, ◌*◌, refl, ap, sym, arith, inr}
use Rattle.qfs_window.specs.WindowReads.{rest_from_slot, rest_of_step}
use Rattle.qfs_window.proofs.Slots.{AreBelow-more}
use Rattle.qfs_window.proofs.Fetches.{six-pieces, next-piece, enough-few, wants-behind}
use Rattle.qfs_window.proofs.window_read.given.Goals as goal

pub keep_part-read-requires : goal.keep_part-read-requires
keep_part-read-requires c =
    let readable = c.requires.at.readable in
    record {
      slot = readable.slot;
      nine = c.requires.room ∙ ap (λ n. 9 * n) (sym c.requires.bytes);
      bytes = refl;
      below = readable.more.below;
    }

pub returns-then-count-clause-rest : goal.returns-then-count-clause-rest
unfolding rest_of_step
returns-then-count-clause-rest c = λ reading behind same.
    let readable = c.requires.at.readable in
    let pieces = rw c.requires.bytes at c.keep_part-read.ensures.pieces in
    rw same
    (six-pieces (record reading { stripe = c.args.stripe }) behind c.args.read c.args.bytes.now _
    (omega (arith, readable.more.few, c.keep_part-read.ensures.count, c.if-count.true, c.count.ensures.count)) pieces)

pub returns-then-count-clause-at : goal.returns-then-count-clause-at
returns-then-count-clause-at c =
    let readable = c.requires.at.readable in
    let kept = c.keep_part-read.ensures in
    record {
      have = omega (arith, c.if-count.true, c.count.ensures.count);
      below = AreBelow-more (c.args.read.slot + 1) 9 _ (omega (arith, readable.slot)) kept.below;
      room = kept.len ∙ ap (λ n. 9 * n) c.requires.bytes;
      enough = enough-few c.args.read.sources readable.more.enough;
    }

pub next_slot-requires-clause-more : goal.next_slot-requires-clause-more
next_slot-requires-clause-more c =
    let readable = c.requires.at.readable in
    let kept = c.keep_part-read.ensures in
    wants-behind _ _ _ _ _ readable kept.count (omega (arith, c.if-count.false, c.count.ensures.count)) kept.below

pub next_slot-requires-clause-room : goal.next_slot-requires-clause-room
next_slot-requires-clause-room c = inr (c.keep_part-read.ensures.len ∙ ap (λ n. 9 * n) c.requires.bytes)

pub returns-clause-rest : goal.returns-clause-rest
unfolding rest_from_slot
returns-clause-rest c = λ reading behind same.
    let pieces = rw c.requires.bytes at c.keep_part-read.ensures.pieces in
    c.next_slot.ensures.rest reading behind
    ∙ next-piece reading behind c.args.read c.args.bytes.now _ _ c.keep_part-read.ensures.count (rw same pieces)
