use Rattle.std.proofs.Common.{◌≡◌, ◌∙◌, ap, arith, sym, ◌+◌, ◌-◌, ◌*◌, ◌<◌, ◌≤◌, ◌++◌, List, ℕ, length}
use Rattle.std.proofs.Math.Nat.{mul-le-mul_right}
use Rattle.std.specs.List.{range_with_len}
use Rattle.qfs_model_actor.specs.Windows.{cut_to_range}
use Rattle.qfs_reader.proofs.Rowwise.{joined, stripe_in, nothing-joined, one-joined, stripes-joined, length-stripe, added-bound, added-fits, cut-by_length}
use Rattle.qfs_reader.proofs.parts.add_row.Goals as goal

row_end : (slot stripe : ℕ) → slot < 6 → slot * stripe + stripe ≤ 6 * stripe
row_end slot stripe within = let le : (slot + 1) * stripe ≤ 6 * stripe = mul-le-mul_right stripe (omega (arith, within)) in omega (arith, le)

pub loop-slot-init : goal.loop-slot-init
loop-slot-init c = record { got = nothing-joined c.args.from c.args.to c.args.start c.args.got.now; bound = omega (arith, c.requires.got) }

pub add-requires : goal.add-requires
add-requires c =
    let place = c.loop-slot.slot * c.args.size + c.args.row * c.args.stripe in
    let offset = c.args.start + c.loop-slot.slot * c.args.stripe in
    let long = length-stripe c.args.stripe c.args.row c.args.size c.args.nine.now c.requires.row c.requires.nine c.loop-slot.slot (omega (arith, c.loop-slot-test.true)) in
    let cut = cut-by_length c.args.from c.args.to offset place c.args.stripe c.args.nine.now c.cut_to_range.result.now c.cut_to_range.ensures in
    let last = row_end c.loop-slot.slot c.args.stripe c.loop-slot-test.true in
    rw cut (added-fits c.args.from c.args.to offset c.args.stripe c.loop-slot.got _ c.loop-slot.invariant.bound long (omega (arith, last, c.requires.fits)))

pub loop-slot-preserved : goal.loop-slot-preserved
loop-slot-preserved c =
    let place = c.loop-slot.slot * c.args.size + c.args.row * c.args.stripe in
    let offset = c.args.start + c.loop-slot.slot * c.args.stripe in
    let stripe = stripe_in c.args.stripe c.args.size c.args.nine.now c.args.row in
    let lengths = length-stripe c.args.stripe c.args.row c.args.size c.args.nine.now c.requires.row c.requires.nine in
    let cut = cut-by_length c.args.from c.args.to offset place c.args.stripe c.args.nine.now c.cut_to_range.result.now c.cut_to_range.ensures in
    let added : c.add.new.self ≡ c.loop-slot.got ++ cut_to_range c.args.from c.args.to offset (stripe c.loop-slot.slot) = c.add.ensures ∙ ap (λ (bytes : List ℕ). c.loop-slot.got ++ bytes) cut in
    let bound : length c.add.new.self ≤ offset + c.args.stripe - c.args.from =
    added-bound c.args.from c.args.to offset c.args.stripe c.loop-slot.got (stripe c.loop-slot.slot) c.add.new.self c.loop-slot.invariant.bound (lengths c.loop-slot.slot (omega (arith, c.loop-slot-test.true))) added in
    record {
      got = one-joined c.args.from c.args.to c.args.start c.args.stripe c.loop-slot.slot stripe c.args.got.now c.loop-slot.got c.add.new.self
          (λ k within. lengths k (omega (arith, within, c.loop-slot-test.true))) c.loop-slot.invariant.got added;
      bound = omega (arith, bound);
    }

pub returns-clause-got : goal.returns-clause-got
returns-clause-got c =
    let six : c.loop-slot.slot ≡ 6 = omega (arith, c.loop-slot.auto.slot-end, c.loop-slot-test.false) in
    let row = ap (joined (stripe_in c.args.stripe c.args.size c.args.nine.now c.args.row)) six
    ∙ sym (stripes-joined c.args.stripe c.args.row c.args.size c.args.nine.now (range_with_len 0 6) c.requires.row) in
    c.loop-slot.invariant.got ∙ ap (λ (bytes : List ℕ). c.args.got.now ++ cut_to_range c.args.from c.args.to c.args.start bytes) row
