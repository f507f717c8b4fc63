use Rattle.std.proofs.Common.{◌≢◌, ◌∙◌, sym, arith, inl, inr, ℕ, ◌<◌, ◌≤◌, ◌+◌, refl}
use Rattle.std.proofs.Math.Nat.{eq-or-lt_of_le}
use Rattle.qfs_model_actor.specs.Pieces.{data_of}
use Rattle.qfs_reader.proofs.Slots.{restored-same, data_slot}
use Rattle.qfs_reader.proofs.parts.restore_data.Goals as goal

le_before : (j n : ℕ) → j < n + 1 → j ≤ n
le_before j n less = omega (arith, less)

not_less : (j n : ℕ) → j < n → j ≢ n
not_less j n less same = omega (arith, less, same)

pub loop-want-preserved : goal.loop-want-preserved
loop-want-preserved c =
    let law = c.slots_not_at_hand_have_no_influence.ensures in
    record {
      done = λ j within.
          elim (eq-or-lt_of_le (le_before j c.loop-want.want within)) [
            | inl last ↦
                rw last
                (c.restore_part.ensures.restored
                ∙ restored-same law c.args.size c.loop-want.nine c.args.nine.now c.args.have c.loop-want.want c.requires.mask c.loop-want.invariant.kept)
            | inr before ↦
                c.restore_part.ensures.others j (λ e. not_less j c.loop-want.want before e) ∙ c.loop-want.invariant.done j before
          ];
      kept = λ j member. c.restore_part.ensures.kept j member ∙ c.loop-want.invariant.kept j member;
    }

pub returns-clause-data : goal.returns-clause-data
unfolding data_of
returns-clause-data c =
    let law = c.slots_not_at_hand_have_no_influence.ensures in
    let all : 6 ≤ c.loop-want.want = c.loop-want-test.false in
    let part = λ (j : ℕ) (within : j < 6).
    c.loop-want.invariant.done j (omega (arith, within, all))
    ∙ sym (data_slot law c.args.size c.args.nine.now c.args.have j c.requires.nine c.requires.mask (omega (arith, c.requires.enough)) (omega (arith, within))) in
    rw (part 0 (omega arith), part 1 (omega arith), part 2 (omega arith), part 3 (omega arith), part 4 (omega arith), part 5 (omega arith)) refl
