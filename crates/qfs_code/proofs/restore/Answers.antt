use Rattle.std.proofs.Common.{◌≡◌, take, drop, length, ◌+◌, ◌-◌, ◌*◌, ap, sym, ◌∙◌, arith}
use Rattle.qfs_model_slot.specs.Restored.{weighed, weights, weights_by}
use Rattle.qfs_code.specs.Code.{slots_of}
use Rattle.qfs_code.proofs.Columns.{slot_at-slots_of, length-slots_of}
use Rattle.qfs_code.proofs.Restoring.{restored_is_slot, restored_at_hand, restored_from_others}
use Rattle.qfs_code.proofs.restore.Goals as goal

pub returns-then-contains-clause-restored : goal.returns-then-contains-clause-restored
returns-then-contains-clause-restored c =
    let start = c.args.want * c.args.size in
    let wide : start + c.args.size - start ≡ c.args.size = omega arith in
    let nine = slots_of 9 c.args.size c.args.nine.now in
    c.copy_from_slice.ensures.after ∙ ap (λ n. take n (drop start c.args.nine.now)) wide
    ∙ sym (slot_at-slots_of 9 c.args.size c.args.nine.now c.args.want c.requires.want)
    ∙ sym (restored_at_hand c.args.have c.args.size nine c.args.want (sym c.contains.ensures.member ∙ c.if-contains.true))

pub returns-then-contains-clause-completes : goal.returns-then-contains-clause-completes
returns-then-contains-clause-completes c slots code agree =
    let nine = slots_of 9 c.args.size c.args.nine.now in
    returns-then-contains-clause-restored c
    ∙ restored_is_slot c.args.have c.args.want c.args.size nine slots c.contains.ensures.mask c.requires.enough c.requires.want
    (length-slots_of 9 c.args.size c.args.nine.now) code agree

pub returns-else-contains-clause-restored : goal.returns-else-contains-clause-restored
unfolding weights weights_by
returns-else-contains-clause-restored c =
    let nine = slots_of 9 c.args.size c.args.nine.now in
    c.combine.ensures ∙ ap (λ w. weighed w c.args.size (slots_of (length w) c.args.size c.args.nine.now)) c.weights.ensures
    ∙ sym (restored_from_others c.args.have c.args.size nine c.args.want (sym c.contains.ensures.member ∙ c.if-contains.false))

pub returns-else-contains-clause-completes : goal.returns-else-contains-clause-completes
returns-else-contains-clause-completes c slots code agree =
    let nine = slots_of 9 c.args.size c.args.nine.now in
    returns-else-contains-clause-restored c
    ∙ restored_is_slot c.args.have c.args.want c.args.size nine slots c.contains.ensures.mask c.requires.enough c.requires.want
    (length-slots_of 9 c.args.size c.args.nine.now) code agree
