use Rattle.std.proofs.Common.{ℕ, List, ◌++◌, sym, subst}
use Rattle.qfs_model_slot.specs.CodeWord.{AreCodeWords}
use Rattle.qfs_code.specs.Code.{slots_of}
use Rattle.qfs_code.proofs.Columns.{length-slots_of}
use Rattle.qfs_code.proofs.Encoding.{encoded, slots_of_sizes, slots_of_bytes, three_parity_slots}
use Rattle.qfs_code.proofs.encode.Goals as goal

pub returns-clause-parity : goal.returns-clause-parity
returns-clause-parity c =
    three_parity_slots c.args.size (slots_of 6 c.args.size c.args.six.now) _ _ _
    c.encode_slot.ensures.slot c.encode_slot-2.ensures.slot c.encode_slot-3.ensures.slot

pub returns-clause-words : goal.returns-clause-words
returns-clause-words c =
    let size = c.args.size in
    let bytes = c.args.six.now in
    let six = slots_of 6 size bytes in
    let P : List (List ℕ) → Type 0 = λ parity. AreCodeWords size (six ++ parity) in
    subst P (sym (returns-clause-parity c))
    (encoded size six (length-slots_of 6 size bytes) (slots_of_sizes 6 size bytes c.requires.six) (slots_of_bytes 6 size bytes c.requires.six (λ i. (c.type_inv.six i).fits)))
