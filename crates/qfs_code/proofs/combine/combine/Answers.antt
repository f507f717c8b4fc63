use Rattle.std.proofs.Common.{◌≡◌, ℕ, ◌+◌, ◌-◌, ◌*◌, ◌<◌, List, length, get_or, take, drop, bit_xor, sym, ap, ◌∙◌, arith}
use Rattle.std.specs.Int.Bits.{xor_assoc, xor_zero_r}
use Rattle.qfs_galois.specs.Field.{product}
use Rattle.qfs_model_slot.specs.CodeWord.{column}
use Rattle.qfs_model_slot.specs.Restored.{dot}
use Rattle.qfs_code.specs.Code.{slots_of}
use Rattle.qfs_code.proofs.Dot.{dot-drop, dot-past}
use Rattle.qfs_code.proofs.Columns.{length-column, get_or-column, length-slots_of, slot_at-slots_of, weighed_by_bytes}
use Rattle.qfs_code.proofs.combine.combine.Goals as goal

-- one slot more, at one offset
slot_added : (weights bytes : List ℕ) (j before after byte total : ℕ) → j < length weights → j < length bytes → get_or bytes j 0 ≡ byte
    → after ≡ bit_xor before (product (get_or weights j 0) byte) → bit_xor before (dot (drop j weights) (drop j bytes)) ≡ total
    → bit_xor after (dot (drop (j + 1) weights) (drop (j + 1) bytes)) ≡ total
slot_added weights bytes j before after byte total lw lb is added so_far =
    let rest = dot (drop (j + 1) weights) (drop (j + 1) bytes) in
    let w = get_or weights j 0 in
    ap (λ x. bit_xor x rest) added ∙ xor_assoc before (product w byte) rest
    ∙ ap (λ y. bit_xor before (bit_xor (product w y) rest)) (sym is)
    ∙ ap (bit_xor before) (sym (dot-drop weights bytes j lw lb)) ∙ so_far

pub loop-j-preserved : goal.loop-j-preserved
loop-j-preserved c t l =
    let weights = c.args.weights.now in
    let size = c.args.size in
    let slots = slots_of (length weights) size c.args.slots.now in
    let wide : c.loop-j.j * size + size - c.loop-j.j * size ≡ size = omega arith in
    let is = get_or-column slots t c.loop-j.j
    ∙ ap (λ s. get_or s t 0) (slot_at-slots_of (length weights) size c.args.slots.now c.loop-j.j c.loop-j-test.true)
    ∙ ap (λ n. get_or (take n (drop (c.loop-j.j * size) c.args.slots.now)) t 0) (sym wide) in
    let long = length-column slots t ∙ length-slots_of (length weights) size c.args.slots.now in
    slot_added weights (column slots t) c.loop-j.j (get_or c.loop-j.out t 0) (get_or c.add_scaled.new.dst t 0) _ _
    c.loop-j-test.true (omega (arith, long)) is (c.add_scaled.ensures t (omega arith)) (c.loop-j.invariant t l)

pub returns : goal.returns
returns c =
    let weights = c.args.weights.now in
    let slots = slots_of (length weights) c.args.size c.args.slots.now in
    weighed_by_bytes c.loop-j.out weights c.args.size slots (omega arith)
    (λ t l.
    let none = dot-past weights (drop c.loop-j.j (column slots t)) c.loop-j.j (omega arith) in
    sym (xor_zero_r (get_or c.loop-j.out t 0)) ∙ ap (bit_xor (get_or c.loop-j.out t 0)) (sym none) ∙ c.loop-j.invariant t l)
