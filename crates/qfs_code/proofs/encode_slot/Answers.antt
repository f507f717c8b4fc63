use Rattle.std.proofs.Common.{◌≡◌, ◌∙◌, ℕ, ◌+◌, ◌-◌, ◌*◌, ◌<◌, List, length, take, drop, get_or, sym, ap, arith, rules}
use Rattle.std.proofs.lemmas.Grind.{common_steps}
use Rattle.qfs_galois.specs.Field.{power}
use Rattle.qfs_model_slot.specs.CodeWord.{column}
use Rattle.qfs_code.specs.Code.{slots_of}
use Rattle.qfs_code.proofs.Columns.{length-column, get_or-column, length-slots_of, slot_at-slots_of}
use Rattle.qfs_code.proofs.Encoding.{column_bytes, slots_of_bytes, parity_slot-by_bytes}
use Rattle.qfs_code.proofs.Horner.{horner, horner-next, horner-none, parity_is_horner}
use Rattle.qfs_code.proofs.encode_slot.Goals as goal

-- the byte of a slot at an offset
slot_byte : (size : ℕ) (six : List ℕ) (j t n : ℕ) → j < 6 → n ≡ size
    → get_or (take n (drop (j * size) six)) t 0 ≡ get_or (column (slots_of 6 size six) t) j 0
slot_byte size six j t n inside is =
    ap (λ m. get_or (take m (drop (j * size) six)) t 0) is
    ∙ sym (get_or-column (slots_of 6 size six) t j ∙ ap (λ (s : List ℕ). get_or s t 0) (slot_at-slots_of 6 size six j inside))

long_column : (size : ℕ) (six : List ℕ) (t : ℕ) → length (column (slots_of 6 size six) t) ≡ 6
long_column size six t = length-column (slots_of 6 size six) t ∙ length-slots_of 6 size six

pub loop-done-init : goal.loop-done-init
loop-done-init c t l =
    let none : get_or c.fill.new.self t 0 ≡ 0 = first_of (search (rules, common_steps), grind (arith, common_steps)) in
    none ∙ sym (horner-none (power 2 c.args.number) 6 (column (slots_of 6 c.args.size c.args.six.now) t) (long_column c.args.size c.args.six.now t))

pub loop-done-preserved : goal.loop-done-preserved
loop-done-preserved c t l =
    let six = c.args.six.now in
    let size = c.args.size in
    let col = column (slots_of 6 size six) t in
    let j = 5 - c.loop-done.done in
    let inside : j < 6 = omega arith in
    let earlier : 6 - c.loop-done.done ≡ j + 1 = omega (arith, c.loop-done-test.true) in
    let wide : j * size + size - j * size ≡ size = omega arith in
    let was : get_or c.loop-done.out t 0 ≡ horner (power 2 c.args.number) (drop (j + 1) col) =
    c.loop-done.invariant t l ∙ ap (λ k. horner (power 2 c.args.number) (drop k col)) earlier in
    let now : get_or c.horner_step.new.sums t 0 ≡ horner (power 2 c.args.number) (drop j col) =
    horner-next (power 2 c.args.number) col j _ _ _ (omega (arith, long_column size six t)) was
    (slot_byte size six j t (j * size + size - j * size) inside wide) (c.horner_step.ensures t (omega arith)) in
    let same : j ≡ 6 - (c.loop-done.done + 1) = omega arith in
    now ∙ ap (λ k. horner (power 2 c.args.number) (drop k col)) same

pub returns-clause-bytes : goal.returns-clause-bytes
returns-clause-bytes c t l =
    let six = c.args.six.now in
    let size = c.args.size in
    let slots = slots_of 6 size six in
    let all : 6 - c.loop-done.done ≡ 0 = omega arith in
    let fits = column_bytes slots t (slots_of_bytes 6 size six c.requires.six (λ i. (c.type_inv.six i).fits)) in
    c.loop-done.invariant t (omega arith)
    ∙ ap (λ k. horner (power 2 c.args.number) (drop k (column slots t))) all
    ∙ sym (parity_is_horner c.args.number (column slots t) fits)

pub returns-clause-slot : goal.returns-clause-slot
returns-clause-slot c =
    let six = slots_of 6 c.args.size c.args.six.now in
    parity_slot-by_bytes c.args.number c.args.size six c.loop-done.out (length-slots_of 6 c.args.size c.args.six.now) (omega arith) (returns-clause-bytes c)
