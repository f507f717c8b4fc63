use Rattle.std.proofs.Common.{ℕ, ◌*◌, ◌∷◌, [], List, ap, ap₂, sym, ◌∙◌}
use Rattle.qfs_galois.specs.Field.{power}
use Rattle.qfs_code.proofs.Counts.{counts_of-data}
use Rattle.qfs_code.proofs.equation.counts_of.Goals as goal

pub returns-then-slot-lt-DATA_SLOTS : goal.returns-then-slot-lt-DATA_SLOTS
returns-then-slot-lt-DATA_SLOTS c =
    let once = c.pow2.ensures ∙ ap (power 2) c.from.ensures in
    let twice = c.pow2-then-slot-lt-DATA_SLOTS.ensures ∙ ap (λ i. power 2 (2 * i)) c.from-then-slot-lt-DATA_SLOTS.ensures in
    let P : ℕ → ℕ → List ℕ = λ x y. 1 ∷ x ∷ y ∷ [] in
    ap₂ P once twice ∙ sym (counts_of-data c.args.slot c.if-slot-lt-DATA_SLOTS.true)
