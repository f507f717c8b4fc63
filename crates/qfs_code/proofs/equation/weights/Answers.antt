use Rattle.std.proofs.Common.{◌≡◌, ◌≢◌, ℕ, ◌+◌, ◌<◌, List, length, get_or, set, refl, ap, ◌∙◌, arith, below_more, length-set, get_or-set_other, get_or-set_same}
use Rattle.std.proofs.lemmas.List.FromFn.{fill_by_all}
use Rattle.qfs_model_slot.specs.Restored.{equation, weight, weights, weights_by}
use Rattle.qfs_code.proofs.equation.weights.Goals as goal

-- one weight more
next_weight : (xs : List ℕ) (f : ℕ → ℕ) (i y : ℕ) → i < length xs → y ≡ f i
    → ((k : ℕ) → k < i → get_or xs k 0 ≡ f k) → (k : ℕ) → k < i + 1 → get_or (set xs i y) k 0 ≡ f k
next_weight xs f i y inside this before =
    below_more (λ k. get_or (set xs i y) k 0 ≡ f k) i
    (λ k l. let other : k ≢ i = omega arith in rw get_or-set_other (before k l))
    (get_or-set_same xs i y 0 inside ∙ this)

pub loop-slot-init : goal.loop-slot-init
loop-slot-init c = (refl, λ k l. absurd (omega arith))

pub loop-slot-preserved : goal.loop-slot-preserved
loop-slot-preserved c =
    let have = c.args.have in
    let f = weight have (equation have c.args.want) in
    let this = c.weight.ensures ∙ ap (λ e. weight have e c.loop-slot.slot) c.equation-equation.ensures in (
      omega (arith, length-set c.loop-slot.weights c.loop-slot.slot c.weight.result, c.loop-slot.invariant.0),
      next_weight c.loop-slot.weights f c.loop-slot.slot c.weight.result (omega (arith, c.loop-slot.invariant.0)) this c.loop-slot.invariant.1,
    )

pub returns : goal.returns
unfolding weights weights_by
returns c =
    let have = c.args.have in
    fill_by_all (weight have (equation have c.args.want)) c.loop-slot.weights 9 0 c.loop-slot.invariant.0
    (λ k l. c.loop-slot.invariant.1 k (omega arith))
