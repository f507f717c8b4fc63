-- Bytes that are written one after another.
use Rattle.std.proofs.Common.{◌≡◌, ◌≢◌, ℕ, ◌+◌, ◌<◌, List, length, get_or, set, arith, below_more, get_or-set_other, get_or-set_same, ◌∙◌}

-- one byte more is as a function tells
pub one_more : (f : ℕ → ℕ) (now : List ℕ) (i value : ℕ) → i < length now → value ≡ f i → ((k : ℕ) → k < i → get_or now k 0 ≡ f k)
    → (k : ℕ) → k < i + 1 → get_or (set now i value) k 0 ≡ f k
one_more f now i value inside this before =
    below_more (λ k. get_or (set now i value) k 0 ≡ f k) i
    (λ k l. let other : k ≢ i = omega arith in rw get_or-set_other (before k l))
    (get_or-set_same now i value 0 inside ∙ this)
