-- Time on one disk. The words of a disk are its clock, what a crash now may leave, and what a crash at some moment
-- since a reading of the clock might have left.
use Rattle.std.specs.Prelude.{◌≤◌, ◌⊎◌, ℕ, List}

module _ {D : Type 0} (clock : D → ℕ) (leaves : D → List ℕ → Type 0) (left_since : D → ℕ → List ℕ → Type 0) where
  -- From old the disk came to new. A crash on the way leaves an old image after a step. Since an earlier reading it
  -- might have left what it might have left before, or something on the way, and no less.
  pub record Moves (step : List ℕ → List ℕ → Type 0) (old new : D) : Type 0 where
    pub later : clock old ≤ clock new
    pub during : (c : List ℕ) → left_since new (clock old) c → (d : List ℕ) × leaves old d × step d c
    pub now : (c : List ℕ) → leaves new c → left_since new (clock old) c
    pub since : (t : ℕ) (c : List ℕ) → t ≤ clock old → left_since new t c → left_since old t c ⊎ left_since new (clock old) c
    pub keeps : (t : ℕ) (c : List ℕ) → t ≤ clock old → left_since old t c → left_since new t c
    pub earlier : (t : ℕ) (c : List ℕ) → t ≤ clock old → left_since new (clock old) c → left_since new t c
