-- The words that the program is run with.
use Rattle.std.specs.Prelude.{ℕ, ◌^◌, List, [], ◌∷◌, codes, bytes_eq, Option, None, if◌then◌else◌}
use Rattle.qfs_first.specs.Numbers.{number_below}

-- `step N`: the number from which the order of steps is drawn
abbrev pub seed_of : List (List ℕ) → Option ℕ
seed_of (word ∷ number ∷ []) =
    if bytes_eq word (codes "step") then number_below (2 ^ 64) number else None
seed_of _ = None
