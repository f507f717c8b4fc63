-- What is left in a source, and what was written to a sink.
use Rattle.std.specs.Prelude.{ℕ, ◌≡◌, List, [], ◌++◌, Option, IfSome}
use Rattle.std.specs.Option.{option_map}

-- bytes were taken: what was left is these bytes and what is left now
abbrev pub Gives : List ℕ → Option (List ℕ) → Option (List ℕ) → Type 0
Gives bytes old new = old ≡ option_map (λ rest. bytes ++ rest) new

-- nothing is left, where that is told
abbrev pub IsAtEnd : Option (List ℕ) → Type 0
IsAtEnd left = IfSome left (λ rest. rest ≡ [])

-- bytes were written: they stand behind what was written before
abbrev pub Appends : List ℕ → Option (List ℕ) → Option (List ℕ) → Type 0
Appends bytes old new = new ≡ option_map (λ before. before ++ bytes) old
