-- What functions promise that read a value off the front of bytes, or put one at their end.
use Rattle.std.specs.Prelude.{ℕ, ◌≡◌, List, ◌++◌, Option}
use Rattle.std.specs.Borrow.{Bor}
use Rattle.std.specs.Int.{w8}
use Rattle.std.specs.Option.{option_map}
use Rattle.qfs_record.specs.Part.{Part, number, pair}

-- the value that was found at the front of bytes, and what follows it
abbrev pub front_of : {A : Type 0} → Option (A × Bor (List ℕ)) → Option (A × List ℕ)
front_of found = option_map (λ front. (front.0, front.1.now)) found

-- what was found is what the part reads there
abbrev pub Finds : {A : Type 0} → Part A → List ℕ → Option (A × Bor (List ℕ)) → Type 0
Finds part bytes found = front_of found ≡ part.read bytes

-- the bytes after others were put at their end
abbrev pub Extends : List ℕ → List ℕ → Type 0
Extends old new = (more : List ℕ) × (new ≡ old ++ more)

-- a part behind the number of its kind
abbrev pub numbered : {A : Type 0} → Part A → Part (ℕ × A)
numbered part = pair (number w8) part
