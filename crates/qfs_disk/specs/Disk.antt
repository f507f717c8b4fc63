-- What the calls of a disk do to its bytes, and how far a crash may undo or spoil that.
use Rattle.std.specs.Prelude.{◌≡◌, ◌<◌, ◌≤◌, ◌⊎◌, ℕ, ◌+◌, min, max, List, ◌++◌, length, take, drop, get_or, Result, Ok, Err, ⊤}
use Rattle.qfs_device.specs.declared.errors.DeviceError.{DeviceError}
use Rattle.qfs_device.specs.declared.errors.DeviceError.TheVariants.{Failed, NoMemory}

-- these bytes at this offset, over what is there and past the end
abbrev pub written : ℕ → List ℕ → List ℕ → List ℕ
written at bytes old = take at old ++ bytes ++ drop (at + length bytes) old

-- n bytes from this offset on may be any, and so may what is past the old end; every other byte stays
pub record Torn (at n : ℕ) (old new : List ℕ) : Type 0 where
  pub no_shorter : length old ≤ length new
  pub no_longer : length new ≤ max (length old) (at + n)
  pub outside : (i : ℕ) → i < length old → (i < at) ⊎ (at + n ≤ i) → get_or new i 0 ≡ get_or old i 0

-- a length from n to the old one; what is past n may be any bytes
pub record CutShort (n : ℕ) (old new : List ℕ) : Type 0 where
  pub no_shorter : min n (length old) ≤ length new
  pub no_longer : length new ≤ length old
  pub front : (i : ℕ) → i < n → i < length new → get_or new i 0 ≡ get_or old i 0

abbrev pub Same : List ℕ → List ℕ → Type 0
Same old new = new ≡ old

-- a crash leaves this and nothing else
abbrev pub Only : List ℕ → (List ℕ → Type 0) → Type 0
Only file leaves = (c : List ℕ) → leaves c → c ≡ file

module _ {T : Type 0} where
  -- what a crash may make of an image during a call that does this to it, where the call had memory
  abbrev pub Spoils : (List ℕ → List ℕ → Type 0) → Result T DeviceError → List ℕ → List ℕ → Type 0
  Spoils step (Ok value) = step
  Spoils step (Err Failed) = step
  Spoils step (Err NoMemory) = Same

  -- the bytes after a write
  abbrev pub Writes : ℕ → List ℕ → List ℕ → List ℕ → Result T DeviceError → Type 0
  Writes at bytes old new (Ok value) = new ≡ written at bytes old
  Writes at bytes old new (Err Failed) = Torn at (length bytes) old new
  Writes at bytes old new (Err NoMemory) = new ≡ old

  -- the bytes after a cut
  abbrev pub Cuts : ℕ → List ℕ → List ℕ → Result T DeviceError → Type 0
  Cuts n old new (Ok value) = new ≡ take n old
  Cuts n old new (Err Failed) = (new ≡ old) ⊎ (new ≡ take n old)
  Cuts n old new (Err NoMemory) = new ≡ old

  -- the length after a write, which is told by each disk
  abbrev pub WritesLength : ℕ → ℕ → ℕ → ℕ → Result T DeviceError → Type 0
  WritesLength at n old new (Ok value) = new ≡ max old (at + n)
  WritesLength at n old new (Err Failed) = (old ≤ new) × (new ≤ max old (at + n))
  WritesLength at n old new (Err NoMemory) = new ≡ old

  abbrev pub CutsLength : ℕ → ℕ → ℕ → Result T DeviceError → Type 0
  CutsLength n old new (Ok value) = new ≡ n
  CutsLength n old new (Err Failed) = (new ≡ old) ⊎ (new ≡ n)
  CutsLength n old new (Err NoMemory) = new ≡ old

  -- what a call without memory leaves as it was
  abbrev pub WithoutMemory : Result T DeviceError → Type 0 → Type 0
  WithoutMemory (Ok value) Stays = ⊤
  WithoutMemory (Err Failed) Stays = ⊤
  WithoutMemory (Err NoMemory) Stays = Stays

-- all that a crash might have left it may leave
abbrev pub AllOf : (List ℕ → Type 0) → (List ℕ → Type 0) → Type 0
AllOf old new = (c : List ℕ) → old c → new c
