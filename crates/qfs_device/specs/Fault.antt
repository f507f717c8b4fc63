-- Counts of faults: a device, a source or a sink that answers a failure has more of them.
use Rattle.std.specs.Prelude.{ℕ, ◌≡◌, ◌+◌, ◌<◌, ◌≤◌, ◌⊎◌, Result, Ok, Err, ⊤}
use Rattle.qfs_base.specs.Sizes.{LAST_U64}
use Rattle.qfs_device.specs.declared.errors.DeviceError.{DeviceError}
use Rattle.qfs_device.specs.declared.errors.DeviceError.TheVariants.{Failed, NoMemory}

-- a count rose, or stands at the last value of 64 bits
abbrev pub Rose : ℕ → ℕ → Type 0
Rose old new = (old < new) ⊎ (LAST_U64 ≤ new)

-- a count rose by one, or stays at the last value of 64 bits
abbrev pub RoseOnce : ℕ → ℕ → Type 0
RoseOnce old new = (new ≡ old + 1) ⊎ ((old ≡ LAST_U64) × (new ≡ LAST_U64))

module _ {T : Type 0} where
  -- a failure of a stream comes only where the count rose
  abbrev pub HasCause : ℕ → ℕ → Result T DeviceError → Type 0
  HasCause old new (Ok value) = ⊤
  HasCause old new (Err Failed) = Rose old new
  HasCause old new (Err NoMemory) = ⊤

  -- a call of a device that fails raises the count once, and every other leaves it
  abbrev pub Counts : ℕ → ℕ → Result T DeviceError → Type 0
  Counts old new (Ok value) = new ≡ old
  Counts old new (Err Failed) = RoseOnce old new
  Counts old new (Err NoMemory) = new ≡ old

  -- the answer isn't want of memory
  abbrev pub TakesNoMemory : Result T DeviceError → Type 0
  TakesNoMemory (Ok value) = ⊤
  TakesNoMemory (Err Failed) = ⊤
  TakesNoMemory (Err NoMemory) = ⊥
