-- Bytes that are written sixteen at a time, and multiples of bytes by tables of sixteen entries.
use Rattle.std.specs.Prelude.{◌≡◌, ℕ, ◌*◌, ◌<◌, ◌≤◌, List, length, bit_xor, slice_index}
use Rattle.qfs_galois.specs.Field.{product}

-- the sum of two bytes at a place, the sum of one and a multiple of the other, and that of a
-- multiple of one and the other
abbrev pub added : List ℕ → List ℕ → ℕ → ℕ
added was src i = bit_xor (slice_index was i) (slice_index src i)

abbrev pub scaled_sum : ℕ → List ℕ → List ℕ → ℕ → ℕ
scaled_sum c was src i = bit_xor (slice_index was i) (product c (slice_index src i))

abbrev pub stepped : ℕ → List ℕ → List ℕ → ℕ → ℕ
stepped g was part i = bit_xor (product g (slice_index was i)) (slice_index part i)

-- the bytes below `end` are those that are wanted, and the others stand as they were
pub record IsWritten (wanted : ℕ → ℕ) (was now : List ℕ) (end : ℕ) : Type 0 where
  pub below : (i : ℕ) → i < end → slice_index now i ≡ wanted i
  pub above : (i : ℕ) → end ≤ i → slice_index now i ≡ slice_index was i

-- entry j is the product of c and j * step
pub record IsTable (c step : ℕ) (table : List ℕ) : Type 0 where
  pub each : (j : ℕ) → j < 16 → slice_index table j ≡ product c (j * step)

-- each lane is the product of c and the lane of x
pub record IsScaled (c : ℕ) (x lanes : List ℕ) : Type 0 where
  pub count : length lanes ≡ 16
  pub each : (i : ℕ) → i < 16 → slice_index lanes i ≡ product c (slice_index x i)
