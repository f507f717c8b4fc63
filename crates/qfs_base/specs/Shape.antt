-- The shape of a layout, and the range that it lies in.
use Rattle.std.specs.Prelude.{ℕ, ◌≤◌, IsTrue}
use Rattle.std.specs.Int.{is_power_of_two}

-- stripes of s bytes, and chunks of at most r rows
pub record Shape : Type 0 where
  pub s : ℕ
  pub r : ℕ

-- a stripe is a power of two from 16 to 65,536 bytes
abbrev pub IsStripe : ℕ → Type 0
IsStripe s = (16 ≤ s) × (s ≤ 65536) × IsTrue (is_power_of_two s)

-- a chunk has at most 1 to 1,024 rows
abbrev pub IsRowCount : ℕ → Type 0
IsRowCount r = (1 ≤ r) × (r ≤ 1024)
