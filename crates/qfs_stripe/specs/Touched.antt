-- Which blocks and rows a range of bytes touches, and the order of the windows that cover them.
use Rattle.std.specs.Prelude.{◌≡◌, ℕ, ◌+◌, ◌-◌, ◌*◌, ◌/◌, ◌<◌, ◌≤◌, List, [], ◌∷◌, ⊤, nat_lt, if◌then◌else◌, flat_map}
use Rattle.qfs_base.specs.Layout.{block_bytes, row_bytes, rows_of, offset_of, blocks_touched, windows_touched}
use Rattle.qfs_base.specs.Sizes.{WINDOW_ROWS}
use Rattle.qfs_base.specs.declared.layout.Spot.{Spot}
use Rattle.qfs_base.specs.declared.layout.Window.{Window}

-- which byte of a file stands at a spot
abbrev pub offset_at : ℕ → ℕ → Spot → ℕ
offset_at s r spot = offset_of s r spot.index spot.slot spot.at

-- the spot of byte a of data slot j of block k
abbrev pub spot_at : ℕ → ℕ → ℕ → ℕ → Spot
spot_at s k j a = record { index = k; row = a / s; slot = j; at = a }

-- the bytes from `from` up to `to`, of which there are some, touch block k
pub record IsTouched (s r from to k : ℕ) : Type 0 where
  pub some : from < to
  pub starts : k * block_bytes s r < to
  pub ends : from < k * block_bytes s r + block_bytes s r

-- they touch each block from `first` up to `past`
abbrev pub AreTouched : ℕ → ℕ → ℕ → ℕ → ℕ → ℕ → Type 0
AreTouched s r from to first past = (k : ℕ) → first ≤ k → k < past → IsTouched s r from to k

-- the first row of block k that they touch, and the first one past those that they touch
abbrev pub first_touched : ℕ → ℕ → ℕ → ℕ → ℕ
first_touched s r from k = (from - k * block_bytes s r) / row_bytes s

abbrev pub past_touched : ℕ → ℕ → ℕ → ℕ → ℕ
past_touched s r to k = rows_of s r to k

-- a window of block k whose rows are among those from `row` up to r
pub record IsWindowBehind (k row r : ℕ) (w : Window) : Type 0 where
  pub index : w.index ≡ k
  pub behind : row ≤ w.first_row
  pub some : 0 < w.rows
  pub few : w.rows ≤ WINDOW_ROWS
  pub within : w.first_row + w.rows ≤ r

-- windows of block k, each behind the one before, of the rows from `row` up to r
abbrev pub AreInOrder : ℕ → ℕ → ℕ → List Window → Type 0
AreInOrder k row r [] = ⊤
AreInOrder k row r (w ∷ ws) = IsWindowBehind k row r w × AreInOrder k (w.first_row + w.rows) r ws

-- the windows of the bytes from `from` up to `to`, block by block
abbrev pub windows_between : ℕ → ℕ → ℕ → ℕ → List Window
windows_between s r from to =
    if nat_lt from to then flat_map (windows_touched s r from to) (blocks_touched s r from to) else []
