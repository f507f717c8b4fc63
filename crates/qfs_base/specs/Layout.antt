-- How a file's bytes are dealt over blocks, rows and slots, for stripes of s bytes and chunks of at
-- most r rows. A block holds r rows, a row holds one stripe in each of six data slots, and three
-- parity slots stand beside them.
use Rattle.std.specs.Prelude.{ℕ, ◌+◌, ◌-◌, ◌*◌, ◌/◌, ◌%◌, min, max, map, flat_map, List, [], nat_lt, if◌then◌else◌}
use Rattle.std.specs.Int.{div_ceil}
use Rattle.std.specs.List.{range_with_len}
use Rattle.qfs_base.specs.declared.layout.Spot.{Spot}
use Rattle.qfs_base.specs.declared.layout.Window.{Window}

-- the file bytes of a row: a stripe in each data slot
abbrev pub row_bytes : ℕ → ℕ
row_bytes s = 6 * s

-- the file bytes of a whole block
abbrev pub block_bytes : ℕ → ℕ → ℕ
block_bytes s r = 6 * s * r

-- how many blocks a file of len bytes has
abbrev pub blocks_of : ℕ → ℕ → ℕ → ℕ
blocks_of s r len = div_ceil len (block_bytes s r)

-- how many bytes of a file of len bytes block k holds
abbrev pub bytes_in_block : ℕ → ℕ → ℕ → ℕ → ℕ
bytes_in_block s r len k = min (len - k * block_bytes s r) (block_bytes s r)

-- how many rows the chunks of block k have: enough for its bytes, with zeros at the end of the last
abbrev pub rows_of : ℕ → ℕ → ℕ → ℕ → ℕ
rows_of s r len k = div_ceil (bytes_in_block s r len k) (row_bytes s)

-- where byte o of a file stands: b is its place in its block
abbrev pub place_of : ℕ → ℕ → ℕ → Spot
place_of s r o =
    let b = o % block_bytes s r in
    let row = b / row_bytes s in
    record { index = o / block_bytes s r; row = row; slot = b / s % 6; at = row * s + b % s }

-- which byte of a file stands at byte a of data slot j of block k
abbrev pub offset_of : ℕ → ℕ → ℕ → ℕ → ℕ → ℕ
offset_of s r k j a = k * block_bytes s r + a / s * row_bytes s + j * s + a % s

-- the rows of an aligned group, which are read together
abbrev pub window_rows : ℕ
window_rows = 16

-- what lies in aligned group g of the rows of block k from first up to past
abbrev pub window_at : ℕ → ℕ → ℕ → ℕ → Window
window_at k first past g =
    let low = max first (g * window_rows) in
    let high = min past (g * window_rows + window_rows) in
    record { index = k; first_row = low; rows = high - low }

-- the windows of the rows of block k from first up to past
abbrev pub windows_of_rows : ℕ → ℕ → ℕ → List Window
windows_of_rows k first past =
    let low = first / window_rows in
    map (window_at k first past) (range_with_len low (div_ceil past window_rows - low))

-- the blocks that the bytes from `from` up to `to` touch, of which there is at least one
abbrev pub blocks_touched : ℕ → ℕ → ℕ → ℕ → List ℕ
blocks_touched s r from to =
    let low = from / block_bytes s r in
    range_with_len low (div_ceil to (block_bytes s r) - low)

-- the windows of the rows of block k that these bytes touch
abbrev pub windows_touched : ℕ → ℕ → ℕ → ℕ → ℕ → List Window
windows_touched s r from to k =
    let start = k * block_bytes s r in
    windows_of_rows k ((from - start) / row_bytes s) (div_ceil (min (to - start) (block_bytes s r)) (row_bytes s))

-- the windows of count bytes from the byte `from` on, of a file of len bytes, block by block: of each
-- aligned group of 16 rows that the range touches, the rows from the first to the last that it touches
abbrev pub windows_of : ℕ → ℕ → ℕ → ℕ → ℕ → List Window
windows_of s r len from count =
    let to = min len (from + count) in
    if nat_lt from to then flat_map (windows_touched s r from to) (blocks_touched s r from to) else []
