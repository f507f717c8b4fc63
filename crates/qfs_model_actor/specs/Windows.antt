-- Where the bytes of a window stand in their file, and which of them a range takes.
use Rattle.std.specs.Prelude.{ℕ, ◌+◌, ◌-◌, ◌*◌, List, max, drop, take}
use Rattle.qfs_base.specs.Layout.{row_bytes, block_bytes}
use Rattle.qfs_base.specs.Shape.{Shape}
use Rattle.qfs_base.specs.declared.layout.Window.{Window}

-- which byte of the file a window begins with
unfoldable pub window_offset : Shape → Window → ℕ
window_offset layout w = w.index * block_bytes layout.s layout.r + w.first_row * row_bytes layout.s

-- of bytes that begin at `start` of a file, those from `from` up to `to`
unfoldable pub cut_to_range : ℕ → ℕ → ℕ → List ℕ → List ℕ
cut_to_range from to start bytes = take (to - max from start) (drop (from - start) bytes)
