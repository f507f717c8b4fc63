-- A copy of a chunk, and how long the head of its record is.
use Rattle.std.specs.Prelude.{ℕ, ◌==◌, List, if◌then◌else◌}
use Rattle.qfs_base.specs.Sizes.{FIRST_HEAD_BYTES, SECOND_HEAD_BYTES}

-- a copy of a chunk: its form, which is the version of its record and 1 or 2, and its bytes
pub record Chunk : Type 0 where
  pub form : ℕ
  pub bytes : List ℕ

-- the bytes of a chunk record of this form before those of its chunk
unfoldable pub head_bytes : ℕ → ℕ
head_bytes form = if form == 1 then FIRST_HEAD_BYTES else SECOND_HEAD_BYTES
