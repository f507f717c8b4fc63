-- Where the log of a disk ends.
use Rattle.std.specs.Prelude.{ℕ, zero, suc, ◌+◌, ◌-◌, ◌==◌, List, [], ◌∷◌, length, take, drop, Option, Some, None, if◌then◌else◌}
use Rattle.std.specs.Int.{w64, from_be_bytes}
use Rattle.qfs_model_disks.specs.LogRecord.{log_record_at}
use Rattle.qfs_model_meta.specs.Step.{Logged}

-- the gate behind the record that was read at this offset
unfoldable pub gate_behind : (ℕ → List ℕ → ℕ) → ℕ → List ℕ → Option (Logged × List ℕ) → ℕ
gate_behind next at bytes None = at
gate_behind next at bytes (Some front) = next (at + (length bytes - length front.1)) front.1

-- The offset of the first closed gate of a log from this offset on, or of what isn't in its grammar. The first number is that
-- of the bytes that are left at most.
unfoldable pub gate_from : ℕ → ℕ → List ℕ → ℕ
gate_from most at [] = at
gate_from zero at (gate ∷ bytes) = at
gate_from (suc most) at (gate ∷ bytes) =
    if gate == 1 then gate_behind (gate_from most) (at + 1) bytes (log_record_at bytes) else at

-- how many bytes the image on a disk has
abbrev pub image_size : List ℕ → ℕ
image_size disk = from_be_bytes w64 (take 8 (drop 9 disk))

-- the offset of the first closed gate of the log on a disk
unfoldable pub gate_of : List ℕ → ℕ
gate_of disk = gate_from (length disk) (17 + image_size disk) (drop (17 + image_size disk) disk)
