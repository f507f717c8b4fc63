-- Chunks of small files, worked out by eye.
use Rattle.std.specs.Prelude.{◌≡◌, [], ◌∷◌, ◌++◌, replicate}
use Rattle.qfs_base.specs.Shape.{Shape}
use Rattle.qfs_model_slot.specs.Slot.{slot_of}

-- stripes of 16 bytes and chunks of at most 2 rows
abbrev pub small : Shape
small = record { s = 16; r = 2 }

-- a file of 96 bytes 01: its block has one row, data slots of ones, and parity bytes that are the sums of the first six
-- powers of 1, 2 and 4
pub record OnesAreCoded : Type 0 where
  pub data_slot : slot_of small (replicate 96 1) 0 5 ≡ replicate 16 1
  pub first_parity : slot_of small (replicate 96 1) 0 6 ≡ replicate 16 0
  pub second_parity : slot_of small (replicate 96 1) 0 7 ≡ replicate 16 0x3f
  pub third_parity : slot_of small (replicate 96 1) 0 8 ≡ replicate 16 0x3c

-- a file of 97 bytes 01: the second row has one byte, in slot 0, and so in each parity slot
pub record EndIsFilled : Type 0 where
  pub first_slot : slot_of small (replicate 97 1) 0 0 ≡ replicate 17 1 ++ replicate 15 0
  pub second_slot : slot_of small (replicate 97 1) 0 1 ≡ replicate 16 1 ++ replicate 16 0
  pub first_parity : slot_of small (replicate 97 1) 0 6 ≡ replicate 16 0 ++ 1 ∷ [] ++ replicate 15 0
  pub third_parity : slot_of small (replicate 97 1) 0 8 ≡ replicate 16 0x3c ++ 1 ∷ [] ++ replicate 15 0

-- a file of 193 bytes 07: its second block holds the one byte that is left
pub record NextBlockGoesOn : Type 0 where
  pub first_slot : slot_of small (replicate 193 7) 1 0 ≡ 7 ∷ [] ++ replicate 15 0
  pub third_parity : slot_of small (replicate 193 7) 1 8 ≡ 7 ∷ [] ++ replicate 15 0
