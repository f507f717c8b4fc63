-- The bytes of a block's slots are bytes. For the law `slots_of_blocks_are_code_words`.
use Rattle.std.proofs.Common.{ℕ, ◌+◌, ◌*◌, ◌<◌, Bool, true, false, List, [], ◌∷◌, map, lit<, All}
use Rattle.std.specs.Prelude.{nat_lt}
use Rattle.std.proofs.lemmas.Nat.{xor_lt}
use Rattle.qfs_base.specs.Layout.{offset_of}
use Rattle.qfs_base.specs.Shape.{Shape}
use Rattle.qfs_base.specs.Sizes.{DATA_SLOTS}
use Rattle.qfs_code.proofs.Encoding.{byte_at}
use Rattle.qfs_galois.specs.Field.{product, power}
use Rattle.qfs_galois.proofs.FieldLaws.{power-lt, product-lt}
use Rattle.qfs_model_slot.specs.CodeWord.{data_slots, weighted_sum, parity}
use Rattle.qfs_model_slot.specs.Slot.{data_byte, data_bytes, byte_of_kind, slot_byte}

-- a weighted sum of bytes is a byte
sum_lt : (f : ℕ → ℕ) → ((j : ℕ) → f j < 256) → (e i : ℕ) (js : List ℕ) → weighted_sum e i (map f js) < 256
unfolding weighted_sum
sum_lt f fits e i [] = lit< tt
sum_lt f fits e i (j ∷ js) =
    xor_lt 8 (product (power 2 (e * i)) (f j)) (weighted_sum e (i + 1) (map f js))
    (product-lt (power 2 (e * i)) (f j) (power-lt (e * i)) (fits j))
    (sum_lt f fits e (i + 1) js)

module _ (layout : Shape) (bytes : List ℕ) (k a : ℕ) (each : All (λ byte. byte < 256) bytes) where
  data_lt : (j : ℕ) → data_byte layout bytes k j a < 256
  unfolding data_byte
  data_lt j = byte_at bytes (offset_of layout.s layout.r k j a) each

  parity_lt : (e : ℕ) → parity e (data_bytes layout bytes k a) < 256
  unfolding parity data_bytes
  parity_lt e = sum_lt (λ j. data_byte layout bytes k j a) data_lt e 0 data_slots

  kind_lt : (j : ℕ) (kind : Bool) → byte_of_kind layout bytes k j a kind < 256
  unfolding byte_of_kind
  kind_lt j true = data_lt j
  kind_lt j false = parity_lt _

  pub slot_byte_lt : (j : ℕ) → slot_byte layout bytes k j a < 256
  unfolding slot_byte
  slot_byte_lt j = kind_lt j (nat_lt j DATA_SLOTS)
