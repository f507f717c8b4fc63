-- What an answer unfolds to compute chunks on literals.
use Rattle.std.specs.Prelude.{⊤}
use Rattle.qfs_galois.specs.Field.{polynomial_product, remainder, product, power}
use Rattle.qfs_model_slot.specs.CodeWord.{weighted_sum, parity}
use Rattle.qfs_model_slot.specs.Slot.{data_byte, data_bytes, byte_of_kind, slot_byte, slot_of}

unfoldable pub chunks_on_literals : ⊤
unfolding polynomial_product remainder product power weighted_sum parity data_byte data_bytes byte_of_kind slot_byte slot_of
chunks_on_literals = tt
