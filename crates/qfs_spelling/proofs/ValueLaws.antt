-- The small values of records are read back, and what is read was written so.
use Rattle.std.proofs.Common.{refl}
use Rattle.std.specs.Prelude.{nat_le}
use Rattle.qfs_base.specs.Sizes.{MOST_FILE_BYTES}
use Rattle.qfs_model_disks.specs.Values.{copy, file_length, from_one, slot_id}
use Rattle.qfs_record.proofs.ChunkLaws.{block-is_part, slot-is_part}
use Rattle.qfs_record.proofs.PartLaws.{IsPart, number16, number32, pair-is_part, shaped-is_part, such-is_part}

pub from_one-is_part : IsPart from_one
from_one-is_part = such-is_part (nat_le 1) _ number16

pub file_length-is_part : IsPart file_length
file_length-is_part = such-is_part (λ len. nat_le len MOST_FILE_BYTES) _ number32

pub slot_id-is_part : IsPart slot_id
slot_id-is_part = shaped-is_part _ _ _ (λ v. refl) (λ id. refl) (pair-is_part _ _ block-is_part slot-is_part)

pub copy-is_part : IsPart copy
copy-is_part = shaped-is_part _ _ _ (λ v. refl) (λ c. refl) (pair-is_part _ _ from_one-is_part (pair-is_part _ _ number32 number32))
