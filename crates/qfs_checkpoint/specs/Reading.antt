-- What a reading of a disk's bytes answers.
use Rattle.std.specs.Prelude.{◌≡◌, ◌≤◌, ◌<◌, ℕ, ◌+◌, ⊤, Bool, List, [], ◌∷◌, length, drop, Some, Result, Ok, Err}
use Rattle.qfs_base.specs.declared.image.MetaImage.{MetaImage}
use Rattle.qfs_model_disks.specs.Image.{image}
use Rattle.qfs_model_disks.specs.Spelled.{found_on, found_image, loaded, bad, records_from, with_record}
use Rattle.qfs_model_meta.specs.Step.{Logged}
use Rattle.qfs_checkpoint.specs.Gate.{gate_from, gate_of}
use Rattle.qfs_checkpoint.specs.declared.errors.LoadError.{LoadError}
use Rattle.qfs_checkpoint.specs.declared.errors.LoadError.TheVariants.{Fault, NoMemory, BadLog}
use Rattle.qfs_checkpoint.specs.declared.reading.LogRecords.{LogRecords}
use Rattle.qfs_checkpoint.specs.declared.reading.Checkpoint.{Checkpoint}

-- bytes that are an image, whole
abbrev pub ReadsImage : Bool → List ℕ → Result MetaImage LoadError → Type 0
ReadsImage right bytes (Ok state) = image.read bytes ≡ Some (state, [])
ReadsImage right bytes (Err Fault) = ⊥
ReadsImage right bytes (Err NoMemory) = ⊤
ReadsImage right bytes (Err (BadLog side offset)) =
    (size : ℕ) (disk : List ℕ) → found_image right size disk (image.read bytes) ≡ bad side offset

-- the records of the log from this offset on
abbrev pub ReadsLog : Bool → List ℕ → ℕ → Result LogRecords LoadError → Type 0
ReadsLog right disk start (Ok it) =
    (records_from (length disk) start (drop start disk) ≡ Ok it.records.items) × (gate_from (length disk) start (drop start disk) ≡ it.gate) × (it.gate < length disk)
ReadsLog right disk start (Err Fault) = ⊥
ReadsLog right disk start (Err NoMemory) = ⊤
ReadsLog right disk start (Err (BadLog side offset)) = (side ≡ right) × (records_from (length disk) start (drop start disk) ≡ Err offset)

-- a disk that is a checkpoint: image, records and the gate behind them, or the offset of the first part that is out of its grammar
abbrev pub ReadsDisk : Bool → List ℕ → Result Checkpoint LoadError → Type 0
ReadsDisk right disk (Ok it) =
    (found_on right disk ≡ loaded (record { right = right; image = it.image; records = it.log.records.items })) × (gate_of disk ≡ it.log.gate) × (it.log.gate < length disk)
ReadsDisk right disk (Err Fault) = ⊥
ReadsDisk right disk (Err NoMemory) = ⊤
ReadsDisk right disk (Err (BadLog side offset)) = found_on right disk ≡ bad side offset

-- records before others that were read
abbrev pub with_records : List Logged → Result (List Logged) ℕ → Result (List Logged) ℕ
with_records [] found = found
with_records (one ∷ records) found = with_record one (with_records records found)

-- records were read from one offset on, and the log goes on at another
pub record HasRead (disk : List ℕ) (start at : ℕ) (records : List Logged) : Type 0 where
  pub most : ℕ
  pub enough : length disk ≤ at + most
  pub found : records_from (length disk) start (drop start disk) ≡ with_records records (records_from most at (drop at disk))
  pub gate : gate_from (length disk) start (drop start disk) ≡ gate_from most at (drop at disk)
