-- What two disks spell: the metaserver that a load of them gives. One function finds the newest disk, its image and the
-- records of its log, or where it is bad; loading, reloading and shipping a log all find what it finds.
use Rattle.std.specs.Prelude.{ℕ, zero, suc, ◌+◌, ◌-◌, ◌==◌, ◌&&◌, nat_lt, nat_le, Bool, true, false, List, [], ◌∷◌, length, take, drop, fold, Option, Some, None, Result, Ok, Err, if◌then◌else◌}
use Rattle.std.specs.Int.{w64, from_be_bytes}
use Rattle.qfs_base.specs.declared.history.Outcome.TheVariants as Ended
use Rattle.qfs_base.specs.declared.image.MetaImage.{MetaImage}
use Rattle.qfs_base.specs.declared.rules.Rules.{Rules}
use Rattle.qfs_model_disks.specs.Image.{image}
use Rattle.qfs_model_disks.specs.LogRecord.{log_record_at}
use Rattle.qfs_model_meta.specs.Step.{Logged, opening, meta_step}

-- ---- which disk counts

-- a disk with an open gate before more bytes is a checkpoint
unfoldable pub is_checkpoint : List ℕ → Bool
is_checkpoint [] = false
is_checkpoint (gate ∷ bytes) = gate == 1 && nat_lt 0 (length bytes)

-- its epoch; one that is cut off counts as 0
unfoldable pub epoch_of : List ℕ → ℕ
epoch_of disk = if nat_le 9 (length disk) then from_be_bytes w64 (take 8 (drop 1 disk)) else 0

-- whether the right disk is the newest of the two
unfoldable pub takes_right : List ℕ → List ℕ → Bool
takes_right left right =
    is_checkpoint right && (if is_checkpoint left then nat_lt (epoch_of left) (epoch_of right) else true)

-- ---- what stands on it

-- what the disk with the newest checkpoint has: on which side it is, its image, and the records behind it
pub record Loaded : Type 0 where
  pub right : Bool
  pub image : MetaImage
  pub records : List Logged

-- what a load of the disks finds: no checkpoint, one with its records, or a part out of its grammar at an offset of a disk
pub data Found : Type 0 where
  nothing : Found
  loaded : Loaded → Found
  bad : (right : Bool) → (offset : ℕ) → Found

-- a record was read behind an open gate, and these records behind it
unfoldable pub with_record : Logged → Result (List Logged) ℕ → Result (List Logged) ℕ
with_record one (Ok records) = Ok (one ∷ records)
with_record one (Err offset) = Err offset

-- the record that was read at this offset, and the next ones
unfoldable pub records_behind : (ℕ → List ℕ → Result (List Logged) ℕ) → ℕ → List ℕ → Option (Logged × List ℕ) → Result (List Logged) ℕ
records_behind next at bytes None = Err at
records_behind next at bytes (Some front) =
    with_record front.0 (next (at + (length bytes - length front.1)) front.1)

-- the records of a log from this offset on, up to its first closed gate, or the offset of what isn't in the grammar. The first
-- number is that of the bytes that are left at most
unfoldable pub records_from : ℕ → ℕ → List ℕ → Result (List Logged) ℕ
records_from most at [] = Err at
records_from zero at (gate ∷ bytes) = Err at
records_from (suc most) at (gate ∷ bytes) =
    if gate == 1 then records_behind (records_from most) (at + 1) bytes (log_record_at bytes) else Ok []

-- the log behind an image
unfoldable pub found_log : Bool → MetaImage → Result (List Logged) ℕ → Found
found_log right state (Ok records) = loaded (record { right = right; image = state; records = records })
found_log right state (Err offset) = bad right offset

-- the image takes all of its bytes, which begin at offset 17; the log stands behind them
unfoldable pub found_image : Bool → ℕ → List ℕ → Option (MetaImage × List ℕ) → Found
found_image right size disk None = bad right 17
found_image right size disk (Some (state, [])) =
    found_log right state (records_from (length disk) (17 + size) (drop (17 + size) disk))
found_image right size disk (Some (state, byte ∷ bytes)) = bad right 17

-- gate, epoch, length of the image, image and log of a disk that is a checkpoint
unfoldable pub found_on : Bool → List ℕ → Found
found_on right disk =
    let size : ℕ = from_be_bytes w64 (take 8 (drop 9 disk)) in
    if nat_lt (length disk) 9 then bad right 1
    else if nat_lt (length disk) 17 then bad right 9
    else if nat_lt (length disk) (17 + size) then bad right 17
    else found_image right size disk (image.read (take size (drop 17 disk)))

-- what a load of two disks with these bytes finds
unfoldable pub found_in : List ℕ → List ℕ → Found
found_in left right =
    if takes_right left right then found_on true right
    else if is_checkpoint left then found_on false left
    else nothing

-- ---- the metaserver

-- the metaserver after the requests of a log; one that is refused, or whose numbers are out of range, changes nothing
unfoldable pub after_record : Rules → MetaImage → Logged → MetaImage
after_record rules m one = (meta_step rules one.0 one.1 Ended.Done m).meta

unfoldable pub spelled_by : Rules → ℕ → Found → Option MetaImage
spelled_by rules servers nothing = Some (opening servers)
spelled_by rules servers (loaded found) = Some (fold (after_record rules) found.image found.records)
spelled_by rules servers (bad right offset) = None

-- what two disks with these bytes spell, by the rules of a script and for its number of servers
unfoldable pub spelled : Rules → ℕ → List ℕ → List ℕ → Option MetaImage
spelled rules servers left right = spelled_by rules servers (found_in left right)
