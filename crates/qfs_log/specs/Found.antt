-- What the bytes of two disks spell: an image and the bodies of the records behind it, as bytes. Images and bodies are told
-- from other bytes by the grammars of images and of log records.
use Rattle.std.specs.Prelude.{◌<◌, ◌^◌, ℕ, zero, suc, ◌+◌, ◌==◌, ◌&&◌, nat_lt, nat_le, Bool, true, false, IsTrue, List, [], ◌∷◌, ◌++◌, length, take, drop, Option, Some, None, Result, Ok, Err, if◌then◌else◌}
use Rattle.std.specs.List.{AllByRecursion}
use Rattle.std.specs.Int.{w32, w64, to_be_bytes, from_be_bytes}
use Rattle.qfs_model_disks.specs.Image.{image}
use Rattle.qfs_model_disks.specs.LogRecord.{log_body}

-- a value was read, and no byte is left over
unfoldable pub is_whole : {A : Type 0} → Option (A × List ℕ) → Bool
is_whole None = false
is_whole (Some (value, [])) = true
is_whole (Some (value, byte ∷ bytes)) = false

unfoldable pub is_image : List ℕ → Bool
is_image bytes = is_whole (image.read bytes)

unfoldable pub is_body : List ℕ → Bool
is_body bytes = is_whole (log_body.read bytes)

-- an image, and the bodies of the records behind it
pub record Content : Type 0 where
  pub image : List ℕ
  pub bodies : List (List ℕ)

abbrev pub with_body : Content → List ℕ → Content
with_body content body = record content { bodies = content.bodies ++ body ∷ [] }

abbrev pub new_content : List ℕ → Content
new_content image = record { image = image; bodies = [] }

pub data Found : Type 0 where
  nothing : Found
  loaded : Content → Found
  bad : (offset : ℕ) → Found

-- ---- spelling

abbrev pub record_text : List ℕ → List ℕ
record_text body = to_be_bytes w32 (length body) ++ body

abbrev pub log_text : List (List ℕ) → List ℕ
log_text [] = []
log_text (body ∷ bodies) = 1 ∷ (record_text body ++ log_text bodies)

-- epoch, length and image
abbrev pub checkpoint_text : ℕ → List ℕ → List ℕ
checkpoint_text epoch image = to_be_bytes w64 epoch ++ (to_be_bytes w64 (length image) ++ image)

-- what stands before the closed gate of a log
abbrev pub front_text : ℕ → Content → List ℕ
front_text epoch content = 1 ∷ (checkpoint_text epoch content.image ++ log_text content.bodies)

pub record FitsRecord (body : List ℕ) : Type 0 where
  pub is : IsTrue (is_body body)
  pub size : length body < 2 ^ 32

pub record FitsImage (image : List ℕ) : Type 0 where
  pub is : IsTrue (is_image image)
  pub size : length image < 2 ^ 64

-- what has a spelling
pub record FitsLog (number : ℕ) (content : Content) : Type 0 where
  pub epoch : number < 2 ^ 64
  pub image : FitsImage content.image
  pub bodies : AllByRecursion FitsRecord content.bodies

-- ---- reading

-- a disk with an open gate before more bytes is a checkpoint
unfoldable pub is_checkpoint : List ℕ → Bool
is_checkpoint [] = false
is_checkpoint (gate ∷ bytes) = gate == 1 && nat_lt 0 (length bytes)

-- its epoch, which stands behind its gate; one that is cut off counts as 0
unfoldable pub epoch_in : List ℕ → ℕ
epoch_in bytes = if nat_lt (length bytes) 8 then 0 else from_be_bytes w64 (take 8 bytes)

abbrev pub epoch_of : List ℕ → ℕ
epoch_of disk = epoch_in (drop 1 disk)

unfoldable pub takes_right : List ℕ → List ℕ → Bool
takes_right left right = is_checkpoint right && (if is_checkpoint left then nat_lt (epoch_of left) (epoch_of right) else true)

unfoldable pub sized_record : ℕ → List ℕ → Option (List ℕ × List ℕ)
sized_record size bytes =
    if nat_lt (length bytes) size then None else (if is_body (take size bytes) then Some (take size bytes, drop size bytes) else None)

-- the record at the front: its body, and the bytes behind it
unfoldable pub read_record : List ℕ → Option (List ℕ × List ℕ)
read_record bytes = if nat_lt (length bytes) 4 then None else sized_record (from_be_bytes w32 (take 4 bytes)) (drop 4 bytes)

unfoldable pub with_record : List ℕ → Result (List (List ℕ)) ℕ → Result (List (List ℕ)) ℕ
with_record one (Ok records) = Ok (one ∷ records)
with_record one (Err offset) = Err offset

unfoldable pub records_behind : (ℕ → List ℕ → Result (List (List ℕ)) ℕ) → ℕ → List ℕ → Option (List ℕ × List ℕ) → Result (List (List ℕ)) ℕ
records_behind next at bytes None = Err at
records_behind next at bytes (Some front) = with_record front.0 (next (at + length (record_text front.0)) front.1)

-- the records from this offset on, up to the first closed gate; the first number is that of the bytes that are left at most
unfoldable pub records_from : ℕ → ℕ → List ℕ → Result (List (List ℕ)) ℕ
records_from most at [] = Err at
records_from zero at (gate ∷ bytes) = Err at
records_from (suc most) at (gate ∷ bytes) = if gate == 1 then records_behind (records_from most) (at + 1) bytes (read_record bytes) else Ok []

unfoldable pub found_log : List ℕ → Result (List (List ℕ)) ℕ → Found
found_log bytes (Ok records) = loaded (record { image = bytes; bodies = records })
found_log bytes (Err offset) = bad offset

-- an image of this size, and the log behind it
unfoldable pub found_sized : ℕ → List ℕ → Found
found_sized size bytes =
    if nat_lt (length bytes) size then bad 17
    else (if is_image (take size bytes) then found_log (take size bytes) (records_from (length bytes) (17 + size) (drop size bytes)) else bad 17)

unfoldable pub found_on : List ℕ → Found
found_on disk =
    if nat_lt (length disk) 9 then bad 1
    else (if nat_lt (length disk) 17 then bad 9 else found_sized (from_be_bytes w64 (take 8 (drop 9 disk))) (drop 17 disk))

unfoldable pub found_in : List ℕ → List ℕ → Found
found_in left right = if takes_right left right then found_on right else (if is_checkpoint left then found_on left else nothing)

-- the same by the disk in use and the other one
abbrev pub found_by : Bool → List ℕ → List ℕ → Found
found_by right current other = if right then found_in other current else found_in current other

-- what stands behind a gate on the other disk loses to an epoch, if it counts at all
unfoldable pub loses : Bool → ℕ → List ℕ → Bool
loses right epoch bytes = if nat_lt 0 (length bytes) then (if right then nat_lt (epoch_in bytes) epoch else nat_le (epoch_in bytes) epoch) else true
