-- What a content in bytes spells: the image and the requests that a load of the disks gives.
use Rattle.std.specs.Prelude.{◌≡◌, ℕ, Bool, ⊤, List, [], ◌∷◌, Some}
use Rattle.qfs_base.specs.declared.image.MetaImage.{MetaImage}
use Rattle.qfs_model_disks.specs.Image as Images
use Rattle.qfs_model_disks.specs.LogRecord.{log_body}
use Rattle.qfs_model_disks.specs.Spelled as Model
use Rattle.qfs_model_meta.specs.Step.{Logged}
use Rattle.qfs_record.specs.Part.{Part}
use Rattle.qfs_log.specs.Found.{Content, nothing, loaded, found_in}

-- the bytes spell the value, and none is left over
abbrev pub IsText : {A : Type 0} → Part A → List ℕ → A → Type 0
IsText part bytes value = part.read bytes ≡ Some (value, [])

-- bodies of records, and the requests that they spell
abbrev pub AreRecords : List (List ℕ) → List Logged → Type 0
AreRecords [] [] = ⊤
AreRecords [] (one ∷ records) = ⊥
AreRecords (body ∷ bodies) [] = ⊥
AreRecords (body ∷ bodies) (one ∷ records) = IsText log_body body one × AreRecords bodies records

-- a load finds what the content spells
pub record Spells (content : Content) (disks : Model.Found) : Type 0 where
  pub right : Bool
  pub state : MetaImage
  pub records : List Logged
  pub image : IsText Images.image content.image state
  pub bodies : AreRecords content.bodies records
  pub found : disks ≡ Model.loaded (record { right = right; image = state; records = records })

-- whatever two disks have, what is found in bytes is what a load finds
pub record AreSpelled (left right : List ℕ) : Type 0 where
  pub loaded : (content : Content) → found_in left right ≡ loaded content → Spells content (Model.found_in left right)
  pub nothing : found_in left right ≡ nothing → Model.found_in left right ≡ Model.nothing
