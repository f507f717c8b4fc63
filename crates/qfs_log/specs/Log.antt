-- How a log stands on its two disks, and what a crash may leave of it.
use Rattle.std.specs.Prelude.{◌≡◌, ◌<◌, ◌^◌, ◌⊎◌, ℕ, ◌+◌, Bool, true, false, IsTrue, List, [], ◌∷◌, ◌++◌, length, Option, Some, None, IfSome, Result, Ok, Err, Vec, if◌then◌else◌}
use Rattle.qfs_device.specs.declared.errors.DeviceError.{DeviceError}
use Rattle.qfs_device.specs.declared.errors.DeviceError.TheVariants.{Failed, NoMemory}
use Rattle.qfs_device.specs.Fault.{RoseOnce}
use Rattle.std.specs.declared.alloc.Global.{Global}
use Rattle.qfs_disk.specs.Disk.{Only}
use Rattle.qfs_log.specs.Gates.{equals, GateWas, HasGate, AtRest}
use Rattle.qfs_log.specs.Found.{Content, with_body, new_content, Found, nothing, loaded, FitsRecord, FitsImage, FitsLog, found_in, record_text, checkpoint_text, front_text, loses}
use Rattle.qfs_log.specs.declared.log.Log.{Log}

abbrev pub Bytes : Type 0
Bytes = Vec ℕ Global

-- behind a gate that may be open stands the record that isn't settled, and a closed gate
abbrev pub tail_test : Option Bytes → List ℕ → Bool
tail_test None = λ rest. false
tail_test (Some body) = equals (record_text body.items ++ 0 ∷ [])

-- on the other disk nothing counts that could win, or the checkpoint that a failed call left
abbrev pub other_test : Bool → ℕ → Option (List ℕ) → List ℕ → Bool
other_test right epoch None = loses right epoch
other_test right epoch (Some image) = equals (checkpoint_text (epoch + 1) image ++ 0 ∷ [])

-- the disk in use
pub record Current (leaves : List ℕ → Type 0) (bytes : List ℕ) (epoch gate : ℕ) (settled tail_due : Bool) (unsettled : Option Bytes) (content : Content) : Type 0 where
  pub fits : FitsLog epoch content
  pub place : length (front_text epoch content) ≡ gate
  pub images : HasGate leaves settled (front_text epoch content) (tail_test unsettled)
  pub rest : tail_due ≡ false → AtRest leaves bytes (front_text epoch content)
  pub body : IfSome unsettled (λ body. FitsRecord body.items)

-- the other disk
pub record Other (leaves : List ℕ → Type 0) (right : Bool) (epoch : ℕ) (settled close_due : Bool) (rival : Option (List ℕ)) : Type 0 where
  pub images : HasGate leaves settled [] (other_test right epoch rival)
  pub due : close_due ≡ false → rival ≡ None
  pub image : IfSome rival FitsImage
  pub room : IfSome rival (λ _. epoch + 1 < 2 ^ 64)

-- a greater epoch is left; the last value of 64 bits stays
abbrev pub HasRoom : ℕ → Type 0
HasRoom epoch = epoch + 1 < 2 ^ 64

module _ {D : Type 0} where
  -- where the log's places lie, on each disk
  pub record Placed (length_of : D → ℕ) (log : Log D) : Type 0 where
    pub fits : log.gate + 1 < 2 ^ 64
    pub inside : log.gate < length_of log.current
    pub other : log.other_settled ≡ true → 0 < length_of log.other
    pub shut : log.unsettled ≡ None → log.settled ≡ true
    pub due : log.tail_due ≡ false → log.unsettled ≡ None

  -- the log has this content, and perhaps a checkpoint that failed on the other disk
  pub record Stands (tells : D → Bool) (leaves : D → List ℕ → Type 0) (bytes : D → List ℕ) (log : Log D) (content : Content) (rival : Option (List ℕ)) : Type 0 where
    pub current_tells : IsTrue (tells log.current)
    pub other_tells : IsTrue (tells log.other)
    pub current : Current (leaves log.current) (bytes log.current) log.epoch log.gate log.settled log.tail_due log.unsettled content
    pub other : Other (leaves log.other) log.right log.epoch log.other_settled log.close_due rival

  -- what a crash may have left of the disk in use, and of the other one, since the log stood so
  abbrev pub CurrentWas : Log D → Content → List ℕ → Type 0
  CurrentWas log content image = GateWas log.settled (front_text log.epoch content) (tail_test log.unsettled) image

  abbrev pub OtherWas : Log D → Option (List ℕ) → List ℕ → Type 0
  OtherWas log rival image = GateWas log.other_settled [] (other_test log.right log.epoch rival) image

-- ---- faults

-- Two counts of faults: a failure raised one of them once, and every other answer none.
abbrev pub CountsBoth : {T : Type 0} → ℕ → ℕ → ℕ → ℕ → Result T DeviceError → Type 0
CountsBoth one one_new two two_new (Ok value) = (one_new ≡ one) × (two_new ≡ two)
CountsBoth one one_new two two_new (Err Failed) = (RoseOnce one one_new × (two_new ≡ two)) ⊎ ((one_new ≡ one) × RoseOnce two two_new)
CountsBoth one one_new two two_new (Err NoMemory) = (one_new ≡ one) × (two_new ≡ two)

-- ---- what a load after a crash may find

abbrev pub IsUnsettled : Content → Option Bytes → Found → Type 0
IsUnsettled content None found = ⊥
IsUnsettled content (Some body) found = found ≡ loaded (with_body content body.items)

abbrev pub IsRival : Option (List ℕ) → Found → Type 0
IsRival None found = ⊥
IsRival (Some image) found = found ≡ loaded (new_content image)

-- the content, or it with the record that isn't settled, or the checkpoint that failed
abbrev pub MayBe : Content → Option Bytes → Option (List ℕ) → Found → Type 0
MayBe content unsettled rival found = (found ≡ loaded content) ⊎ (IsUnsettled content unsettled found ⊎ IsRival rival found)

-- the disk on the left, and the one on the right
module _ {D : Type 0} where
  abbrev pub left_of : Log D → D
  left_of log = if log.right then log.other else log.current

  abbrev pub right_of : Log D → D
  right_of log = if log.right then log.current else log.other

-- ---- before the first checkpoint

-- behind the gate of the left disk stands nothing, or the checkpoint that a failed call left
abbrev pub empty_test : Option (List ℕ) → List ℕ → Bool
empty_test None = equals []
empty_test (Some image) = equals (checkpoint_text 1 image ++ 0 ∷ [])

-- nothing is found, or the checkpoint that failed
abbrev pub MayBeEmpty : Option (List ℕ) → Found → Type 0
MayBeEmpty rival found = (found ≡ nothing) ⊎ IsRival rival found

-- the left disk is in use, and neither is a checkpoint, but for one that failed
pub record Empty {D : Type 0} (tells : D → Bool) (leaves : D → List ℕ → Type 0) (log : Log D) (rival : Option (List ℕ)) : Type 0 where
  pub current_tells : IsTrue (tells log.current)
  pub other_tells : IsTrue (tells log.other)
  pub images : HasGate (leaves log.current) log.settled [] (empty_test rival)
  pub other : Only [] (leaves log.other)
  pub image : IfSome rival FitsImage

-- ---- clauses

module _ {D : Type 0} where
  -- what holds wherever a log stands so
  abbrev pub WhereStands : (D → Bool) → (D → List ℕ → Type 0) → (D → List ℕ) → Log D → (Content → Option (List ℕ) → Type 0) → Type 0
  WhereStands tells leaves bytes log Holds = (content : Content) (rival : Option (List ℕ)) → Stands tells leaves bytes log content rival → Holds content rival

  -- and wherever no checkpoint was made yet
  abbrev pub WhereEmpty : (D → Bool) → (D → List ℕ → Type 0) → Log D → (Option (List ℕ) → Type 0) → Type 0
  WhereEmpty tells leaves log Holds = (rival : Option (List ℕ)) → Empty tells leaves log rival → Holds rival

  -- what is found after a crash at any moments on the way from a log to another; those of the two disks may differ
  abbrev pub AtAnyMoment : (D → ℕ) → (D → ℕ → List ℕ → Type 0) → Log D → Log D → (Found → Type 0) → Type 0
  AtAnyMoment clock left_since old new Finds =
      (l r : List ℕ) → left_since (left_of new) (clock (left_of old)) l → left_since (right_of new) (clock (right_of old)) r → Finds (found_in l r)
