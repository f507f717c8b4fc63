-- A get with other room for what its slots give.
use Rattle.std.proofs.Common.{◌≡◌, refl, ap, inl, inr, []}
use Rattle.qfs_reader.specs.Parts.{pieces_of}
use Rattle.qfs_reader.specs.Rest.{rest_from_slot, window_bytes}
use Rattle.qfs_reader.specs.ReaderState.{HasRoomOnceGiven, HasWindowRoom}
use Rattle.qfs_reader.specs.declared.stage.Attempt.{Attempt}
use Rattle.qfs_reader.specs.declared.stage.Get.{Get}
use Rattle.qfs_reader.specs.declared.stage.Position.{Position}

-- the slots that gave their bytes gave these, or none did
pub other_room-rest : (get : Get) (before after : Attempt) (position : Position) → after ≡ record before { nine = after.nine; spare = after.spare }
    → HasRoomOnceGiven get before position → (HasWindowRoom get before position.window → after.nine ≡ before.nine)
    → rest_from_slot get after position position.slot ≡ rest_from_slot get before position position.slot
unfolding rest_from_slot pieces_of
other_room-rest get before after position other room there =
    elim room [
      | inl none ↦ rw (other, none) refl
      | inr here ↦ rw (other, there here) refl
    ]
