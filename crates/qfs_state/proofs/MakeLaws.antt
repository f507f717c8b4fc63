-- What is left to make, and the room for it, once the first of several changes is made.
use Rattle.std.proofs.Common.{◌≡◌, ◌∙◌, ap, arith, sym, subst, List, [], ◌∷◌}
use Rattle.std.proofs.lemmas.Bool.Decides.{nat_tests}
use Rattle.std.specs.Prelude.{IsTrue}
use Rattle.qfs_base.specs.declared.image.MetaImage.{MetaImage}
use Rattle.qfs_model_meta.specs.Apply.{apply, apply_all}
use Rattle.qfs_model_meta.specs.Counters.{counters_fit}
use Rattle.qfs_model_meta.specs.Decision.{Decision}
use Rattle.qfs_model_meta.specs.Step.{carry_out, next_turn, take_step}
use Rattle.qfs_state.specs.declared.prepared.Plan.{Plan}
use Rattle.qfs_state.specs.declared.prepared.Prepared.{Prepared}
use Rattle.qfs_state.specs.Held.{Held, Room}
use Rattle.qfs_state.specs.Planning.{IsPlan, MayMakeAll, change_of, changes_of}
use Rattle.qfs_state.specs.Rooms.{HasRoom, TakesRoom, add_room, needs, needs_all, no_room}

-- the room for later changes is there still
room_left : (need more : Room) (old new : Held) → HasRoom (add_room need more) old
    → TakesRoom need old new → HasRoom more new
room_left need more old new has takes = record {
  names = omega (arith, has.names, takes.names);
  entries = omega (arith, has.entries, takes.entries);
  slots = omega (arith, has.slots, takes.slots);
  condemned = omega (arith, has.condemned, takes.condemned);
  leases = omega (arith, has.leases, takes.leases);
  dropped = omega (arith, has.dropped, takes.dropped);
  file_numbers = omega (arith, has.file_numbers, takes.file_numbers);
  lease_numbers = omega (arith, has.lease_numbers, takes.lease_numbers);
  condemned_numbers = omega (arith, has.condemned_numbers, takes.condemned_numbers);
  places = omega (arith, has.places, takes.places);
}

-- the room of the first change is part of that of all
room_first : (need more : Room) (held : Held) → HasRoom (add_room need more) held
    → HasRoom need held
room_first need more held has = record {
  names = omega (arith, has.names);
  entries = omega (arith, has.entries);
  slots = omega (arith, has.slots);
  condemned = omega (arith, has.condemned);
  leases = omega (arith, has.leases);
  dropped = omega (arith, has.dropped);
  file_numbers = omega (arith, has.file_numbers);
  lease_numbers = omega (arith, has.lease_numbers);
  condemned_numbers = omega (arith, has.condemned_numbers);
  places = omega (arith, has.places);
}

-- where all room is used up, no number is too high
numbers_fit : (held : Held) → HasRoom no_room held → IsTrue (counters_fit held.image)
unfolding counters_fit
numbers_fit held has =
    let files = has.file_numbers in
    let leases = has.lease_numbers in
    let condemned = has.condemned_numbers in
    let places = has.places in
    grind (arith, nat_tests)

-- these changes are left: they may be made, have room, and lead to a last state
pub record AreLeft (changes : List Prepared) (held : Held) (last : MetaImage) : Type 0 where
  pub lead : apply_all (changes_of changes) held.image ≡ last
  pub may : MayMakeAll held.image changes
  pub room : HasRoom (needs_all changes) held

module _ (change : Prepared) (later : List Prepared) (old : Held) (last : MetaImage)
    (left : AreLeft (change ∷ later) old last) where
  pub first_has_room : HasRoom (needs change) old
  first_has_room = room_first (needs change) (needs_all later) old left.room

  -- the first of them is made
  pub made_first : (new : Held) → new.image ≡ apply old.image (change_of change)
      → TakesRoom (needs change) old new → AreLeft later new last
  unfolding apply_all
  made_first new made took = record {
    lead = ap (apply_all (changes_of later)) made ∙ left.lead;
    may = subst (λ image. MayMakeAll image later) (sym made) left.may.1;
    room = room_left (needs change) (needs_all later) old new left.room took;
  }

-- none is left
pub made_all : (held : Held) (last : MetaImage) → AreLeft [] held last
    → (held.image ≡ last) × IsTrue (counters_fit held.image)
unfolding apply_all
made_all held last left = (left.lead, numbers_fit held left.room)

-- what the definition does where it decided as the plan says
pub carried : (m : MetaImage) (decision : Decision) (plan : Plan) → IsPlan m decision plan
    → IsTrue (counters_fit (apply_all (changes_of plan.changes.items) m))
    → carry_out m decision ≡ record {
      meta = next_turn (apply_all (changes_of plan.changes.items) m);
      reply = plan.reply;
    }
unfolding carry_out take_step
carried m decision plan is fit =
    let next : MetaImage = apply_all (changes_of plan.changes.items) m in
    ap (carry_out m) is.decided ∙ ap (take_step m next plan.reply) fit
