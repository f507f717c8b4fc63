-- The move that makes the loads more even, by the two servers between which it goes. Cited by
-- whoever serves it by a census.
use Rattle.std.proofs.Common.{◌≡◌, ℕ, ◌+◌, true, false, [], find, Option, Some, None, refl}
use Rattle.std.specs.Bool.{then_some}
use Rattle.std.specs.List.{reduce}
use Rattle.std.specs.Prelude.{nat_le}
use Rattle.qfs_base.specs.declared.image.MetaImage.{MetaImage}
use Rattle.qfs_base.specs.declared.reply.MetaReply.TheVariants as Told
use Rattle.qfs_base.specs.Shape.{Shape}
use Rattle.qfs_model_meta.specs.Decision.{Decision, need, unless}
use Rattle.qfs_model_meta.specs.MoveRequests.{move_slot, fits_move, even_out, give_to_lightest, decide_balance}
use Rattle.qfs_model_meta.specs.Placing.{Numbered, census, open_servers, lighter, heavier}
use Rattle.qfs_place.specs.Choosing.{shift_from, uneven}
use Rattle.qfs_place.specs.declared.choosing.Shift.{Shift}

-- the first slot's copy that fits moves from the one server to the other
abbrev pub shift_copy : Shape → ℕ → ℕ → MetaImage → Shift → Decision
shift_copy layout term actor m shift =
    need Told.Nothing (move_slot layout term actor shift.taker m)
    (find (fits_move layout shift.giver shift.taker m) m.slots)

shift_decides : (layout : Shape) (term actor : ℕ) (m : MetaImage) (taker giver : Option Numbered)
    → need Told.Nothing (λ (g : Numbered). need Told.Nothing (even_out layout term actor m g) taker)
    giver
    ≡ need Told.Nothing (shift_copy layout term actor m) (shift_from taker giver)
unfolding need unless even_out
shift_decides layout term actor m taker None = refl
shift_decides layout term actor m None (Some giver) = refl
shift_decides layout term actor m (Some taker) (Some giver) =
    elim (nat_le (taker.1.count + 2) giver.1.count) as (λ b.
    unless b Told.Nothing
    (need Told.Nothing (move_slot layout term actor taker.0 m)
    (find (fits_move layout giver.0 taker.0 m) m.slots))
    ≡ need Told.Nothing (shift_copy layout term actor m)
    (then_some b (record { giver = giver.0; taker = taker.0 }))) [
      | true ↦ refl
      | false ↦ refl
    ]

pub balance_by_census : (layout : Shape) (term actor : ℕ) (m : MetaImage)
    → decide_balance layout term actor m
    ≡ need Told.Nothing (shift_copy layout term actor m) (uneven (census m.servers m.slots))
unfolding decide_balance give_to_lightest
balance_by_census layout term actor m =
    shift_decides layout term actor m (reduce lighter (open_servers [] (census m.servers m.slots)))
    (reduce heavier (open_servers [] (census m.servers m.slots)))
