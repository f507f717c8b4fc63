-- A lease and a grant under it as a plan.
use Rattle.std.proofs.Common.{◌≡◌, ◌∙◌, ℕ, [], ◌∷◌, subst, sym}
use Rattle.qfs_base.specs.declared.change.Change.TheVariants as Made
use Rattle.qfs_base.specs.declared.image.MetaImage.{MetaImage}
use Rattle.qfs_base.specs.declared.reply.Granted.{Granted}
use Rattle.qfs_base.specs.declared.reply.MetaReply.TheVariants as Told
use Rattle.qfs_base.specs.declared.request.SlotId.{SlotId}
use Rattle.qfs_base.specs.Shape.{Shape}
use Rattle.qfs_model_meta.specs.Apply.{apply}
use Rattle.qfs_model_meta.specs.Decision.{Makes}
use Rattle.qfs_model_meta.specs.LeasedGrants.{closed_len, grant_leased, lease_and_grant}
use Rattle.qfs_model_meta.specs.Leases.{lease_end}
use Rattle.qfs_model_meta.specs.Lists.{NineCopies, new_grant}
use Rattle.qfs_model_meta.specs.TreeRows.{closed_file}
use Rattle.qfs_state.specs.declared.prepared.Plan.{Plan}
use Rattle.qfs_state.specs.declared.prepared.Prepared.TheVariants.{GiveLease, GrantSlot}
use Rattle.qfs_state.specs.Planning.{IsPlan, MayGrant, MayMakeAll, changes_of}

-- giving a lease leaves the servers and slots, so that the grant may be made behind it
pub leased : (layout : Shape) (term actor : ℕ) (m : MetaImage) (id : SlotId)
    (server lease until : ℕ) (sources : NineCopies) (told : Granted) (plan : Plan)
    → plan.changes.items
    ≡ GiveLease actor id.block.file until ∷ GrantSlot id server actor lease ∷ []
    → plan.reply ≡ Told.Granted told → lease ≡ m.next_lease → until ≡ lease_end term m.clock
    → told ≡ new_grant layout (closed_len (closed_file id.block.file m.tree)) id.block id.slot
    server m.next_lease sources m
    → MayGrant m id server
    → IsPlan m (grant_leased layout term actor id.block id.slot sources m server) plan
unfolding grant_leased lease_and_grant apply
leased layout term actor m id server lease until sources told plan items reply number end is may =
    record {
      decided =
          (λ i. Makes (Made.GiveLease actor id.block.file (sym end i)
          ∷ Made.GrantSlot id.block id.slot server actor (sym number i) ∷ [])
          (Told.Granted (sym is i)))
          ∙ (λ i. Makes (changes_of (sym items i)) (sym reply i));
      may = subst (MayMakeAll m) (sym items) (
        tt,
        (
          record {
            slot_number = may.slot_number;
            server_there = may.server_there;
            free = may.free;
            not_full = may.not_full;
          },
          tt,
        ),
      );
    }
