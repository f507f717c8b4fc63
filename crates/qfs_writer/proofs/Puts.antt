-- What is left of a put at the stages between two answers.
use Rattle.std.proofs.Common.{inl, inr, ◌≡◌, refl, arith, ℕ, zero, suc, ◌+◌, ◌-◌, ◌<◌, ◌≤◌, Bool, true, false, length, ◌⊎◌, Some}
use Rattle.qfs_base.specs.Layout.{blocks_of}
use Rattle.qfs_base.specs.declared.chunk.Copy.{Copy}
use Rattle.qfs_base.specs.declared.reply.ChunkAnswer.{ChunkAnswer}
use Rattle.qfs_base.specs.declared.reply.ChunkAnswer.TheVariants as Did
use Rattle.qfs_base.specs.declared.reply.Granted.{Granted}
use Rattle.qfs_base.specs.declared.reply.MetaReply.{MetaReply}
use Rattle.qfs_base.specs.declared.reply.MetaReply.TheVariants as Said
use Rattle.qfs_base.specs.declared.request.ChunkRequest.TheVariants as Serve
use Rattle.qfs_base.specs.declared.request.MetaRequest.TheVariants as Ask
use Rattle.qfs_base.specs.declared.request.NodeRequest.TheVariants as To
use Rattle.qfs_model_actor.specs.Ask.{ask, ask_server, key_of, after_store}
use Rattle.qfs_model_actor.specs.Grants.{is_grant_of, if_meant, with_grant_of}
use Rattle.qfs_model_actor.specs.Hold.{ask_or, unnamed}
use Rattle.qfs_model_actor.specs.Put.{created, chosen, ask_grant, store, store_slot, store_slots, store_blocks, close_file, put_blocks_from, put_slots_from}
use Rattle.qfs_model_actor.specs.Tree.{refused}
use Rattle.qfs_model_actor.specs.Work.{Work, for_each, request_in}
use Rattle.qfs_model_slot.specs.Slot.{slot_of}
use Rattle.qfs_writer.specs.declared.stage.Put.{Put}
use Rattle.qfs_writer.specs.declared.stage.PutSlot.{PutSlot}
use Rattle.qfs_writer.specs.declared.stage.Stage.TheVariants as At
use Rattle.qfs_writer.specs.Moves.{behind_grant, behind_store, on_grant}
use Rattle.qfs_writer.specs.Rest.{fresh_slot, bytes_put, rest_of_put, rest_of_grant, rest_behind, grant_of}

pub put_blocks_from-more : (put : Put) (file index : ℕ) → index < blocks_of put.layout.s put.layout.r (length (bytes_put put))
    → rest_of_put put (At.Granting (fresh_slot file index 0)) ≡ put_blocks_from put.layout (bytes_put put) file index
unfolding rest_of_put rest_of_grant rest_behind put_slots_from put_blocks_from store_slots store_blocks for_each
put_blocks_from-more put file index more =
    let some : blocks_of put.layout.s put.layout.r (length (bytes_put put)) - index
    ≡ suc (blocks_of put.layout.s put.layout.r (length (bytes_put put)) - (index + 1)) = omega arith in
    rw some refl

pub put_blocks_from-end : (put : Put) (file index : ℕ) → blocks_of put.layout.s put.layout.r (length (bytes_put put)) ≤ index
    → close_file (length (bytes_put put)) file ≡ put_blocks_from put.layout (bytes_put put) file index
unfolding put_blocks_from store_blocks for_each
put_blocks_from-end put file index end =
    let none : blocks_of put.layout.s put.layout.r (length (bytes_put put)) - index ≡ 0 = omega arith in
    rw none refl

-- a put behind a slot that isn't the last one of its block
pub behind-more : (put : Put) (at : PutSlot) → at.slot < 8
    → rest_of_put put (At.Granting (fresh_slot at.file at.index (at.slot + 1))) ≡ rest_behind put at
unfolding rest_of_put rest_of_grant rest_behind put_slots_from store_slots for_each
behind-more put at more =
    let some : 9 - (at.slot + 1) ≡ suc (9 - (at.slot + 1 + 1)) = omega arith in
    rw some refl

pub behind-end : (put : Put) (at : PutSlot) → 8 ≤ at.slot
    → put_blocks_from put.layout (bytes_put put) at.file (at.index + 1) ≡ rest_behind put at
unfolding rest_behind put_slots_from store_slots for_each
behind-end put at end =
    let none : 9 - (at.slot + 1) ≡ 0 = omega arith in
    rw none refl

-- a put asks for a server
pub rest_of_grant-asks : (put : Put) (at : PutSlot) (grants : ℕ) (again : Bool)
    → rest_of_grant put at grants again ≡ ask_grant at.file at.index at.slot again (behind_grant put at grants)
unfolding rest_of_grant store_slot behind_grant
rest_of_grant-asks put at zero again = refl
rest_of_grant-asks put at (suc grants) again = refl

pub grant-asks : (put : Put) (at : PutSlot)
    → request_in (rest_of_put put (At.Granting at)) ≡ Some (To.Meta (Ask.Grant at.file at.index at.slot at.again))
unfolding rest_of_put ask_grant ask ask_or request_in
grant-asks put at = rw (rest_of_grant-asks put at at.grants at.again) refl

pub store-asks : (put : Put) (at : PutSlot) (copy : Copy)
    → request_in (rest_of_put put (At.Storing at copy))
    ≡ Some (To.Chunk copy.server
    (Serve.Put (key_of (record { file = at.file; index = at.index }) at.slot copy.version) copy.life
    (slot_of put.layout (bytes_put put) at.index at.slot)))
unfolding rest_of_put store ask_server request_in grant_of
store-asks put at copy = refl

-- the copy of a grant
abbrev copy_of : Granted → Copy
copy_of g = record { server = g.server; life = g.life; version = g.version }

behind_grant-more : (put : Put) (at : PutSlot) (g : Granted) (grants : ℕ) → 0 < grants
    → store put.layout (bytes_put put) at.file at.index at.slot (rest_behind put at) (rest_of_grant put at (grants - 1) true) (grant_of at (copy_of g))
    ≡ behind_grant put at grants g
unfolding behind_grant store grant_of
behind_grant-more put at g zero none = absurd (omega arith)
behind_grant-more put at g (suc grants) some = let one : suc grants - 1 ≡ grants = omega arith in rw one refl

-- a grant of what was asked for is used
pub on_grant-used : (put : Put) (at : PutSlot) (g : Granted) → 0 < at.grants → is_grant_of at.index at.slot g ≡ true
    → rest_of_put put (At.Storing (record at { grants = at.grants - 1 }) (copy_of g)) ≡ on_grant put at (Said.Granted g)
unfolding rest_of_put rest_of_grant on_grant chosen with_grant_of if_meant rest_behind grant_of
on_grant-used put at g some meant = rw meant (behind_grant-more put at g at.grants some)

-- and no other, nor one grant too many
pub on_grant-other : (put : Put) (at : PutSlot) (g : Granted) → is_grant_of at.index at.slot g ≡ false
    → unnamed ≡ on_grant put at (Said.Granted g)
unfolding on_grant chosen with_grant_of if_meant
on_grant-other put at g other = rw other refl

behind_grant-none : (put : Put) (at : PutSlot) (g : Granted) (grants : ℕ) → grants ≡ 0 → unnamed ≡ behind_grant put at grants g
unfolding behind_grant
behind_grant-none put at g grants none = rw none refl

if_meant-none : (next : Granted → Work) (g : Granted) (b : Bool) → unnamed ≡ next g → unnamed ≡ if_meant next g b
unfolding if_meant
if_meant-none next g true e = e
if_meant-none next g false e = refl

pub on_grant-none : (put : Put) (at : PutSlot) (g : Granted) → at.grants ≡ 0 → unnamed ≡ on_grant put at (Said.Granted g)
unfolding on_grant chosen with_grant_of
on_grant-none put at g none = if_meant-none _ g _ (behind_grant-none put at g at.grants none)

-- an answer to the first request that names no new file is a refusal
pub created-other : (put : Put) (answer : MetaReply) → ((file place : ℕ) → answer ≡ Said.Created file place → ⊥)
    → refused answer ≡ created put.layout (bytes_put put) answer
unfolding created
created-other put (Said.Created file place) other = absurd (other file place refl)
created-other put answer other = refl

-- a slot that wasn't stored is granted again
pub behind_store-failed : (put : Put) (at : PutSlot) (answer : ChunkAnswer)
    → (answer ≡ Did.Down) ⊎ (((asked : ℕ) × (now : ℕ) × (answer ≡ Did.Lost asked now)) ⊎ (answer ≡ Did.Fault))
    → rest_of_grant put at at.grants true ≡ behind_store put at answer
unfolding behind_store after_store
behind_store-failed put at answer failed =
    elim failed [
      | inl down ↦ rw down refl
      | inr more ↦ elim more [ inl lost ↦ rw lost.2 refl | inr fault ↦ rw fault refl ]
    ]
