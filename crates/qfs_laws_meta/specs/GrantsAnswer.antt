-- The requests that open files and grant slots: what they are answered, and what their changes
-- tell. For the law `steps_answer`.
use Rattle.qfs_base.specs.NameTree.{PathNames}
use Rattle.qfs_base.specs.declared.change.Change.TheVariants.{FailGrant, GiveLease, GrantSlot}
use Rattle.qfs_base.specs.declared.chunk.BlockId.{BlockId}
use Rattle.qfs_base.specs.declared.chunk.Copy.{Copy}
use Rattle.qfs_base.specs.declared.image.Grant.{Grant}
use Rattle.qfs_base.specs.declared.image.MetaImage.{MetaImage}
use Rattle.qfs_base.specs.declared.image.SlotRow.{SlotRow}
use Rattle.qfs_base.specs.declared.reply.MetaReply.TheVariants as Told
use Rattle.qfs_base.specs.declared.reply.MetaReply.{MetaReply}
use Rattle.qfs_base.specs.declared.request.MetaRequest.TheVariants as Ask
use Rattle.qfs_base.specs.declared.request.MetaRequest.{MetaRequest}
use Rattle.qfs_base.specs.declared.request.SlotId.{SlotId}
use Rattle.qfs_base.specs.declared.rules.Rules.{Rules}
use Rattle.qfs_laws_meta.specs.ChangeTells.{Gives, change-tells}
use Rattle.qfs_laws_meta.specs.Fair.{Fair, Goes, ToldIn, file-fair, need-fair, path-fair, plain-one}
use Rattle.qfs_laws_meta.specs.Fair.{refuse-fair, unless-fair}
use Rattle.qfs_laws_meta.specs.GrantRequests.{pending-none}
use Rattle.qfs_laws_meta.specs.MayTell.{ArePair, HasCopy, IsAtRest, IsInFile, IsOfPath, IsTaken}
use Rattle.qfs_laws_meta.specs.MayTell.{IsToRecover, MayGrantAgain, MayTell, placed_copy, takers}
use Rattle.qfs_laws_meta.specs.Tells as Of
use Rattle.qfs_laws_slots.specs.Changes.{told}
use Rattle.qfs_model_meta.specs.Apply.{apply, apply_all}
use Rattle.qfs_model_meta.specs.FreedLaws.{decides_as_freed}
use Rattle.qfs_model_meta.specs.GetRequests.{decide_open, opened}
use Rattle.qfs_model_meta.specs.GrantedAgain.{freed}
use Rattle.qfs_model_meta.specs.LeasedGrants.{closed_len, grant_chosen, grant_leased}
use Rattle.qfs_model_meta.specs.LeasedGrants.{grant_recovery, lease_and_grant, move_source}
use Rattle.qfs_model_meta.specs.LeasedGrants.{pending_refusal}
use Rattle.qfs_model_meta.specs.Leases.{lease_end}
use Rattle.qfs_model_meta.specs.Lists.{NineCopies, listed_others, new_grant, no_sources, one_source}
use Rattle.qfs_model_meta.specs.MoveRequests.{decide_balance, decide_evacuate, decide_move}
use Rattle.qfs_model_meta.specs.MoveRequests.{evacuate_slot, even_out, give_to_lightest, move_copy}
use Rattle.qfs_model_meta.specs.MoveRequests.{move_slot}
use Rattle.qfs_model_meta.specs.Past.{Past, granted_slot_copy}
use Rattle.qfs_model_meta.specs.Placing.{Numbered, heavier, lighter}
use Rattle.qfs_model_meta.specs.PutRequests.{decide_grant, failed_grant, grant_for_put, grant_in}
use Rattle.qfs_model_meta.specs.PutRequests.{put_granted, taken_refusal}
use Rattle.qfs_model_meta.specs.RepairRequests.{decide_heal, decide_recover, heal_slot}
use Rattle.qfs_model_meta.specs.Slots.{slot_at}
use Rattle.qfs_model_meta.specs.TreeRows.{closed_file, row_at}
use Rattle.std.proofs.Common.{Bool, List, None, Option, Some, [], ap, false, inl, inr, refl, subst}
use Rattle.std.proofs.Common.{sym, true, ℕ, ◌++◌, ◌∙◌, ◌∷◌, ◌≡◌}
use Rattle.std.specs.List.{reduce}

-- ---- the grant of a put

-- a grant is refused while another is pending, unless it is asked again
taken-told : (m : MetaImage) (block : BlockId) (slot : ℕ) (again : Bool) (P : MetaReply → Type 0)
    → ((version : ℕ) → again ≡ false → IsTaken m.slots block slot version
    → P (Told.Taken version))
    → (o : Option Grant) → (slot_at m.slots block slot).grant ≡ o → (reply : MetaReply) →
    taken_refusal again o ≡ Some reply → P reply
unfolding taken_refusal
taken-told m block slot again P tells None at reply is = absurd (cc)
taken-told m block slot true P tells (Some g) at reply is = absurd (cc)
taken-told m block slot false P tells (Some g) at reply is =
    let e : Told.Taken g.copy.version ≡ reply = cc in subst P e
    (tells g.copy.version refl (record { grant = g; pending = at; own = refl }))

may-again : (m : MetaImage) (block : BlockId) (slot : ℕ) (again : Bool) (o : Option Grant)
    → (slot_at m.slots block slot).grant ≡ o → taken_refusal again o ≡ None
    → MayGrantAgain again block slot m
unfolding taken_refusal
may-again m block slot again None at free = inl at
may-again m block slot true (Some g) at free = inr refl
may-again m block slot false (Some g) at free = absurd (cc)

pending-told : (slots : List SlotRow) (block : BlockId) (slot : ℕ) (P : MetaReply → Type 0)
    → ((version : ℕ) → IsTaken slots block slot version → P (Told.Taken version))
    → (o : Option Grant) → (slot_at slots block slot).grant ≡ o → (reply : MetaReply) →
    pending_refusal o ≡ Some reply → P reply
unfolding pending_refusal
pending-told slots block slot P tells None at reply is = absurd (cc)
pending-told slots block slot P tells (Some g) at reply is =
    let e : Told.Taken g.copy.version ≡ reply = cc in subst P e
    (tells g.copy.version (record { grant = g; pending = at; own = refl }))

module _ (rules : Rules) (actor : ℕ) (past : Past) (m : MetaImage) where
  -- a copy that is granted in a state is that of its grant
  put-told : (n : MetaImage) (len : ℕ) (block : BlockId) (slot server : ℕ) (other : BlockId)
      (at : ℕ) (copy : Copy)
      → Gives n (GrantSlot block slot server actor 0) other at copy
      → ToldIn (put_granted rules.layout len block slot n server) other at copy
  unfolding put_granted new_grant granted_slot_copy
  put-told n len block slot server other at copy g = (
    new_grant rules.layout len block slot server 0 no_sources n,
    refl,
    (λ i. record { block = g.0 i; slot = g.1 i; copy = g.2 i }),
  )

  putting : (request : MetaRequest) (len : ℕ) (block : BlockId) (slot server : ℕ) (o : Option Grant)
      → (slot_at m.slots block slot).grant ≡ o
      → Goes rules actor past m request
      (failed_grant block slot o ++ GrantSlot block slot server actor 0 ∷ [])
      (put_granted rules.layout len block slot m server)
  unfolding failed_grant apply_all
  putting request len block slot server None is may =
      Of.tells-as m (apply m (GrantSlot block slot server actor 0)) (λ _ _ s. absurd s)
      (put-told m len block slot server) (λ _ l. absurd l)
      (change-tells past m (GrantSlot block slot server actor 0) may.0)
  putting request len block slot server (Some g) is may =
      let n : MetaImage = apply m (FailGrant block slot) in
      let after : freed block slot m ≡ n = ap (λ o. apply_all (failed_grant block slot o) m) is in
      let same : put_granted rules.layout len block slot m server ≡ put_granted rules.layout len
      block slot n server = (decides_as_freed block slot m).told rules.layout len server ∙ ap
      (λ n. put_granted rules.layout len block slot n server) after in
      Of.tells-before m n (apply n (GrantSlot block slot server actor 0))
      (plain-one past m (FailGrant block slot) may.0 tt)
      (Of.tells-as n (apply n (GrantSlot block slot server actor 0)) (λ _ _ s. absurd s)
      (λ other at copy g. subst (λ reply. ToldIn reply other at copy) (sym same)
      (put-told n len block slot server other at copy g)) (λ _ l. absurd l)
      (change-tells past n (GrantSlot block slot server actor 0) may.1.0))

  pub grant-fair : (file index slot : ℕ) (again : Bool)
      → Fair rules actor past m (Ask.Grant file index slot again)
      (decide_grant rules.layout actor (record { file = file; index = index }) slot again m)
  unfolding decide_grant grant_in grant_for_put put_granted
  grant-fair file index slot again =
      let block : BlockId = record { file = file; index = index } in
      need-fair rules actor past m (Ask.Grant file index slot again) Told.Gone _ _ (λ none. none)
      (λ row found.
      unless-fair rules actor past m (Ask.Grant file index slot again) _ Told.NoBlock _
      (λ out. record { row = row; unclosed = found; beyond = out }) (λ inside.
      let of_file : IsInFile rules.layout actor block m row =
      record { unclosed = found; in_file = inside } in
      refuse-fair rules actor past m (Ask.Grant file index slot again) _ _
      (taken-told m block slot again
      (λ reply. MayTell rules actor m reply (Ask.Grant file index slot again))
      (λ version once taken.
      record { row = row; of_file = of_file; once = once; taken = taken }) _ refl) (λ unasked.
      let free = may-again m block slot again _ refl unasked in
      need-fair rules actor past m (Ask.Grant file index slot again) (Told.NoServer block slot) _ _
      (λ nowhere. (
        refl,
        refl,
        record { row = row; of_file = of_file; free = free; nowhere = nowhere },
      )) (λ server placed. (
        record {
          row = row;
          server = server;
          of_file = of_file;
          free = free;
          placed = placed;
          is = refl;
        },
        putting
            (Ask.Grant file index slot again) row.len block slot server _ refl,
      )))))

  -- ---- a file is opened

  lending : (request : MetaRequest) (file : ℕ) (until : ℕ) (reply : MetaReply)
      → Goes rules actor past m request (GiveLease actor file until ∷ []) reply
  unfolding apply_all
  lending request file until reply may =
      Of.tells-as m (apply m (GiveLease actor file until)) (λ _ _ s. absurd s) (λ _ _ _ g. absurd g)
      (λ _ l. l) (change-tells past m (GiveLease actor file until) may.0)

  pub open-fair : (path : PathNames)
      → Fair rules actor past m (Ask.OpenFile path)
      (decide_open rules.layout rules.term actor path m)
  unfolding decide_open
  open-fair path =
      file-fair rules actor past m (Ask.OpenFile path) _ _ _ (λ why is. (is, refl))
      (λ looks. (
        (looks, refl),
        lending (Ask.OpenFile path) (row_at m.tree path).file
            (lease_end rules.term m.clock) (Told.Opened (opened rules.layout
            (row_at m.tree path) m)),
      ))

  -- ---- grants under a lease

  lease-told : (block : BlockId) (slot server : ℕ) (len : ℕ) (sources : NineCopies) (until : ℕ)
      (other : BlockId) (at : ℕ) (copy : Copy)
      → Gives (apply m (GiveLease actor block.file until))
      (GrantSlot block slot server actor m.next_lease) other at copy
      → ToldIn (Told.Granted (new_grant rules.layout len block slot server m.next_lease sources m))
      other at copy
  unfolding apply new_grant granted_slot_copy
  lease-told block slot server len sources until other at copy g = (
    new_grant rules.layout len block slot server m.next_lease sources m,
    refl,
    (λ i. record { block = g.0 i; slot = g.1 i; copy = g.2 i }),
  )

  leasing : (request : MetaRequest) (block : BlockId) (slot server len : ℕ) (sources : NineCopies)
      (until : ℕ)
      → Goes rules actor past m request
      (GiveLease actor block.file until ∷ GrantSlot block slot server actor m.next_lease ∷ [])
      (Told.Granted (new_grant rules.layout len block slot server m.next_lease sources m))
  unfolding apply_all
  leasing request block slot server len sources until may =
      let n : MetaImage = apply m (GiveLease actor block.file until) in
      let o : MetaImage = apply n (GrantSlot block slot server actor m.next_lease) in
      Of.tells-as m o (λ _ _ s. absurd s) (lease-told block slot server len sources until)
      (λ _ l. l)
      (Of.tells-lent m n o (change-tells past m (GiveLease actor block.file until) may.0)
      (change-tells (told (GiveLease actor block.file until) m past) n
      (GrantSlot block slot server actor m.next_lease) may.1.0))

  leased-fair : (request : MetaRequest) (block : BlockId) (slot : ℕ) (sources : NineCopies)
      (server : ℕ)
      → MayTell rules actor m (Told.Granted
      (new_grant rules.layout (closed_len (closed_file block.file m.tree)) block slot server
      m.next_lease sources m)) request
      → Fair rules actor past m request
      (grant_leased rules.layout rules.term actor block slot sources m server)
  unfolding grant_leased lease_and_grant
  leased-fair request block slot sources server tells = (
    tells,
    leasing request block slot server (closed_len (closed_file block.file m.tree)) sources
        (lease_end rules.term m.clock),
  )

  chosen-fair : (request : MetaRequest) (block : BlockId) (slot : ℕ) (sources : NineCopies)
      → (placed_copy block m ≡ None → MayTell rules actor m (Told.NoServer block slot) request)
      → ((server : ℕ) → placed_copy block m ≡ Some server → MayTell rules actor m
      (Told.Granted (new_grant rules.layout (closed_len (closed_file block.file m.tree)) block slot
      server m.next_lease sources m)) request)
      → Fair rules actor past m request
      (grant_chosen rules.layout rules.term actor block slot sources m)
  unfolding grant_chosen
  chosen-fair request block slot sources refused tells =
      need-fair rules actor past m request (Told.NoServer block slot) _ _ refused
      (λ server placed. leased-fair request block slot sources server (tells server placed))

  pub recover-fair : (path : PathNames) (index slot : ℕ)
      → Fair rules actor past m (Ask.RecoverAt path index slot)
      (decide_recover rules.layout rules.term actor path index slot m)
  unfolding decide_recover grant_recovery
  recover-fair path index slot =
      let block : BlockId = record { file = (row_at m.tree path).file; index = index } in
      path-fair rules actor past m (Ask.RecoverAt path index slot) _ _ (λ why is. is) (λ looks.
      unless-fair rules actor past m (Ask.RecoverAt path index slot) _ Told.NoBlock _
      (λ out. (looks, out)) (λ inside.
      let of_path : IsOfPath rules.layout path block m =
      record { looks = looks; in_file = inside } in
      refuse-fair rules actor past m (Ask.RecoverAt path index slot) _ _
      (pending-told m.slots block slot
      (λ reply. MayTell rules actor m reply (Ask.RecoverAt path index slot))
      (λ version taken. (of_path, taken)) _ refl) (λ unpended.
      let free = pending-none _ unpended in
      unless-fair rules actor past m (Ask.RecoverAt path index slot) _ Told.Whole _
      (λ there. record { of_path = of_path; free = free; there = there }) (λ missing.
      let recovers : IsToRecover rules.layout path block slot m =
      record { of_path = of_path; free = free; missing = missing } in
      chosen-fair (Ask.RecoverAt path index slot) block slot
      (listed_others m.servers m.slots block slot) (λ nowhere. (refl, refl, recovers, nowhere))
      (λ server placed. (recovers, (server, placed, refl)))))))

  pub heal-fair : (after : Option SlotId)
      → Fair rules actor past m (Ask.HealNext after)
      (decide_heal rules.layout rules.term actor after m)
  unfolding decide_heal heal_slot grant_recovery
  heal-fair after =
      need-fair rules actor past m (Ask.HealNext after) Told.Nothing _ _ (λ none. none) (λ id found.
      chosen-fair (Ask.HealNext after) id.block id.slot
      (listed_others m.servers m.slots id.block id.slot)
      (λ nowhere. (id, found, refl, refl, nowhere))
      (λ server placed. (id, found, (server, placed, refl))))

  pub move-fair : (path : PathNames) (index slot to : ℕ)
      → Fair rules actor past m (Ask.MoveAt path index slot to)
      (decide_move rules.layout rules.term actor path index slot to m)
  unfolding decide_move move_copy
  move-fair path index slot to =
      let block : BlockId = record { file = (row_at m.tree path).file; index = index } in
      path-fair rules actor past m (Ask.MoveAt path index slot to) _ _ (λ why is. is) (λ looks.
      unless-fair rules actor past m (Ask.MoveAt path index slot to) _ Told.NoBlock _
      (λ out. inl (looks, out)) (λ inside.
      let of_path : IsOfPath rules.layout path block m =
      record { looks = looks; in_file = inside } in
      need-fair rules actor past m (Ask.MoveAt path index slot to) Told.NoBlock _ _
      (λ none. inr (of_path, none)) (λ copy current.
      let there : HasCopy rules.layout path block slot m copy =
      record { of_path = of_path; current = current } in
      refuse-fair rules actor past m (Ask.MoveAt path index slot to) _ _
      (pending-told m.slots block slot
      (λ reply. MayTell rules actor m reply (Ask.MoveAt path index slot to))
      (λ version taken. (copy, there, taken)) _ refl) (λ unpended.
      let rests : IsAtRest rules.layout path block slot m copy =
      record { there = there; free = pending-none _ unpended } in
      unless-fair rules actor past m (Ask.MoveAt path index slot to) _ (Told.Away copy.server) _
      (λ off. (copy, rests, off, refl)) (λ listed.
      unless-fair rules actor past m (Ask.MoveAt path index slot to) _ (Told.Barred to) _
      (λ off. (copy, rests, listed, off, refl)) (λ may.
      leased-fair (Ask.MoveAt path index slot to) block slot (one_source slot copy) to
      (copy, rests, listed, may, refl)))))))

  pub evacuate-fair : (server : ℕ) (after : Option SlotId)
      → Fair rules actor past m (Ask.EvacNext server after)
      (decide_evacuate rules.layout rules.term actor server after m)
  unfolding decide_evacuate evacuate_slot
  evacuate-fair server after =
      need-fair rules actor past m (Ask.EvacNext server after) Told.Nothing _ _ (λ none. none)
      (λ row found.
      chosen-fair (Ask.EvacNext server after) row.block row.slot
      (move_source row.slot row.state.current) (λ nowhere. (row, found, refl, refl, nowhere))
      (λ to placed. (row, found, (to, placed, refl))))

  -- only of no servers there is no lightest or heaviest one
  none-reduced : (f : Numbered → Numbered → Numbered) (servers : List Numbered)
      → reduce f servers ≡ None → servers ≡ []
  none-reduced f [] none = refl
  none-reduced f (s ∷ servers) none = absurd (cc)

  pub balance-fair : Fair rules actor past m Ask.BalanceNext
      (decide_balance rules.layout rules.term actor m)
  unfolding decide_balance give_to_lightest even_out move_slot
  balance-fair =
      need-fair rules actor past m Ask.BalanceNext Told.Nothing _ _
      (λ none. inl (none-reduced heavier (takers m) none)) (λ giver heaviest.
      need-fair rules actor past m Ask.BalanceNext Told.Nothing _ _
      (λ none. inl (none-reduced lighter (takers m) none)) (λ taker lightest.
      let pair : ArePair m giver taker = record { heaviest = heaviest; lightest = lightest } in
      unless-fair rules actor past m Ask.BalanceNext _ Told.Nothing _
      (λ even. inr (giver, taker, pair, inl even)) (λ uneven.
      need-fair rules actor past m Ask.BalanceNext Told.Nothing _ _
      (λ none. inr (giver, taker, pair, inr none)) (λ row found.
      leased-fair Ask.BalanceNext row.block row.slot (move_source row.slot row.state.current)
      taker.0 (record {
        giver = giver;
        taker = taker;
        row = row;
        pair = pair;
        uneven = uneven;
        found = found;
        is = refl;
      })))))
