-- The requests that open files and grant slots. For the law `stays_sound`.
use Rattle.qfs_base.specs.NameTree.{PathNames, look_refusal, stands_at}
use Rattle.qfs_base.specs.NumberSet.{has}
use Rattle.qfs_base.specs.Shape.{Shape}
use Rattle.qfs_base.specs.declared.change.Change.TheVariants.{GiveLease, GrantSlot}
use Rattle.qfs_base.specs.declared.chunk.BlockId.{BlockId}
use Rattle.qfs_base.specs.declared.image.Grant.{Grant}
use Rattle.qfs_base.specs.declared.image.MetaImage.{MetaImage}
use Rattle.qfs_base.specs.declared.image.TreeRow.{TreeRow}
use Rattle.qfs_base.specs.declared.reply.Granted.{Granted as GrantTold}
use Rattle.qfs_base.specs.declared.reply.MetaReply.{MetaReply}
use Rattle.qfs_model_meta.specs.Apply.{apply, apply_all, grant_slot, with_slots}
use Rattle.qfs_model_meta.specs.GetRequests.{decide_open, opened}
use Rattle.qfs_model_meta.specs.Grammar.{IsActor, IsServer}
use Rattle.qfs_model_meta.specs.LeasedGrants.{closed_len, grant_chosen, grant_leased}
use Rattle.qfs_model_meta.specs.LeasedGrants.{grant_recovery, lease_and_grant, pending_refusal}
use Rattle.qfs_model_meta.specs.Leases.{lease_end}
use Rattle.qfs_model_meta.specs.Lists.{NineCopies, block_count, listed_blocks, new_grant}
use Rattle.qfs_model_meta.specs.Lists.{one_source}
use Rattle.qfs_model_meta.specs.MoveRequests.{decide_move, is_barred, may_get, move_copy}
use Rattle.qfs_model_meta.specs.Past.{GivenLease, Past, granted_slot_copy, is_of_put, listed_in}
use Rattle.qfs_model_meta.specs.Past.{listed_in_file, remember, with_copy, with_grant, with_lease}
use Rattle.qfs_model_meta.specs.Placing.{barred_for_block}
use Rattle.qfs_model_meta.specs.Range.{is_server, is_slot_number}
use Rattle.qfs_model_meta.specs.RepairRequests.{decide_recover}
use Rattle.qfs_model_meta.specs.Slots.{granted_slot, slot_at}
use Rattle.qfs_model_meta.specs.Sound.{live_servers}
use Rattle.qfs_model_meta.specs.TreeRows.{closed_file, directory_row, has_file, is_closed}
use Rattle.qfs_model_meta.specs.TreeRows.{is_closed_row, kind_of, row_at, row_path, standing}
use Rattle.std.proofs.Common.{List, None, Option, Some, [], ap, arith, false, find, length, nat_lt}
use Rattle.std.proofs.Common.{refl, subst, sym, true, ℕ, ◌&&◌, ◌++◌, ◌<◌, ◌==◌, ◌∙◌, ◌∷◌, ◌≡◌, ◌≤◌}
use Rattle.std.proofs.lemmas.Bool.{and_from, and_parts, eq-eqb, ltb-true, not-true}
use Rattle.std.proofs.lemmas.Bool.Decides.{nat_tests}
use Rattle.std.specs.List.{enumerate_from, list_any}
use Rattle.std.specs.Prelude.{IsTrue, is_some, unwrap_or}
use Rattle.qfs_base.specs.declared.lists.NameKind.TheVariants as Is
use Rattle.qfs_base.specs.declared.reply.MetaReply.TheVariants as Told
use Rattle.qfs_laws_meta.specs.Granting.{unbarred-apart, version-left}
use Rattle.qfs_laws_meta.specs.Kept.{Fits, Keeps}
use Rattle.qfs_laws_meta.specs.Listing.{AreCurrent, file-each, listed-each, one-current}
use Rattle.qfs_laws_meta.specs.Listing.{others-current}
use Rattle.qfs_laws_meta.specs.Replies.{listed-kept}
use Rattle.qfs_laws_meta.specs.Requests.{Fine, Quiet, file-fine, need-fine, path-fine, refuse-fine}
use Rattle.qfs_laws_meta.specs.Requests.{told_all, unless-fine}
use Rattle.qfs_laws_meta.specs.SimpleRequests.{server-is}
use Rattle.qfs_laws_slots.specs.Changes.{HasVersionsLeft, MayGrant, told}
use Rattle.qfs_laws_slots.specs.RowKeys.{has_file-is}
use Rattle.qfs_laws_slots.specs.Slots.{placed-cases}
use Rattle.qfs_base.specs.EachLaws.{each_weaker}
use Rattle.qfs_laws_tables.specs.SomeRow.{any_last, found-any}
use Rattle.qfs_laws_tree.specs.Files.{closed-root}
use Rattle.qfs_laws_tree.specs.Stands.{stands_of_closed}
use Rattle.qfs_laws_tree.specs.Tree.{HasTree}
use Rattle.qfs_laws_tree.specs.TreeChanges.{closed-any, closed_test}
use Rattle.qfs_laws_tree.specs.TreeFacts.{kind-row, look-closed}
use Rattle.qfs_laws_slots.specs.Choice.{chosen-is}

-- ---- what a lease and a grant tell

no-put : (n : ℕ) → 1 ≤ n → (n == 0) ≡ false
no-put n low = grind (arith, nat_tests)

leased : (actor : ℕ) (past : Past) (g : GrantTold) → 1 ≤ g.lease
    → with_grant actor g past (is_of_put g) ≡ with_lease g.lease actor g.block.file
    (listed_in g.lease g.block g.sources) (with_copy (granted_slot_copy g) past)
unfolding with_grant is_of_put
leased actor past g low = ap (with_grant actor g past) (no-put g.lease low)

lease-told : (leases : List GivenLease) (lease actor file : ℕ)
    → list_any (λ (l : GivenLease). (l.lease == lease) && (l.file == file))
    (leases ++ record { lease = lease; actor = actor; file = file } ∷ []) ≡ true
lease-told leases lease actor file =
    any_last _ leases (record { lease = lease; actor = actor; file = file })
    (and_from (lease == lease) (file == file) (eq-eqb lease lease refl) (eq-eqb file file refl))

-- ---- a file is opened

pub open-fine : (layout : Shape) (term actor : ℕ) (past : Past) (m : MetaImage) (path : PathNames)
    → IsActor actor → Fine actor past m (decide_open layout term actor path m)
unfolding decide_open opened remember with_lease apply_all apply
open-fine layout term actor past m path who =
    file-fine actor past m _ _ _ (λ looks.
    let file : ℕ = (row_at m.tree path).file in (
      (who, tt),
      λ h. listed-kept (told (GiveLease actor file (lease_end term m.clock)) m past)
          (apply m (GiveLease actor file (lease_end term m.clock)))
          (listed_in_file m.next_lease file
          (listed_blocks m.servers m.slots file (block_count layout (row_at m.tree path).len)))
          (file-each (told (GiveLease actor file (lease_end term m.clock)) m past)
          (apply m (GiveLease actor file (lease_end term m.clock))) m.next_lease file
          (block_count layout (row_at m.tree path).len)
          (lease-told past.leases m.next_lease actor file)) h,
    ))

-- ---- a grant under a lease

-- a slot that has no pending grant, and a server that isn't barred
pub record MayLease (m : MetaImage) (block : BlockId) (slot server : ℕ) : Type 0 where
  pub closed : IsTrue (is_some (closed_file block.file m.tree))
  pub small : slot < 9
  pub server_number : IsServer (length m.servers) server
  pub free : (slot_at m.slots block slot).grant ≡ None
  pub apart : has (barred_for_block m.servers m.slots block) server ≡ false

lease-may : (actor until : ℕ) (m : MetaImage) (block : BlockId) (slot server : ℕ) → IsActor actor
    → HasVersionsLeft m → MayLease m block slot server
    → MayGrant (apply m (GiveLease actor block.file until)) block slot server actor m.next_lease
unfolding apply live_servers
lease-may actor until m block slot server who left may =
    let a = unbarred-apart m block server may.apart in
    record {
      stands = stands_of_closed block.file m.tree may.closed;
      slot_number = may.small;
      server_number = may.server_number;
      free = may.free;
      apart = unfold live_servers in
          a;
      versions = version-left m.slots block slot left;
      is_actor = who;
      lease_given =
          omega arith;
    }

still-current : (m n : MetaImage) (block : BlockId) (slot server actor lease : ℕ)
    (nine : NineCopies)
    → n.slots ≡ m.slots → AreCurrent m.slots block nine
    → AreCurrent (grant_slot block slot server actor lease n).slots block nine
unfolding grant_slot with_slots granted_slot
still-current m n block slot server actor lease nine same each =
    each_weaker _ _ (λ at current copy e.
    placed-cases (λ st. st.current ≡ Some copy) block block slot at.0 _ n.slots
    (λ _ s. ap (λ rows. (slot_at rows block slot).current) same ∙ ap
    (λ k. (slot_at m.slots block k).current) s ∙ current copy e)
    (λ _. ap (λ rows. (slot_at rows block at.0).current) same ∙ current copy e))
    (enumerate_from 0 nine) each

lease-ends : (layout : Shape) (term actor : ℕ) (past : Past) (m : MetaImage) (block : BlockId)
    (slot server : ℕ) (sources : NineCopies)
    → AreCurrent m.slots block sources
    → Keeps (told_all (GiveLease actor block.file (lease_end term m.clock) ∷ GrantSlot block slot
    server actor m.next_lease ∷ []) m past)
    (apply_all (GiveLease actor block.file (lease_end term m.clock) ∷ GrantSlot block slot server
    actor m.next_lease ∷ []) m)
    → Keeps (with_lease m.next_lease actor block.file (listed_in m.next_lease block sources)
    (with_copy (granted_slot_copy (new_grant layout (closed_len (closed_file block.file m.tree))
    block slot server m.next_lease sources m)) past))
    (apply_all (GiveLease actor block.file (lease_end term m.clock) ∷ GrantSlot block slot server
    actor m.next_lease ∷ []) m)
unfolding with_lease with_copy granted_slot_copy new_grant apply_all apply
lease-ends layout term actor past m block slot server sources current h =
    let n : MetaImage = apply m (GiveLease actor block.file (lease_end term m.clock)) in
    listed-kept (told_all (GiveLease actor block.file (lease_end term m.clock) ∷ GrantSlot block
    slot server actor m.next_lease ∷ []) m past) (grant_slot block slot server actor m.next_lease n)
    (listed_in m.next_lease block sources)
    (listed-each (told_all (GiveLease actor block.file (lease_end term m.clock) ∷ GrantSlot block
    slot server actor m.next_lease ∷ []) m past) (grant_slot block slot server actor m.next_lease n)
    m.next_lease block sources (lease-told past.leases m.next_lease actor block.file)
    (still-current m n block slot server actor m.next_lease sources refl current)) h

pub leased-fine : (layout : Shape) (term actor : ℕ) (past : Past) (m : MetaImage) (block : BlockId)
    (slot server : ℕ) (sources : NineCopies)
    → Fits m → IsActor actor → HasVersionsLeft m → AreCurrent m.slots block sources
    → MayLease m block slot server
    → Fine actor past m (grant_leased layout term actor block slot sources m server)
unfolding grant_leased lease_and_grant new_grant remember
leased-fine layout term actor past m block slot server sources f who left current may =
    let n : MetaImage = apply m (GiveLease actor block.file (lease_end term m.clock)) in
    let g : GrantTold = new_grant layout (closed_len (closed_file block.file m.tree)) block slot
    server m.next_lease sources m in (
      (who, (lease-may actor (lease_end term m.clock) m block slot server who left may, tt)),
      λ h. subst (λ p. Keeps p (apply_all
          (GiveLease actor block.file (lease_end term m.clock) ∷ GrantSlot block slot server actor
          m.next_lease ∷ []) m)) (sym (leased actor past g f.first_lease))
          (lease-ends layout term actor past m block slot server sources current h),
    )

pub chosen-fine : (layout : Shape) (term actor : ℕ) (past : Past) (m : MetaImage) (block : BlockId)
    (slot : ℕ) (sources : NineCopies)
    → Fits m → IsActor actor → HasVersionsLeft m → AreCurrent m.slots block sources
    → IsTrue (is_some (closed_file block.file m.tree)) → slot < 9 →
    (slot_at m.slots block slot).grant ≡ None → Fine actor past m
    (grant_chosen layout term actor block slot sources m)
unfolding grant_chosen remember
chosen-fine layout term actor past m block slot sources f who left current closed small free =
    need-fine actor past m (Told.NoServer block slot) _ _ refl (λ server chosen.
    let c = chosen-is m.servers m.slots (barred_for_block m.servers m.slots block) server chosen in
    leased-fine layout term actor past m block slot server sources f who left current
    (record { closed = closed; small = small; server_number = c.0; free = free; apart = c.1 }))

pending-quiet : (actor : ℕ) (past : Past) (o : Option Grant) (reply : MetaReply)
    → pending_refusal o ≡ Some reply → Quiet actor past reply
unfolding pending_refusal remember
pending-quiet actor past None reply is = absurd (cc)
pending-quiet actor past (Some g) reply is =
    let e : Told.Taken g.copy.version ≡ reply = cc in subst (Quiet actor past) e refl

pub pending-none : (o : Option Grant) → pending_refusal o ≡ None → o ≡ None
unfolding pending_refusal
pending-none None e = refl
pending-none (Some g) e = absurd (cc)

pub closed-passes : (row : TreeRow) → kind_of row.file row.closed ≡ Is.Closed
    → closed_test row.file row ≡ true
unfolding is_closed_row is_closed
closed-passes row is =
    (λ i. is_closed (is i) && has_file row.file row) ∙ has_file-is row.file row ∙ eq-eqb row.file
    row.file refl

found-closed : (path : PathNames) (tree : List TreeRow) (row : TreeRow)
    → find (stands_at row_path path) tree ≡ Some row → kind_of row.file row.closed ≡ Is.Closed
    → list_any (closed_test row.file) tree ≡ true
found-closed path tree row found is =
    found-any _ (closed_test row.file) tree row found (closed-passes row is)

pub closed-at : (next : ℕ) (path : PathNames) (tree : List TreeRow)
    → look_refusal (standing tree) path ≡ None → HasTree next tree
    → IsTrue (is_some (closed_file (row_at tree path).file tree))
unfolding row_at
closed-at next path tree looks h =
    let k = kind-row tree path Is.Closed (closed-root tree path looks)
    (look-closed (standing tree) path looks) in
    let e : (row_at tree path).file ≡ k.0.file = ap (λ o. (unwrap_or o (directory_row [])).file) k.1
    in
    subst (λ n. IsTrue (is_some (closed_file n tree))) (sym e)
    (subst IsTrue (sym (closed-any k.0.file tree)) (found-closed path tree k.0 k.1 k.3))

-- ---- a recovery

pub recover-fine : (layout : Shape) (term actor : ℕ) (past : Past) (m : MetaImage)
    (path : PathNames) (index slot : ℕ)
    → Fits m → IsActor actor → HasVersionsLeft m → is_slot_number slot ≡ true
    → Fine actor past m (decide_recover layout term actor path index slot m)
unfolding decide_recover grant_recovery remember is_slot_number
recover-fine layout term actor past m path index slot f who left small =
    path-fine actor past m _ _ (λ looks.
    unless-fine actor past m _ Told.NoBlock _ refl (λ _.
    refuse-fine actor past m _ _ (λ reply is. pending-quiet actor past _ reply is) (λ free.
    unless-fine actor past m _ Told.Whole _ refl (λ _.
    chosen-fine layout term actor past m
    (record { file = (row_at m.tree path).file; index = index }) slot _ f who left
    (others-current m.servers m.slots (record { file = (row_at m.tree path).file; index = index })
    slot)
    (closed-at m.next_file path m.tree looks f.tree) (ltb-true _ _ small) (pending-none _ free)))))

-- ---- a move

pub move-fine : (layout : Shape) (term actor : ℕ) (past : Past) (m : MetaImage) (path : PathNames)
    (index slot to : ℕ)
    → Fits m → IsActor actor → HasVersionsLeft m
    → (is_slot_number slot && is_server (length m.servers) to) ≡ true
    → Fine actor past m (decide_move layout term actor path index slot to m)
unfolding decide_move move_copy may_get is_barred remember is_slot_number
move-fine layout term actor past m path index slot to f who left range =
    let block : BlockId = record { file = (row_at m.tree path).file; index = index } in
    let r = and_parts (nat_lt slot 9) (is_server (length m.servers) to) range in
    path-fine actor past m _ _ (λ looks.
    unless-fine actor past m _ Told.NoBlock _ refl (λ _.
    need-fine actor past m Told.NoBlock _ _ refl (λ copy current.
    refuse-fine actor past m _ _ (λ reply is. pending-quiet actor past _ reply is) (λ free.
    unless-fine actor past m _ (Told.Away copy.server) _ refl (λ _.
    unless-fine actor past m _ (Told.Barred to) _ refl (λ may.
    leased-fine layout term actor past m block slot to (one_source slot copy) f who left
    (one-current m.slots block slot copy current)
    (record {
      closed = closed-at m.next_file path m.tree looks f.tree;
      small = ltb-true _ _ r.0;
      server_number = server-is _ _ r.1;
      free = pending-none _ free;
      apart = not-true _
          (and_parts _ _ may).1;
    })))))))
