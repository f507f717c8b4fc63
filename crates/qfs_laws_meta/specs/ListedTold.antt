-- What an answer grants and lists: the copies that it lists are current, in the state that decided
-- it and behind the step; and a put is granted no server that failed a put of the slot. The laws
-- `listed_copies_are_current` and, in part, `slots_are_told`.
use Rattle.qfs_base.specs.EachLaws.{each_weaker}
use Rattle.qfs_base.specs.NumberSet.{has}
use Rattle.qfs_base.specs.Shape.{Shape}
use Rattle.qfs_base.specs.Sizes.{LAST_U32, SLOTS}
use Rattle.qfs_base.specs.Table.{Each, place}
use Rattle.qfs_base.specs.declared.change.Change.TheVariants.{FailGrant, GiveLease, GrantSlot}
use Rattle.qfs_base.specs.declared.change.Change.{Change}
use Rattle.qfs_base.specs.declared.chunk.BlockId.{BlockId}
use Rattle.qfs_base.specs.declared.history.Outcome.{Outcome}
use Rattle.qfs_base.specs.declared.image.Grant.{Grant}
use Rattle.qfs_base.specs.declared.image.MetaImage.{MetaImage}
use Rattle.qfs_base.specs.declared.image.SlotRecord.{SlotRecord}
use Rattle.qfs_base.specs.declared.image.SlotRow.{SlotRow}
use Rattle.qfs_base.specs.declared.image.TreeRow.{TreeRow}
use Rattle.qfs_base.specs.declared.reply.Granted.{Granted}
use Rattle.qfs_base.specs.declared.reply.MetaReply.TheVariants as Told
use Rattle.qfs_base.specs.declared.reply.MetaReply.{MetaReply}
use Rattle.qfs_base.specs.declared.reply.Opened.{Opened}
use Rattle.qfs_base.specs.declared.request.MetaRequest.TheVariants as Ask
use Rattle.qfs_base.specs.declared.request.MetaRequest.{MetaRequest}
use Rattle.qfs_base.specs.declared.request.SlotId.{SlotId}
use Rattle.qfs_base.specs.declared.rules.Rules.{Rules}
use Rattle.qfs_laws_meta.specs.Granting.{live-free}
use Rattle.qfs_laws_meta.specs.Kept.{Fits, Keeps}
use Rattle.qfs_laws_meta.specs.Listing.{AreCurrent, file-each, listed-each, one-current}
use Rattle.qfs_laws_meta.specs.Listing.{others-current}
use Rattle.qfs_laws_meta.specs.MayTell.{AnyMayGet, IsPutGrant, MayTell, placed_put}
use Rattle.qfs_laws_meta.specs.MoreGrants.{row-of, source-current}
use Rattle.qfs_laws_meta.specs.Replies.{ListsCurrent}
use Rattle.qfs_laws_meta.specs.RequestChanges.{GivesGrant, Prepares, Provides, decide-does}
use Rattle.qfs_laws_meta.specs.RequestChanges.{grant_at, step-does}
use Rattle.qfs_laws_meta.specs.Requests.{apply-append}
use Rattle.qfs_laws_meta.specs.SlotsBehind.{failed_record, slot-touched, slot-untouched, touches-or}
use Rattle.qfs_laws_meta.specs.SlotsTold.{failed_at}
use Rattle.qfs_laws_meta.specs.StaysSound.{keeps-of}
use Rattle.qfs_laws_meta.specs.StepsAnswer.{steps-answer}
use Rattle.qfs_laws_meta.specs.Tells.{current_at}
use Rattle.qfs_laws_slots.specs.Choice.{chosen-is}
use Rattle.qfs_laws_tables.specs.Distinct.{copies}
use Rattle.qfs_model_meta.specs.Apply.{apply, apply_all}
use Rattle.qfs_model_meta.specs.Asked.{MayAsk}
use Rattle.qfs_model_meta.specs.Decide.{decide}
use Rattle.qfs_model_meta.specs.Dropped.{dropped_at}
use Rattle.qfs_model_meta.specs.GetRequests.{opened}
use Rattle.qfs_model_meta.specs.Grammar.{IsActor}
use Rattle.qfs_model_meta.specs.LeasedGrants.{move_source}
use Rattle.qfs_model_meta.specs.Lists.{NineCopies, block_count, listed_blocks, new_grant}
use Rattle.qfs_model_meta.specs.Lists.{no_sources}
use Rattle.qfs_model_meta.specs.MoveRequests.{next_to_move}
use Rattle.qfs_model_meta.specs.Past.{GivenLease, ListedCopy, Past, is_of_put, listed_in}
use Rattle.qfs_model_meta.specs.Past.{listed_in_file, no_past, remember, with_copy, with_grant}
use Rattle.qfs_model_meta.specs.Past.{with_lease}
use Rattle.qfs_model_meta.specs.Placing.{barred_for_put, with_live_servers}
use Rattle.qfs_model_meta.specs.PutRequests.{chosen_for_put, failed_with}
use Rattle.qfs_model_meta.specs.Range.{in_range, is_slot_number}
use Rattle.qfs_model_meta.specs.Slots.{failed_slot, granted_slot, grants_of_block, slot_at}
use Rattle.qfs_model_meta.specs.Slots.{ungranted_slot, without_grant}
use Rattle.qfs_model_meta.specs.Sound.{IsSound, is_lease_of}
use Rattle.qfs_model_meta.specs.Step.{meta_step, next_turn, stays}
use Rattle.qfs_model_meta.specs.TreeRows.{row_at}
use Rattle.std.proofs.Common.{Bool, List, None, Option, Some, [], ap, false, find, inl, inr, length}
use Rattle.std.proofs.Common.{refl, subst, sym, true, ℕ, ⊎_elim, ◌&&◌, ◌+◌, ◌<◌, ◌==◌, ◌||◌, ◌∙◌}
use Rattle.std.proofs.Common.{◌∷◌, ◌≡◌}
use Rattle.std.proofs.lemmas.Bool.{and_from, and_parts, eq-eqb, eqb-true, lt-ltb}
use Rattle.std.specs.List.{list_any}

-- ---- the law

abbrev pub IsListedNow : MetaImage → MetaImage → ListedCopy → Type 0
IsListedNow m n l =
    (l.lease ≡ m.next_lease)
    × (current_at m l.of_slot.block l.of_slot.slot ≡ Some l.of_slot.copy)
    × (current_at n l.of_slot.block l.of_slot.slot ≡ Some l.of_slot.copy)

abbrev pub ListedAreCurrent : Type 0
ListedAreCurrent =
    (rules : Rules) (actor : ℕ) (request : MetaRequest) (outcome : Outcome) (past : Past)
    (m : MetaImage)
    → IsSound past m → length past.granted + 1 < LAST_U32 → IsActor actor → MayAsk past request
    → in_range (length m.servers) request ≡ true
    → Each (IsListedNow m (meta_step rules actor request outcome m).meta)
    (remember actor no_past (meta_step rules actor request outcome m).reply).listed

-- the failed servers of a slot, with that of its pending grant, are not granted
abbrev pub FailedAreNotGranted : Type 0
FailedAreNotGranted =
    (rules : Rules) (actor file index slot : ℕ) (again : Bool) (outcome : Outcome) (past : Past)
    (m : MetaImage) (g : Granted)
    → IsSound past m → length past.granted + 1 < LAST_U32 → IsActor actor → slot < SLOTS
    → (meta_step rules actor (Ask.Grant file index slot again) outcome m).reply ≡ Told.Granted g
    → has (failed_with (failed_at m (record { file = file; index = index }) slot)
    (grant_at m (record { file = file; index = index }) slot)) g.server ≡ false

-- ---- what is listed

abbrev IsCurrentNow : MetaImage → ListedCopy → Type 0
IsCurrentNow m l =
    (l.lease ≡ m.next_lease)
    × (current_at m l.of_slot.block l.of_slot.slot ≡ Some l.of_slot.copy)

-- what was told of a lease alone
abbrev lent : ℕ → ℕ → ℕ → Past
lent lease actor file =
    record no_past { leases = record { lease = lease; actor = actor; file = file } ∷ [] }

lent-lease : (lease actor file : ℕ)
    → list_any (λ (l : GivenLease). (l.lease == lease) && (l.file == file))
    (lent lease actor file).leases ≡ true
lent-lease lease actor file =
    ap (λ b. b || false) (and_from (lease == lease) (file == file) (eq-eqb lease lease refl)
    (eq-eqb file file refl))

current-now : (m : MetaImage) (actor file : ℕ) (copies : List ListedCopy)
    → Each (ListsCurrent (lent m.next_lease actor file) m) copies
    → Each (IsCurrentNow m) copies
unfolding is_lease_of
current-now m actor file copies each =
    each_weaker (ListsCurrent (lent m.next_lease actor file) m) (IsCurrentNow m)
    (λ l c. (own l c.1, c.0)) copies each
  where
    left : (a : Bool) → (a || false) ≡ true → a ≡ true
    left true e = refl
    left false e = absurd (cc)

    own : (l : ListedCopy)
        → list_any (λ (lease : GivenLease). (lease.lease == l.lease)
        && (lease.file == l.of_slot.block.file)) (lent m.next_lease actor file).leases ≡ true
        → l.lease ≡ m.next_lease
    own l any = sym (eqb-true _ _ (and_parts (m.next_lease == l.lease)
        (file == l.of_slot.block.file) (left _ any)).0)

-- the sources of a grant under the next lease
listed-grant : (layout : Shape) (len : ℕ) (actor : ℕ) (m : MetaImage) (block : BlockId)
    (slot server : ℕ) (sources : NineCopies) (g : Granted)
    → AreCurrent m.slots block sources
    → g ≡ new_grant layout len block slot server m.next_lease sources m
    → Each (IsCurrentNow m) (remember actor no_past (Told.Granted g)).listed
unfolding remember with_grant with_lease with_copy new_grant
listed-grant layout len actor m block slot server sources g current is =
    subst (λ g. Each (IsCurrentNow m) (remember actor no_past (Told.Granted g)).listed) (sym is)
    (one (is_of_put (new_grant layout len block slot server m.next_lease sources m)))
  where
    one : (b : Bool)
        → Each (IsCurrentNow m) (with_grant actor
        (new_grant layout len block slot server m.next_lease sources m) no_past b).listed
    one true = unfold with_grant with_copy no_past in tt
    one false = unfold with_grant with_copy with_lease new_grant no_past in
        current-now m actor block.file (listed_in m.next_lease block sources)
        (listed-each (lent m.next_lease actor block.file) m m.next_lease block sources
        (lent-lease m.next_lease actor block.file) current)

put-listed : (layout : Shape) (len : ℕ) (actor : ℕ) (m : MetaImage) (block : BlockId)
    (slot server : ℕ) (g : Granted)
    → g ≡ new_grant layout len block slot server 0 no_sources m
    → Each (IsCurrentNow m) (remember actor no_past (Told.Granted g)).listed
unfolding remember with_grant with_copy new_grant is_of_put no_past
put-listed layout len actor m block slot server g is =
    subst (λ g. Each (IsCurrentNow m) (remember actor no_past (Told.Granted g)).listed) (sym is) tt

opened-listed : (layout : Shape) (actor : ℕ) (m : MetaImage) (row : TreeRow) (o : Opened)
    → o ≡ opened layout row m
    → Each (IsCurrentNow m) (remember actor no_past (Told.Opened o)).listed
unfolding remember with_lease opened no_past
opened-listed layout actor m row o is =
    subst (λ o. Each (IsCurrentNow m) (remember actor no_past (Told.Opened o)).listed) (sym is)
    (current-now m actor row.file (listed_in_file m.next_lease row.file
    (listed_blocks m.servers m.slots row.file (block_count layout row.len)))
    (file-each (lent m.next_lease actor row.file) m m.next_lease row.file
    (block_count layout row.len) (lent-lease m.next_lease actor row.file)))

module _ (rules : Rules) (actor : ℕ) (m : MetaImage) (f : Fits m) where
  -- the source of a move that was found is the current copy
  found-source : (test : SlotRow → Bool) (row : SlotRow) → find test m.slots ≡ Some row
      → AreCurrent m.slots row.block (move_source row.slot row.state.current)
  found-source test row found =
      source-current m.slots row row.state.current
      (ap (λ (st : SlotRecord). st.current) (row-of m test row f found).1)

  moving-source : (layout : Shape) (server : ℕ) (after : Option SlotId) (row : SlotRow)
      → next_to_move layout server after m ≡ Some row
      → AreCurrent m.slots row.block (move_source row.slot row.state.current)
  unfolding next_to_move
  moving-source layout server after row found = found-source _ row found

  granted-listed : (g : Granted) (request : MetaRequest)
      → MayTell rules actor m (Told.Granted g) request
      → Each (IsCurrentNow m) (remember actor no_past (Told.Granted g)).listed
  granted-listed g (Ask.Grant file index slot again) may =
      put-listed rules.layout may.row.len actor m (record { file = file; index = index }) slot
      may.server g may.is
  granted-listed g (Ask.RecoverAt path index slot) may =
      let block : BlockId = record { file = (row_at m.tree path).file; index = index } in
      listed-grant rules.layout _ actor m block slot may.1.0 _ g
      (others-current m.servers m.slots block slot) may.1.2
  granted-listed g (Ask.HealNext after) may =
      listed-grant rules.layout _ actor m may.0.block may.0.slot may.2.0 _ g
      (others-current m.servers m.slots may.0.block may.0.slot) may.2.2
  granted-listed g (Ask.MoveAt path index slot to) may =
      let block : BlockId = record { file = (row_at m.tree path).file; index = index } in
      listed-grant rules.layout _ actor m block slot to _ g
      (one-current m.slots block slot may.0 may.1.there.current) may.4
  granted-listed g (Ask.EvacNext server after) may =
      listed-grant rules.layout _ actor m may.0.block may.0.slot may.2.0 _ g
      (moving-source rules.layout server after may.0 may.1) may.2.2
  granted-listed g Ask.BalanceNext may =
      listed-grant rules.layout _ actor m may.row.block may.row.slot may.taker.0 _ g
      (found-source _ may.row may.found) may.is
  granted-listed g (Ask.Mkdir path) may = absurd may
  granted-listed g _ may = absurd may

  file-listed : (o : Opened) (request : MetaRequest)
      → MayTell rules actor m (Told.Opened o) request
      → Each (IsCurrentNow m) (remember actor no_past (Told.Opened o)).listed
  file-listed o (Ask.OpenFile path) may =
      opened-listed rules.layout actor m (row_at m.tree path) o may.1
  file-listed o (Ask.Mkdir path) may = absurd may
  file-listed o _ may = absurd may

  may-listed : (reply : MetaReply) (request : MetaRequest) → MayTell rules actor m reply request
      → Each (IsCurrentNow m) (remember actor no_past reply).listed
  may-listed (Told.Granted g) request may = granted-listed g request may
  may-listed (Told.Opened o) request may = file-listed o request may
  may-listed (Told.Ordered condemned turn) request may = unfold remember no_past in tt
  may-listed (Told.Done place) request may = unfold remember no_past in tt
  may-listed _ request may = unfold remember no_past in tt

any-listed : (rules : Rules) (actor : ℕ) (outcome : Outcome) (m : MetaImage)
    (request : MetaRequest) (reply : MetaReply)
    → AnyMayGet rules actor outcome m request reply
    → Each (IsCurrentNow m) (remember actor no_past reply).listed
unfolding remember no_past
any-listed rules actor outcome m request (Told.Granted g) any = absurd any
any-listed rules actor outcome m request (Told.Opened o) any = absurd any
any-listed rules actor outcome m request (Told.Ordered condemned turn) any = absurd any
any-listed rules actor outcome m request (Told.Done place) any = absurd any
any-listed rules actor outcome m request _ any = tt

-- ---- a grant keeps the current copies

prepared-current : (actor : ℕ) (m : MetaImage) (g : Granted) (first : List Change)
    → Prepares actor g first → (block : BlockId) (slot : ℕ)
    → current_at (apply_all first m) block slot ≡ current_at m block slot
unfolding apply_all
prepared-current actor m g first (inl none) block slot =
    ap (λ cs. current_at (apply_all cs m) block slot) none.0
prepared-current actor m g first (inr (inl fails)) block slot =
    ap (λ cs. current_at (apply_all cs m) block slot) fails.0
    ∙ ⊎_elim
    (λ touches. ap (λ (st : SlotRecord). st.current)
    (slot-touched m (FailGrant g.block g.slot) block slot touches)
    ∙ one (slot_at m.slots block slot) (grant_at m block slot))
    (λ apart. ap (λ (st : SlotRecord). st.current)
    (slot-untouched m (FailGrant g.block g.slot) block slot apart))
    (touches-or (FailGrant g.block g.slot) block slot)
  where
    one : (state : SlotRecord) (o : Option Grant)
        → (failed_record state o).current ≡ state.current
    one state None = unfold failed_record in refl
    one state (Some grant) = unfold failed_record failed_slot ungranted_slot in refl
prepared-current actor m g first (inr (inr lends)) block slot =
    ap (λ cs. current_at (apply_all cs m) block slot) lends.1
    ∙ ap (λ (st : SlotRecord). st.current)
    (slot-untouched m (GiveLease actor g.block.file lends.0) block slot (λ e. e))

granted-current : (actor : ℕ) (m : MetaImage) (g : Granted) (changes : List Change)
    → GivesGrant actor m g changes → (block : BlockId) (slot : ℕ)
    → current_at (apply_all changes m) block slot ≡ current_at m block slot
unfolding apply_all granted_slot
granted-current actor m g changes gives block slot =
    ap (λ (o : MetaImage). current_at o block slot)
    (ap (λ cs. apply_all cs m) gives.is ∙ apply-append m gives.first (last ∷ []))
    ∙ ⊎_elim
    (λ touches. ap (λ (st : SlotRecord). st.current) (slot-touched n last block slot touches))
    (λ apart. ap (λ (st : SlotRecord). st.current) (slot-untouched n last block slot apart))
    (touches-or last block slot)
    ∙ prepared-current actor m g gives.first gives.prepares block slot
  where
    last : Change
    last = GrantSlot g.block g.slot g.server actor g.lease

    n : MetaImage
    n = apply_all gives.first m

listed-behind : (actor : ℕ) (m : MetaImage) (changes : List Change) (reply : MetaReply)
    → Provides actor m changes reply
    → Each (IsCurrentNow m) (remember actor no_past reply).listed
    → Each (IsListedNow m (apply_all changes m)) (remember actor no_past reply).listed
listed-behind actor m changes (Told.Granted g) gives each =
    each_weaker (IsCurrentNow m) (IsListedNow m (apply_all changes m)) (λ (l : ListedCopy) c.
    (c.0, c.1, granted-current actor m g changes gives l.of_slot.block l.of_slot.slot ∙ c.1))
    (remember actor no_past (Told.Granted g)).listed each
listed-behind actor m changes (Told.Opened o) gives each =
    each_weaker (IsCurrentNow m) (IsListedNow m (apply_all changes m)) (λ (l : ListedCopy) c. (
      c.0,
      c.1,
      ap (λ cs. current_at (apply_all cs m) l.of_slot.block l.of_slot.slot) gives.2
          ∙ lent-current actor o.file gives.1 l.of_slot.block l.of_slot.slot ∙ c.1,
    ))
    (remember actor no_past (Told.Opened o)).listed each
  where
    lent-current : (actor file until : ℕ) (block : BlockId) (slot : ℕ)
        → current_at (apply_all (GiveLease actor file until ∷ []) m) block slot
        ≡ current_at m block slot
    lent-current actor file until block slot = unfold apply_all apply in refl
listed-behind actor m changes (Told.Ordered condemned turn) gives each =
    unfold remember no_past in tt
listed-behind actor m changes (Told.Done place) gives each = unfold remember no_past in tt
listed-behind actor m changes _ gives each = unfold remember no_past in tt

pub listed-are-current : ListedAreCurrent
listed-are-current rules actor request outcome past m sound left who may range =
    let h = keeps-of past m sound in
    let now : Each (IsCurrentNow m)
    (remember actor no_past (meta_step rules actor request outcome m).reply).listed = ⊎_elim
    (λ told. may-listed rules actor m h.fits (meta_step rules actor request outcome m).reply request
    told.1)
    (λ any. any-listed rules actor outcome m request (meta_step rules actor request outcome m).reply
    any) (steps-answer rules actor request outcome past m sound left who may range).answer in
    step-listed rules actor request outcome past m h now
  where
    step-listed : (rules : Rules) (actor : ℕ) (request : MetaRequest) (outcome : Outcome)
        (past : Past) (m : MetaImage) → Keeps past m
        → Each (IsCurrentNow m)
        (remember actor no_past (meta_step rules actor request outcome m).reply).listed
        → Each (IsListedNow m (meta_step rules actor request outcome m).meta)
        (remember actor no_past (meta_step rules actor request outcome m).reply).listed
    step-listed rules actor request outcome past m h =
        unfold meta_step next_turn in step-does
        (λ served. Each (IsCurrentNow m) (remember actor no_past served.reply).listed
        → Each (IsListedNow m served.meta) (remember actor no_past served.reply).listed) actor m
        request (decide rules actor m request) outcome (dropped_at actor m.dropped)
        (decide-does rules actor m request h.fits)
        (λ reply _ each. unfold stays in each_weaker (IsCurrentNow m) (IsListedNow m m)
        (λ (l : ListedCopy) c. (c.0, c.1, c.1)) (remember actor no_past reply).listed each)
        (λ changes reply is _ does gives each. listed-behind actor m changes reply gives each)

-- ---- the servers that a put isn't granted

not-failed : (m : MetaImage) (block : BlockId) (slot server : ℕ)
    → placed_put block slot m ≡ Some server
    → has (failed_with (failed_at m block slot) (grant_at m block slot)) server ≡ false
unfolding chosen_for_put barred_for_put
not-failed m block slot server placed =
    let others : List SlotRow = without_grant block slot m.slots (grant_at m block slot) in
    (live-free m.servers (grants_of_block block others)
    (failed_with (failed_at m block slot) (grant_at m block slot)) server
    (chosen-is m.servers others (with_live_servers m.servers
    (failed_with (failed_at m block slot) (grant_at m block slot)) (grants_of_block block others))
    server placed).1).0

pub failed-are-not-granted : FailedAreNotGranted
failed-are-not-granted rules actor file index slot again outcome past m g sound left who small is =
    ⊎_elim
    (λ told. put-placed (subst (λ r. MayTell rules actor m r (Ask.Grant file index slot again)) is
    told.1))
    (λ any. absurd (subst (AnyMayGet rules actor outcome m (Ask.Grant file index slot again)) is
    any))
    (steps-answer rules actor (Ask.Grant file index slot again) outcome past m sound left who tt
    (unfold in_range is_slot_number in lt-ltb slot SLOTS small)).answer
  where
    server-told : (layout : Shape) (len server : ℕ) (b : BlockId)
        → g ≡ new_grant layout len b slot server 0 no_sources m → g.server ≡ server
    server-told layout len server b e = unfold new_grant in ap (λ (x : Granted). x.server) e

    put-placed : IsPutGrant rules.layout actor (record { file = file; index = index }) slot again
        m g
        → has (failed_with (failed_at m (record { file = file; index = index }) slot)
        (grant_at m (record { file = file; index = index }) slot)) g.server ≡ false
    put-placed put =
        ap (has (failed_with (failed_at m (record { file = file; index = index }) slot)
        (grant_at m (record { file = file; index = index }) slot)))
        (server-told rules.layout put.row.len put.server
        (record { file = file; index = index }) put.is)
        ∙ not-failed m (record { file = file; index = index }) slot put.server put.placed
