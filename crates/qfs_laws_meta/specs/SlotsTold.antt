-- What a step tells of each slot: its next version rises by at most one, and only where the reply
-- grants the slot; and a server counts as failed only where a put is granted the slot again. The
-- law `slots_are_told`.
use Rattle.qfs_base.specs.EachLaws.{each_weaker}
use Rattle.qfs_base.specs.NameTree.{PathNames}
use Rattle.qfs_base.specs.Sizes.{LAST_U32}
use Rattle.qfs_base.specs.Table.{Each}
use Rattle.qfs_base.specs.declared.change.Change.TheVariants.{AbortFile, AddDirectory, CloseFile}
use Rattle.qfs_base.specs.declared.change.Change.TheVariants.{ConfirmSlot, EmptySlot, FailGrant}
use Rattle.qfs_base.specs.declared.change.Change.TheVariants.{GiveLease, GiveUp, GrantSlot}
use Rattle.qfs_base.specs.declared.change.Change.TheVariants.{RemoveFile}
use Rattle.qfs_base.specs.declared.change.Change.{Change}
use Rattle.qfs_base.specs.declared.chunk.BlockId.{BlockId}
use Rattle.qfs_base.specs.declared.history.Outcome.{Outcome}
use Rattle.qfs_base.specs.declared.image.Grant.{Grant}
use Rattle.qfs_base.specs.declared.image.MetaImage.{MetaImage}
use Rattle.qfs_base.specs.declared.image.SlotRecord.{SlotRecord}
use Rattle.qfs_base.specs.declared.reply.Granted.{Granted}
use Rattle.qfs_base.specs.declared.reply.MetaReply.TheVariants as Told
use Rattle.qfs_base.specs.declared.reply.MetaReply.{MetaReply}
use Rattle.qfs_base.specs.declared.request.MetaRequest.{MetaRequest}
use Rattle.qfs_base.specs.declared.rules.Rules.{Rules}
use Rattle.qfs_laws_meta.specs.GrantRequests.{closed-at}
use Rattle.qfs_laws_meta.specs.GrantsFit.{GrantsNone, granted-or, none-granted, same-next}
use Rattle.qfs_laws_meta.specs.HoldingKept.{gone-all, slot-all}
use Rattle.qfs_laws_meta.specs.Kept.{Fits, Keeps, aborted-of, kept, tree-back, unclosed-of}
use Rattle.qfs_laws_meta.specs.RequestChanges.{Does, GivesGrant, Prepares, Provides, TellsOf}
use Rattle.qfs_laws_meta.specs.RequestChanges.{decide-does, grant_at, step-does}
use Rattle.qfs_laws_meta.specs.Requests.{AllMake, Fine, apply-append, make-split, told_all}
use Rattle.qfs_laws_meta.specs.SlotsBehind.{Touches, failed_record, slot-touched, slot-untouched}
use Rattle.qfs_laws_meta.specs.SlotsBehind.{touches-or}
use Rattle.qfs_laws_meta.specs.StaysSound.{decide-fine, keeps-of}
use Rattle.qfs_laws_meta.specs.StillStands.{EndsFile, IsClosedIn, IsGone, gone-when, stays-gone}
use Rattle.qfs_laws_meta.specs.StillStands.{still-closed}
use Rattle.qfs_laws_slots.specs.Changes.{MayMake, told}
use Rattle.qfs_laws_slots.specs.RowKeys.{own-file}
use Rattle.qfs_laws_tables.specs.SomeRow.{any_each}
use Rattle.qfs_laws_tree.specs.Files.{closed-after}
use Rattle.qfs_laws_tree.specs.History.{IsUnclosedFile}
use Rattle.qfs_laws_tree.specs.Stands.{stands_of_closed}
use Rattle.qfs_laws_tree.specs.Tree.{RowIs}
use Rattle.qfs_laws_tree.specs.TreeChanges.{stands-below}
use Rattle.qfs_model_meta.specs.Apply.{apply, apply_all, with_slots, write_entry}
use Rattle.qfs_model_meta.specs.Asked.{MayAsk}
use Rattle.qfs_model_meta.specs.Decide.{decide}
use Rattle.qfs_model_meta.specs.Decision.{Makes}
use Rattle.qfs_model_meta.specs.Dropped.{dropped_at}
use Rattle.qfs_model_meta.specs.Grammar.{IsActor}
use Rattle.qfs_model_meta.specs.Past.{Past}
use Rattle.qfs_model_meta.specs.PutRequests.{failed_with}
use Rattle.qfs_model_meta.specs.Servers.{server_at}
use Rattle.qfs_model_meta.specs.Slots.{confirmed_slot, emptied_slot, failed_slot, granted_slot}
use Rattle.qfs_model_meta.specs.Slots.{never_granted, sealed_slot, slot_at, ungranted_slot}
use Rattle.qfs_model_meta.specs.Sound.{IsSound}
use Rattle.qfs_model_meta.specs.Step.{meta_step, next_turn, stays}
use Rattle.qfs_model_meta.specs.TreeRows.{close_file, closed_file, file_stands, has_file}
use Rattle.std.proofs.Common.{List, None, Option, Some, [], ap, arith, false, inl, inr, length}
use Rattle.std.proofs.Common.{refl, subst, sym, ℕ, ⊎_elim, ◌+◌, ◌<◌, ◌∙◌, ◌∷◌, ◌≡◌, ◌≤◌}
use Rattle.std.proofs.Common.{◌⊎◌}
use Rattle.std.proofs.lemmas.Bool.{cases_eq}
use Rattle.std.specs.Prelude.{IsTrue, is_some, min, ⊤}

-- ---- the law

abbrev pub next_at : MetaImage → BlockId → ℕ → ℕ
next_at m block slot = (slot_at m.slots block slot).next

abbrev pub failed_at : MetaImage → BlockId → ℕ → List ℕ
failed_at m block slot = (slot_at m.slots block slot).failed

-- a file is closed, or gone
abbrev pub IsOver : MetaImage → ℕ → Type 0
IsOver m file = IsClosedIn m file ⊎ (file_stands file m.tree ≡ false)

pub record SlotTells (reply : MetaReply) (m n : MetaImage) (block : BlockId)
    (slot : ℕ) : Type 0 where
  -- the next version is the same, or one higher where the reply grants the slot, or the first where
  -- the file is gone
  pub version : (next_at n block slot ≡ next_at m block slot)
      ⊎ ((server : ℕ) × (lease : ℕ) × TellsOf reply block slot server lease
      × (next_at n block slot ≡ next_at m block slot + 1))
      ⊎ ((file_stands block.file n.tree ≡ false) × (next_at n block slot ≡ 1))
  -- the failed servers are the same, or with that of the pending grant where a put is granted the
  -- slot, or none where the file is closed or gone
  pub failed : (failed_at n block slot ≡ failed_at m block slot)
      ⊎ ((server : ℕ) × TellsOf reply block slot server 0
      × (failed_at n block slot ≡ failed_with (failed_at m block slot) (grant_at m block slot)))
      ⊎ (IsOver n block.file × (failed_at n block slot ≡ []))

abbrev pub SlotsAreTold : Type 0
SlotsAreTold =
    (rules : Rules) (actor : ℕ) (request : MetaRequest) (outcome : Outcome) (past : Past)
    (m : MetaImage) (block : BlockId) (slot : ℕ)
    → IsSound past m → length past.granted + 1 < LAST_U32 → IsActor actor → MayAsk past request
    → SlotTells (meta_step rules actor request outcome m).reply m
    (meta_step rules actor request outcome m).meta block slot

abbrev pub VersionsRiseByOne : Type 0
VersionsRiseByOne =
    (rules : Rules) (actor : ℕ) (request : MetaRequest) (outcome : Outcome) (past : Past)
    (m : MetaImage) (block : BlockId) (slot : ℕ)
    → IsSound past m → length past.granted + 1 < LAST_U32 → IsActor actor → MayAsk past request
    → next_at (meta_step rules actor request outcome m).meta block slot ≤ next_at m block slot + 1

-- ---- files that are over

-- a file that is closed, or was made and is gone
abbrev Over : MetaImage → ℕ → Type 0
Over m file = IsClosedIn m file ⊎ IsGone m file

-- an unclosed file has a number below the next one
unclosed-low : (m : MetaImage) (file : ℕ) → Fits m → IsUnclosedFile file m.tree
    → file < m.next_file
unclosed-low m file f is =
    any_each (file < m.next_file) (RowIs m.next_file) (has_file file)
    (λ row r has_it.
    let own : row.file ≡ file = own-file file row has_it in
    let some : 0 < row.file = let s = is.some in omega arith in
    subst (λ k. k < m.next_file) own (r.number some)) m.tree f.tree.rows is.there

closed-low : (m : MetaImage) (file : ℕ) → Fits m → IsClosedIn m file → file < m.next_file
closed-low m file f closed =
    (stands-below m.next_file file m.tree f.tree (stands_of_closed file m.tree closed)).0

abort-gone : (past : Past) (m : MetaImage) (file : ℕ) → MayMake past m (AbortFile file) → Fits m
    → IsGone (apply m (AbortFile file)) file
unfolding apply write_entry with_slots
abort-gone past m file may f = record {
  made = unclosed-low m file f (aborted-of m file may f);
  gone = gone-when (apply m (AbortFile file)) file (tree-back past m (AbortFile file) may f).1;
}

remove-gone : (past : Past) (m : MetaImage) (path : PathNames) (file : ℕ)
    → MayMake past m (RemoveFile path file) → Fits m → IsGone (apply m (RemoveFile path file)) file
unfolding apply write_entry with_slots
remove-gone past m path file may f = record {
  made = closed-low m file f (subst (IsClosedIn m) may.at
      (closed-at m.next_file path m.tree may.closed f.tree));
  gone = gone-when (apply m (RemoveFile path file)) file
      (tree-back past m (RemoveFile path file) may f).1;
}

ends-or : (change : Change) (file : ℕ) → EndsFile change file ⊎ (EndsFile change file → ⊥)
ends-or (CloseFile other actor command) file = cases_eq other file
ends-or (AbortFile other) file = cases_eq other file
ends-or (RemoveFile path other) file = cases_eq other file
ends-or (AddDirectory path) file = inr (λ e. e)
ends-or _ file = inr (λ e. e)

ended-over : (past : Past) (m : MetaImage) (change : Change) → MayMake past m change → Fits m
    → (file : ℕ) → EndsFile change file → Over (apply m change) file
unfolding apply write_entry with_slots
ended-over past m (CloseFile other actor command) may f file ends =
    inl (subst (λ k. IsTrue (is_some (closed_file k (close_file other m.tree)))) ends
    (closed-after other m.tree (unclosed-of m other actor command may f).0))
ended-over past m (AbortFile other) may f file ends =
    inr (subst (IsGone (apply m (AbortFile other))) ends (abort-gone past m other may f))
ended-over past m (RemoveFile path other) may f file ends =
    inr (subst (IsGone (apply m (RemoveFile path other))) ends
    (remove-gone past m path other may f))
ended-over past m (AddDirectory path) may f file ends = absurd ends
ended-over past m _ may f file ends = absurd ends

over-stays : (past : Past) (m : MetaImage) (change : Change) → MayMake past m change → Fits m
    → (file : ℕ) → Over m file → Over (apply m change) file
over-stays past m change may f file (inl closed) =
    ⊎_elim (λ ends. ended-over past m change may f file ends)
    (λ stays. inl (still-closed past m change may f file stays closed)) (ends-or change file)
over-stays past m change may f file (inr gone) = inr (stays-gone past m change may f file gone)

over-all : (past : Past) (m : MetaImage) (file : ℕ) (changes : List Change)
    → AllMake past m changes → Keeps past m → Over m file → Over (apply_all changes m) file
unfolding apply_all
over-all past m file [] may h over = over
over-all past m file (change ∷ changes) may h over =
    over-all (told change m past) (apply m change) file changes may.1
    (kept past m change may.0 h) (over-stays past m change may.0 h.fits file over)

-- ---- changes that grant nothing and fail nothing

abbrev pub FailsNone : Change → Type 0
FailsNone (FailGrant block slot) = ⊥
FailsNone change = ⊤

record Calm (m n : MetaImage) (block : BlockId) (slot : ℕ) : Type 0 where
  version : (next_at n block slot ≡ next_at m block slot)
      ⊎ (IsGone n block.file × (next_at n block slot ≡ 1))
  failed : (failed_at n block slot ≡ failed_at m block slot)
      ⊎ (Over n block.file × (failed_at n block slot ≡ []))

calm-same : (m n : MetaImage) (block : BlockId) (slot : ℕ)
    → slot_at n.slots block slot ≡ slot_at m.slots block slot → Calm m n block slot
calm-same m n block slot same = record {
  version = inl (ap (λ (st : SlotRecord). st.next) same);
  failed = inl (ap (λ (st : SlotRecord). st.failed) same);
}

calm-touched : (past : Past) (m : MetaImage) (change : Change) → MayMake past m change → Fits m
    → GrantsNone change → FailsNone change → (block : BlockId) (slot : ℕ)
    → Touches change block slot → Calm m (apply m change) block slot
unfolding sealed_slot never_granted ungranted_slot confirmed_slot emptied_slot
calm-touched past m (CloseFile file actor command) may f none quiet block slot touches =
    let at = slot-touched m (CloseFile file actor command) block slot touches in
    record {
      version = inl (ap (λ (st : SlotRecord). st.next) at);
      failed = inr (
        ended-over past m (CloseFile file actor command) may f block.file (sym touches),
        ap (λ (st : SlotRecord). st.failed) at,
      );
    }
calm-touched past m (AbortFile file) may f none quiet block slot touches =
    let at = slot-touched m (AbortFile file) block slot touches in
    let gone = subst (IsGone (apply m (AbortFile file))) (sym touches)
    (abort-gone past m file may f) in
    record {
      version = inr (gone, ap (λ (st : SlotRecord). st.next) at);
      failed = inr (inr gone, ap (λ (st : SlotRecord). st.failed) at);
    }
calm-touched past m (RemoveFile path file) may f none quiet block slot touches =
    let at = slot-touched m (RemoveFile path file) block slot touches in
    let gone = subst (IsGone (apply m (RemoveFile path file))) (sym touches)
    (remove-gone past m path file may f) in
    record {
      version = inr (gone, ap (λ (st : SlotRecord). st.next) at);
      failed = inr (inr gone, ap (λ (st : SlotRecord). st.failed) at);
    }
calm-touched past m (GiveUp other number) may f none quiet block slot touches =
    let at = slot-touched m (GiveUp other number) block slot touches in
    record {
      version = inl (ap (λ (st : SlotRecord). st.next) at);
      failed = inl (ap (λ (st : SlotRecord). st.failed) at);
    }
calm-touched past m (ConfirmSlot other number) may f none quiet block slot touches =
    let at = slot-touched m (ConfirmSlot other number) block slot touches in
    record {
      version = inl (ap (λ (st : SlotRecord). st.next) at);
      failed = inl (ap (λ (st : SlotRecord). st.failed) at);
    }
calm-touched past m (EmptySlot other number) may f none quiet block slot touches =
    let at = slot-touched m (EmptySlot other number) block slot touches in
    record {
      version = inl (ap (λ (st : SlotRecord). st.next) at);
      failed = inl (ap (λ (st : SlotRecord). st.failed) at);
    }
calm-touched past m (GrantSlot other number server actor lease) may f none quiet block slot
    touches =
    absurd none
calm-touched past m (FailGrant other number) may f none quiet block slot touches = absurd quiet
calm-touched past m (AddDirectory path) may f none quiet block slot touches = absurd touches
calm-touched past m _ may f none quiet block slot touches = absurd touches

calm-one : (past : Past) (m : MetaImage) (change : Change) → MayMake past m change → Fits m
    → GrantsNone change → FailsNone change → (block : BlockId) (slot : ℕ)
    → Calm m (apply m change) block slot
calm-one past m change may f none quiet block slot =
    ⊎_elim (λ touches. calm-touched past m change may f none quiet block slot touches)
    (λ apart. calm-same m (apply m change) block slot (slot-untouched m change block slot apart))
    (touches-or change block slot)

calm-all : (past : Past) (m : MetaImage) (changes : List Change) → AllMake past m changes
    → Keeps past m → Each GrantsNone changes → Each FailsNone changes → (block : BlockId) (slot : ℕ)
    → Calm m (apply_all changes m) block slot
unfolding apply_all
calm-all past m [] may h none quiet block slot = calm-same m m block slot refl
calm-all past m (change ∷ changes) may h none quiet block slot =
    let n : MetaImage = apply m change in
    let k = kept past m change may.0 h in
    let first = calm-one past m change may.0 h.fits none.0 quiet.0 block slot in
    let rest = calm-all (told change m past) n changes may.1 k none.1 quiet.1 block slot in
    record {
      version = ⊎_elim
          (λ same. ⊎_elim (λ before. inl (same ∙ before))
          (λ gone. inr (
            gone-all (told change m past) n block.file changes may.1 k gone.0,
            same ∙ gone.1,
          )) first.version)
          (λ gone. inr gone) rest.version;
      failed = ⊎_elim
          (λ same. ⊎_elim (λ before. inl (same ∙ before))
          (λ over. inr (
            over-all (told change m past) n block.file changes may.1 k over.0,
            same ∙ over.1,
          )) first.failed)
          (λ over. inr over) rest.failed;
    }

-- ---- a slot is granted

none-fails : (actor : ℕ) (m : MetaImage) (request : MetaRequest) (reply : MetaReply)
    → ((g : Granted) → reply ≡ Told.Granted g → ⊥) → (change : Change)
    → Does actor m request reply change → FailsNone change
none-fails actor m request reply quiet (FailGrant block slot) does = quiet does.2.0 does.2.1
none-fails actor m request reply quiet (AddDirectory path) does = tt
none-fails actor m request reply quiet _ does = tt

-- the failed servers of the slot before it is granted
prepared-failed : (actor : ℕ) (m : MetaImage) (g : Granted) (first : List Change)
    → Prepares actor g first
    → ((first ≡ []) → grant_at m g.block g.slot ≡ None)
    → (failed_at (apply_all first m) g.block g.slot ≡ failed_at m g.block g.slot)
    ⊎ ((g.lease ≡ 0) × (failed_at (apply_all first m) g.block g.slot
    ≡ failed_with (failed_at m g.block g.slot) (grant_at m g.block g.slot)))
unfolding apply_all
prepared-failed actor m g first (inl none) free =
    inl (ap (λ cs. failed_at (apply_all cs m) g.block g.slot) none.0)
prepared-failed actor m g first (inr (inl fails)) free =
    inr (
      fails.1,
      ap (λ cs. failed_at (apply_all cs m) g.block g.slot) fails.0
          ∙ ap (λ (st : SlotRecord). st.failed)
          (slot-touched m (FailGrant g.block g.slot) g.block g.slot (refl, refl))
          ∙ one (slot_at m.slots g.block g.slot) (grant_at m g.block g.slot),
    )
  where
    one : (state : SlotRecord) (o : Option Grant)
        → (failed_record state o).failed ≡ failed_with state.failed o
    one state None = unfold failed_record failed_with in refl
    one state (Some grant) =
        unfold failed_record failed_slot ungranted_slot failed_with in refl
prepared-failed actor m g first (inr (inr lends)) free =
    inl (ap (λ cs. failed_at (apply_all cs m) g.block g.slot) lends.1
    ∙ ap (λ (st : SlotRecord). st.failed) (slot-untouched m
    (GiveLease actor g.block.file lends.0) g.block g.slot (λ e. e)))

-- the other slots before it
prepared-other : (actor : ℕ) (m : MetaImage) (g : Granted) (first : List Change)
    → Prepares actor g first → (block : BlockId) (slot : ℕ)
    → (((g.block ≡ block) × (g.slot ≡ slot)) → ⊥)
    → slot_at (apply_all first m).slots block slot ≡ slot_at m.slots block slot
prepared-other actor m g first prepares block slot apart =
    slot-all m block slot first (spared prepares)
  where
    spared : Prepares actor g first → Each (λ change. Touches change block slot → ⊥) first
    spared (inl none) =
        subst (Each (λ change. Touches change block slot → ⊥)) (sym none.0) tt
    spared (inr (inl fails)) =
        subst (Each (λ change. Touches change block slot → ⊥)) (sym fails.0) (apart, tt)
    spared (inr (inr lends)) =
        subst (Each (λ change. Touches change block slot → ⊥)) (sym lends.1) ((λ e. e), tt)

granted-next : (server life actor lease : ℕ) (state : SlotRecord) → state.next < LAST_U32
    → (granted_slot server life actor lease state).next ≡ state.next + 1
unfolding granted_slot
granted-next server life actor lease state low = min-low (state.next + 1) LAST_U32 (omega arith)
  where
    min-low : (a b : ℕ) → a ≤ b → min a b ≡ a
    min-low a b low = omega arith

slot-granted : (actor : ℕ) (past : Past) (m : MetaImage) (request : MetaRequest) (g : Granted)
    (changes : List Change)
    → AllMake past m changes → Keeps past m → GivesGrant actor m g changes
    → (block : BlockId) (slot : ℕ)
    → SlotTells (Told.Granted g) m (apply_all changes m) block slot
unfolding apply_all granted_slot
slot-granted actor past m request g changes may h gives block slot =
    subst (λ (o : MetaImage). SlotTells (Told.Granted g) m o block slot)
    (sym (ap (λ cs. apply_all cs m) gives.is ∙ apply-append m gives.first (last ∷ [])))
    (⊎_elim (λ same. here same) (λ apart. there apart)
    (touches-or last block slot))
  where
    last : Change
    last = GrantSlot g.block g.slot g.server actor g.lease

    n : MetaImage
    n = apply_all gives.first m

    makes : MayMake (told_all gives.first m past) n last
    makes = (make-split past m gives.first (last ∷ [])
        (subst (AllMake past m) gives.is may)).1.0

    told_here : ((g.block ≡ block) × (g.slot ≡ slot))
        → TellsOf (Told.Granted g) block slot g.server g.lease
    told_here same = (g, refl, same.0, same.1, refl, refl)

    free : gives.first ≡ [] → grant_at m g.block g.slot ≡ None
    free none = ap (λ cs. grant_at (apply_all cs m) g.block g.slot) (sym none) ∙ makes.free

    at_slot : SlotTells (Told.Granted g) m (apply_all (last ∷ []) n) g.block g.slot
    at_slot =
        let at = slot-touched n last g.block g.slot (refl, refl) in
        let same = same-next actor m g gives.first gives.prepares in
        record {
          version = inr (inl (
            g.server,
            g.lease,
            (g, refl, refl, refl, refl, refl),
            ap (λ (st : SlotRecord). st.next) at
                ∙ granted-next g.server (server_at n.servers g.server).life actor g.lease
                (slot_at n.slots g.block g.slot) makes.versions ∙ ap (λ k. k + 1) same,
          ));
          failed = ⊎_elim (λ e. inl (ap (λ (st : SlotRecord). st.failed) at ∙ e))
              (λ e. inr (inl (
                g.server,
                subst
                    (λ l. TellsOf (Told.Granted g) g.block g.slot g.server l) e.0
                    (g, refl, refl, refl, refl, refl),
                ap (λ (st : SlotRecord). st.failed) at ∙ e.1,
              )))
              (prepared-failed actor m g gives.first gives.prepares free);
        }

    here : ((g.block ≡ block) × (g.slot ≡ slot))
        → SlotTells (Told.Granted g) m (apply_all (last ∷ []) n) block slot
    here same =
        subst (λ b. SlotTells (Told.Granted g) m (apply_all (last ∷ []) n) b slot) same.0
        (subst (SlotTells (Told.Granted g) m (apply_all (last ∷ []) n) g.block) same.1 at_slot)

    there : (((g.block ≡ block) × (g.slot ≡ slot)) → ⊥)
        → SlotTells (Told.Granted g) m (apply_all (last ∷ []) n) block slot
    there apart =
        let e = slot-untouched n last block slot apart
        ∙ prepared-other actor m g gives.first gives.prepares block slot apart in
        record {
          version = inl (ap (λ (st : SlotRecord). st.next) e);
          failed = inl (ap (λ (st : SlotRecord). st.failed) e);
        }

-- ---- the step

calm-tells : (reply : MetaReply) (m n : MetaImage) (block : BlockId) (slot : ℕ)
    → Calm m n block slot → SlotTells reply m n block slot
calm-tells reply m n block slot calm = record {
  version = ⊎_elim (λ same. inl same) (λ gone. inr (inr (gone.0.gone, gone.1))) calm.version;
  failed = ⊎_elim (λ same. inl same)
      (λ over. inr (inr (⊎_elim (λ closed. inl closed) (λ gone. inr gone.gone) over.0, over.1)))
      calm.failed;
}

slot-makes : (actor : ℕ) (past : Past) (m : MetaImage) (request : MetaRequest) (reply : MetaReply)
    (changes : List Change)
    → AllMake past m changes → Keeps past m → Each (Does actor m request reply) changes
    → Provides actor m changes reply → (block : BlockId) (slot : ℕ)
    → SlotTells reply m (apply_all changes m) block slot
slot-makes actor past m request reply changes may h each gives block slot =
    ⊎_elim
    (λ is. subst (λ r. SlotTells r m (apply_all changes m) block slot) (sym is.1)
    (slot-granted actor past m request is.0 changes may h
    (subst (Provides actor m changes) is.1 gives) block slot))
    (λ quiet. calm-tells reply m (apply_all changes m) block slot
    (calm-all past m changes may h
    (each_weaker (Does actor m request reply) GrantsNone
    (none-granted actor m request reply quiet) changes each)
    (each_weaker (Does actor m request reply) FailsNone
    (none-fails actor m request reply quiet) changes each) block slot))
    (granted-or reply)

turned-slot : (reply : MetaReply) (m n : MetaImage) (block : BlockId) (slot : ℕ)
    → SlotTells reply m n block slot → SlotTells reply m (next_turn n) block slot
unfolding next_turn
turned-slot reply m n block slot tells =
    record { version = tells.version; failed = tells.failed }

pub slots-are-told : SlotsAreTold
unfolding meta_step
slots-are-told rules actor request outcome past m block slot sound left is_actor may =
    let h = keeps-of past m sound in
    let fine = decide-fine rules actor past m request sound left is_actor may in
    step-does (λ served. SlotTells served.reply m served.meta block slot) actor m request
    (decide rules actor m request) outcome (dropped_at actor m.dropped)
    (decide-does rules actor m request h.fits)
    (λ reply _. unfold stays in calm-tells reply m m block slot (calm-same m m block slot refl))
    (λ changes reply is _ each gives.
    let makes : Fine actor past m (Makes changes reply) = subst (Fine actor past m) is fine in
    turned-slot reply m (apply_all changes m) block slot
    (slot-makes actor past m request reply changes makes.0 h each gives block slot))

pub versions-rise-by-one : VersionsRiseByOne
versions-rise-by-one rules actor request outcome past m block slot sound left is_actor may =
    ⊎_elim (λ same. omega arith)
    (λ other. ⊎_elim (λ told. let e = told.3 in omega arith) (λ gone. let e = gone.1 in omega arith)
    other)
    (slots-are-told rules actor request outcome past m block slot sound left is_actor may).version
