-- What the requests of file commands write into the file history. The law
-- `file_requests_are_history`.
use Rattle.std.proofs.Common.{◌≡◌, ℕ, Bool, true, false, cond, List, [], ◌∷◌, ◌++◌, map, length}
use Rattle.std.proofs.Common.{Option, Some, None, refl, sym, ap, ◌∙◌}
use Rattle.std.specs.Prelude.{⊤}
use Rattle.qfs_base.specs.NameTree.{PathNames}
use Rattle.qfs_base.specs.declared.change.Change.{Change}
use Rattle.qfs_base.specs.declared.change.Change.TheVariants.{AbortFile, RemoveFile, GiveUp}
use Rattle.qfs_base.specs.declared.change.Change.TheVariants.{EmptySlot}
use Rattle.qfs_base.specs.declared.history.Entry.{Entry}
use Rattle.qfs_base.specs.declared.history.Entry.TheVariants as Wrote
use Rattle.qfs_base.specs.declared.history.Outcome.{Outcome}
use Rattle.qfs_base.specs.declared.history.Outcome.TheVariants as Ended
use Rattle.qfs_base.specs.declared.image.MetaImage.{MetaImage}
use Rattle.qfs_base.specs.declared.image.SlotRow.{SlotRow}
use Rattle.qfs_base.specs.declared.image.TreeRow.{TreeRow}
use Rattle.qfs_base.specs.declared.reply.MetaReply.{MetaReply}
use Rattle.qfs_base.specs.declared.reply.MetaReply.TheVariants as Told
use Rattle.qfs_base.specs.declared.reply.TreeRefusal.{TreeRefusal}
use Rattle.qfs_base.specs.declared.request.MetaRequest.{MetaRequest}
use Rattle.qfs_base.specs.declared.request.MetaRequest.TheVariants as Ask
use Rattle.qfs_base.specs.declared.request.SlotId.{SlotId}
use Rattle.qfs_base.specs.declared.rules.Rules.{Rules}
use Rattle.qfs_model_meta.specs.Apply.{apply, apply_all, write_entry, add_file, with_slots}
use Rattle.qfs_model_meta.specs.Counters.{counters_fit}
use Rattle.qfs_model_meta.specs.Decide.{decide, decide_request}
use Rattle.qfs_model_meta.specs.Decision.{Decision, Tells, UsesDisks, Makes, refuse, unless, need}
use Rattle.qfs_model_meta.specs.Decision.{refuse_file}
use Rattle.qfs_model_meta.specs.Dropped.{dropped_at}
use Rattle.qfs_model_meta.specs.GetRequests.{decide_open}
use Rattle.qfs_model_meta.specs.PutRequests.{decide_create, decide_close, close_complete}
use Rattle.qfs_model_meta.specs.PutRequests.{incomplete, decide_abort, abort_unclosed}
use Rattle.qfs_model_meta.specs.PutRequests.{abort_changes}
use Rattle.qfs_model_meta.specs.Slots.{slots_of}
use Rattle.qfs_model_meta.specs.Step.{stays, take_step, next_turn, carry_out, fail_disks, end_step}
use Rattle.qfs_model_meta.specs.Step.{serve_unless_dropped, meta_step}
use Rattle.qfs_model_meta.specs.TreeRequests.{decide_mkdir, decide_rmdir, decide_remove}
use Rattle.qfs_model_meta.specs.TreeRequests.{remove_changes, decide_rename, decide_list}
use Rattle.qfs_model_meta.specs.TreeRows.{unclosed_file}
use Rattle.qfs_laws_slots.specs.Losing.{IsLosing, losing-frame}
use Rattle.qfs_laws_meta.specs.Requests.{apply-append}
use Rattle.qfs_laws_meta.specs.Tells.{append-none}

-- ---- what is written

abbrev pub entry_if_done : Entry → MetaReply → List Entry
entry_if_done entry (Told.Done place) = entry ∷ []
entry_if_done entry reply = []

abbrev pub entry_if_created : PathNames → MetaReply → List Entry
entry_if_created path (Told.Created file place) = Wrote.Created file path ∷ []
entry_if_created path reply = []

abbrev pub entry_if_closed : ℕ → ℕ → MetaReply → Option TreeRow → List Entry
entry_if_closed actor file reply None = []
entry_if_closed actor file reply (Some row) =
    entry_if_done (Wrote.Closed file actor row.command) reply

-- the entries that a file request writes, as it is answered
abbrev pub written : ℕ → MetaImage → MetaReply → MetaRequest → List Entry
written actor m reply (Ask.Mkdir path) = entry_if_done (Wrote.Mkdir path) reply
written actor m reply (Ask.Rmdir path) = entry_if_done (Wrote.Rmdir path) reply
written actor m reply (Ask.Remove path) = entry_if_done (Wrote.Removed path) reply
written actor m reply (Ask.Rename from to) = entry_if_done (Wrote.Renamed from to) reply
written actor m reply (Ask.Create path command len) = entry_if_created path reply
written actor m reply (Ask.Close file) =
    entry_if_closed actor file reply (unclosed_file actor file m.tree)
written actor m reply (Ask.Abort file) = entry_if_done (Wrote.Aborted file) reply
written actor m reply request = []

abbrev pub IsFileRequest : MetaRequest → Type 0
IsFileRequest (Ask.Mkdir path) = ⊤
IsFileRequest (Ask.Rmdir path) = ⊤
IsFileRequest (Ask.Remove path) = ⊤
IsFileRequest (Ask.Rename from to) = ⊤
IsFileRequest (Ask.Create path command len) = ⊤
IsFileRequest (Ask.Close file) = ⊤
IsFileRequest (Ask.Abort file) = ⊤
IsFileRequest (Ask.OpenFile path) = ⊤
IsFileRequest (Ask.List path) = ⊤
IsFileRequest request = ⊥

-- the law: a step of such a request writes just these entries, whatever its outcome
abbrev pub FileRequestsWrite : Type 0
FileRequestsWrite =
    (rules : Rules) (actor : ℕ) (request : MetaRequest) (outcome : Outcome) (m : MetaImage) →
    IsFileRequest request
    → (meta_step rules actor request outcome m).meta.history
    ≡ m.history ++ written actor m (meta_step rules actor request outcome m).reply request

-- answers by which nothing is written
record Silent (writes : MetaReply → List Entry) : Type 0 where
  refused : (why : TreeRefusal) (place : ℕ) → writes (Told.Refused why place) ≡ []
  dropped : (turn : ℕ) → writes (Told.Dropped turn) ≡ []
  fault : writes Told.LogFault ≡ []
  memory : writes Told.NoMemory ≡ []
  nothing : writes Told.Nothing ≡ []
  gone : writes Told.Gone ≡ []

module _ (m : MetaImage) (writes : MetaReply → List Entry) (silent : Silent writes) where
  abbrev Writes : Decision → Type 0
  Writes (Tells reply) = writes reply ≡ []
  Writes (UsesDisks reply) = writes reply ≡ []
  Writes (Makes changes reply) = (apply_all changes m).history ≡ m.history ++ writes reply

  file-writes : (place : ℕ) (refusal : Option TreeRefusal) (further : Decision) → Writes further
      → Writes (refuse_file place refusal further)
  unfolding refuse_file refuse
  file-writes place None further does = does
  file-writes place (Some why) further does = silent.refused why place

  need-writes : {X : Type 0} (further : X → Decision) (found : Option X)
      → ((x : X) → found ≡ Some x → Writes (further x)) → Writes (need Told.Gone further found)
  unfolding need
  need-writes further None does = silent.gone
  need-writes further (Some x) does = does x refl

  stays-so : (reply : MetaReply) → writes reply ≡ []
      → (stays m reply).meta.history ≡ m.history ++ writes (stays m reply).reply
  unfolding stays
  stays-so reply none = append-none m.history ∙ ap (λ es. m.history ++ es) (sym none)

  taken-so : (changes : List Change) (reply : MetaReply)
      → (apply_all changes m).history ≡ m.history ++ writes reply → (fits : Bool)
      → (take_step m (apply_all changes m) reply fits).meta.history ≡ m.history ++ writes
      (take_step m (apply_all changes m) reply fits).reply
  unfolding take_step next_turn
  taken-so changes reply does true = does
  taken-so changes reply does false = stays-so Told.NoMemory silent.memory

  step-writes : (decision : Decision) (outcome : Outcome) (dropped : Option ℕ) → Writes decision
      → (serve_unless_dropped m (end_step m decision outcome) dropped).meta.history ≡ m.history
      ++ writes (serve_unless_dropped m (end_step m decision outcome) dropped).reply
  unfolding serve_unless_dropped end_step carry_out fail_disks
  step-writes decision outcome (Some turn) does = stays-so (Told.Dropped turn) (silent.dropped turn)
  step-writes decision Ended.NoMemory None does = stays-so Told.NoMemory silent.memory
  step-writes (Tells reply) Ended.Done None does = stays-so reply does
  step-writes (UsesDisks reply) Ended.Done None does = stays-so reply does
  step-writes (Makes changes reply) Ended.Done None does =
      taken-so changes reply does (counters_fit (apply_all changes m))
  step-writes (Tells reply) Ended.Failed None does = stays-so reply does
  step-writes (UsesDisks reply) Ended.Failed None does = stays-so Told.LogFault silent.fault
  step-writes (Makes changes reply) Ended.Failed None does =
      failed (counters_fit (apply_all changes m))
    where
      failed : (b : Bool)
          → (stays m (cond b Told.LogFault Told.NoMemory)).meta.history ≡ m.history ++ writes
          (stays m (cond b Told.LogFault Told.NoMemory)).reply
      failed true = stays-so Told.LogFault silent.fault
      failed false = stays-so Told.NoMemory silent.memory

  -- the same of what is decided in range
  ranged-writes : (in_it : Bool) (further : Decision) (outcome : Outcome) (dropped : Option ℕ)
      → Writes further
      → (serve_unless_dropped m (end_step m (unless in_it Told.Nothing further) outcome)
      dropped).meta.history ≡ m.history ++ writes
      (serve_unless_dropped m (end_step m (unless in_it Told.Nothing further) outcome)
      dropped).reply
  unfolding unless
  ranged-writes true further outcome dropped does = step-writes further outcome dropped does
  ranged-writes false further outcome dropped does =
      step-writes (Tells Told.Nothing) outcome dropped silent.nothing

-- slots that lose copies write nothing
losing-history : (m : MetaImage) (change : Change) → IsLosing change
    → (apply m change).history ≡ m.history
losing-history m change is = ap (λ (n : MetaImage). n.history) (losing-frame m change is).is

pub lost-history : (change : SlotRow → Change) → ((row : SlotRow) → IsLosing (change row))
    → (rows : List SlotRow) (m : MetaImage) → (apply_all (map change rows) m).history ≡ m.history
unfolding apply_all
lost-history change is [] m = refl
lost-history change is (row ∷ rows) m =
    lost-history change is rows (apply m (change row)) ∙ losing-history m (change row) (is row)

done-silent : (entry : Entry) → Silent (entry_if_done entry)
done-silent entry =
    record {
      refused = λ _ _. refl;
      dropped = λ _. refl;
      fault = refl;
      memory = refl;
      nothing =
          refl;
      gone = refl;
    }

created-silent : (path : PathNames) → Silent (entry_if_created path)
created-silent path =
    record {
      refused = λ _ _. refl;
      dropped = λ _. refl;
      fault = refl;
      memory = refl;
      nothing =
          refl;
      gone = refl;
    }

none-silent : Silent (λ _. [])
none-silent =
    record {
      refused = λ _ _. refl;
      dropped = λ _. refl;
      fault = refl;
      memory = refl;
      nothing =
          refl;
      gone = refl;
    }

closed-silent : (actor file : ℕ) (found : Option TreeRow)
    → Silent (λ reply. entry_if_closed actor file reply found)
closed-silent actor file None =
    record {
      refused = λ _ _. refl;
      dropped = λ _. refl;
      fault = refl;
      memory = refl;
      nothing =
          refl;
      gone = refl;
    }
closed-silent actor file (Some row) =
    record {
      refused = λ _ _. refl;
      dropped = λ _. refl;
      fault = refl;
      memory = refl;
      nothing =
          refl;
      gone = refl;
    }

-- an incomplete file is told so, and nothing is written
incomplete-writes : (m : MetaImage) (actor file : ℕ) (found : Option TreeRow) (o : Option SlotId)
    (further : Decision)
    → Writes m (λ reply. entry_if_closed actor file reply found) (closed-silent actor file found)
    further
    → Writes m (λ reply. entry_if_closed actor file reply found) (closed-silent actor file found)
    (refuse (incomplete o) further)
unfolding refuse incomplete
incomplete-writes m actor file found None further does = does
incomplete-writes m actor file None (Some id) further does = refl
incomplete-writes m actor file (Some row) (Some id) further does = refl

closing-writes : (rules : Rules) (actor file : ℕ) (m : MetaImage)
    → Writes m (λ reply. entry_if_closed actor file reply (unclosed_file actor file m.tree))
    (closed-silent actor file (unclosed_file actor file m.tree))
    (decide_close rules.layout actor file m)
unfolding decide_close close_complete apply_all apply write_entry with_slots
closing-writes rules actor file m =
    need-writes m (λ reply. entry_if_closed actor file reply (unclosed_file actor file m.tree))
    (closed-silent actor file (unclosed_file actor file m.tree)) _ (unclosed_file actor file m.tree)
    (λ row found.
    incomplete-writes m actor file (unclosed_file actor file m.tree) _ _
    (ap (λ o. m.history ++ entry_if_closed actor file (Told.Done (length m.history)) o)
    (sym found)))

removing : (m : MetaImage) (path : PathNames) (file : ℕ)
    → (apply_all (remove_changes path file m.slots) m).history ≡ m.history ++ Wrote.Removed path
    ∷ []
unfolding remove_changes apply_all apply write_entry with_slots
removing m path file =
    ap (λ (n : MetaImage). n.history)
    (apply-append m (map (λ (row : SlotRow). EmptySlot row.block row.slot) (slots_of file m.slots))
    (RemoveFile path file ∷ []))
    ∙ ap (λ h. h ++ Wrote.Removed path ∷ [])
    (lost-history (λ (row : SlotRow). EmptySlot row.block row.slot) (λ row. tt)
    (slots_of file m.slots) m)

aborting : (m : MetaImage) (file : ℕ)
    → (apply_all (abort_changes file m.slots) m).history ≡ m.history ++ Wrote.Aborted file ∷ []
unfolding abort_changes apply_all apply write_entry with_slots
aborting m file =
    ap (λ (n : MetaImage). n.history)
    (apply-append m (map (λ (row : SlotRow). GiveUp row.block row.slot) (slots_of file m.slots))
    (AbortFile file ∷ []))
    ∙ ap (λ h. h ++ Wrote.Aborted file ∷ [])
    (lost-history (λ (row : SlotRow). GiveUp row.block row.slot) (λ row. tt) (slots_of file m.slots)
    m)

pub file-requests-write : FileRequestsWrite
unfolding meta_step decide decide_request decide_mkdir decide_rmdir decide_remove decide_rename
    decide_list decide_create decide_abort abort_unclosed decide_open apply_all apply write_entry
    add_file
file-requests-write rules actor (Ask.Mkdir path) outcome m is =
    let w = entry_if_done (Wrote.Mkdir path) in ranged-writes m w (done-silent _) _ _ outcome
    (dropped_at actor m.dropped) (file-writes m w (done-silent _) _ _ _ refl)
file-requests-write rules actor (Ask.Rmdir path) outcome m is =
    let w = entry_if_done (Wrote.Rmdir path) in ranged-writes m w (done-silent _) _ _ outcome
    (dropped_at actor m.dropped) (file-writes m w (done-silent _) _ _ _ refl)
file-requests-write rules actor (Ask.Remove path) outcome m is =
    let w = entry_if_done (Wrote.Removed path) in ranged-writes m w (done-silent _) _ _ outcome
    (dropped_at actor m.dropped) (file-writes m w (done-silent _) _ _ _ (removing m path _))
file-requests-write rules actor (Ask.Rename from to) outcome m is =
    let w = entry_if_done (Wrote.Renamed from to) in ranged-writes m w (done-silent _) _ _ outcome
    (dropped_at actor m.dropped) (file-writes m w (done-silent _) _ _ _ refl)
file-requests-write rules actor (Ask.Create path command len) outcome m is =
    let w = entry_if_created path in ranged-writes m w (created-silent path) _ _ outcome
    (dropped_at actor m.dropped) (file-writes m w (created-silent path) _ _ _ refl)
file-requests-write rules actor (Ask.Close file) outcome m is =
    ranged-writes m (λ reply. entry_if_closed actor file reply (unclosed_file actor file m.tree))
    (closed-silent actor file (unclosed_file actor file m.tree)) _ _ outcome
    (dropped_at actor m.dropped) (closing-writes rules actor file m)
file-requests-write rules actor (Ask.Abort file) outcome m is =
    let w = entry_if_done (Wrote.Aborted file) in ranged-writes m w (done-silent _) _ _ outcome
    (dropped_at actor m.dropped) (need-writes m w (done-silent _) _ _
    (λ row found. aborting m file))
file-requests-write rules actor (Ask.OpenFile path) outcome m is =
    ranged-writes m (λ _. []) none-silent _ _ outcome (dropped_at actor m.dropped)
    (file-writes m (λ _. []) none-silent _ _ _ (append-none m.history))
file-requests-write rules actor (Ask.List path) outcome m is =
    ranged-writes m (λ _. []) none-silent _ _ outcome (dropped_at actor m.dropped)
    (file-writes m (λ _. []) none-silent _ _ _ refl)
file-requests-write rules actor _ outcome m is = absurd is
