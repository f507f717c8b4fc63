-- What a step tells apart: which lives it raises, which entries it writes, and when numbers may run
-- out. The laws `lives_are_told` and `numbers_run_out_by_request`, and parts of
-- `file_requests_are_history`.
use Rattle.qfs_base.specs.Sizes.{LAST_U32}
use Rattle.qfs_base.specs.Table.{Each, place}
use Rattle.qfs_base.specs.declared.change.Change.TheVariants.{AbortFile, AddDirectory, AddFile}
use Rattle.qfs_base.specs.declared.change.Change.TheVariants.{CloseFile, CondemnStray, ConfirmSlot}
use Rattle.qfs_base.specs.declared.change.Change.TheVariants.{DropActor, EmptySlot, EndLease}
use Rattle.qfs_base.specs.declared.change.Change.TheVariants.{FailGrant, GiveLease, GiveUp}
use Rattle.qfs_base.specs.declared.change.Change.TheVariants.{MovePath, RemoveFile, ServerDown}
use Rattle.qfs_base.specs.declared.change.Change.TheVariants.{ServerLeaves, ServerSleeps, ServerUp}
use Rattle.qfs_base.specs.declared.change.Change.TheVariants.{TakeDirectory}
use Rattle.qfs_base.specs.declared.change.Change.{Change}
use Rattle.qfs_base.specs.declared.chunk.ChunkKey.{ChunkKey}
use Rattle.qfs_base.specs.declared.history.Entry.TheVariants as Wrote
use Rattle.qfs_base.specs.declared.history.Entry.{Entry}
use Rattle.qfs_base.specs.declared.history.Outcome.TheVariants as Ended
use Rattle.qfs_base.specs.declared.history.Outcome.{Outcome}
use Rattle.qfs_base.specs.declared.image.MetaImage.{MetaImage}
use Rattle.qfs_base.specs.declared.image.ServerView.{ServerView}
use Rattle.qfs_base.specs.declared.image.SlotRow.{SlotRow}
use Rattle.qfs_base.specs.declared.image.TreeRow.{TreeRow}
use Rattle.qfs_base.specs.declared.reply.MetaReply.TheVariants as Told
use Rattle.qfs_base.specs.declared.reply.MetaReply.{MetaReply}
use Rattle.qfs_base.specs.declared.request.MetaRequest.TheVariants as Ask
use Rattle.qfs_base.specs.declared.request.MetaRequest.{MetaRequest}
use Rattle.qfs_base.specs.declared.rules.Rules.{Rules}
use Rattle.qfs_laws_meta.specs.FileRequests.{lost-history}
use Rattle.qfs_laws_meta.specs.MayTell.{RunsOut}
use Rattle.qfs_laws_meta.specs.RequestChanges.{Counts, Does, DoesAll, decide-does, step-does}
use Rattle.qfs_laws_meta.specs.Requests.{AllMake, Fine, apply-append}
use Rattle.qfs_laws_meta.specs.StaysSound.{decide-fine, keeps-of}
use Rattle.qfs_laws_meta.specs.Tells.{append-none}
use Rattle.qfs_laws_slots.specs.Changes.{MayMake, told}
use Rattle.qfs_laws_slots.specs.Losing.{losing-frame, stray-frame}
use Rattle.qfs_laws_slots.specs.Servers.{server-cases}
use Rattle.qfs_model_meta.specs.Apply.{add_file, apply, apply_all, bring_up, finish_lease}
use Rattle.qfs_model_meta.specs.Apply.{grant_slot, with_slots, write_entry}
use Rattle.qfs_model_meta.specs.Asked.{MayAsk}
use Rattle.qfs_model_meta.specs.Counters.{counters_fit}
use Rattle.qfs_model_meta.specs.Decide.{decide, decide_request}
use Rattle.qfs_model_meta.specs.Decision.{Makes, unless}
use Rattle.qfs_model_meta.specs.DropRequest.{changes_unless_dropped, decide_drop, drop_changes}
use Rattle.qfs_model_meta.specs.DropRequest.{is_recovery_of, recovery_changes, unclosed_changes}
use Rattle.qfs_model_meta.specs.Dropped.{dropped_at}
use Rattle.qfs_model_meta.specs.Grammar.{IsActor, IsServer}
use Rattle.qfs_model_meta.specs.Leases.{leases_of}
use Rattle.qfs_model_meta.specs.Past.{Past}
use Rattle.qfs_model_meta.specs.PutRequests.{abort_changes}
use Rattle.qfs_model_meta.specs.Range.{in_range}
use Rattle.qfs_model_meta.specs.Servers.{change_server, server_asleep, server_at, server_down}
use Rattle.qfs_model_meta.specs.Servers.{server_leaving, server_up}
use Rattle.qfs_model_meta.specs.Slots.{slots_of}
use Rattle.qfs_model_meta.specs.Sound.{IsSound}
use Rattle.qfs_model_meta.specs.Step.{carry_out, end_step, fail_disks, meta_step, next_turn}
use Rattle.qfs_model_meta.specs.Step.{serve_unless_dropped, stays, take_step}
use Rattle.qfs_model_meta.specs.TreeRows.{unclosed_files}
use Rattle.std.proofs.Common.{Bool, List, None, Option, Some, [], ap, append_assoc, cond, false}
use Rattle.std.proofs.Common.{filter, inl, inr, length, map, refl, subst, sym, true, ℕ, ⊎_elim}
use Rattle.std.proofs.Common.{◌++◌, ◌+◌, ◌<◌, ◌∙◌, ◌∷◌, ◌≡◌, ◌⊎◌}
use Rattle.std.proofs.lemmas.Bool.{true≢false}
use Rattle.std.specs.Prelude.{flat_map, ⊤}

-- ---- lives

abbrev pub life_at : MetaImage → ℕ → ℕ
life_at m server = (server_at m.servers server).life

-- a server's known life is the same, or the one that it came up in
abbrev pub LifeTells : MetaRequest → MetaImage → MetaImage → ℕ → Type 0
LifeTells request m n server =
    (life_at n server ≡ life_at m server)
    ⊎ ((keys : List ChunkKey) × (life : ℕ) × (request ≡ Ask.Hello server life keys)
    × (life_at n server ≡ life))

abbrev pub LivesAreTold : Type 0
LivesAreTold =
    (rules : Rules) (actor : ℕ) (request : MetaRequest) (outcome : Outcome) (past : Past)
    (m : MetaImage) (server : ℕ)
    → IsSound past m → length past.granted + 1 < LAST_U32 → IsActor actor → MayAsk past request
    → LifeTells request m (meta_step rules actor request outcome m).meta server

same-servers : (request : MetaRequest) (m n : MetaImage) (server : ℕ) → n.servers ≡ m.servers
    → LifeTells request m n server
same-servers request m n server same = inl (ap (λ vs. (server_at vs server).life) same)

-- a server changes that keeps its life
same-life : (change : ServerView → ServerView) (m n : MetaImage) (server other : ℕ)
    → n.servers ≡ change_server change m.servers server → IsServer (length m.servers) server
    → ((v : ServerView) → (change v).life ≡ v.life) → life_at n other ≡ life_at m other
same-life change m n server other servers is keeps =
    ap (λ vs. (server_at vs other).life) servers
    ∙ server-cases (λ v. v.life ≡ life_at m other) change m.servers server other is
    (λ _. keeps (server_at m.servers other)) (λ _. refl)

life-one : (actor : ℕ) (past : Past) (m0 m : MetaImage) (request : MetaRequest) (reply : MetaReply)
    (change : Change) (server : ℕ)
    → MayMake past m change → Does actor m0 request reply change
    → LifeTells request m (apply m change) server
unfolding apply write_entry add_file with_slots grant_slot finish_lease bring_up server_up
    server_down server_leaving server_asleep
life-one actor past m0 m request reply (ServerUp other life) server may does =
    server-cases (λ v. (v.life ≡ life_at m server)
    ⊎ ((keys : List ChunkKey) × (lived : ℕ) × (request ≡ Ask.Hello server lived keys)
    × (v.life ≡ lived))) (server_up life) m.servers other server may.0
    (λ same. inr (does.0, life, does.1 ∙ ap (λ k. Ask.Hello k life does.0) same, refl))
    (λ _. inl refl)
life-one actor past m0 m request reply (ServerDown other) server may does =
    inl (same-life server_down m (apply m (ServerDown other)) other server refl may (λ v. refl))
life-one actor past m0 m request reply (ServerLeaves other) server may does =
    inl (same-life server_leaving m (apply m (ServerLeaves other)) other server refl may
    (λ v. refl))
life-one actor past m0 m request reply (ServerSleeps other until) server may does =
    inl (same-life (server_asleep until) m (apply m (ServerSleeps other until)) other server refl
    may (λ v. refl))
life-one actor past m0 m request reply (FailGrant block slot) server may does =
    same-servers request m (apply m (FailGrant block slot)) server
    (ap (λ (n : MetaImage). n.servers) (losing-frame m (FailGrant block slot) tt).is)
life-one actor past m0 m request reply (GiveUp block slot) server may does =
    same-servers request m (apply m (GiveUp block slot)) server
    (ap (λ (n : MetaImage). n.servers) (losing-frame m (GiveUp block slot) tt).is)
life-one actor past m0 m request reply (ConfirmSlot block slot) server may does =
    same-servers request m (apply m (ConfirmSlot block slot)) server
    (ap (λ (n : MetaImage). n.servers) (losing-frame m (ConfirmSlot block slot) tt).is)
life-one actor past m0 m request reply (EmptySlot block slot) server may does =
    same-servers request m (apply m (EmptySlot block slot)) server
    (ap (λ (n : MetaImage). n.servers) (losing-frame m (EmptySlot block slot) tt).is)
life-one actor past m0 m request reply (CondemnStray other life key) server may does =
    same-servers request m (apply m (CondemnStray other life key)) server
    (ap (λ (n : MetaImage). n.servers) (stray-frame other life key m))
life-one actor past m0 m request reply (AddDirectory path) server may does = inl refl
life-one actor past m0 m request reply _ server may does = inl refl

life-all : (actor : ℕ) (past : Past) (m0 m : MetaImage) (request : MetaRequest) (reply : MetaReply)
    (changes : List Change) (server : ℕ)
    → AllMake past m changes → Each (Does actor m0 request reply) changes
    → LifeTells request m (apply_all changes m) server
unfolding apply_all
life-all actor past m0 m request reply [] server may does = inl refl
life-all actor past m0 m request reply (change ∷ changes) server may does =
    ⊎_elim
    (λ same. ⊎_elim (λ before. inl (same ∙ before))
    (λ up. inr (up.0, up.1, up.2, same ∙ up.3))
    (life-one actor past m0 m request reply change server may.0 does.0))
    (λ up. inr up)
    (life-all actor (told change m past) m0 (apply m change) request reply changes server may.1
    does.1)

pub lives-are-told : LivesAreTold
unfolding meta_step next_turn
lives-are-told rules actor request outcome past m server sound left is_actor may =
    let h = keeps-of past m sound in
    let fine = decide-fine rules actor past m request sound left is_actor may in
    step-does (λ served. LifeTells request m served.meta server) actor m request
    (decide rules actor m request) outcome (dropped_at actor m.dropped)
    (decide-does rules actor m request h.fits)
    (λ reply _. unfold stays in inl refl)
    (λ changes reply is _ each gives.
    let makes : Fine actor past m (Makes changes reply) = subst (Fine actor past m) is fine in
    life-all actor past m m request reply changes server makes.0 each)

-- ---- entries

-- a request of which the history may get entries
abbrev pub MayWrite : MetaRequest → Type 0
MayWrite (Ask.Mkdir path) = ⊤
MayWrite (Ask.Rmdir path) = ⊤
MayWrite (Ask.Remove path) = ⊤
MayWrite (Ask.Rename from to) = ⊤
MayWrite (Ask.Create path command len) = ⊤
MayWrite (Ask.Close file) = ⊤
MayWrite (Ask.Abort file) = ⊤
MayWrite (Ask.Drop who) = ⊤
MayWrite request = ⊥

-- all others leave the history alone
abbrev pub OthersWriteNothing : Type 0
OthersWriteNothing =
    (rules : Rules) (actor : ℕ) (request : MetaRequest) (outcome : Outcome) (past : Past)
    (m : MetaImage)
    → IsSound past m → (MayWrite request → ⊥)
    → (meta_step rules actor request outcome m).meta.history ≡ m.history

-- a drop that is carried out writes that each file which the actor was writing is given up, by
-- number; a second one writes nothing
abbrev pub dropped_entries : ℕ → List TreeRow → Option ℕ → List Entry
dropped_entries who tree None = map Wrote.Aborted (unclosed_files who tree)
dropped_entries who tree (Some turn) = []

abbrev pub entries_if_done : List Entry → MetaReply → List Entry
entries_if_done entries (Told.Done place) = entries
entries_if_done entries reply = []

abbrev pub DropsWrite : Type 0
DropsWrite =
    (rules : Rules) (actor who : ℕ) (outcome : Outcome) (m : MetaImage)
    → (meta_step rules actor (Ask.Drop who) outcome m).meta.history
    ≡ m.history ++ entries_if_done (dropped_entries who m.tree (dropped_at who m.dropped))
    (meta_step rules actor (Ask.Drop who) outcome m).reply

write-one : (actor : ℕ) (m0 m : MetaImage) (request : MetaRequest) (reply : MetaReply)
    (change : Change)
    → Does actor m0 request reply change → (MayWrite request → ⊥)
    → (apply m change).history ≡ m.history
unfolding apply with_slots grant_slot finish_lease bring_up
write-one actor m0 m request reply (AddDirectory path) does quiet =
    absurd (quiet (subst MayWrite (sym does) tt))
write-one actor m0 m request reply (TakeDirectory path) does quiet =
    absurd (quiet (subst MayWrite (sym does) tt))
write-one actor m0 m request reply (AddFile path by command len) does quiet =
    absurd (quiet (subst MayWrite (sym does) tt))
write-one actor m0 m request reply (MovePath from to) does quiet =
    absurd (quiet (subst MayWrite (sym does) tt))
write-one actor m0 m request reply (CloseFile file by command) does quiet =
    absurd (quiet (subst MayWrite (sym does.3) tt))
write-one actor m0 m request reply (AbortFile file) does quiet =
    absurd (⊎_elim (λ asks. quiet (subst MayWrite (sym asks) tt))
    (λ drops. quiet (subst MayWrite (sym drops) tt)) does.3)
write-one actor m0 m request reply (RemoveFile path file) does quiet =
    absurd (quiet (subst MayWrite (sym does.0) tt))
write-one actor m0 m request reply (FailGrant block slot) does quiet =
    ap (λ (n : MetaImage). n.history) (losing-frame m (FailGrant block slot) tt).is
write-one actor m0 m request reply (GiveUp block slot) does quiet =
    ap (λ (n : MetaImage). n.history) (losing-frame m (GiveUp block slot) tt).is
write-one actor m0 m request reply (ConfirmSlot block slot) does quiet =
    ap (λ (n : MetaImage). n.history) (losing-frame m (ConfirmSlot block slot) tt).is
write-one actor m0 m request reply (EmptySlot block slot) does quiet =
    ap (λ (n : MetaImage). n.history) (losing-frame m (EmptySlot block slot) tt).is
write-one actor m0 m request reply (CondemnStray server life key) does quiet =
    ap (λ (n : MetaImage). n.history) (stray-frame server life key m)
write-one actor m0 m request reply _ does quiet = refl

write-all : (actor : ℕ) (m0 m : MetaImage) (request : MetaRequest) (reply : MetaReply)
    (changes : List Change)
    → Each (Does actor m0 request reply) changes → (MayWrite request → ⊥)
    → (apply_all changes m).history ≡ m.history
unfolding apply_all
write-all actor m0 m request reply [] does quiet = refl
write-all actor m0 m request reply (change ∷ changes) does quiet =
    write-all actor m0 (apply m change) request reply changes does.1 quiet
    ∙ write-one actor m0 m request reply change does.0 quiet

pub others-write-nothing : OthersWriteNothing
unfolding meta_step next_turn
others-write-nothing rules actor request outcome past m sound quiet =
    let h = keeps-of past m sound in
    step-does (λ served. served.meta.history ≡ m.history) actor m request
    (decide rules actor m request) outcome (dropped_at actor m.dropped)
    (decide-does rules actor m request h.fits)
    (λ reply _. unfold stays in refl)
    (λ changes reply is _ each gives. write-all actor m m request reply changes each quiet)

-- the history behind the changes of a drop
aborted-history : (m : MetaImage) (slots : List SlotRow) (file : ℕ)
    → (apply_all (abort_changes file slots) m).history ≡ m.history ++ Wrote.Aborted file ∷ []
unfolding abort_changes apply_all apply write_entry with_slots
aborted-history m slots file =
    ap (λ (n : MetaImage). n.history)
    (apply-append m (map (λ (row : SlotRow). GiveUp row.block row.slot) (slots_of file slots))
    (AbortFile file ∷ []))
    ∙ ap (λ h. h ++ Wrote.Aborted file ∷ []) (lost-history (λ (row : SlotRow). GiveUp row.block
    row.slot) (λ row. tt) (slots_of file slots) m)

all-aborted : (slots : List SlotRow) (files : List ℕ) (m : MetaImage)
    → (apply_all (flat_map (λ file. abort_changes file slots) files) m).history
    ≡ m.history ++ map Wrote.Aborted files
unfolding apply_all
all-aborted slots [] m = append-none m.history
all-aborted slots (file ∷ files) m =
    let n : MetaImage = apply_all (abort_changes file slots) m in
    ap (λ (o : MetaImage). o.history) (apply-append m (abort_changes file slots)
    (flat_map (λ file. abort_changes file slots) files))
    ∙ all-aborted slots files n
    ∙ ap (λ h. h ++ map Wrote.Aborted files) (aborted-history m slots file)
    ∙ append_assoc m.history (Wrote.Aborted file ∷ []) (map Wrote.Aborted files)

ended-history : (leases : List ℕ) (m : MetaImage)
    → (apply_all (map EndLease leases) m).history ≡ m.history
unfolding apply_all apply finish_lease
ended-history [] m = refl
ended-history (lease ∷ leases) m = ended-history leases (apply m (EndLease lease))

drop-history : (who : ℕ) (m : MetaImage) (o : Option ℕ)
    → (apply_all (changes_unless_dropped who m o) m).history
    ≡ m.history ++ dropped_entries who m.tree o
unfolding changes_unless_dropped drop_changes recovery_changes unclosed_changes
drop-history who m (Some turn) = unfold apply_all in append-none m.history
drop-history who m None =
    let ends : List Change = map EndLease (leases_of who m.leases) in
    let gives : List Change = map (λ (row : SlotRow). GiveUp row.block row.slot)
    (filter (is_recovery_of who m.tree) m.slots) in
    let aborts : List Change = flat_map (λ file. abort_changes file m.slots)
    (unclosed_files who m.tree) in
    let n : MetaImage = apply m (DropActor who) in
    let o : MetaImage = apply_all ends n in
    let same : (apply_all (ends ++ gives) n).history ≡ m.history =
    ap (λ (k : MetaImage). k.history) (apply-append n ends gives)
    ∙ lost-history (λ (row : SlotRow). GiveUp row.block row.slot) (λ row. tt)
    (filter (is_recovery_of who m.tree) m.slots) o
    ∙ ended-history (leases_of who m.leases) n ∙ dropped-same who m in
    first who m ((ends ++ gives) ++ aborts)
    ∙ ap (λ (k : MetaImage). k.history) (apply-append n (ends ++ gives) aborts)
    ∙ all-aborted m.slots (unclosed_files who m.tree) (apply_all (ends ++ gives) n)
    ∙ ap (λ h. h ++ map Wrote.Aborted (unclosed_files who m.tree)) same
  where
    dropped-same : (who : ℕ) (m : MetaImage) → (apply m (DropActor who)).history ≡ m.history
    dropped-same who m = unfold apply in refl

    first : (who : ℕ) (m : MetaImage) (changes : List Change)
        → (apply_all (DropActor who ∷ changes) m).history
        ≡ (apply_all changes (apply m (DropActor who))).history
    first who m changes = unfold apply_all in refl

drop-ends : (who : ℕ) (m : MetaImage) (outcome : Outcome) (dropped : Option ℕ)
    → (serve_unless_dropped m (end_step m (decide_drop who m) outcome) dropped).meta.history
    ≡ m.history ++ entries_if_done (dropped_entries who m.tree (dropped_at who m.dropped))
    (serve_unless_dropped m (end_step m (decide_drop who m) outcome) dropped).reply
unfolding serve_unless_dropped end_step carry_out fail_disks stays decide_drop
drop-ends who m outcome (Some turn) = append-none m.history
drop-ends who m Ended.NoMemory None = append-none m.history
drop-ends who m Ended.Failed None =
    one (counters_fit (apply_all (changes_unless_dropped who m (dropped_at who m.dropped)) m))
  where
    one : (b : Bool)
        → m.history ≡ m.history ++ entries_if_done
        (dropped_entries who m.tree (dropped_at who m.dropped))
        (cond b Told.LogFault Told.NoMemory)
    one true = append-none m.history
    one false = append-none m.history
drop-ends who m Ended.Done None =
    one (counters_fit (apply_all (changes_unless_dropped who m (dropped_at who m.dropped)) m))
  where
    one : (b : Bool)
        → (take_step m (apply_all (changes_unless_dropped who m (dropped_at who m.dropped)) m)
        (Told.Done (length m.history)) b).meta.history
        ≡ m.history ++ entries_if_done (dropped_entries who m.tree (dropped_at who m.dropped))
        (take_step m (apply_all (changes_unless_dropped who m (dropped_at who m.dropped)) m)
        (Told.Done (length m.history)) b).reply
    one true = unfold take_step next_turn in drop-history who m (dropped_at who m.dropped)
    one false = unfold take_step stays in append-none m.history

pub drops-write : DropsWrite
unfolding meta_step decide in_range unless decide_request
drops-write rules actor who outcome m = drop-ends who m outcome (dropped_at actor m.dropped)

-- ---- numbers that run out

-- where memory doesn't run out, NoMemory comes only to requests that count something
abbrev pub NumbersRunOut : Type 0
NumbersRunOut =
    (rules : Rules) (actor : ℕ) (request : MetaRequest) (past : Past) (m : MetaImage)
    → IsSound past m → RunsOut rules actor m request → Counts request

count-one : (actor : ℕ) (m0 m : MetaImage) (request : MetaRequest) (reply : MetaReply)
    (change : Change)
    → Does actor m0 request reply change → (Counts request → ⊥)
    → counters_fit (apply m change) ≡ counters_fit m
unfolding apply with_slots grant_slot finish_lease bring_up counters_fit
count-one actor m0 m request reply (AddDirectory path) does quiet =
    absurd (quiet (subst Counts (sym does) tt))
count-one actor m0 m request reply (TakeDirectory path) does quiet =
    absurd (quiet (subst Counts (sym does) tt))
count-one actor m0 m request reply (AddFile path by command len) does quiet =
    absurd (quiet (subst Counts (sym does) tt))
count-one actor m0 m request reply (MovePath from to) does quiet =
    absurd (quiet (subst Counts (sym does) tt))
count-one actor m0 m request reply (CloseFile file by command) does quiet =
    absurd (quiet (subst Counts (sym does.3) tt))
count-one actor m0 m request reply (AbortFile file) does quiet =
    absurd (⊎_elim (λ asks. quiet (subst Counts (sym asks) tt))
    (λ drops. quiet (subst Counts (sym drops) tt)) does.3)
count-one actor m0 m request reply (RemoveFile path file) does quiet =
    absurd (quiet (subst Counts (sym does.0) tt))
count-one actor m0 m request reply (EmptySlot block slot) does quiet =
    absurd (quiet (subst Counts (sym does.1) tt))
count-one actor m0 m request reply (FailGrant block slot) does quiet = absurd (quiet does.3)
count-one actor m0 m request reply (GiveUp block slot) does quiet = absurd (quiet does.3)
count-one actor m0 m request reply (ConfirmSlot block slot) does quiet = absurd (quiet does.2)
count-one actor m0 m request reply (GiveLease by file until) does quiet = absurd (quiet does.1)
count-one actor m0 m request reply (CondemnStray server life key) does quiet =
    absurd (quiet does)
count-one actor m0 m request reply _ does quiet = refl

count-all : (actor : ℕ) (m0 m : MetaImage) (request : MetaRequest) (reply : MetaReply)
    (changes : List Change)
    → Each (Does actor m0 request reply) changes → (Counts request → ⊥)
    → counters_fit (apply_all changes m) ≡ counters_fit m
unfolding apply_all
count-all actor m0 m request reply [] does quiet = refl
count-all actor m0 m request reply (change ∷ changes) does quiet =
    count-all actor m0 (apply m change) request reply changes does.1 quiet
    ∙ count-one actor m0 m request reply change does.0 quiet

counts-or : (request : MetaRequest) → Counts request ⊎ (Counts request → ⊥)
counts-or (Ask.Release lease) = inr (λ e. e)
counts-or (Ask.OrderNext after) = inr (λ e. e)
counts-or (Ask.Swept number) = inr (λ e. e)
counts-or (Ask.Bye server) = inr (λ e. e)
counts-or (Ask.Leave server) = inr (λ e. e)
counts-or (Ask.Hibernate server ticks) = inr (λ e. e)
counts-or Ask.Tick = inr (λ e. e)
counts-or (Ask.List path) = inr (λ e. e)
counts-or (Ask.LeftOn server) = inr (λ e. e)
counts-or Ask.Checkpoint = inr (λ e. e)
counts-or Ask.Restart = inr (λ e. e)
counts-or (Ask.Mkdir path) = inl tt
counts-or _ = inl tt

pub numbers-run-out : NumbersRunOut
numbers-run-out rules actor request past m sound out =
    ⊎_elim (λ counts. counts)
    (λ quiet.
    let h = keeps-of past m sound in
    let does : DoesAll actor m request (Makes out.0 out.1) =
    subst (DoesAll actor m request) out.2 (decide-does rules actor m request h.fits) in
    absurd (true≢false (sym sound.image.counters
    ∙ sym (count-all actor m m request out.1 out.0 does.0 quiet) ∙ out.3)))
    (counts-or request)
