-- What each change tells of the state behind it. For the law `steps_answer`.
use Rattle.std.proofs.Common.{◌≡◌, ℕ, ◌≤◌, ◌⊎◌, inl, inr, Bool, true, false, ◌||◌, not, length}
use Rattle.std.proofs.Common.{List, [], ◌∷◌, ◌++◌, Some, None, refl, sym, ap, ◌∙◌, subst, arith}
use Rattle.std.proofs.lemmas.Bool.{eqb-true}
use Rattle.std.specs.List.{list_any}
use Rattle.qfs_base.specs.declared.change.Change.{Change}
use Rattle.qfs_base.specs.declared.change.Change.TheVariants.{AddDirectory, TakeDirectory, AddFile}
use Rattle.qfs_base.specs.declared.change.Change.TheVariants.{CloseFile, AbortFile, RemoveFile}
use Rattle.qfs_base.specs.declared.change.Change.TheVariants.{MovePath, GrantSlot, FailGrant}
use Rattle.qfs_base.specs.declared.change.Change.TheVariants.{GiveUp, ConfirmSlot, EmptySlot}
use Rattle.qfs_base.specs.declared.change.Change.TheVariants.{GiveLease, EndLease, MarkOrdered}
use Rattle.qfs_base.specs.declared.change.Change.TheVariants.{TakeCondemned, CondemnStray, ServerUp}
use Rattle.qfs_base.specs.declared.change.Change.TheVariants.{ServerDown, ServerLeaves}
use Rattle.qfs_base.specs.declared.change.Change.TheVariants.{ServerSleeps, ClockTicks, DropActor}
use Rattle.qfs_base.specs.declared.chunk.BlockId.{BlockId}
use Rattle.qfs_base.specs.declared.chunk.Copy.{Copy}
use Rattle.qfs_base.specs.declared.history.Entry.{Entry}
use Rattle.qfs_base.specs.declared.history.Entry.TheVariants as Wrote
use Rattle.qfs_base.specs.declared.image.Lease.{Lease}
use Rattle.qfs_base.specs.declared.image.MetaImage.{MetaImage}
use Rattle.qfs_base.specs.declared.image.ServerView.{ServerView}
use Rattle.qfs_model_meta.specs.Apply.{apply, write_entry, add_file, with_slots, change_record}
use Rattle.qfs_model_meta.specs.Apply.{grant_slot, confirm_slot, finish_lease, bring_up}
use Rattle.qfs_model_meta.specs.Grammar.{IsServer}
use Rattle.qfs_model_meta.specs.Leases.{is_lease, is_live_lease, give_lease, end_lease}
use Rattle.qfs_model_meta.specs.Past.{Past}
use Rattle.qfs_model_meta.specs.Servers.{server_at, change_server, server_up, server_down}
use Rattle.qfs_model_meta.specs.Servers.{server_leaving, server_asleep}
use Rattle.qfs_model_meta.specs.Slots.{never_granted, slot_at, granted_copy, granted_slot}
use Rattle.qfs_model_meta.specs.Slots.{change_slot, sealed_slot, confirmed_slot}
use Rattle.qfs_laws_tables.specs.SomeRow.{any_of_append, any_of_filter}
use Rattle.qfs_laws_slots.specs.Changes.{MayMake}
use Rattle.qfs_laws_slots.specs.Losing.{losing-frame, stray-frame, condemned-slots}
use Rattle.qfs_laws_slots.specs.RowKeys.{own-lease}
use Rattle.qfs_laws_slots.specs.Servers.{change-length}
use Rattle.qfs_laws_slots.specs.Slots.{slot-cases, placed-cases, sealed-cases}
use Rattle.qfs_laws_meta.specs.Lives.{changed-server}
use Rattle.qfs_laws_meta.specs.Tells.{Tells, current_at, granted_at, SlotsDrop, no-drop}
use Rattle.qfs_laws_meta.specs.Tells.{given_up-drop, failed-drop, emptied-drop, forgotten-drop}
use Rattle.qfs_laws_meta.specs.Tells.{append-none, same-le}

-- the slots whose grants become current, the copies that are granted, and the leases that are given
abbrev pub Seals : Change → BlockId → ℕ → Type 0
Seals (CloseFile file actor command) block slot = block.file ≡ file
Seals (ConfirmSlot other at) block slot = (other ≡ block) × (at ≡ slot)
Seals change block slot = ⊥

abbrev pub Gives : MetaImage → Change → BlockId → ℕ → Copy → Type 0
Gives m (GrantSlot other at server actor lease) block slot copy =
    (other ≡ block) × (at ≡ slot)
    × (record {
      server = server;
      life = (server_at m.servers server).life;
      version =
          (slot_at m.slots other at).next;
    } ≡ copy)
Gives m change block slot copy = ⊥

abbrev pub Lends : MetaImage → Change → ℕ → Type 0
Lends m (GiveLease actor file until) lease = m.next_lease ≡ lease
Lends m change lease = ⊥

module _ {seals : BlockId → ℕ → Type 0} {gives : BlockId → ℕ → Copy → Type 0} {lends : ℕ → Type 0}
  where
    -- slots that keep or drop their copies, with entries of the history
    drop-tells : (m n : MetaImage) → SlotsDrop m.slots n.slots → n.servers ≡ m.servers
        → n.leases ≡ m.leases → (entries : List Entry) → n.history ≡ m.history ++ entries
        → Tells seals gives lends m n
    drop-tells m n drop servers leases entries history = record {
      current = λ block slot copy is. inl (drop.current block slot copy is);
      granted = λ block slot copy is. inl (drop.granted block slot copy is);
      as_many = ap length servers;
      lives = λ server. let e : (server_at n.servers server).life ≡ (server_at m.servers
          server).life = ap (λ vs. (server_at vs server).life) servers in omega arith;
      leases = λ lease live. inl (subst (λ ls. is_live_lease lease ls ≡ true) leases live);
      entries = entries;
      history = history;
    }

    frame-tells : (m n : MetaImage)
        → n ≡ record m {
          slots = n.slots;
          condemned = n.condemned;
          next_condemned =
              n.next_condemned;
        }
        → SlotsDrop m.slots n.slots → Tells seals gives lends m n
    frame-tells m n frame drop =
        drop-tells m n drop (ap (λ (k : MetaImage). k.servers) frame)
        (ap (λ (k : MetaImage). k.leases) frame) []
        (ap (λ (k : MetaImage). k.history) frame ∙ append-none m.history)

    -- a server changes, whose life doesn't fall
    server-tells : (change : ServerView → ServerView) (server : ℕ) (m n : MetaImage)
        → n.slots ≡ m.slots → n.leases ≡ m.leases → n.history ≡ m.history
        → n.servers ≡ change_server change m.servers server
        → IsServer (length m.servers) server → (server_at m.servers server).life ≤
        (change (server_at m.servers server)).life → Tells seals gives lends m n
    server-tells change server m n slots leases history servers is rises = record {
      current = λ block slot copy at. inl
          (subst (λ rows. (slot_at rows block slot).current ≡ Some copy) slots at);
      granted = λ block slot copy at. inl
          (subst (λ rows. granted_copy (slot_at rows block slot).grant ≡ Some copy) slots at);
      as_many = ap length servers ∙ change-length change m.servers server;
      lives = λ s. subst (λ vs. (server_at m.servers s).life ≤ (server_at vs s).life) (sym servers)
          (changed-server change m server s is rises);
      leases = λ lease live. inl (subst (λ ls. is_live_lease lease ls ≡ true) leases live);
      entries = [];
      history = history ∙ append-none m.history;
    }

no-copy : {copy : Copy} → granted_copy None ≡ Some copy → ⊥
no-copy is = unfold granted_copy in cc

-- a grant becomes current
confirming-tells : (other : BlockId) (at : ℕ) (m : MetaImage)
    → Tells (Seals (ConfirmSlot other at)) (Gives m (ConfirmSlot other at))
    (Lends m (ConfirmSlot other at)) m (apply m (ConfirmSlot other at))
unfolding apply confirm_slot change_record with_slots confirmed_slot never_granted
confirming-tells other at m =
    let n : MetaImage = apply m (ConfirmSlot other at) in
    let frame = (losing-frame m (ConfirmSlot other at) tt).is in
    let rows = condemned-slots other at m (slot_at m.slots other at).current in
    record {
      current =
          λ block slot copy is. slot-cases
          (λ st. st.current ≡ Some copy → (current_at m block slot ≡ Some copy)
          ⊎ (((other ≡ block) × (at ≡ slot)) × (granted_at m block slot ≡ Some copy))) other block
          at slot confirmed_slot m.slots
          (λ _ e. absurd (cc)) (λ b s e. inr ((b, s), e)) (λ _ e. inl e)
          (subst (λ k. (slot_at (change_slot other at confirmed_slot k) block
          slot).current ≡ Some copy) rows is);
      granted =
          λ block slot copy is. slot-cases
          (λ st. granted_copy st.grant ≡ Some copy → (granted_at m block slot ≡ Some copy) ⊎ ⊥)
          other block at slot confirmed_slot m.slots
          (λ _ e. absurd (no-copy e)) (λ _ _ e. absurd (no-copy e)) (λ _ e. inl e)
          (subst (λ k. granted_copy (slot_at (change_slot other at confirmed_slot k) block
          slot).grant ≡ Some copy) rows is);
      as_many = ap (λ (k : MetaImage). length k.servers) frame;
      lives = λ server. let e : (server_at n.servers server).life ≡ (server_at m.servers
          server).life = ap (λ (k : MetaImage). (server_at k.servers server).life) frame in omega
          arith;
      leases = λ lease live. inl (subst (λ (k : MetaImage). is_live_lease lease k.leases ≡ true)
          frame live);
      entries = [];
      history = ap (λ (k : MetaImage). k.history) frame ∙ append-none m.history;
    }

-- the grants of a file become current
closing-tells : (file actor command : ℕ) (m : MetaImage)
    → Tells (Seals (CloseFile file actor command)) (Gives m (CloseFile file actor command))
    (Lends m (CloseFile file actor command)) m (apply m (CloseFile file actor command))
unfolding apply write_entry with_slots sealed_slot never_granted
closing-tells file actor command m = record {
  current =
      λ block slot copy. sealed-cases
      (λ st. st.current ≡ Some copy → (current_at m block slot ≡ Some copy)
      ⊎ ((block.file ≡ file) × (granted_at m block slot ≡ Some copy))) file block slot m.slots
      (λ _ e. absurd (cc)) (λ own e. inr (eqb-true block.file file own, e)) (λ _ e. inl e);
  granted =
      λ block slot copy. sealed-cases
      (λ st. granted_copy st.grant ≡ Some copy → (granted_at m block slot ≡ Some copy) ⊎ ⊥) file
      block slot m.slots
      (λ _ e. absurd (no-copy e)) (λ _ e. absurd (no-copy e)) (λ _ e. inl e);
  as_many = refl;
  lives = λ server. same-le _;
  leases = λ _ live. inl live;
  entries = Wrote.Closed file actor command ∷ [];
  history = refl;
}

-- a copy is granted
granting-tells : (other : BlockId) (at server actor lease : ℕ) (m : MetaImage)
    → Tells (Seals (GrantSlot other at server actor lease))
    (Gives m (GrantSlot other at server actor lease))
    (Lends m (GrantSlot other at server actor lease)) m
    (apply m (GrantSlot other at server actor lease))
unfolding apply grant_slot with_slots granted_slot granted_copy
granting-tells other at server actor lease m = record {
  current =
      λ block slot copy is. inl (placed-cases
      (λ st. st.current ≡ Some copy → current_at m block slot ≡ Some copy) other block at slot _
      m.slots
      (λ b s e. (λ i. (slot_at m.slots (sym b i) (sym s i)).current) ∙ e) (λ _ e. e) is);
  granted =
      λ block slot copy is. placed-cases
      (λ st. granted_copy st.grant ≡ Some copy → (granted_at m block slot ≡ Some copy) ⊎ Gives m
      (GrantSlot other at server actor lease) block slot copy) other block at slot _ m.slots
      (λ b s e. inr (b, s, some-is e)) (λ _ e. inl e) is;
  as_many = refl;
  lives = λ server. same-le _;
  leases = λ _ live. inl live;
  entries = [];
  history = append-none m.history;
}
  where
    some-is : {a b : Copy} → Some a ≡ Some b → a ≡ b
    some-is e = cc

-- a lease is given
lending-tells : (actor file until : ℕ) (m : MetaImage)
    → Tells (Seals (GiveLease actor file until)) (Gives m (GiveLease actor file until))
    (Lends m (GiveLease actor file until)) m (apply m (GiveLease actor file until))
unfolding apply give_lease is_live_lease
lending-tells actor file until m = record {
  current = λ _ _ _ is. inl is;
  granted = λ _ _ _ is. inl is;
  as_many = refl;
  lives = λ server. same-le _;
  leases = λ lease live.
      let new : Lease = record { lease = m.next_lease; actor = actor; file = file; until = until }
      in
      either (list_any (is_lease lease) m.leases) (is_lease lease new) (own-lease lease new)
      (sym (any_of_append (is_lease lease) m.leases (new ∷ [])) ∙ live);
  entries = [];
  history = append-none m.history;
}
  where
    either : {A : Type 0} (a b : Bool) → (b ≡ true → A) → (a || (b || false)) ≡ true
        → (a ≡ true) ⊎ A
    either true b new e = inl refl
    either false true new e = inr (new refl)
    either false false new e = absurd (cc)

ending-tells : (number : ℕ) (m : MetaImage)
    → Tells (Seals (EndLease number)) (Gives m (EndLease number)) (Lends m (EndLease number)) m
    (apply m (EndLease number))
unfolding apply finish_lease end_lease is_live_lease
ending-tells number m = record {
  current = λ _ _ _ is. inl is;
  granted = λ _ _ _ is. inl is;
  as_many = refl;
  lives = λ server. same-le _;
  leases = λ lease live. inl (any_of_filter (is_lease lease) (λ l. not (is_lease number l)) m.leases
      live);
  entries = [];
  history = append-none m.history;
}

pub change-tells : (past : Past) (m : MetaImage) (change : Change) → MayMake past m change
    → Tells (Seals change) (Gives m change) (Lends m change) m (apply m change)
unfolding apply write_entry add_file with_slots finish_lease bring_up server_up server_down
    server_leaving server_asleep
change-tells past m (AddDirectory path) may =
    drop-tells m (apply m (AddDirectory path)) (no-drop m.slots) refl refl (Wrote.Mkdir path ∷ [])
    refl
change-tells past m (TakeDirectory path) may =
    drop-tells m (apply m (TakeDirectory path)) (no-drop m.slots) refl refl (Wrote.Rmdir path ∷ [])
    refl
change-tells past m (AddFile path actor command len) may =
    drop-tells m (apply m (AddFile path actor command len)) (no-drop m.slots) refl refl
    (Wrote.Created m.next_file path ∷ []) refl
change-tells past m (CloseFile file actor command) may = closing-tells file actor command m
change-tells past m (AbortFile file) may =
    drop-tells m (apply m (AbortFile file)) (forgotten-drop file m.slots) refl refl
    (Wrote.Aborted file ∷ []) refl
change-tells past m (RemoveFile path file) may =
    drop-tells m (apply m (RemoveFile path file)) (forgotten-drop file m.slots) refl refl
    (Wrote.Removed path ∷ []) refl
change-tells past m (MovePath from to) may =
    drop-tells m (apply m (MovePath from to)) (no-drop m.slots) refl refl
    (Wrote.Renamed from to ∷ []) refl
change-tells past m (GrantSlot block slot server actor lease) may =
    granting-tells block slot server actor lease m
change-tells past m (FailGrant block slot) may =
    frame-tells m (apply m (FailGrant block slot)) (losing-frame m (FailGrant block slot) tt).is
    (failed-drop block slot m _)
change-tells past m (GiveUp block slot) may =
    frame-tells m (apply m (GiveUp block slot)) (losing-frame m (GiveUp block slot) tt).is
    (given_up-drop block slot m _)
change-tells past m (ConfirmSlot block slot) may = confirming-tells block slot m
change-tells past m (EmptySlot block slot) may =
    frame-tells m (apply m (EmptySlot block slot)) (losing-frame m (EmptySlot block slot) tt).is
    (emptied-drop block slot m _)
change-tells past m (GiveLease actor file until) may = lending-tells actor file until m
change-tells past m (EndLease lease) may = ending-tells lease m
change-tells past m (MarkOrdered number) may =
    drop-tells m (apply m (MarkOrdered number)) (no-drop m.slots) refl refl []
    (append-none m.history)
change-tells past m (TakeCondemned number) may =
    drop-tells m (apply m (TakeCondemned number)) (no-drop m.slots) refl refl []
    (append-none m.history)
change-tells past m (CondemnStray server life key) may =
    let frame = stray-frame server life key m in
    drop-tells m (apply m (CondemnStray server life key))
    (subst (λ (n : MetaImage). SlotsDrop m.slots n.slots) (sym frame) (no-drop m.slots))
    (ap (λ (n : MetaImage). n.servers) frame) (ap (λ (n : MetaImage). n.leases) frame) []
    (ap (λ (n : MetaImage). n.history) frame ∙ append-none m.history)
change-tells past m (ServerUp server life) may =
    server-tells (server_up life) server m (apply m (ServerUp server life)) refl refl refl refl
    may.0 may.1
change-tells past m (ServerDown server) may =
    server-tells server_down server m (apply m (ServerDown server)) refl refl refl refl may
    (same-le _)
change-tells past m (ServerLeaves server) may =
    server-tells server_leaving server m (apply m (ServerLeaves server)) refl refl refl refl may
    (same-le _)
change-tells past m (ServerSleeps server until) may =
    server-tells (server_asleep until) server m (apply m (ServerSleeps server until)) refl refl refl
    refl may (same-le _)
change-tells past m ClockTicks may =
    drop-tells m (apply m ClockTicks) (no-drop m.slots) refl refl [] (append-none m.history)
change-tells past m (DropActor actor) may =
    drop-tells m (apply m (DropActor actor)) (no-drop m.slots) refl refl [] (append-none m.history)
