-- What a change tells of the state behind it: where its current copies, grants and live leases come
-- from, and what rises. For the law `steps_answer`.
use Rattle.std.proofs.Common.{◌≡◌, ℕ, ◌≤◌, ◌⊎◌, inl, inr, ⊎_elim, true, length, List, [], ◌∷◌, ◌++◌, Option, Some, None, refl, sym, ap, ◌∙◌, subst, arith, append_assoc}
use Rattle.qfs_base.specs.declared.chunk.BlockId.{BlockId}
use Rattle.qfs_base.specs.declared.chunk.Copy.{Copy}
use Rattle.qfs_base.specs.declared.history.Entry.{Entry}
use Rattle.qfs_base.specs.declared.image.Grant.{Grant}
use Rattle.qfs_base.specs.declared.image.MetaImage.{MetaImage}
use Rattle.qfs_base.specs.declared.image.SlotRecord.{SlotRecord}
use Rattle.qfs_base.specs.declared.image.SlotRow.{SlotRow}
use Rattle.qfs_model_meta.specs.Apply.{with_slots, change_record, give_up, fail_grant, empty_slot}
use Rattle.qfs_model_meta.specs.Condemned.{condemn_any}
use Rattle.qfs_model_meta.specs.Leases.{is_live_lease}
use Rattle.qfs_model_meta.specs.Servers.{server_at}
use Rattle.qfs_model_meta.specs.Slots.{never_granted, slot_at, granted_copy, change_slot, forget_file, ungranted_slot, failed_slot, emptied_slot}
use Rattle.qfs_laws_slots.specs.Losing.{condemned-slots}
use Rattle.qfs_laws_slots.specs.Slots.{slot-cases, forgotten-cases}

-- ---- what is told

abbrev pub current_at : MetaImage → BlockId → ℕ → Option Copy
current_at m block slot = (slot_at m.slots block slot).current

abbrev pub granted_at : MetaImage → BlockId → ℕ → Option Copy
granted_at m block slot = granted_copy (slot_at m.slots block slot).grant

-- from one state to another: `seals` says which slots' grants may become current, `gives` which
-- copies may be granted, and `lends` which leases may be given
pub record Tells (seals : BlockId → ℕ → Type 0) (gives : BlockId → ℕ → Copy → Type 0) (lends : ℕ → Type 0) (m n : MetaImage) : Type 0 where
  pub current : (block : BlockId) (slot : ℕ) (copy : Copy) → current_at n block slot ≡ Some copy
      → (current_at m block slot ≡ Some copy)
      ⊎ (seals block slot × (granted_at m block slot ≡ Some copy))
  pub granted : (block : BlockId) (slot : ℕ) (copy : Copy) → granted_at n block slot ≡ Some copy
      → (granted_at m block slot ≡ Some copy) ⊎ gives block slot copy
  pub as_many : length n.servers ≡ length m.servers
  pub lives : (server : ℕ) → (server_at m.servers server).life ≤ (server_at n.servers server).life
  pub leases : (lease : ℕ) → is_live_lease lease n.leases ≡ true
      → (is_live_lease lease m.leases ≡ true) ⊎ lends lease
  pub entries : List Entry
  pub history : n.history ≡ m.history ++ entries

abbrev pub no_seal : BlockId → ℕ → Type 0
no_seal block slot = ⊥

abbrev pub no_gift : BlockId → ℕ → Copy → Type 0
no_gift block slot copy = ⊥

abbrev pub no_loan : ℕ → Type 0
no_loan lease = ⊥

-- nothing new came: neither a current copy nor a grant nor a lease
abbrev pub Plain : MetaImage → MetaImage → Type 0
Plain m n = Tells no_seal no_gift no_loan m n

never : {A : Type 0} → A ⊎ ⊥ → A
never (inl a) = a
never (inr e) = absurd e

unsealed : {A B : Type 0} → A ⊎ (⊥ × B) → A
unsealed (inl a) = a
unsealed (inr e) = absurd e.0

trans-le : (a b c : ℕ) → a ≤ b → b ≤ c → a ≤ c
trans-le a b c p q = omega arith

module _ {seals : BlockId → ℕ → Type 0} {gives : BlockId → ℕ → Copy → Type 0} {lends : ℕ → Type 0} where
  pub tells-before : (m n o : MetaImage) → Plain m n → Tells seals gives lends n o
      → Tells seals gives lends m o
  tells-before m n o plain tells = record {
    current = λ block slot copy is. ⊎_elim (λ c. inl (unsealed (plain.current block slot copy c)))
        (λ s. inr (s.0, never (plain.granted block slot copy s.1)))
        (tells.current block slot copy is);
    granted = λ block slot copy is. ⊎_elim (λ g. inl (never (plain.granted block slot copy g)))
        (λ g. inr g) (tells.granted block slot copy is);
    as_many = tells.as_many ∙ plain.as_many;
    lives = λ server. trans-le _ _ _ (plain.lives server) (tells.lives server);
    leases = λ lease live. ⊎_elim (λ l. inl (never (plain.leases lease l))) (λ l. inr l)
        (tells.leases lease live);
    entries = plain.entries ++ tells.entries;
    history = tells.history ∙ ap (λ h. h ++ tells.entries) plain.history ∙ append_assoc m.history
        plain.entries tells.entries;
  }

  pub tells-behind : (m n o : MetaImage) → Tells seals gives lends m n → Plain n o
      → Tells seals gives lends m o
  tells-behind m n o tells plain = record {
    current = λ block slot copy is. tells.current block slot copy
        (unsealed (plain.current block slot copy is));
    granted = λ block slot copy is. tells.granted block slot copy
        (never (plain.granted block slot copy is));
    as_many = plain.as_many ∙ tells.as_many;
    lives = λ server. trans-le _ _ _ (tells.lives server) (plain.lives server);
    leases = λ lease live. tells.leases lease (never (plain.leases lease live));
    entries = tells.entries ++ plain.entries;
    history = plain.history ∙ ap (λ h. h ++ plain.entries) tells.history ∙ append_assoc m.history
        tells.entries plain.entries;
  }

-- nothing that this speaks of changes
pub same-le : (n : ℕ) → n ≤ n
same-le n = omega arith

pub append-none : {X : Type 0} (xs : List X) → xs ≡ xs ++ []
append-none [] = refl
append-none (x ∷ xs) = ap (λ l. x ∷ l) (append-none xs)

pub stays-plain : (m : MetaImage) → Plain m m
stays-plain m = record {
  current = λ _ _ _ is. inl is;
  granted = λ _ _ _ is. inl is;
  as_many = refl;
  lives = λ server. same-le _;
  leases = λ _ live. inl live;
  entries = [];
  history = append-none m.history;
}

-- ---- slots that change

-- a change of a record that keeps or drops its copies
pub record Drops (change : SlotRecord → SlotRecord) : Type 0 where
  pub current : (state : SlotRecord) (copy : Copy) → (change state).current ≡ Some copy
      → state.current ≡ Some copy
  pub granted : (state : SlotRecord) (copy : Copy) → granted_copy (change state).grant ≡ Some copy
      → granted_copy state.grant ≡ Some copy

ungranted-drops : Drops ungranted_slot
unfolding ungranted_slot granted_copy
ungranted-drops = record { current = λ _ _ is. is; granted = λ state copy is. absurd (cc) }

failed-drops : (server : ℕ) → Drops (failed_slot server)
unfolding failed_slot
failed-drops server = record { current = λ _ _ is. is; granted = λ _ _ is. is }

emptied-drops : Drops emptied_slot
unfolding emptied_slot granted_copy
emptied-drops =
    record { current = λ state copy is. absurd (cc); granted = λ state copy is. absurd (cc) }

-- the slots keep or drop their copies
pub record SlotsDrop (rows more : List SlotRow) : Type 0 where
  pub current : (block : BlockId) (slot : ℕ) (copy : Copy)
      → (slot_at more block slot).current ≡ Some copy
      → (slot_at rows block slot).current ≡ Some copy
  pub granted : (block : BlockId) (slot : ℕ) (copy : Copy)
      → granted_copy (slot_at more block slot).grant ≡ Some copy
      → granted_copy (slot_at rows block slot).grant ≡ Some copy

pub no-drop : (rows : List SlotRow) → SlotsDrop rows rows
no-drop rows = record { current = λ _ _ _ is. is; granted = λ _ _ _ is. is }

dropped : (change : SlotRecord → SlotRecord) → Drops change
    → (block : BlockId) (slot : ℕ) (rows : List SlotRow)
    → SlotsDrop rows (change_slot block slot change rows)
unfolding never_granted
dropped change drops block slot rows = record {
  current =
      λ other number copy. slot-cases
      (λ st. st.current ≡ Some copy → (slot_at rows other number).current ≡ Some copy) block other
      slot number change rows
      (λ _ is. absurd (cc)) (λ _ _ is. drops.current (slot_at rows other number) copy is)
      (λ _ is. is);
  granted =
      λ other number copy. slot-cases
      (λ st. granted_copy st.grant ≡ Some copy → granted_copy
      (slot_at rows other number).grant ≡ Some copy) block other slot number change rows
      (λ _ is. absurd (none is)) (λ _ _ is. drops.granted (slot_at rows other number) copy is)
      (λ _ is. is);
}
  where
    none : {copy : Copy} → granted_copy None ≡ Some copy → ⊥
    none is = unfold granted_copy in cc

drop-twice : (rows more most : List SlotRow) → SlotsDrop rows more → SlotsDrop more most
    → SlotsDrop rows most
drop-twice rows more most a b = record {
  current = λ block slot copy is. a.current block slot copy (b.current block slot copy is);
  granted = λ block slot copy is. a.granted block slot copy (b.granted block slot copy is);
}

pub given_up-drop : (block : BlockId) (slot : ℕ) (m : MetaImage) (found : Option Grant)
    → SlotsDrop m.slots (give_up block slot m found).slots
unfolding give_up change_record with_slots condemn_any
given_up-drop block slot m None = no-drop m.slots
given_up-drop block slot m (Some grant) =
    subst (λ rows. SlotsDrop m.slots (change_slot block slot ungranted_slot rows))
    (sym (condemned-slots block slot m (Some grant.copy)))
    (dropped ungranted_slot ungranted-drops block slot m.slots)

pub failed-drop : (block : BlockId) (slot : ℕ) (m : MetaImage) (found : Option Grant)
    → SlotsDrop m.slots (fail_grant block slot m found).slots
unfolding fail_grant change_record with_slots
failed-drop block slot m None = no-drop m.slots
failed-drop block slot m (Some grant) =
    drop-twice m.slots (give_up block slot m (Some grant)).slots _
    (given_up-drop block slot m (Some grant))
    (dropped (failed_slot grant.copy.server) (failed-drops grant.copy.server) block slot
    (give_up block slot m (Some grant)).slots)

pub emptied-drop : (block : BlockId) (slot : ℕ) (m : MetaImage) (state : SlotRecord)
    → SlotsDrop m.slots (empty_slot block slot m state).slots
unfolding empty_slot change_record with_slots
emptied-drop block slot m state =
    let n : MetaImage = condemn_any block slot m state.current in
    subst (λ rows. SlotsDrop m.slots (change_slot block slot emptied_slot rows))
    (sym (condemned-slots block slot n (granted_copy state.grant) ∙ condemned-slots block slot m
    state.current)) (dropped emptied_slot emptied-drops block slot m.slots)

pub forgotten-drop : (file : ℕ) (rows : List SlotRow) → SlotsDrop rows (forget_file file rows)
unfolding never_granted
forgotten-drop file rows = record {
  current = λ block slot copy. forgotten-cases
      (λ st. st.current ≡ Some copy → (slot_at rows block slot).current ≡ Some copy) file block slot
      rows (λ _ is. absurd (cc)) (λ _ is. is);
  granted = λ block slot copy. forgotten-cases
      (λ st. granted_copy st.grant ≡ Some copy → granted_copy (slot_at rows block slot).grant ≡ Some
      copy) file block slot rows (λ _ is. absurd (none is)) (λ _ is. is);
}
  where
    none : {copy : Copy} → granted_copy None ≡ Some copy → ⊥
    none is = unfold granted_copy in cc

-- ---- steps of more than one change

-- what is told may be said in other words
pub tells-as : {seals seals' : BlockId → ℕ → Type 0} {gives gives' : BlockId → ℕ → Copy → Type 0}
    {lends lends' : ℕ → Type 0} (m n : MetaImage)
    → ((block : BlockId) (slot : ℕ) → seals block slot → seals' block slot)
    → ((block : BlockId) (slot : ℕ) (copy : Copy) → gives block slot copy → gives' block slot copy)
    → ((lease : ℕ) → lends lease → lends' lease)
    → Tells seals gives lends m n → Tells seals' gives' lends' m n
tells-as m n sealed given lent tells = record {
  current = λ block slot copy is. ⊎_elim (λ c. inl c) (λ s. inr (sealed block slot s.0, s.1))
      (tells.current block slot copy is);
  granted = λ block slot copy is. ⊎_elim (λ g. inl g) (λ g. inr (given block slot copy g))
      (tells.granted block slot copy is);
  as_many = tells.as_many;
  lives = tells.lives;
  leases = λ lease live. ⊎_elim (λ l. inl l) (λ l. inr (lent lease l)) (tells.leases lease live);
  entries = tells.entries;
  history = tells.history;
}

-- a lease is given, and then a copy granted
pub tells-lent : {gives : BlockId → ℕ → Copy → Type 0} {lends : ℕ → Type 0} (m n o : MetaImage)
    → Tells no_seal no_gift lends m n → Tells no_seal gives no_loan n o
    → Tells no_seal gives lends m o
tells-lent m n o lent tells = record {
  current = λ block slot copy is. inl
      (unsealed (lent.current block slot copy (unsealed (tells.current block slot copy is))));
  granted = λ block slot copy is. ⊎_elim (λ g. inl (never (lent.granted block slot copy g)))
      (λ g. inr g) (tells.granted block slot copy is);
  as_many = tells.as_many ∙ lent.as_many;
  lives = λ server. trans-le _ _ _ (lent.lives server) (tells.lives server);
  leases = λ lease live. lent.leases lease (never (tells.leases lease live));
  entries = lent.entries ++ tells.entries;
  history = tells.history ∙ ap (λ h. h ++ tells.entries) lent.history ∙ append_assoc m.history
      lent.entries tells.entries;
}
