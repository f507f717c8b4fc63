-- Each version of a slot is granted once: every change keeps it. For the law `stays_sound`.
use Rattle.qfs_base.specs.Sizes.{LAST_U32}
use Rattle.qfs_base.specs.Table.{Each}
use Rattle.qfs_base.specs.declared.change.Change.{Change}
use Rattle.qfs_base.specs.declared.change.Change.TheVariants.{AbortFile, AddDirectory, AddFile}
use Rattle.qfs_base.specs.declared.change.Change.TheVariants.{CloseFile, CondemnStray, ConfirmSlot}
use Rattle.qfs_base.specs.declared.change.Change.TheVariants.{EmptySlot, EndLease, FailGrant}
use Rattle.qfs_base.specs.declared.change.Change.TheVariants.{GiveLease, GiveUp, GrantSlot}
use Rattle.qfs_base.specs.declared.change.Change.TheVariants.{MarkOrdered, MovePath, RemoveFile}
use Rattle.qfs_base.specs.declared.change.Change.TheVariants.{ServerUp, TakeCondemned}
use Rattle.qfs_base.specs.declared.change.Change.TheVariants.{TakeDirectory}
use Rattle.qfs_base.specs.declared.chunk.BlockId.{BlockId}
use Rattle.qfs_base.specs.declared.chunk.ChunkKey.{ChunkKey}
use Rattle.qfs_base.specs.declared.chunk.Copy.{Copy}
use Rattle.qfs_base.specs.declared.image.CondemnedRow.{CondemnedRow}
use Rattle.qfs_base.specs.declared.image.Grant.{Grant}
use Rattle.qfs_base.specs.declared.image.MetaImage.{MetaImage}
use Rattle.qfs_base.specs.declared.image.SlotRecord.{SlotRecord}
use Rattle.qfs_base.specs.declared.image.SlotRow.{SlotRow}
use Rattle.qfs_base.specs.declared.reply.Condemned.{Condemned}
use Rattle.qfs_model_meta.specs.Apply.{add_file, apply, bring_up, change_record, condemn_stray}
use Rattle.qfs_model_meta.specs.Apply.{condemn_unknown, confirm_slot, empty_slot, fail_grant}
use Rattle.qfs_model_meta.specs.Apply.{finish_lease, give_up, grant_slot, is_known_copy}
use Rattle.qfs_model_meta.specs.Apply.{is_that_copy, with_slots, write_entry}
use Rattle.qfs_model_meta.specs.Condemned.{condemn_any, condemned_row, is_copy_of, unblock}
use Rattle.qfs_model_meta.specs.Past.{ListedCopy, Past, SlotCopy, same_version, was_granted}
use Rattle.qfs_model_meta.specs.Past.{with_copy}
use Rattle.qfs_model_meta.specs.Servers.{server_at}
use Rattle.qfs_model_meta.specs.Slots.{change_slot, change_state, confirmed_slot, emptied_slot}
use Rattle.qfs_model_meta.specs.Slots.{failed_slot, forget_file, granted_copy, granted_slot}
use Rattle.qfs_model_meta.specs.Slots.{is_of_file, is_slot, never_granted, same_copy, seal_file}
use Rattle.qfs_model_meta.specs.Slots.{sealed_slot, slot_at, slot_cmp, ungranted_slot, with_slot}
use Rattle.qfs_model_meta.specs.Sound.{IsBehind, is_condemned_of}
use Rattle.qfs_model_meta.specs.TreeRows.{file_stands}
use Rattle.std.proofs.Common.{Bool, List, None, Option, Some, [], ap, arith, false, find, length}
use Rattle.std.proofs.Common.{length-append, nat_eq, not, refl, subst, sym, true, ℕ, ◌&&◌, ◌++◌}
use Rattle.std.proofs.Common.{◌+◌, ◌<◌, ◌==◌, ◌∙◌, ◌∷◌, ◌≡◌, ◌≤◌}
use Rattle.std.proofs.lemmas.Bool.{and_parts, eqb-true, or_parts, true≢false}
use Rattle.std.proofs.lemmas.Bool.Decides.{nat_tests}
use Rattle.std.specs.List.{IsDistinct, list_any}
use Rattle.std.specs.Option.{option_to_list}
use Rattle.std.specs.Prelude.{IsTrue, is_some}
use Rattle.qfs_laws_meta.specs.Known.{Counted, Knows, Once, RowGranted, held, knows-condemned}
use Rattle.qfs_laws_meta.specs.Known.{knows-lost}
use Rattle.qfs_laws_slots.specs.Changes.{MayCondemn, MayGrant, MayMake, told}
use Rattle.qfs_laws_slots.specs.Condemning.{condemn-cases, condemn_any-frame, condemned-count}
use Rattle.qfs_laws_slots.specs.Condemning.{condemned-each, condemned_count, count_in, marked-count}
use Rattle.qfs_laws_slots.specs.Condemning.{marked-each, risen-count, risen-each, same_slot}
use Rattle.qfs_laws_slots.specs.Condemning.{swept-count, swept-each, unblocked-count}
use Rattle.qfs_laws_slots.specs.Condemning.{unblocked-each, version_of, weight_of, with_condemned}
use Rattle.qfs_laws_slots.specs.Granted.{Granted, granted-has, granted-more, granted-new, one_copy}
use Rattle.qfs_laws_slots.specs.Losses.{Loses, confirmed-loses, current_in, emptied-loses}
use Rattle.qfs_laws_slots.specs.Losses.{failed-loses, pending_in, ungranted-loses}
use Rattle.qfs_laws_slots.specs.Slots.{forgotten-cases, has-changed, has-forgotten, has-placed}
use Rattle.qfs_laws_slots.specs.Slots.{is_slot-self, placed-cases, same_block-is, same_copy-self}
use Rattle.qfs_laws_slots.specs.Slots.{sealed-cases, slot_has}
use Rattle.qfs_laws_tables.specs.Distinct.{distinct-push, one_if}
use Rattle.qfs_base.specs.EachLaws.{each_filter, each_weaker}
use Rattle.qfs_laws_tables.specs.EachRow.{each_both, each_change, each_place, each_push}
use Rattle.qfs_laws_tables.specs.Sums.{total, total-append, total-none, weigh_if}

-- ---- slots lose copies

pub knows-given_up : (past : Past) (block : BlockId) (slot : ℕ) (m : MetaImage)
    (found : Option Grant)
    → (slot_at m.slots block slot).grant ≡ found → Knows past m
    → Knows past (give_up block slot m found)
unfolding give_up change_record with_slots condemn_any ungranted_slot granted_copy
knows-given_up past block slot m None is h = h
knows-given_up past block slot m (Some grant) is h =
    let at : granted_copy (slot_at m.slots block slot).grant ≡ Some grant.copy = ap granted_copy is
    in
    knows-condemned past ungranted_slot ungranted-loses block slot m (Some grant.copy)
    (subst (λ o. Each (Granted past block slot) (option_to_list o)) at (h.pending block slot))
    (λ v. let e : count_in v (granted_copy (slot_at m.slots block slot).grant) ≡ count_in v
    (Some grant.copy) = ap (count_in v) at in omega arith)
    h

-- a change that keeps the copies of each slot
pub knows-changed : (past : Past) (change : SlotRecord → SlotRecord) → Loses change
    → (block : BlockId) (slot : ℕ) (m : MetaImage)
    → ((v : ℕ) (state : SlotRecord) → held v (change state) ≤ held v state) → Knows past m → Knows
    past (change_record block slot change m)
unfolding change_record with_slots
knows-changed past change loses block slot m same h =
    knows-lost past change loses block slot m m (λ _. 0) (λ v other number. omega arith)
    (λ v. let l = same v (slot_at m.slots block slot) in omega arith) h.condemned h

pub knows-failed : (past : Past) (block : BlockId) (slot : ℕ) (m : MetaImage) (found : Option Grant)
    → (slot_at m.slots block slot).grant ≡ found → Knows past m
    → Knows past (fail_grant block slot m found)
unfolding fail_grant failed_slot
knows-failed past block slot m None is h = h
knows-failed past block slot m (Some grant) is h =
    knows-changed past (failed_slot grant.copy.server) (failed-loses grant.copy.server) block slot
    (give_up block slot m (Some grant)) (λ v state. omega arith)
    (knows-given_up past block slot m (Some grant) is h)

pub knows-confirmed : (past : Past) (block : BlockId) (slot : ℕ) (m : MetaImage) → Knows past m
    → Knows past (confirm_slot block slot m (slot_at m.slots block slot))
unfolding confirm_slot change_record with_slots confirmed_slot granted_copy
knows-confirmed past block slot m h =
    knows-condemned past confirmed_slot confirmed-loses block slot m
    (slot_at m.slots block slot).current (h.current block slot) (λ v. omega arith) h

twice : (b : Bool) (k l x y z : ℕ) → z ≤ y + weigh_if b l → y ≤ x + weigh_if b k
    → z ≤ x + weigh_if b (k + l)
twice true k l x y z a b = omega arith
twice false k l x y z a b = omega arith

pub knows-emptied : (past : Past) (block : BlockId) (slot : ℕ) (m : MetaImage) → Knows past m
    → Knows past (empty_slot block slot m (slot_at m.slots block slot))
unfolding empty_slot change_record with_slots emptied_slot granted_copy
knows-emptied past block slot m h =
    let state : SlotRecord = slot_at m.slots block slot in
    let n : MetaImage = condemn_any block slot m state.current in
    let o : MetaImage = condemn_any block slot n (granted_copy state.grant) in
    let frame : o ≡ record m { condemned = o.condemned; next_condemned = o.next_condemned } =
    (condemn_any-frame block slot n (granted_copy state.grant)).is
    ∙ ap (λ (k : MetaImage). record k
    { condemned = o.condemned; next_condemned = o.next_condemned })
    (condemn_any-frame block slot m state.current).is in
    subst (λ (k : MetaImage). Knows past
    (record k { slots = change_slot block slot emptied_slot k.slots })) (sym frame)
    (knows-lost past emptied_slot emptied-loses block slot m o (λ v. held v state)
    (λ v other number. twice (same_slot block slot other number) (count_in v state.current)
    (count_in v (granted_copy state.grant)) _ _ _
    (condemned-count v block other slot number n (granted_copy state.grant))
    (condemned-count v block other slot number m state.current))
    (λ v. omega arith)
    (condemned-each (Granted past) block slot n (granted_copy state.grant) (h.pending block slot)
    (condemned-each (Granted past) block slot m state.current (h.current block slot) h.condemned))
    h)

-- ---- a slot is granted

older-count : (v : ℕ) (xs : List Copy) → Each (λ (c : Copy). c.version < v) xs
    → total (version_of v) xs ≡ 0
older-count v xs older =
    total-none (version_of v) xs (each_weaker (λ (c : Copy). c.version < v)
    (λ c. version_of v c ≡ 0) (λ c h. let e : nat_eq c.version v ≡ false = grind
    (arith, nat_tests) in ap one_if e) xs older)

older-rows : (v : ℕ) (block : BlockId) (slot : ℕ) (rows : List CondemnedRow)
    → Each (λ (row : CondemnedRow). is_condemned_of block slot row ≡ true →
    row.condemned.copy.version < v) rows
    → condemned_count v block slot rows ≡ 0
older-rows v block slot rows older =
    total-none (weight_of v block slot) rows
    (each_weaker _ (λ row. weight_of v block slot row ≡ 0) one rows older)
  where
    one : (row : CondemnedRow)
        → (is_condemned_of block slot row ≡ true → row.condemned.copy.version < v)
        → weight_of v block slot row ≡ 0
    one row h =
        (elim (is_condemned_of block slot row) as
        (λ b. is_condemned_of block slot row ≡ b
        → weigh_if b (version_of v row.condemned.copy) ≡ 0) [
          | true ↦ λ is. let l = h is in let e : nat_eq row.condemned.copy.version v ≡ false = grind
              (arith, nat_tests) in ap one_if e
          | false ↦ λ _. refl
        ]) refl

pub is_condemned_of-is : (block : BlockId) (slot : ℕ) (row : CondemnedRow)
    → is_condemned_of block slot row ≡ true
    → (row.condemned.block ≡ block) × (row.condemned.slot ≡ slot)
unfolding is_condemned_of
is_condemned_of-is block slot row is =
    let x = and_parts _ _ is in (same_block-is _ _ x.0, eqb-true _ _ x.1)

-- a granted copy of a slot whose file stands has a version below the next
below : (past : Past) (m : MetaImage) (block : BlockId) (slot : ℕ) (copy : Copy)
    → IsTrue (file_stands block.file m.tree) → Each (IsBehind m) past.granted
    → Granted past block slot copy → copy.version < (slot_at m.slots block slot).next
below past m block slot copy stands behind was =
    (granted-has (IsBehind m) past block slot copy behind was stands).1

pub one_most : (b : Bool) → one_if b ≤ 1
one_most true = omega arith
one_most false = omega arith

number-cases : (Y : Type 0) (n v : ℕ) → (v ≡ n → Y) → (nat_eq n v ≡ false → Y) → Y
number-cases Y n v same differs =
    elim (nat_eq n v) as (λ b. nat_eq n v ≡ b → Y)
    [ true ↦ λ is. same (sym (eqb-true n v is)) | false ↦ differs ] refl

abbrev new_copy : BlockId → ℕ → ℕ → MetaImage → SlotCopy
new_copy block slot server m =
    record {
      block = block;
      slot = slot;
      copy = record {
        server = server;
        life = (server_at m.servers server).life;
        version =
            (slot_at m.slots block slot).next;
      };
    }

fresh : (block : BlockId) (slot server : ℕ) (m : MetaImage) → IsTrue (file_stands block.file m.tree)
    → (x : SlotCopy) → IsBehind m x → same_version x (new_copy block slot server m) ≡ false
unfolding same_version
fresh block slot server m stands x b =
    (elim (same_version x (new_copy block slot server m)) as
    (λ t. same_version x (new_copy block slot server m) ≡ t → t ≡ false) [
      | true ↦ λ is.
          let p = and_parts _ _ is in
          let q = and_parts _ _ p.0 in
          let blocks : x.block ≡ block = same_block-is x.block block q.0 in
          let slots : x.slot ≡ slot = eqb-true _ _ q.1 in
          let versions : x.copy.version ≡ (slot_at m.slots block slot).next = eqb-true _ _ p.1 in
          let under = (b (subst (λ k. IsTrue (file_stands k.file m.tree)) (sym blocks) stands)).1 in
          let at : (slot_at m.slots x.block x.slot).next ≡ (slot_at m.slots block slot).next =
          (λ i. (slot_at m.slots (blocks i) (slots i)).next) in
          absurd (omega arith)
      | false ↦ λ _. refl
    ]) refl

still : (block : BlockId) (slot server actor lease : ℕ) (m : MetaImage)
    → (slot_at m.slots block slot).next < LAST_U32 → (x : SlotCopy) → IsBehind m x
    → IsBehind (record m {
      slots = with_slot block slot
          (granted_slot server (server_at m.servers server).life actor lease
          (slot_at m.slots block slot))
          m.slots;
    }) x
unfolding granted_slot
still block slot server actor lease m versions x b stands =
    let state : SlotRecord = granted_slot server (server_at m.servers server).life actor lease
    (slot_at m.slots block slot) in (
      has-placed block x.block slot x.slot state m.slots (λ _. (b stands).0),
      placed-cases (λ st. x.copy.version < st.next) block x.block slot x.slot state m.slots
          (λ blocks slots. let at : (slot_at m.slots block slot).next ≡ (slot_at m.slots x.block
          x.slot).next = (λ i. (slot_at m.slots (blocks i) (slots i)).next) in let under =
          (b stands).1 in omega arith)
          (λ _. (b stands).1),
    )

known-next : (past : Past) (m : MetaImage) (block : BlockId) (slot : ℕ) → Counted past m.slots
    → (slot_at m.slots block slot).next ≤ length past.granted + 1
unfolding never_granted
known-next past m block slot each =
    slot_has (λ st. st.next ≤ length past.granted + 1) m.slots block slot (omega arith)
    (each_weaker _ _ (λ row o _ _. o) m.slots each)

pub knows-granted : (past : Past) (block : BlockId) (slot server actor lease : ℕ) (m : MetaImage)
    → MayGrant m block slot server actor lease → block.file < m.next_file → Knows past m
    → Knows (told (GrantSlot block slot server actor lease) m past)
    (grant_slot block slot server actor lease m)
unfolding grant_slot with_slots with_copy with_slot granted_slot granted_copy
knows-granted past block slot server actor lease m may numbered h =
    let life : ℕ = (server_at m.servers server).life in
    let old : SlotRecord = slot_at m.slots block slot in
    let copy : Copy = record { server = server; life = life; version = old.next } in
    let g : SlotCopy = record { block = block; slot = slot; copy = copy } in
    let state : SlotRecord = granted_slot server life actor lease old in
    let under : (c : Copy) → Granted past block slot c → c.version < old.next = λ c was. below past
    m block slot c may.stands h.behind was in
    let versions = may.versions in
    record {
      once = distinct-push same_version past.granted g h.once
          (each_weaker (IsBehind m) (λ x. same_version x g ≡ false)
          (λ x b. fresh block slot server m may.stands x b) past.granted h.behind);
      of_files = each_push _ past.granted g h.of_files numbered;
      behind =
          each_push _ past.granted g (each_weaker (IsBehind m) _
          (λ x b. still block slot server actor lease m may.versions x b) past.granted h.behind)
          (λ stands. (
            has-placed block block slot slot state m.slots
                (λ off. absurd (true≢false (sym
                (is_slot-self (record { block = block; slot = slot; state = state })) ∙ off))),
            placed-cases (λ st. old.next < st.next) block block slot slot state m.slots
                (λ _ _. omega arith) (λ off. absurd
                (true≢false (sym (is_slot-self (record
                { block = block; slot = slot; state = state })) ∙ off))),
          ));
      counted =
          each_place (λ (row : SlotRow). row.state.next ≤ length (past.granted ++ g ∷ []) + 1)
          slot_cmp _ m.slots
          (let o = known-next past m block slot h.counted in let l = length-append past.granted
          (g ∷ []) in omega arith)
          (each_weaker (λ (row : SlotRow). row.state.next ≤ length past.granted + 1) _
          (λ row o. let l = length-append past.granted (g ∷ []) in omega arith) m.slots
          h.counted);
      different = λ v other number.
          placed-cases (λ st. held v st + condemned_count v other number m.condemned ≤ 1) block
          other slot number state m.slots
          (λ b s.
          let at : old ≡ slot_at m.slots other number = (λ i. slot_at m.slots (b i) (s i)) in
          let o = h.different v other number in
          let e = ap (held v) at in
          let p : count_in v (granted_copy old.grant) ≡ 0 = ap (λ x. count_in v (granted_copy x))
          may.free in
          number-cases (held v state + condemned_count v other number m.condemned ≤ 1) old.next v
          (λ is.
          let v_is : v ≡ old.next = is in
          let c : count_in v old.current ≡ 0 = subst (λ k. count_in k old.current ≡ 0) (sym v_is)
          (older-count old.next (option_to_list old.current)
          (each_weaker (Granted past block slot) _ under (option_to_list old.current)
          (h.current block slot))) in
          let d : condemned_count v other number m.condemned ≡ 0 = subst
          (λ k. condemned_count k other number m.condemned ≡ 0) (sym v_is)
          (older-rows old.next other number m.condemned
          (each_weaker (RowGranted past) _
          (λ row was is. let k = is_condemned_of-is other number row is in under
          row.condemned.copy (subst (λ x. Granted past x slot row.condemned.copy) (k.0 ∙ sym b)
          (subst (λ x. Granted past row.condemned.block x row.condemned.copy) (k.1 ∙ sym s)
          was))) m.condemned h.condemned)) in
          let n : version_of v copy ≤ 1 = one_most (nat_eq old.next v) in
          omega arith)
          (λ differs. let z : version_of v copy ≡ 0 = ap one_if differs in omega arith))
          (λ off. h.different v other number);
      current =
          λ other number. placed-cases (λ st. Each (Granted (with_copy g past) other number)
          (option_to_list st.current)) block other slot number state m.slots
          (λ b s. each_weaker _ _ (λ c was. granted-more past g other number c was)
          (option_to_list old.current) (subst
          (λ k. Each (Granted past k number) (option_to_list old.current)) b
          (subst (λ k. Each (Granted past block k) (option_to_list old.current)) s
          (h.current block slot))))
          (λ _. each_weaker _ _ (λ c was. granted-more past g other number c was)
          (current_in m.slots other number) (h.current other number));
      pending =
          λ other number. placed-cases (λ st. Each (Granted (with_copy g past) other number)
          (option_to_list (granted_copy st.grant))) block other slot number state m.slots
          (λ b s. (
            subst (λ k. Granted (with_copy g past) k number copy) b
                (subst (λ k. Granted (with_copy g past) block k copy) s (granted-new past g)),
            tt,
          ))
          (λ _. each_weaker _ _ (λ c was. granted-more past g other number c was)
          (pending_in m.slots other number) (h.pending other number));
      condemned = each_weaker (RowGranted past) _ (λ row was. granted-more past g _ _ _ was)
          m.condemned h.condemned;
      ordered = each_weaker _ _ (λ (c : Condemned) was. granted-more past g c.block c.slot c.copy
          was) past.ordered h.ordered;
      listed = each_weaker _ _ (λ (l : ListedCopy) was. granted-more past g l.of_slot.block
          l.of_slot.slot l.of_slot.copy was) past.listed h.listed;
    }

-- ---- the slots of a file are sealed or forgotten, and the tree changes

-- what stands of the tree still stood before, and a file that is gone doesn't
abbrev pub StandsBack : MetaImage → MetaImage → Type 0
StandsBack m n =
    (file : ℕ) → file < m.next_file → IsTrue (file_stands file n.tree) → IsTrue
    (file_stands file m.tree)

pub knows-tree : (past : Past) (m n : MetaImage) → n.slots ≡ m.slots → n.condemned ≡ m.condemned
    → m.next_file ≤ n.next_file → StandsBack m n → Knows past m → Knows past n
knows-tree past m n slots condemned next back h = record {
  once = h.once;
  of_files = each_weaker _ _ (λ (g : SlotCopy) l. less _ _ _ l next) past.granted h.of_files;
  behind =
      each_weaker (λ (g : SlotCopy). (g.block.file < m.next_file) × IsBehind m g) _
      (λ g b stands. subst (λ rows. IsTrue (is_some (find (is_slot g.block g.slot) rows))
      × (g.copy.version < (slot_at rows g.block g.slot).next)) (sym slots)
      (b.1 (back g.block.file b.0 stands))) past.granted
      (each_both (λ (g : SlotCopy). g.block.file < m.next_file) (IsBehind m) past.granted h.of_files
      h.behind);
  counted = subst (Counted past) (sym slots) h.counted;
  different = subst (λ rows. Once n.slots rows) (sym condemned)
      (subst (λ rows. Once rows m.condemned) (sym slots) h.different);
  current = λ block slot. subst (λ rows. Each (Granted past block slot)
      (current_in rows block slot)) (sym slots) (h.current block slot);
  pending = λ block slot. subst (λ rows. Each (Granted past block slot)
      (pending_in rows block slot)) (sym slots) (h.pending block slot);
  condemned = subst (λ rows. Each (RowGranted past) rows) (sym condemned) h.condemned;
  ordered = h.ordered;
  listed = h.listed;
}
  where
    less : (a b c : ℕ) → a < b → b ≤ c → a < c
    less a b c p q = omega arith

pub knows-sealed : (past : Past) (file : ℕ) (m n : MetaImage) → n.slots ≡ seal_file file m.slots
    → n.condemned ≡ m.condemned → m.next_file ≡ n.next_file → StandsBack m n → Knows past m
    → Knows past n
unfolding seal_file change_state sealed_slot granted_copy never_granted
knows-sealed past file m n slots condemned next back h =
    knows-tree past (record m { slots = seal_file file m.slots }) n slots condemned (omega arith)
    back (record {
      once = h.once;
      of_files = h.of_files;
      behind = each_weaker _ _ (λ g b stands. (
        subst (λ t. IsTrue t) (sym (has-changed (is_of_file file) sealed_slot g.block g.slot
            m.slots)) (b stands).0,
        sealed-cases (λ st. g.copy.version < st.next) file g.block g.slot m.slots
            (λ at. subst (λ st. g.copy.version < st.next) at (b stands).1) (λ _. (b stands).1)
            (λ _. (b stands).1),
      )) past.granted h.behind;
      counted = each_change _ _ (is_of_file file) (change_state sealed_slot) (λ row _ o. o)
          (λ row _ o. o) m.slots h.counted;
      different =
          λ v block slot. sealed-cases (λ st. held v st + condemned_count v block slot m.condemned ≤
          1) file block slot m.slots
          (λ _. let o = h.different v block slot in omega arith)
          (λ _. let o = h.different v block slot in omega arith)
          (λ _. h.different v block slot);
      current = λ block slot. sealed-cases
          (λ st. Each (Granted past block slot) (option_to_list st.current)) file block slot m.slots
          (λ _. tt) (λ _. h.pending block slot) (λ _. h.current block slot);
      pending = λ block slot. sealed-cases
          (λ st. Each (Granted past block slot) (option_to_list (granted_copy st.grant))) file block
          slot m.slots (λ _. tt) (λ _. tt) (λ _. h.pending block slot);
      condemned = h.condemned;
      ordered = h.ordered;
      listed = h.listed;
    })

forgotten-counted : (past : Past) (file : ℕ) (rows : List SlotRow) → Counted past rows
    → Counted past (forget_file file rows)
unfolding forget_file
forgotten-counted past file rows each = each_filter _ (λ row. not (is_of_file file row)) rows each

pub knows-forgotten : (past : Past) (file : ℕ) (m n : MetaImage)
    → n.slots ≡ forget_file file m.slots → n.condemned ≡ m.condemned → m.next_file ≡ n.next_file
    → StandsBack m n → ((other : ℕ) → IsTrue (file_stands other n.tree) → (other == file) ≡ false) →
    Knows past m → Knows past n
unfolding granted_copy never_granted
knows-forgotten past file m n slots condemned next back gone h = record {
  once = h.once;
  of_files = each_weaker _ _ (λ (g : SlotCopy) (l : g.block.file < m.next_file).
      let k : g.block.file < n.next_file = omega arith in k) past.granted h.of_files;
  behind =
      each_weaker (λ (g : SlotCopy). (g.block.file < m.next_file) × IsBehind m g) _ (λ g b stands.
      let before = b.1 (back g.block.file b.0 stands) in
      let other = gone g.block.file stands in
      subst (λ rows. IsTrue (is_some (find (is_slot g.block g.slot) rows))
      × (g.copy.version < (slot_at rows g.block g.slot).next)) (sym slots) (
        has-forgotten file g.block g.slot m.slots other before.0,
        forgotten-cases (λ st. g.copy.version < st.next) file g.block g.slot m.slots
            (λ same. absurd (true≢false (sym same ∙ other))) (λ _. before.1),
      ))
      past.granted (each_both (λ (g : SlotCopy). g.block.file < m.next_file) (IsBehind m)
      past.granted h.of_files h.behind);
  counted = subst (Counted past) (sym slots) (forgotten-counted past file m.slots h.counted);
  different =
      λ v block slot. subst (λ rows. held v (slot_at n.slots block slot) + condemned_count v block
      slot rows ≤ 1) (sym condemned)
      (subst (λ rows. held v (slot_at rows block slot) + condemned_count v block slot m.condemned ≤
      1) (sym slots)
      (forgotten-cases (λ st. held v st + condemned_count v block slot m.condemned ≤ 1) file block
      slot m.slots
      (λ _. let o = h.different v block slot in omega arith) (λ _. h.different v block slot)));
  current =
      λ block slot. subst (λ rows. Each (Granted past block slot) (current_in rows block slot))
      (sym slots)
      (forgotten-cases (λ st. Each (Granted past block slot) (option_to_list st.current)) file block
      slot m.slots (λ _. tt) (λ _. h.current block slot));
  pending =
      λ block slot. subst (λ rows. Each (Granted past block slot) (pending_in rows block slot))
      (sym slots)
      (forgotten-cases (λ st. Each (Granted past block slot)
      (option_to_list (granted_copy st.grant))) file block slot m.slots (λ _. tt)
      (λ _. h.pending block slot));
  condemned = subst (λ rows. Each (RowGranted past) rows) (sym condemned) h.condemned;
  ordered = h.ordered;
  listed = h.listed;
}

-- ---- condemned copies alone change

pub knows-rows : (past : Past) (m n : MetaImage) → n.slots ≡ m.slots → n.tree ≡ m.tree
    → n.next_file ≡ m.next_file
    → ((v : ℕ) (block : BlockId) (slot : ℕ) → condemned_count v block slot n.condemned ≤
    condemned_count v block slot m.condemned)
    → Each (RowGranted past) n.condemned → Knows past m → Knows past n
knows-rows past m n slots tree next fewer granted h =
    let k : MetaImage = record m { condemned = n.condemned } in
    let middle : Knows past k = record {
      once = h.once;
      of_files = h.of_files;
      behind = h.behind;
      counted = h.counted;
      different = λ v block slot. let o = h.different v block slot in let f = fewer v block slot in
          omega arith;
      current = h.current;
      pending = h.pending;
      condemned = granted;
      ordered = h.ordered;
      listed = h.listed;
    } in
    knows-tree past k n slots refl (omega arith)
    (λ file l stands. subst (λ t. IsTrue (file_stands file t)) tree stands) middle

-- ---- a copy that no slot knows of is condemned

unknown-count : (past : Past) (block : BlockId) (slot : ℕ) (copy : Copy) (xs : List Copy)
    → IsDistinct same_version past.granted → Granted past block slot copy
    → Each (Granted past block slot) xs → Each (λ c. same_copy c copy ≡ false) xs → total
    (version_of copy.version) xs ≡ 0
unfolding was_granted
unknown-count past block slot copy xs once was granted differ =
    total-none (version_of copy.version) xs
    (each_weaker (λ c. Granted past block slot c × (same_copy c copy ≡ false))
    (λ c. version_of copy.version c ≡ 0)
    (λ c h.
    (elim (nat_eq c.version copy.version) as
    (λ b. nat_eq c.version copy.version ≡ b → one_if b ≡ 0) [
      | true ↦ λ is. let same : c ≡ copy = one_copy block slot c copy past.granted once
          (eqb-true _ _ is) h.0 was in absurd
          (true≢false (sym (ap (λ k. same_copy k copy) same ∙ same_copy-self copy) ∙ h.1))
      | false ↦ λ _. refl
    ]) refl)
    xs (each_both (Granted past block slot) (λ c. same_copy c copy ≡ false) xs granted differ))

unknown-rows : (past : Past) (block : BlockId) (slot : ℕ) (copy : Copy) (rows : List CondemnedRow)
    → IsDistinct same_version past.granted → Granted past block slot copy
    → Each (RowGranted past) rows → list_any (is_copy_of block slot copy) rows ≡ false →
    condemned_count copy.version block slot rows ≡ 0
unfolding is_copy_of is_condemned_of was_granted
unknown-rows past block slot copy [] once was granted none = refl
unknown-rows past block slot copy (row ∷ rows) once was granted none =
    let parts = or_parts _ _ none in
    let rest = unknown-rows past block slot copy rows once was granted.1 parts.1 in
    let here : weight_of copy.version block slot row ≡ 0 = one (is_condemned_of block slot row) refl
    parts.0 in
    omega arith
  where
    one : (b : Bool) → is_condemned_of block slot row ≡ b → is_copy_of block slot copy row ≡ false
        → weigh_if b (version_of copy.version row.condemned.copy) ≡ 0
    one false is apart = refl
    one true is apart =
        let k = is_condemned_of-is block slot row is in
        let own : Granted past block slot row.condemned.copy = subst
        (λ b. Granted past b slot row.condemned.copy) k.0
        (subst (λ s. Granted past row.condemned.block s row.condemned.copy) k.1 granted.0) in
        (elim (nat_eq row.condemned.copy.version copy.version) as
        (λ b. nat_eq row.condemned.copy.version copy.version ≡ b → one_if b ≡ 0) [
          | true ↦ λ same.
              let e : row.condemned.copy ≡ copy = one_copy block slot row.condemned.copy copy
              past.granted once (eqb-true _ _ same) own was in
              let s : same_copy row.condemned.copy copy ≡ true = ap (λ c. same_copy c copy) e
              ∙ same_copy-self copy in
              absurd (true≢false (sym (λ i. is i && s i) ∙ apart))
          | false ↦ λ _. refl
        ]) refl

not-that : (copy : Copy) (found : Option Copy) → is_that_copy copy found ≡ false
    → Each (λ c. same_copy c copy ≡ false) (option_to_list found)
unfolding is_that_copy
not-that copy None h = tt
not-that copy (Some other) h = (h, tt)

pub knows-unknown : (past : Past) (block : BlockId) (slot : ℕ) (copy : Copy) (m : MetaImage)
    → Granted past block slot copy
    → is_known_copy block slot copy (slot_at m.slots block slot) m.condemned ≡ false → Knows past m
    → Knows past (with_condemned block slot copy m)
unfolding is_known_copy condemned_row is_condemned_of
knows-unknown past block slot copy m was none h =
    let a = or_parts _ _ none in
    let b = or_parts _ _ a.0 in
    record {
      once = h.once;
      of_files = h.of_files;
      behind = h.behind;
      counted = h.counted;
      different = λ v other number.
          let more = total-append (weight_of v other number) m.condemned
          (condemned_row m.next_condemned block slot copy m.leases ∷ []) in
          let o = h.different v other number in
          (elim (same_slot block slot other number) as (λ t. same_slot block slot other number ≡ t
          → condemned_count v other number
          (m.condemned ++ condemned_row m.next_condemned block slot copy m.leases
          ∷ []) ≡ condemned_count v other number m.condemned + (weigh_if t (version_of v copy) + 0)
          → held v (slot_at m.slots other number) + condemned_count v other number
          (m.condemned ++ condemned_row m.next_condemned block slot copy m.leases ∷ []) ≤ 1) [
            | true ↦ λ is more.
                let k = and_parts _ _ is in
                let blocks : block ≡ other = same_block-is block other k.0 in
                let slots : slot ≡ number = eqb-true _ _ k.1 in
                number-cases (held v (slot_at m.slots other number) + condemned_count v other number
                (m.condemned ++ condemned_row m.next_condemned block slot copy m.leases ∷ []) ≤ 1)
                copy.version v
                (λ v_is.
                let free : held v (slot_at m.slots block slot) + condemned_count v block slot
                m.condemned ≡ 0 =
                subst (λ k. held k (slot_at m.slots block slot) + condemned_count k block slot
                m.condemned ≡ 0) (sym v_is) (
                let x = unknown-count past block slot copy (current_in m.slots block slot) h.once
                was (h.current block slot) (not-that copy _ b.0) in
                let y = unknown-count past block slot copy (pending_in m.slots block slot) h.once
                was (h.pending block slot) (not-that copy _ b.1) in
                let z = unknown-rows past block slot copy m.condemned h.once was h.condemned a.1 in
                omega arith) in
                let there : held v (slot_at m.slots other number) + condemned_count v other number
                m.condemned ≡ 0 = subst (λ k. held v (slot_at m.slots k number) +
                condemned_count v k number m.condemned ≡ 0) blocks
                (subst (λ k. held v (slot_at m.slots block k) + condemned_count v block k
                m.condemned ≡ 0) slots free) in
                let n : version_of v copy ≤ 1 = one_most (nat_eq copy.version v) in
                omega arith)
                (λ differs. let z : version_of v copy ≡ 0 = ap one_if differs in omega arith)
            | false ↦ λ _ more. omega arith
          ]) refl more;
      current = h.current;
      pending = h.pending;
      condemned = each_push (RowGranted past) m.condemned
          (condemned_row m.next_condemned block slot copy m.leases) h.condemned was;
      ordered = h.ordered;
      listed = h.listed;
    }

pub knows-stray : (past : Past) (server life : ℕ) (key : ChunkKey) (m : MetaImage)
    → MayCondemn past m server life key → Knows past m
    → Knows past (condemn_stray server life key m)
unfolding condemn_stray condemn_unknown is_known_copy
knows-stray past server life key m may h =
    let copy : Copy = record { server = server; life = life; version = key.version } in
    (elim (is_known_copy key.block key.slot copy (slot_at m.slots key.block key.slot) m.condemned)
    as (λ b.
    is_known_copy key.block key.slot copy (slot_at m.slots key.block key.slot) m.condemned ≡ b →
    Knows past (condemn_unknown key.block key.slot copy m b)) [
      | true ↦ λ _. h
      | false ↦ λ none. condemn-cases (Knows past) key.block key.slot copy m (λ _. h)
          (λ live. knows-unknown past key.block key.slot copy m may.granted none h)
    ]) refl

-- ---- every change

unblocked-granted : (past : Past) (lease : ℕ) (row : CondemnedRow) → RowGranted past row
    → RowGranted past (unblock lease row)
unfolding unblock
unblocked-granted past lease row was = was

-- what the tree keeps: what stands after a change stood before it, and a file that was given up
-- or removed is gone
abbrev pub TreeBack : MetaImage → Change → Type 0
TreeBack m (AbortFile file) =
    StandsBack m (apply m (AbortFile file))
    × ((other : ℕ) → IsTrue (file_stands other (apply m (AbortFile file)).tree) →
    (other == file) ≡ false)
TreeBack m (RemoveFile path file) =
    StandsBack m (apply m (RemoveFile path file))
    × ((other : ℕ) → IsTrue (file_stands other (apply m (RemoveFile path file)).tree) →
    (other == file) ≡ false)
TreeBack m (GrantSlot block slot server actor lease) = block.file < m.next_file
TreeBack m change = StandsBack m (apply m change)

pub kept-knows : (past : Past) (m : MetaImage) (change : Change) → MayMake past m change
    → TreeBack m change → Knows past m → Knows (told change m past) (apply m change)
unfolding apply write_entry add_file with_slots finish_lease bring_up was_granted
kept-knows past m (AddDirectory path) may back h =
    knows-tree past m _ refl refl (omega arith) back h
kept-knows past m (TakeDirectory path) may back h =
    knows-tree past m _ refl refl (omega arith) back h
kept-knows past m (AddFile path actor command len) may back h =
    knows-tree past m _ refl refl (omega arith) back h
kept-knows past m (CloseFile file actor command) may back h =
    knows-sealed past file m _ refl refl refl back h
kept-knows past m (AbortFile file) may back h =
    knows-forgotten past file m _ refl refl refl back.0 back.1 h
kept-knows past m (RemoveFile path file) may back h =
    knows-forgotten past file m _ refl refl refl back.0 back.1 h
kept-knows past m (MovePath from to) may back h = knows-tree past m _ refl refl (omega arith) back h
kept-knows past m (GrantSlot block slot server actor lease) may back h =
    knows-granted past block slot server actor lease m may back h
kept-knows past m (FailGrant block slot) may back h = knows-failed past block slot m _ refl h
kept-knows past m (GiveUp block slot) may back h = knows-given_up past block slot m _ refl h
kept-knows past m (ConfirmSlot block slot) may back h = knows-confirmed past block slot m h
kept-knows past m (EmptySlot block slot) may back h = knows-emptied past block slot m h
kept-knows past m (GiveLease actor file until) may back h =
    record {
      once = h.once;
      of_files = h.of_files;
      behind = h.behind;
      counted = h.counted;
      different = h.different;
      current = h.current;
      pending = h.pending;
      condemned = h.condemned;
      ordered = h.ordered;
      listed = h.listed;
    }
kept-knows past m (EndLease lease) may back h =
    knows-rows past m _ refl refl refl
    (λ v block slot. let e = unblocked-count v block slot lease m.condemned in omega arith)
    (unblocked-each (RowGranted past) lease m.condemned
    (λ row was. unblocked-granted past lease row was) h.condemned) h
kept-knows past m (MarkOrdered number) may back h =
    knows-rows past m _ refl refl refl
    (λ v block slot. let e = marked-count v block slot number m.condemned in omega arith)
    (marked-each (RowGranted past) number m.condemned (λ row was. was) h.condemned) h
kept-knows past m (TakeCondemned number) may back h =
    knows-rows past m _ refl refl refl (λ v block slot. swept-count v block slot number m.condemned)
    (swept-each (RowGranted past) number m.condemned h.condemned) h
kept-knows past m (CondemnStray server life key) may back h =
    knows-stray past server life key m may h
kept-knows past m (ServerUp server life) may back h =
    knows-rows past m _ refl refl refl
    (λ v block slot. risen-count v block slot server m.condemned _)
    (risen-each (RowGranted past) server m.condemned _ h.condemned) h
kept-knows past m _ may back h =
    record {
      once = h.once;
      of_files = h.of_files;
      behind = h.behind;
      counted = h.counted;
      different = h.different;
      current = h.current;
      pending = h.pending;
      condemned = h.condemned;
      ordered = h.ordered;
      listed = h.listed;
    }
