-- The requests that grant what they find, and the grant of a put. For the law `stays_sound`.
use Rattle.qfs_base.specs.Mask.{all_slots}
use Rattle.qfs_base.specs.Shape.{Shape}
use Rattle.qfs_base.specs.Sizes.{LAST_U32}
use Rattle.qfs_base.specs.Table.{Each}
use Rattle.qfs_base.specs.declared.change.Change.TheVariants.{FailGrant, GrantSlot}
use Rattle.qfs_base.specs.declared.chunk.BlockId.{BlockId}
use Rattle.qfs_base.specs.declared.chunk.Copy.{Copy}
use Rattle.qfs_base.specs.declared.image.Grant.{Grant}
use Rattle.qfs_base.specs.declared.image.Load.{Load}
use Rattle.qfs_base.specs.declared.image.MetaImage.{MetaImage}
use Rattle.qfs_base.specs.declared.image.ServerView.{ServerView}
use Rattle.qfs_base.specs.declared.image.SlotRecord.{SlotRecord}
use Rattle.qfs_base.specs.declared.image.SlotRow.{SlotRow}
use Rattle.qfs_base.specs.declared.image.TreeRow.{TreeRow}
use Rattle.qfs_base.specs.declared.reply.MetaReply.{MetaReply}
use Rattle.qfs_base.specs.declared.request.SlotId.{SlotId}
use Rattle.qfs_model_meta.specs.Apply.{apply, apply_all, change_record, fail_grant, give_up}
use Rattle.qfs_model_meta.specs.Apply.{with_slots}
use Rattle.qfs_model_meta.specs.Condemned.{condemn}
use Rattle.qfs_model_meta.specs.Counters.{counters_fit}
use Rattle.qfs_model_meta.specs.FreedLaws.{decides_as_freed}
use Rattle.qfs_model_meta.specs.Grammar.{IsActor, IsServer}
use Rattle.qfs_model_meta.specs.GrantedAgain.{freed}
use Rattle.qfs_model_meta.specs.LeasedGrants.{closed_len, comes_after, grant_recovery, has_block}
use Rattle.qfs_model_meta.specs.LeasedGrants.{is_at_rest, is_live_on, move_source}
use Rattle.qfs_model_meta.specs.Lists.{block_count, new_grant}
use Rattle.qfs_model_meta.specs.MoveRequests.{decide_balance, decide_evacuate, evacuate_slot}
use Rattle.qfs_model_meta.specs.MoveRequests.{even_out, fits_move, give_to_lightest, is_barred}
use Rattle.qfs_model_meta.specs.MoveRequests.{is_to_move, move_slot, next_to_move}
use Rattle.qfs_model_meta.specs.Past.{Past, granted_slot_copy, is_of_put, remember, with_copy}
use Rattle.qfs_model_meta.specs.Past.{with_grant}
use Rattle.qfs_model_meta.specs.Placing.{Numbered, barred_for_put, census, choose, is_open, lighter}
use Rattle.qfs_model_meta.specs.Placing.{load_of, open_servers}
use Rattle.qfs_model_meta.specs.PutRequests.{block_slots, chosen_for_put, decide_grant}
use Rattle.qfs_model_meta.specs.PutRequests.{failed_grant, file_slots, grant_for_put, grant_in}
use Rattle.qfs_model_meta.specs.PutRequests.{lacks_grant, put_granted, taken_refusal}
use Rattle.qfs_model_meta.specs.Range.{is_slot_number}
use Rattle.qfs_model_meta.specs.RepairRequests.{closed_slots, decide_heal, heal_slot, is_to_heal}
use Rattle.qfs_model_meta.specs.RepairRequests.{next_to_heal, slots_of_closed}
use Rattle.qfs_model_meta.specs.Slots.{change_slot, failed_slot, never_granted, slot_at, slot_id}
use Rattle.qfs_model_meta.specs.Slots.{ungranted_slot}
use Rattle.qfs_model_meta.specs.TreeRows.{closed_file, has_file, is_closed_row, is_unclosed_row}
use Rattle.qfs_model_meta.specs.TreeRows.{rising_files, unclosed_file}
use Rattle.std.proofs.Common.{Bool, List, None, Option, Some, [], ap, arith, false, filter, find}
use Rattle.std.proofs.Common.{length, map, refl, subst, suc, sym, true, zero, ℕ, ◌&&◌, ◌+◌, ◌<◌}
use Rattle.std.proofs.Common.{◌||◌, ◌∙◌, ◌∷◌, ◌≡◌, ◌≤◌}
use Rattle.std.proofs.lemmas.Bool.{and_from, and_parts, eq-eqb, ltb-true, not-true, or_right}
use Rattle.std.proofs.lemmas.Bool.{true≢false}
use Rattle.std.specs.List.{enumerate_from, list_any, range_with_len, reduce}
use Rattle.std.specs.Prelude.{IsTrue, fold, is_none, is_some}
use Rattle.qfs_base.specs.declared.reply.MetaReply.TheVariants as Told
use Rattle.qfs_laws_meta.specs.GrantRequests.{chosen-fine, leased-fine}
use Rattle.qfs_laws_meta.specs.Granting.{put-apart, version-kept, version-left}
use Rattle.qfs_laws_meta.specs.Kept.{Fits, Keeps, kept}
use Rattle.qfs_laws_meta.specs.Listing.{AreCurrent, none-current, one-current, others-current}
use Rattle.qfs_laws_meta.specs.Requests.{Fine, Quiet, need-fine, refuse-fine, unless-fine}
use Rattle.qfs_laws_meta.specs.SimpleRequests.{next-fits, unclosed-fits}
use Rattle.qfs_laws_slots.specs.Changes.{HasVersionsLeft, MayGrant, told}
use Rattle.qfs_laws_slots.specs.Losing.{losing-frame}
use Rattle.qfs_laws_slots.specs.RowKeys.{has_file-is}
use Rattle.qfs_laws_slots.specs.SlotTable.{RowFits}
use Rattle.qfs_laws_slots.specs.Slots.{is_slot-self, rows-found, slot-cases}
use Rattle.qfs_base.specs.EachLaws.{each_filter, each_weaker}
use Rattle.qfs_laws_tables.specs.EachRow.{each_of_all, each_both, each_flat, each_map, each_passes}
use Rattle.qfs_laws_tables.specs.EachRow.{found_has, none-is}
use Rattle.qfs_laws_tables.specs.InOrder.{numbers-each}
use Rattle.qfs_laws_tables.specs.SomeRow.{found-any}
use Rattle.qfs_laws_tree.specs.Files.{not-closed, unclosed-rows}
use Rattle.qfs_laws_tree.specs.TreeChanges.{closed-any, closed_test, stands-any, stands_test}
use Rattle.qfs_laws_slots.specs.Choice.{IsNumbered, census-length, chosen-is, enumerated, lightest}

-- ---- lists of slots

abbrev pub IsSlotOf : ℕ → SlotId → Type 0
IsSlotOf file id = (id.block.file ≡ file) × (id.slot < 9)

small-slots : (k n : ℕ) → k + n ≤ 9 → Each (λ slot. slot < 9) (range_with_len k n)
small-slots k zero high = tt
small-slots k (suc n) high = (omega arith, small-slots (k + 1) n (omega arith))

pub file-slots : (file count : ℕ) → Each (IsSlotOf file) (file_slots file count)
unfolding file_slots block_slots
file-slots file count =
    each_flat (λ _. Unit {0}) (IsSlotOf file)
    (λ index. block_slots (record { file = file; index = index }))
    (λ index _. each_map (λ slot. slot < 9) (IsSlotOf file)
    (λ slot. record { block = record { file = file; index = index }; slot = slot })
    (λ slot small. (refl, small)) all_slots (small-slots 0 9 (omega arith)))
    (range_with_len 0 count) (each_of_all _ (λ _. tt) (range_with_len 0 count))

-- what is healed is a slot of a closed file
abbrev pub IsOfClosed : List TreeRow → SlotId → Type 0
IsOfClosed tree id = IsTrue (is_some (closed_file id.block.file tree)) × (id.slot < 9)

own-closed : (rows : List TreeRow)
    → Each (λ (row : TreeRow). is_closed_row row ≡ true → list_any (closed_test row.file)
    rows ≡ true) rows
own-closed [] = tt
own-closed (row ∷ rows) = (
  (λ is. ap (λ b. b || list_any (closed_test row.file) rows)
      (and_from (is_closed_row row) (has_file row.file row) is
      (has_file-is row.file row ∙ eq-eqb row.file row.file refl))),
  each_weaker (λ (later : TreeRow). is_closed_row later ≡ true → list_any (closed_test later.file)
      rows ≡ true) (λ (later : TreeRow). is_closed_row later ≡ true → list_any
      (closed_test later.file) (row ∷ rows) ≡ true)
      (λ later any is. or_right (closed_test later.file row) _ (any is)) rows (own-closed rows),
)

closed-files : (tree : List TreeRow)
    → Each (λ file. IsTrue (is_some (closed_file file tree)))
    (rising_files (filter is_closed_row tree))
unfolding rising_files
closed-files tree =
    numbers-each (λ file. IsTrue (is_some (closed_file file tree)))
    (map (λ (row : TreeRow). row.file) (filter is_closed_row tree)) []
    (each_map (λ (row : TreeRow). (is_closed_row row ≡ true)
    × (is_closed_row row ≡ true → list_any (closed_test row.file) tree ≡ true)) _
    (λ (row : TreeRow). row.file)
    (λ row b. subst IsTrue (sym (closed-any row.file tree)) (b.1 b.0)) (filter is_closed_row tree)
    (each_both (λ row. is_closed_row row ≡ true) _ (filter is_closed_row tree)
    (each_passes is_closed_row tree) (each_filter _ is_closed_row tree (own-closed tree)))) tt

pub closed-slots : (layout : Shape) (tree : List TreeRow)
    → Each (IsOfClosed tree) (closed_slots layout tree)
unfolding closed_slots slots_of_closed
closed-slots layout tree =
    each_flat (λ file. IsTrue (is_some (closed_file file tree))) (IsOfClosed tree)
    (λ file. file_slots file (block_count layout (closed_len (closed_file file tree))))
    (λ file closed. each_weaker (IsSlotOf file) (IsOfClosed tree)
    (λ id is. (subst (λ k. IsTrue (is_some (closed_file k tree))) (sym is.0) closed, is.1))
    (file_slots file (block_count layout (closed_len (closed_file file tree)))) (file-slots file _))
    (rising_files (filter is_closed_row tree)) (closed-files tree)

pub heal-fine : (layout : Shape) (term actor : ℕ) (past : Past) (m : MetaImage)
    (after : Option SlotId)
    → Fits m → IsActor actor → HasVersionsLeft m
    → Fine actor past m (decide_heal layout term actor after m)
unfolding decide_heal heal_slot next_to_heal is_to_heal lacks_grant grant_recovery remember
heal-fine layout term actor past m after f who left =
    need-fine actor past m Told.Nothing _ _ refl (λ id found.
    let r = found_has (IsOfClosed m.tree) _ (closed_slots layout m.tree) id found
    (closed-slots layout m.tree) in
    let p = and_parts (comes_after after id) _ r.1 in
    let q = and_parts (is_none (slot_at m.slots id.block id.slot).grant) _ p.1 in
    chosen-fine layout term actor past m id.block id.slot _ f who left
    (others-current m.servers m.slots id.block id.slot) r.0.0 r.0.1 (none-is _ q.0))

-- ---- moves that are found

pub source-current : (slots : List SlotRow) (row : SlotRow) (o : Option Copy)
    → (slot_at slots row.block row.slot).current ≡ o
    → AreCurrent slots row.block (move_source row.slot o)
unfolding move_source
source-current slots row None is = none-current slots row.block
source-current slots row (Some copy) is = one-current slots row.block row.slot copy is

pub at-rest : (layout : Shape) (tree : List TreeRow) (row : SlotRow)
    → is_at_rest layout tree row ≡ true
    → (row.state.grant ≡ None) × IsTrue (is_some (closed_file row.block.file tree))
unfolding is_at_rest has_block
at-rest layout tree row is =
    let p = and_parts (is_none row.state.grant) _ is in
    (none-is _ p.0, one (closed_file row.block.file tree) p.1)
  where
    one : (o : Option TreeRow) → has_block layout row.block.index o ≡ true → IsTrue (is_some o)
    one None e = absurd (true≢false (sym e))
    one (Some r) e = refl

-- a row of the table that is found is what is known of its slot
pub row-of : (m : MetaImage) (test : SlotRow → Bool) (row : SlotRow) → Fits m
    → find test m.slots ≡ Some row
    → (row.slot < 9) × (slot_at m.slots row.block row.slot ≡ row.state) × (test row ≡ true)
row-of m test row f found =
    let r = found_has (RowFits (length m.servers) m.next_lease m.tree) test m.slots row found
    f.table.rows in
    let s = found_has (λ (row : SlotRow). slot_at m.slots row.block row.slot ≡ row.state) test
    m.slots row found (rows-found m.slots f.table.in_order) in
    (r.0.small, s.0, r.1)

pub evacuate-fine : (layout : Shape) (term actor : ℕ) (past : Past) (m : MetaImage) (server : ℕ)
    (after : Option SlotId)
    → Fits m → IsActor actor → HasVersionsLeft m
    → Fine actor past m (decide_evacuate layout term actor server after m)
unfolding decide_evacuate evacuate_slot next_to_move is_to_move remember
evacuate-fine layout term actor past m server after f who left =
    need-fine actor past m Told.Nothing _ _ refl (λ row found.
    let r = row-of m _ row f found in
    let p = and_parts (comes_after after (slot_id row)) _ r.2 in
    let q = at-rest layout m.tree row (and_parts (is_at_rest layout m.tree row) _ p.1).0 in
    chosen-fine layout term actor past m row.block row.slot _ f who left
    (source-current m.slots row row.state.current (ap (λ (st : SlotRecord). st.current) r.1)) q.1
    r.0 (ap (λ (st : SlotRecord). st.grant) r.1 ∙ q.0))

-- the takers are servers
takers-are : (m : MetaImage)
    → Each (λ (s : Numbered). IsServer (length m.servers) s.0)
    (open_servers [] (census m.servers m.slots))
unfolding open_servers census
takers-are m =
    let loads : List Load = map (λ (s : ℕ × ServerView). load_of m.slots s.0 s.1)
    (enumerate_from 1 m.servers) in
    let l = census-length m.slots 1 m.servers in
    each_filter (λ (s : Numbered). IsServer (length m.servers) s.0) (is_open [])
    (enumerate_from 1 loads) (each_weaker (IsNumbered 1 (1 + length loads))
    (λ (s : Numbered). IsServer (length m.servers) s.0)
    (λ s is. (is.0, let h = is.1 in omega arith)) (enumerate_from 1 loads) (enumerated 1 loads))

reduced-is : (P : Numbered → Type 0) (servers : List Numbered) (s : Numbered) → Each P servers
    → reduce lighter servers ≡ Some s → P s
reduced-is P [] s each e = absurd (cc)
reduced-is P (best ∷ rest) s each e =
    let q : fold lighter best rest ≡ s = cc in subst P q (lightest P best rest each.0 each.1)

pub balance-fine : (layout : Shape) (term actor : ℕ) (past : Past) (m : MetaImage) → Fits m
    → IsActor actor → HasVersionsLeft m → Fine actor past m (decide_balance layout term actor m)
unfolding decide_balance give_to_lightest even_out move_slot fits_move is_to_move is_barred remember
balance-fine layout term actor past m f who left =
    need-fine actor past m Told.Nothing _ _ refl (λ giver _.
    need-fine actor past m Told.Nothing _ _ refl (λ taker lightest_one.
    unless-fine actor past m _ Told.Nothing _ refl (λ _.
    need-fine actor past m Told.Nothing _ _ refl (λ row found.
    let r = row-of m _ row f found in
    let p = and_parts (is_at_rest layout m.tree row && is_live_on m.servers giver.0
    row.state.current) _ r.2 in
    let q = at-rest layout m.tree row (and_parts (is_at_rest layout m.tree row) _ p.0).0 in
    leased-fine layout term actor past m row.block row.slot taker.0 _ f who left
    (source-current m.slots row row.state.current (ap (λ (st : SlotRecord). st.current) r.1))
    (record {
      closed = q.1;
      small = r.0;
      server_number = reduced-is
          (λ (s : Numbered). IsServer (length m.servers) s.0) _ taker (takers-are m) lightest_one;
      free =
          ap (λ (st : SlotRecord). st.grant) r.1 ∙ q.0;
      apart = not-true _ p.1;
    })))))

-- ---- the grant of a put

taken-quiet : (actor : ℕ) (past : Past) (again : Bool) (o : Option Grant) (reply : MetaReply)
    → taken_refusal again o ≡ Some reply → Quiet actor past reply
unfolding taken_refusal remember
taken-quiet actor past again None reply is = absurd (cc)
taken-quiet actor past true (Some g) reply is = absurd (cc)
taken-quiet actor past false (Some g) reply is =
    let e : Told.Taken g.copy.version ≡ reply = cc in subst (Quiet actor past) e refl

pub unclosed-stands : (file : ℕ) (row : TreeRow) → is_unclosed_row row ≡ true
    → has_file file row ≡ true
    → stands_test file row ≡ true
unclosed-stands file row is own =
    and_from (is_closed_row row || is_unclosed_row row) (has_file file row)
    (or_right (is_closed_row row) (is_unclosed_row row) is) own

of-file : (file : ℕ) (row : TreeRow) → row.file ≡ file → has_file file row ≡ true
of-file file row e = has_file-is file row ∙ eq-eqb row.file file e

put-may : (actor : ℕ) (n : MetaImage) (block : BlockId) (slot server : ℕ) (row : TreeRow) → Fits n
    → n.next_file ≤ LAST_U32 → unclosed_file actor block.file n.tree ≡ Some row → slot < 9
    → (slot_at n.slots block slot).grant ≡ None → (slot_at n.slots block slot).next < LAST_U32
    → IsActor actor → choose (census n.servers n.slots)
    (barred_for_put n.servers n.slots block (slot_at n.slots block slot).failed) ≡ Some server →
    MayGrant n block slot server actor 0
unfolding unclosed_file
put-may actor n block slot server row f counters found small free left who chosen =
    let u = unclosed-fits actor block.file n row f counters found in
    let c = chosen-is n.servers n.slots
    (barred_for_put n.servers n.slots block (slot_at n.slots block slot).failed) server chosen
    in
    let still_open = not-closed block.file n.tree
    (unclosed-rows n.next_file block.file _ n.tree row f.tree found u.2 u.1).0 in
    record {
      stands = subst IsTrue (sym (stands-any block.file n.tree))
          (found-any _ (stands_test block.file) n.tree row found
          (unclosed-stands block.file row u.1 (of-file block.file row u.2)));
      slot_number = small;
      server_number = c.0;
      free = free;
      apart = put-apart n block (slot_at n.slots block slot).failed server f still_open c.1;
      versions = left;
      is_actor = who;
      lease_given = f.first_lease;
    }

-- the state once a pending grant has failed
ungranted : (m : MetaImage) (block : BlockId) (slot : ℕ) (o : Option Grant)
    → (slot_at m.slots block slot).grant ≡ o
    → (slot_at (fail_grant block slot m o).slots block slot).grant ≡ None
unfolding fail_grant give_up change_record with_slots failed_slot ungranted_slot never_granted
ungranted m block slot None is = is
ungranted m block slot (Some g) is =
    slot-cases (λ st. st.grant ≡ None) block block slot slot (failed_slot g.copy.server) _
    (λ _. refl) (λ _ _. once) (λ _. once)
  where
    once : (slot_at (change_slot block slot ungranted_slot (condemn block slot g.copy m).slots)
        block slot).grant ≡ None
    once =
        slot-cases (λ st. st.grant ≡ None) block block slot slot ungranted_slot _ (λ _. refl)
        (λ _ _. refl) (λ off. absurd (true≢false
        (sym (is_slot-self (record { block = block; slot = slot; state = never_granted })) ∙ off)))

failed-none : (m : MetaImage) (block : BlockId) (slot : ℕ)
    → (slot_at (apply m (FailGrant block slot)).slots block slot).grant ≡ None
unfolding apply
failed-none m block slot = one _ refl
  where
    one : (o : Option Grant) → (slot_at m.slots block slot).grant ≡ o
        → (slot_at (fail_grant block slot m o).slots block slot).grant ≡ None
    one o is = ungranted m block slot o is

put-ends : (layout : Shape) (actor : ℕ) (past : Past) (n : MetaImage) (len : ℕ) (block : BlockId)
    (slot server : ℕ)
    → Keeps (told (GrantSlot block slot server actor 0) n past)
    (apply n (GrantSlot block slot server actor 0)) → Keeps
    (remember actor past (put_granted layout len block slot n server))
    (apply n (GrantSlot block slot server actor 0))
unfolding remember put_granted new_grant with_grant with_copy granted_slot_copy is_of_put
put-ends layout actor past n len block slot server h = h

small-is : (slot : ℕ) → is_slot_number slot ≡ true → slot < 9
unfolding is_slot_number
small-is slot is = ltb-true _ _ is

same-file : (m n : MetaImage) → n.next_file ≡ m.next_file → IsTrue (counters_fit m)
    → n.next_file ≤ LAST_U32
same-file m n e counters = let l = next-fits m counters in omega arith

-- a slot of an unclosed file is granted in a state in which no grant of it is pending, as it is
-- told
granted-free : (layout : Shape) (actor : ℕ) (past : Past) (m n : MetaImage) (block : BlockId)
    (slot server : ℕ) (row : TreeRow)
    → Fits n → n.next_file ≤ LAST_U32
    → unclosed_file actor block.file n.tree ≡ Some row → slot < 9 →
    (slot_at n.slots block slot).grant ≡ None → (slot_at n.slots block slot).next < LAST_U32 →
    IsActor actor
    → choose (census n.servers n.slots)
    (barred_for_put n.servers n.slots block (slot_at n.slots block slot).failed) ≡ Some server
    → put_granted layout row.len block slot m server ≡ put_granted layout row.len block slot n
    server
    → MayGrant n block slot server actor 0
    × (Keeps (told (GrantSlot block slot server actor 0) n past)
    (apply n (GrantSlot block slot server actor 0)) → Keeps
    (remember actor past (put_granted layout row.len block slot m server))
    (apply n (GrantSlot block slot server actor 0)))
granted-free layout actor past m n block slot server row f counters found small free left who chosen
    same = (
      put-may actor n block slot server row f counters found small free left who chosen,
      λ k. subst (λ reply. Keeps (remember actor past reply)
          (apply n (GrantSlot block slot server actor 0))) (sym same)
          (put-ends layout actor past n row.len block slot server k),
    )

granted : (layout : Shape) (actor : ℕ) (past : Past) (m : MetaImage) (block : BlockId) (slot : ℕ)
    (again : Bool)
    → Keeps past m → IsTrue (counters_fit m) → IsActor actor → HasVersionsLeft m
    → is_slot_number slot ≡ true
    → (row : TreeRow) → unclosed_file actor block.file m.tree ≡ Some row → (o : Option Grant) →
    (slot_at m.slots block slot).grant ≡ o
    → (server : ℕ) → chosen_for_put block slot m.servers m.slots (slot_at m.slots block slot) ≡ Some
    server
    → Fine actor past m (grant_for_put layout actor row.len block slot m o server)
unfolding grant_for_put failed_grant apply_all
granted layout actor past m block slot again h counters who left small row found None is server
    chosen =
    let decides = decides_as_freed block slot m in
    let still : freed block slot m ≡ m = ap (λ o. apply_all (failed_grant block slot o) m) is in
    let r = granted-free layout actor past m m block slot server row h.fits (next-fits m counters)
    found (small-is slot small) is (version-left m.slots block slot left) who
    (ap (λ (n : MetaImage). choose (census n.servers n.slots)
    (barred_for_put n.servers n.slots block (slot_at n.slots block slot).failed)) (sym still) ∙ sym
    decides.chosen ∙ chosen) refl in
    ((r.0, tt), r.1)
granted layout actor past m block slot again h counters who left small row found
    (Some g) is server chosen =
    let decides = decides_as_freed block slot m in
    let n : MetaImage = apply m (FailGrant block slot) in
    let after : freed block slot m ≡ n = ap (λ o. apply_all (failed_grant block slot o) m) is in
    let k : Keeps past n = kept past m (FailGrant block slot) tt h in
    let frame = (losing-frame m (FailGrant block slot) tt).is in
    let r = granted-free layout actor past m n block slot server row k.fits
    (same-file m n (ap (λ (x : MetaImage). x.next_file) frame) counters)
    (ap (λ (x : MetaImage). unclosed_file actor block.file x.tree) frame ∙ found)
    (small-is slot small) (failed-none m block slot)
    (version-kept m (FailGrant block slot) tt block slot (version-left m.slots block slot left)) who
    (ap (λ (n : MetaImage). choose (census n.servers n.slots)
    (barred_for_put n.servers n.slots block (slot_at n.slots block slot).failed)) (sym after) ∙ sym
    decides.chosen ∙ chosen)
    (decides.told layout row.len server ∙ ap (λ n. put_granted layout row.len block slot n server)
    after) in
    ((tt, (r.0, tt)), r.1)

pub grant-fine : (layout : Shape) (actor : ℕ) (past : Past) (m : MetaImage) (block : BlockId)
    (slot : ℕ) (again : Bool)
    → Keeps past m → IsTrue (counters_fit m) → IsActor actor → HasVersionsLeft m
    → is_slot_number slot ≡ true → Fine actor past m (decide_grant layout actor block slot again m)
unfolding decide_grant grant_in remember
grant-fine layout actor past m block slot again h counters who left small =
    need-fine actor past m Told.Gone _ _ refl (λ row found.
    unless-fine actor past m _ Told.NoBlock _ refl (λ _.
    refuse-fine actor past m _ _ (λ reply r. taken-quiet actor past again
    (slot_at m.slots block slot).grant reply r) (λ _.
    need-fine actor past m (Told.NoServer block slot) _ _ refl (λ server chosen.
    granted layout actor past m block slot again h counters who left small row found
    (slot_at m.slots block slot).grant refl server chosen))))
