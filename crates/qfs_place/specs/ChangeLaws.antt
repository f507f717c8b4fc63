-- What each change of the metaserver does to the census of its servers. Cited by whoever keeps a
-- census beside its tables.
use Rattle.std.proofs.Common.{◌≡◌, ◌∙◌, ℕ, ◌+◌, Bool, true, false, cond, not, List, [], ◌∷◌, map, filter, fold, length, Option, Some, None, refl, sym, ap, subst, arith}
use Rattle.std.proofs.lemmas.Bool.Decides.{nat_tests}
use Rattle.std.specs.declared.cmp.Ordering.TheVariants.{Less}
use Rattle.qfs_base.specs.EachLaws.{each_weaker}
use Rattle.qfs_base.specs.declared.change.Change.TheVariants.{CloseFile, AbortFile, RemoveFile, GrantSlot, FailGrant, GiveUp, ConfirmSlot, EmptySlot}
use Rattle.qfs_base.specs.declared.chunk.BlockId.{BlockId}
use Rattle.qfs_base.specs.declared.chunk.Copy.{Copy}
use Rattle.qfs_base.specs.declared.image.Grant.{Grant}
use Rattle.qfs_base.specs.declared.image.Load.{Load}
use Rattle.qfs_base.specs.declared.image.MetaImage.{MetaImage}
use Rattle.qfs_base.specs.declared.image.ServerView.{ServerView}
use Rattle.qfs_base.specs.declared.image.SlotRecord.{SlotRecord}
use Rattle.qfs_base.specs.declared.image.SlotRow.{SlotRow}
use Rattle.qfs_base.specs.declared.reply.MetaReply.TheVariants as Told
use Rattle.qfs_base.specs.NameTree.{PathNames}
use Rattle.qfs_base.specs.Table.{Each, IsRising, change_row, change_where, without}
use Rattle.qfs_laws_slots.specs.Condemning.{condemn_any-frame}
use Rattle.qfs_laws_slots.specs.Losing.{condemned-slots}
use Rattle.qfs_laws_slots.specs.Slots.{is_slot-is, not_slot, slot_at-here, slot_at-behind, total-placed}
use Rattle.qfs_laws_tables.specs.InOrder.{change_rises}
use Rattle.qfs_laws_tables.specs.Keys.{less-not}
use Rattle.qfs_laws_tables.specs.Placed.{change_none}
use Rattle.qfs_laws_tables.specs.Sums.{total}
use Rattle.qfs_model_meta.specs.Apply.{apply, write_entry, with_slots, change_record, grant_slot, give_up, fail_grant, confirm_slot, empty_slot}
use Rattle.qfs_model_meta.specs.Condemned.{condemn, condemn_any}
use Rattle.qfs_model_meta.specs.Decision.{Tells}
use Rattle.qfs_model_meta.specs.Grammar.{IsServer}
use Rattle.qfs_model_meta.specs.Placing.{census, load_of}
use Rattle.qfs_model_meta.specs.ServerRequests.{decide_left_on}
use Rattle.qfs_model_meta.specs.Servers.{server_at, is_live}
use Rattle.qfs_model_meta.specs.Slots.{count_on, is_slot, is_of_file, slot_at, slots_of, slot_cmp, never_granted, with_slot, change_slot, change_state, granted_copy, granted_slot, ungranted_slot, failed_slot, confirmed_slot, emptied_slot, sealed_slot, seal_file, forget_file}
use Rattle.qfs_place.specs.Loads.{load_at, change_load, one_more, uncount_live, uncount_row}
use Rattle.qfs_place.specs.LoadLaws.{census_load, copies_on, copies_in, weight, current_alone, count_on_total, census_same, census_counted, census_uncounted, census_unrow, census_unrows}

-- the census of a state
abbrev pub census_of : MetaImage → List Load
census_of m = census m.servers m.slots

left_load : (m : MetaImage) (server : ℕ) → IsServer (length m.servers) server
    → (load_at (census_of m) server).count
    ≡ count_on server (server_at m.servers server).life m.slots
unfolding load_of
left_load m server is = ap (λ (load : Load). load.count) (census_load m.servers m.slots server is)

-- ---- one slot's record changes (the sum over the rows belongs to the laws of slots)

-- the rows behind that of a slot are of other slots
pub others_behind : (block : BlockId) (slot : ℕ) (row : SlotRow) (rows : List SlotRow)
    → is_slot block slot row ≡ true → Each (λ later. slot_cmp row later ≡ Less) rows
    → Each (λ later. is_slot block slot later ≡ false) rows
others_behind block slot row rows here above =
    let same = is_slot-is block slot row here in
    each_weaker _ _
    (λ later (below : slot_cmp row later ≡ Less).
    subst (λ b. is_slot b slot later ≡ false) same.0
    (subst (λ s. is_slot row.block s later ≡ false) same.1
    (not_slot row later Less below less-not)))
    rows above

none_changed : (w : SlotRecord → ℕ) (change : SlotRecord → SlotRecord) (block : BlockId) (slot : ℕ)
    → w (change never_granted) ≡ w never_granted
    → 0 + w (slot_at [] block slot) ≡ 0 + w (change (slot_at [] block slot))
unfolding slot_at
none_changed w change block slot same = ap (λ n. 0 + n) (sym same)

pub total_changed : (w : SlotRecord → ℕ) (change : SlotRecord → SlotRecord) (block : BlockId)
    (slot : ℕ) (slots : List SlotRow) → IsRising slot_cmp slots
    → w (change never_granted) ≡ w never_granted
    → total (λ (row : SlotRow). w row.state) (change_slot block slot change slots)
    + w (slot_at slots block slot)
    ≡ total (λ (row : SlotRow). w row.state) slots + w (change (slot_at slots block slot))
unfolding change_slot change_state
total_changed w change block slot [] rising same = none_changed w change block slot same
total_changed w change block slot (row ∷ rows) rising same =
    let test : SlotRow → Bool = is_slot block slot in
    let rest : List SlotRow = change_where test (change_state change) rows in
    let sum : List SlotRow → ℕ = total (λ (r : SlotRow). w r.state) in
    elim (test row) as (λ b. test row ≡ b
    → sum (change_row (change_state change) row b ∷ rest) + w (slot_at (row ∷ rows) block slot)
    ≡ w row.state + sum rows + w (change (slot_at (row ∷ rows) block slot))) [
      | true ↦ λ here.
          let at = slot_at-here block slot row rows here in
          let stay = ap sum (change_none test (change_state change) rows
          (others_behind block slot row rows here rising.0)) in
          let old = ap w at in
          let new = ap (λ s. w (change s)) at in
          omega (arith, stay, old, new)
      | false ↦ λ away.
          let at = slot_at-behind block slot row rows away in
          let further = total_changed w change block slot rows rising.1 same in
          let old = ap w at in
          let new = ap (λ s. w (change s)) at in
          omega (arith, further, old, new)
    ] refl

change_slot_rises : (block : BlockId) (slot : ℕ) (change : SlotRecord → SlotRecord)
    (slots : List SlotRow) → IsRising slot_cmp slots
    → IsRising slot_cmp (change_slot block slot change slots)
unfolding change_slot change_state slot_cmp
change_slot_rises block slot change slots rising =
    change_rises slot_cmp (is_slot block slot) (change_state change) (λ a b. refl) (λ a b. refl)
    slots rising

-- a slot that was never granted has no copies
pub none_granted : (n life : ℕ) → copies_in n life never_granted ≡ 0
unfolding never_granted granted_copy
none_granted n life = refl

-- a change of a record that takes one copy from it
abbrev pub TakesOne : (SlotRecord → SlotRecord) → (SlotRecord → Option Copy) → Type 0
TakesOne change gone =
    (n life : ℕ) (state : SlotRecord)
    → copies_in n life state ≡ copies_in n life (change state) + copies_on n life (gone state)

abbrev TakesNone : (SlotRecord → SlotRecord) → Type 0
TakesNone change =
    (n life : ℕ) (state : SlotRecord) → copies_in n life (change state) ≡ copies_in n life state

census_took : (servers : List ServerView) (change : SlotRecord → SlotRecord)
    (gone : SlotRecord → Option Copy) → TakesOne change gone
    → (block : BlockId) (slot : ℕ) (slots : List SlotRow) → IsRising slot_cmp slots
    → census servers (change_slot block slot change slots)
    ≡ uncount_live servers (gone (slot_at slots block slot)) (census servers slots)
census_took servers change gone takes block slot slots rising =
    census_uncounted servers (gone (slot_at slots block slot)) slots
    (change_slot block slot change slots)
    (λ n life.
    let none = none_granted n life in
    let never = takes n life never_granted in
    let here = takes n life (slot_at slots block slot) in
    let sums = total_changed (copies_in n life) change block slot slots rising
    (omega (arith, none, never)) in
    let old = count_on_total n life slots in
    let new = count_on_total n life (change_slot block slot change slots) in
    omega (arith, here, sums, old, new))

census_kept : (servers : List ServerView) (change : SlotRecord → SlotRecord) → TakesNone change
    → (block : BlockId) (slot : ℕ) (slots : List SlotRow) → IsRising slot_cmp slots
    → census servers (change_slot block slot change slots) ≡ census servers slots
census_kept servers change keeps block slot slots rising =
    census_same servers slots (change_slot block slot change slots)
    (λ n.
    let life : ℕ = (server_at servers n).life in
    let here = keeps n life (slot_at slots block slot) in
    let sums = total_changed (copies_in n life) change block slot slots rising
    (keeps n life never_granted) in
    let old = count_on_total n life slots in
    let new = count_on_total n life (change_slot block slot change slots) in
    omega (arith, here, sums, old, new))

pub ungranted_takes : TakesOne ungranted_slot (λ state. granted_copy state.grant)
unfolding ungranted_slot granted_copy
ungranted_takes n life state = omega arith

confirmed_takes : TakesOne confirmed_slot (λ state. state.current)
unfolding confirmed_slot granted_copy
confirmed_takes n life state = omega arith

failed_keeps : (server : ℕ) → TakesNone (failed_slot server)
unfolding failed_slot
failed_keeps server n life state = refl

emptied_has : (n life : ℕ) (state : SlotRecord) → copies_in n life (emptied_slot state) ≡ 0
unfolding emptied_slot granted_copy
emptied_has n life state = refl

-- ---- condemning leaves servers and slots alone

condemned_census : (block : BlockId) (slot : ℕ) (m : MetaImage) (found : Option Copy)
    → ((condemn_any block slot m found).servers ≡ m.servers)
    × ((condemn_any block slot m found).slots ≡ m.slots)
condemned_census block slot m found = (
  ap (λ (n : MetaImage). n.servers) (condemn_any-frame block slot m found).is,
  condemned-slots block slot m found,
)

-- the census of a state in which a copy was condemned and a slot's record changed
condemned_changed : (block : BlockId) (slot : ℕ) (m : MetaImage) (found : Option Copy)
    (change : SlotRecord → SlotRecord)
    → census_of (change_record block slot change (condemn_any block slot m found))
    ≡ census m.servers (change_slot block slot change m.slots)
unfolding change_record with_slots
condemned_changed block slot m found change = λ i.
    census ((condemned_census block slot m found).0 i)
    (change_slot block slot change ((condemned_census block slot m found).1 i))

-- ---- grants that are given up, and that fail

none_uncounted : (m : MetaImage)
    → census_of m ≡ uncount_live m.servers (granted_copy None) (census_of m)
unfolding granted_copy
none_uncounted m = refl

condemned_ungranted : (block : BlockId) (slot : ℕ) (m : MetaImage) (copy : Copy)
    → census_of (change_record block slot ungranted_slot (condemn block slot copy m))
    ≡ census m.servers (change_slot block slot ungranted_slot m.slots)
unfolding condemn_any
condemned_ungranted block slot m copy = condemned_changed block slot m (Some copy) ungranted_slot

given_up_census : (block : BlockId) (slot : ℕ) (m : MetaImage) (pending : Option Grant)
    → IsRising slot_cmp m.slots → (slot_at m.slots block slot).grant ≡ pending
    → census_of (give_up block slot m pending)
    ≡ uncount_live m.servers (granted_copy pending) (census_of m)
unfolding give_up
given_up_census block slot m None rising is = none_uncounted m
given_up_census block slot m (Some grant) rising is =
    condemned_ungranted block slot m grant.copy
    ∙ census_took m.servers ungranted_slot (λ state. granted_copy state.grant) ungranted_takes block
    slot m.slots rising
    ∙ ap (λ pending. uncount_live m.servers (granted_copy pending) (census_of m)) is

given_up_rises : (block : BlockId) (slot : ℕ) (m : MetaImage) (pending : Option Grant)
    → IsRising slot_cmp m.slots → IsRising slot_cmp (give_up block slot m pending).slots
unfolding give_up change_record with_slots condemn_any
given_up_rises block slot m None rising = rising
given_up_rises block slot m (Some grant) rising =
    change_slot_rises block slot ungranted_slot (condemn block slot grant.copy m).slots
    (subst (IsRising slot_cmp) (sym (condemned-slots block slot m (Some grant.copy))) rising)

failed_census : (block : BlockId) (slot : ℕ) (m : MetaImage) (pending : Option Grant)
    → IsRising slot_cmp m.slots → (slot_at m.slots block slot).grant ≡ pending
    → census_of (fail_grant block slot m pending)
    ≡ uncount_live m.servers (granted_copy pending) (census_of m)
unfolding fail_grant change_record with_slots
failed_census block slot m None rising is = none_uncounted m
failed_census block slot m (Some grant) rising is =
    let n : MetaImage = give_up block slot m (Some grant) in
    census_kept n.servers (failed_slot grant.copy.server) (failed_keeps grant.copy.server) block
    slot n.slots (given_up_rises block slot m (Some grant) rising)
    ∙ given_up_census block slot m (Some grant) rising is

-- ---- the changes of one slot

more_granted : (n l server life actor lease : ℕ) (state : SlotRecord) → state.grant ≡ None
    → copies_in n l (granted_slot server life actor lease state)
    ≡ copies_in n l state
    + copies_on n l (Some (record { server = server; life = life; version = state.next }))
unfolding granted_slot granted_copy
more_granted n l server life actor lease state free =
    let none : copies_on n l (granted_copy state.grant) ≡ copies_on n l (granted_copy None) =
    ap (λ grant. copies_on n l (granted_copy grant)) free in
    omega (arith, none)

is_known : (servers : List ServerView) (copy : Copy)
    → copy.life ≡ (server_at servers copy.server).life → is_live servers copy ≡ true
unfolding is_live
is_known servers copy same = grind (arith, nat_tests)

-- a grant adds one to its server's load
pub granted_census : (m : MetaImage) (block : BlockId) (slot server actor lease : ℕ)
    → IsRising slot_cmp m.slots → (slot_at m.slots block slot).grant ≡ None
    → census_of (apply m (GrantSlot block slot server actor lease))
    ≡ change_load one_more (census_of m) server
unfolding apply grant_slot with_slots
granted_census m block slot server actor lease rising free =
    let life : ℕ = (server_at m.servers server).life in
    let state : SlotRecord = slot_at m.slots block slot in
    let new : SlotRecord = granted_slot server life actor lease state in
    let copy : Copy = record { server = server; life = life; version = state.next } in
    census_counted m.servers (Some copy) m.slots (with_slot block slot new m.slots)
    (λ n l.
    let placed = total-placed (weight n l) block slot new m.slots rising (none_granted n l) in
    let old = count_on_total n l m.slots in
    let later = count_on_total n l (with_slot block slot new m.slots) in
    let more = more_granted n l server life actor lease state free in
    omega (arith, placed, old, later, more))
    ∙ ap (λ b. cond b (change_load one_more (census_of m) server) (census_of m))
    (is_known m.servers copy refl)

-- a grant that is given up, or whose server failed, leaves its server
pub gave_up_census : (m : MetaImage) (block : BlockId) (slot : ℕ) → IsRising slot_cmp m.slots
    → census_of (apply m (GiveUp block slot))
    ≡ uncount_live m.servers (granted_copy (slot_at m.slots block slot).grant) (census_of m)
unfolding apply
gave_up_census m block slot rising =
    given_up_census block slot m (slot_at m.slots block slot).grant rising refl

pub failed_grant_census : (m : MetaImage) (block : BlockId) (slot : ℕ) → IsRising slot_cmp m.slots
    → census_of (apply m (FailGrant block slot))
    ≡ uncount_live m.servers (granted_copy (slot_at m.slots block slot).grant) (census_of m)
unfolding apply
failed_grant_census m block slot rising =
    failed_census block slot m (slot_at m.slots block slot).grant rising refl

-- of a grant that becomes current only the role changes: the copy before it leaves its server
pub confirmed_census : (m : MetaImage) (block : BlockId) (slot : ℕ) → IsRising slot_cmp m.slots
    → census_of (apply m (ConfirmSlot block slot))
    ≡ uncount_live m.servers (slot_at m.slots block slot).current (census_of m)
unfolding apply confirm_slot
confirmed_census m block slot rising =
    condemned_changed block slot m (slot_at m.slots block slot).current confirmed_slot
    ∙ census_took m.servers confirmed_slot (λ state. state.current) confirmed_takes block slot
    m.slots rising

-- a slot that is emptied: both copies leave their servers
pub emptied_census : (m : MetaImage) (block : BlockId) (slot : ℕ) → IsRising slot_cmp m.slots
    → census_of (apply m (EmptySlot block slot))
    ≡ uncount_live m.servers (granted_copy (slot_at m.slots block slot).grant)
    (uncount_live m.servers (slot_at m.slots block slot).current (census_of m))
unfolding apply empty_slot
emptied_census m block slot rising =
    let state : SlotRecord = slot_at m.slots block slot in
    let row : SlotRow = record { block = block; slot = slot; state = state } in
    let n : MetaImage = condemn_any block slot m state.current in
    condemned_changed block slot n (granted_copy state.grant) emptied_slot
    ∙ (λ i. census ((condemned_census block slot m state.current).0 i)
    (change_slot block slot emptied_slot ((condemned_census block slot m state.current).1 i)))
    ∙ census_unrow m.servers row m.slots (change_slot block slot emptied_slot m.slots)
    (λ n l.
    let none = none_granted n l in
    let never = emptied_has n l never_granted in
    let here = emptied_has n l state in
    let sums = total_changed (copies_in n l) emptied_slot block slot m.slots rising
    (omega (arith, none, never)) in
    let old = count_on_total n l m.slots in
    let new = count_on_total n l (change_slot block slot emptied_slot m.slots) in
    omega (arith, here, sums, old, new))

-- ---- the changes of all slots of a file

-- what passes a test and what doesn't
total_parts : (w : SlotRow → ℕ) (test : SlotRow → Bool) (rows : List SlotRow)
    → total w rows ≡ total w (without test rows) + total w (filter test rows)
total_parts w test [] = refl
total_parts w test (row ∷ rows) =
    let rest = total_parts w test rows in
    elim (test row) as (λ b. w row + total w rows
    ≡ total w (cond (not b) (row ∷ without test rows) (without test rows))
    + total w (cond b (row ∷ filter test rows) (filter test rows))) [
      | true ↦ omega (arith, rest)
      | false ↦ omega (arith, rest)
    ]

pub forgotten_slots : (servers : List ServerView) (file : ℕ) (slots : List SlotRow)
    → census servers (forget_file file slots)
    ≡ fold (uncount_row servers) (census servers slots) (slots_of file slots)
unfolding forget_file slots_of
forgotten_slots servers file slots =
    census_unrows servers (filter (is_of_file file) slots) slots (without (is_of_file file) slots)
    (λ n l.
    let parts = total_parts (weight n l) (is_of_file file) slots in
    let all = count_on_total n l slots in
    let kept = count_on_total n l (without (is_of_file file) slots) in
    let gone = count_on_total n l (filter (is_of_file file) slots) in
    omega (arith, parts, all, kept, gone))

-- a file that is given up or removed: the copies of its slots leave their servers
pub aborted_census : (m : MetaImage) (file : ℕ)
    → census_of (apply m (AbortFile file))
    ≡ fold (uncount_row m.servers) (census_of m) (slots_of file m.slots)
unfolding apply write_entry with_slots
aborted_census m file = forgotten_slots m.servers file m.slots

pub removed_census : (m : MetaImage) (path : PathNames) (file : ℕ)
    → census_of (apply m (RemoveFile path file))
    ≡ fold (uncount_row m.servers) (census_of m) (slots_of file m.slots)
unfolding apply write_entry with_slots
removed_census m path file = forgotten_slots m.servers file m.slots

-- the current copies of slots, without their grants
abbrev currents : List SlotRow → List SlotRow
currents rows = map current_alone rows

sealed_weight : (n l : ℕ) (row : SlotRow)
    → weight n l row ≡ weight n l (change_state sealed_slot row) + weight n l (current_alone row)
unfolding change_state sealed_slot granted_copy
sealed_weight n l row = omega arith

sealed_total : (n l file : ℕ) (rows : List SlotRow)
    → total (weight n l) rows
    ≡ total (weight n l) (change_where (is_of_file file) (change_state sealed_slot) rows)
    + total (weight n l) (currents (filter (is_of_file file) rows))
sealed_total n l file [] = refl
sealed_total n l file (row ∷ rows) =
    let test : SlotRow → Bool = is_of_file file in
    let rest = sealed_total n l file rows in
    let later : List SlotRow = change_where test (change_state sealed_slot) rows in
    elim (test row) as (λ b. weight n l row + total (weight n l) rows
    ≡ total (weight n l) (change_row (change_state sealed_slot) row b ∷ later)
    + total (weight n l) (currents (cond b (row ∷ filter test rows) (filter test rows)))) [
      | true ↦ let here = sealed_weight n l row in omega (arith, rest, here)
      | false ↦ omega (arith, rest)
    ]

fold_currents : (servers : List ServerView) (loads : List Load) (rows : List SlotRow)
    → fold (uncount_row servers) loads (currents rows)
    ≡ fold (λ loads (row : SlotRow). uncount_live servers row.state.current loads) loads rows
unfolding granted_copy
fold_currents servers loads [] = refl
fold_currents servers loads (row ∷ rows) =
    fold_currents servers (uncount_live servers row.state.current loads) rows

-- a file that is closed: of its grants only the role changes, and current copies before them, of
-- which there are none in a sound state, leave their servers
pub closed_census : (m : MetaImage) (file actor command : ℕ)
    → census_of (apply m (CloseFile file actor command))
    ≡ fold (λ loads (row : SlotRow). uncount_live m.servers row.state.current loads) (census_of m)
    (slots_of file m.slots)
unfolding apply write_entry with_slots seal_file slots_of
closed_census m file actor command =
    let sealed : List SlotRow = change_where (is_of_file file) (change_state sealed_slot) m.slots in
    let before : List SlotRow = filter (is_of_file file) m.slots in
    census_unrows m.servers (currents before) m.slots sealed
    (λ n l.
    let parts = sealed_total n l file m.slots in
    let all = count_on_total n l m.slots in
    let kept = count_on_total n l sealed in
    let gone = count_on_total n l (currents before) in
    omega (arith, parts, all, kept, gone))
    ∙ fold_currents m.servers (census_of m) before

-- what is left on a server is its load
pub left_census : (m : MetaImage) (server : ℕ) → IsServer (length m.servers) server
    → decide_left_on server m ≡ Tells (Told.Left (load_at (census_of m) server).count)
unfolding decide_left_on
left_census m server is =
    ap (λ count. Tells (Told.Left count)) (sym (left_load m server is))
