-- The servers that are barred from a block's chunks, found by the nine slots of the block, one
-- look-up each, in place of the block's rows. Cited by whoever looks slots up.
use Rattle.std.proofs.Common.{◌≡◌, ◌<◌, ◌∙◌, ℕ, zero, suc, ◌+◌, ◌==◌, ◌&&◌, Bool, true, false, cond, List, [], ◌∷◌, ◌++◌, filter, refl, sym, ap, arith}
use Rattle.std.proofs.lemmas.Bool.Decides.{nat_tests}
use Rattle.std.proofs.lemmas.Grind.{flat_map-append}
use Rattle.std.proofs.lemmas.List.{append-nil}
use Rattle.std.specs.Cmp.{ranked, tied_itself}
use Rattle.std.specs.List.{range_with_len, flat_map}
use Rattle.std.specs.Option.{option_to_list}
use Rattle.std.specs.Ordering.{is_eq, nat_cmp, ordering_then}
use Rattle.std.specs.Prelude.{nat_le}
use Rattle.std.specs.declared.cmp.Ordering.TheVariants.{Less, Equal, Greater}
use Rattle.qfs_base.specs.EachLaws.{each_weaker}
use Rattle.qfs_base.specs.Key.{block_cmp}
use Rattle.qfs_base.specs.KeyLaws.{block_cmp_total}
use Rattle.qfs_base.specs.Mask.{all_slots}
use Rattle.qfs_base.specs.Table.{Each, IsRising}
use Rattle.qfs_base.specs.declared.chunk.BlockId.{BlockId}
use Rattle.qfs_base.specs.declared.chunk.Copy.{Copy}
use Rattle.qfs_base.specs.declared.image.ServerView.{ServerView}
use Rattle.qfs_base.specs.declared.image.SlotRecord.{SlotRecord}
use Rattle.qfs_base.specs.declared.image.SlotRow.{SlotRow}
use Rattle.qfs_laws_slots.specs.Slots.{of_block-is, slot_at-here, slot_at-behind, slot_at-none}
use Rattle.qfs_laws_tables.specs.EachRow.{filter_none}
use Rattle.qfs_laws_tables.specs.Keys.{key-is}
use Rattle.qfs_model_meta.specs.Placing.{with_live_servers, barred_for_put, barred_for_block}
use Rattle.qfs_model_meta.specs.Slots.{is_slot, is_of_block, slot_at, slot_cmp, never_granted, granted_copy}
use Rattle.qfs_place.specs.Barred.{row_copies}
use Rattle.qfs_place.specs.BarredLaws.{barred_for_put_is, barred_for_block_is}
use Rattle.qfs_place.specs.ChangeLaws.{others_behind}

-- ---- the rows of a block from a slot on

-- whether a row is of a block, at this slot or behind it
abbrev is_from : BlockId → ℕ → SlotRow → Bool
is_from block k row = is_of_block block row && nat_le k row.slot

slot_parts : (block : BlockId) (k : ℕ) (row : SlotRow)
    → is_slot block k row ≡ (is_of_block block row && (row.slot == k))
unfolding is_slot is_of_block
slot_parts block k row =
    elim (block_cmp block row.block) as
    (λ o. is_eq (ordering_then o (nat_cmp k row.slot)) ≡ (is_eq o && (row.slot == k))) [
      | Less ↦ refl
      | Equal ↦ key-is k row.slot
      | Greater ↦ refl
    ]

-- the later rows of a block have higher slots
higher : (block : BlockId) (row later : SlotRow) → is_of_block block row ≡ true
    → slot_cmp row later ≡ Less → is_of_block block later ≡ true → row.slot < later.slot
unfolding slot_cmp
higher block row later here below there =
    let same : row.block ≡ later.block =
    of_block-is block row here ∙ sym (of_block-is block later there) in
    let tied : block_cmp row.block later.block ≡ Equal =
    ap (block_cmp row.block) (sym same) ∙ tied_itself block_cmp_total row.block in
    let numbers : nat_cmp row.slot later.slot ≡ Less =
    sym (ap (λ o. ordering_then o (nat_cmp row.slot later.slot)) tied) ∙ below in
    ranked row.slot later.slot Less (sym numbers)

-- the rows from a slot on are that of the slot and those behind it
from_next : (block : BlockId) (k : ℕ) (rows : List SlotRow) → IsRising slot_cmp rows
    → filter (is_from block k) rows
    ≡ filter (is_slot block k) rows ++ filter (is_from block (k + 1)) rows
from_next block k [] rising = refl
from_next block k (row ∷ rows) rising =
    let all : List SlotRow = filter (is_from block k) rows in
    let own : List SlotRow = filter (is_slot block k) rows in
    let behind : List SlotRow = filter (is_from block (k + 1)) rows in
    let rest : all ≡ own ++ behind = from_next block k rows rising.1 in
    ((elim (is_of_block block row) as (λ b. is_of_block block row ≡ b
    → cond (b && nat_le k row.slot) (row ∷ all) all
    ≡ cond (b && (row.slot == k)) (row ∷ own) own
    ++ cond (b && nat_le (k + 1) row.slot) (row ∷ behind) behind) [
      | true ↦ λ here. elim (nat_cmp row.slot k) as (λ o. nat_cmp row.slot k ≡ o
          → cond (nat_le k row.slot) (row ∷ all) all
          ≡ cond (row.slot == k) (row ∷ own) own
          ++ cond (nat_le (k + 1) row.slot) (row ∷ behind) behind) [
            | Less ↦ λ o.
                let low : row.slot < k = ranked row.slot k Less (sym o) in
                let p : nat_le k row.slot ≡ false = grind (arith, nat_tests) in
                let q : (row.slot == k) ≡ false = grind (arith, nat_tests) in
                let r : nat_le (k + 1) row.slot ≡ false = grind (arith, nat_tests) in
                ap (λ b. cond b (row ∷ all) all) p
                ∙ rest
                ∙ (λ i. cond (sym q i) (row ∷ own) own ++ cond (sym r i) (row ∷ behind) behind)
            | Equal ↦ λ o.
                let same : row.slot ≡ k = ranked row.slot k Equal (sym o) in
                let p : nat_le k row.slot ≡ true = grind (arith, nat_tests) in
                let q : (row.slot == k) ≡ true = grind (arith, nat_tests) in
                let r : nat_le (k + 1) row.slot ≡ false = grind (arith, nat_tests) in
                ap (λ b. cond b (row ∷ all) all) p
                ∙ ap (λ rs. row ∷ rs) rest
                ∙ (λ i. cond (sym q i) (row ∷ own) own ++ cond (sym r i) (row ∷ behind) behind)
            | Greater ↦ λ o.
                let high : k < row.slot = ranked row.slot k Greater (sym o) in
                let p : nat_le k row.slot ≡ true = grind (arith, nat_tests) in
                let q : (row.slot == k) ≡ false = grind (arith, nat_tests) in
                let r : nat_le (k + 1) row.slot ≡ true = grind (arith, nat_tests) in
                let none : own ≡ [] = filter_none (is_slot block k) rows
                (each_weaker (λ later. slot_cmp row later ≡ Less)
                (λ later. is_slot block k later ≡ false)
                (λ later below. not_there row later here high below) rows rising.0) in
                ap (λ b. cond b (row ∷ all) all) p
                ∙ ap (λ rs. row ∷ rs) (rest ∙ ap (λ rs. rs ++ behind) none)
                ∙ ap (λ rs. rs ++ row ∷ behind) (sym none)
                ∙ (λ i. cond (sym q i) (row ∷ own) own ++ cond (sym r i) (row ∷ behind) behind)
          ] refl
      | false ↦ λ _. rest
    ] refl)
    ∙ ap (λ b. cond b (row ∷ own) own
    ++ cond (is_of_block block row && nat_le (k + 1) row.slot) (row ∷ behind) behind)
    (sym (slot_parts block k row)))
  where
    not_there : (row later : SlotRow) → is_of_block block row ≡ true → k < row.slot
        → slot_cmp row later ≡ Less → is_slot block k later ≡ false
    not_there row later here high below =
        slot_parts block k later
        ∙ elim (is_of_block block later) as (λ b. is_of_block block later ≡ b
        → (b && (later.slot == k)) ≡ false) [
          | true ↦ λ there.
              let above = higher block row later here below there in grind (arith, nat_tests)
          | false ↦ λ _. refl
        ] refl

-- ---- what is gathered of the rows, and of the slots

module _ (f : SlotRecord → List Copy) (none : f never_granted ≡ []) (block : BlockId) where
  abbrev of_row : SlotRow → List Copy
  of_row row = f row.state

  one_slot : (k : ℕ) (rows : List SlotRow) → IsRising slot_cmp rows
      → f (slot_at rows block k) ≡ flat_map of_row (filter (is_slot block k) rows)
  one_slot k [] rising = ap f (slot_at-none block k [] tt) ∙ none
  one_slot k (row ∷ rows) rising =
      elim (is_slot block k row) as (λ b. is_slot block k row ≡ b
      → f (slot_at (row ∷ rows) block k) ≡ flat_map of_row
      (cond b (row ∷ filter (is_slot block k) rows) (filter (is_slot block k) rows))) [
        | true ↦ λ here. ap f (slot_at-here block k row rows here)
            ∙ sym (append-nil (f row.state))
            ∙ ap (λ rs. f row.state ++ flat_map of_row rs) (sym (filter_none (is_slot block k) rows
            (others_behind block k row rows here rising.0)))
        | false ↦ λ away. ap f (slot_at-behind block k row rows away) ∙ one_slot k rows rising.1
      ] refl

  slots_from : (rows : List SlotRow) → IsRising slot_cmp rows → (count k : ℕ)
      → Each (λ (row : SlotRow). row.slot < k + count) rows
      → flat_map (λ s. f (slot_at rows block s)) (range_with_len k count)
      ≡ flat_map of_row (filter (is_from block k) rows)
  slots_from rows rising zero k few =
      ap (flat_map of_row) (sym (filter_none (is_from block k) rows
      (each_weaker (λ (row : SlotRow). row.slot < k + 0) (λ row. is_from block k row ≡ false)
      (λ row low. past row (omega (arith, low))) rows few)))
    where
      past : (row : SlotRow) → row.slot < k → is_from block k row ≡ false
      past row low =
          let p : nat_le k row.slot ≡ false = grind (arith, nat_tests) in
          ap (λ b. is_of_block block row && b) p ∙ never (is_of_block block row)
        where
          never : (b : Bool) → (b && false) ≡ false
          never true = refl
          never false = refl
  slots_from rows rising (suc count) k few =
      (λ i. one_slot k rows rising i ++ slots_from rows rising count (k + 1)
      (each_weaker (λ (row : SlotRow). row.slot < k + suc count)
      (λ (row : SlotRow). row.slot < k + 1 + count) (λ row low. omega (arith, low)) rows few) i)
      ∙ sym (flat_map-append of_row (filter (is_slot block k) rows)
      (filter (is_from block (k + 1)) rows))
      ∙ ap (flat_map of_row) (sym (from_next block k rows rising))

  all_from : (rows : List SlotRow) → filter (is_from block 0) rows ≡ filter (is_of_block block) rows
  all_from rows = ap (λ (test : SlotRow → Bool). filter test rows) (λ i row. from_start row i)
    where
      from_start : (row : SlotRow) → is_from block 0 row ≡ is_of_block block row
      from_start row =
          let p : nat_le 0 row.slot ≡ true = grind (arith, nat_tests) in
          ap (λ b. is_of_block block row && b) p ∙ always (is_of_block block row)
        where
          always : (b : Bool) → (b && true) ≡ b
          always true = refl
          always false = refl

  pub nine_gather : (rows : List SlotRow) → IsRising slot_cmp rows
      → Each (λ (row : SlotRow). row.slot < 9) rows
      → flat_map (λ s. f (slot_at rows block s)) all_slots
      ≡ flat_map of_row (filter (is_of_block block) rows)
  nine_gather rows rising few =
      slots_from rows rising 9 0
      (each_weaker (λ (row : SlotRow). row.slot < 9) (λ (row : SlotRow). row.slot < 0 + 9)
      (λ row low. omega (arith, low)) rows few)
      ∙ ap (flat_map of_row) (all_from rows)

-- ---- who is barred by the nine slots

-- the copy that a slot's grant allows
abbrev pub state_grants : SlotRecord → List Copy
state_grants state = option_to_list (granted_copy state.grant)

never_grants : state_grants never_granted ≡ []
unfolding never_granted granted_copy
never_grants = refl

never_copies : row_copies never_granted ≡ []
unfolding never_granted granted_copy
never_copies = refl

pub nine_bar_puts : (servers : List ServerView) (slots : List SlotRow) (block : BlockId)
    (failed : List ℕ) → IsRising slot_cmp slots → Each (λ (row : SlotRow). row.slot < 9) slots
    → barred_for_put servers slots block failed
    ≡ with_live_servers servers failed
    (flat_map (λ slot. state_grants (slot_at slots block slot)) all_slots)
nine_bar_puts servers slots block failed rising few =
    barred_for_put_is servers slots block failed
    ∙ ap (with_live_servers servers failed)
    (sym (nine_gather state_grants never_grants block slots rising few))

pub nine_bar_blocks : (servers : List ServerView) (slots : List SlotRow) (block : BlockId)
    → IsRising slot_cmp slots → Each (λ (row : SlotRow). row.slot < 9) slots
    → barred_for_block servers slots block
    ≡ with_live_servers servers []
    (flat_map (λ slot. row_copies (slot_at slots block slot)) all_slots)
nine_bar_blocks servers slots block rising few =
    barred_for_block_is servers slots block
    ∙ ap (with_live_servers servers [])
    (sym (nine_gather row_copies never_copies block slots rising few))
