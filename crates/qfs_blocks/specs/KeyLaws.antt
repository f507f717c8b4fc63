-- The keys by which rows are found compare with them as the rows compare with each other, and
-- changes of a record leave its slot.
use Rattle.std.proofs.Common.{◌≡◌, ◌<◌, ◌∙◌, ℕ, refl, sym, ap, arith, nat_lt, Bool, true, false}
use Rattle.std.proofs.Common.{true≢false, cond, Option, Some, None}
use Rattle.std.proofs.lemmas.Bool.Decides.{nat_tests}
use Rattle.std.proofs.lemmas.Cmp.{nat_cmp_total, ranked}
use Rattle.std.specs.Ordering.{is_lt, nat_cmp, ordering_then}
use Rattle.std.specs.declared.cmp.Ordering.{Ordering}
use Rattle.std.specs.declared.cmp.Ordering.TheVariants.{Less, Equal, Greater}
use Rattle.qfs_base.specs.declared.chunk.BlockId.{BlockId}
use Rattle.qfs_base.specs.declared.image.SlotRecord.{SlotRecord}
use Rattle.qfs_base.specs.declared.image.SlotRow.{SlotRow}
use Rattle.qfs_base.specs.declared.request.SlotId.{SlotId}
use Rattle.qfs_base.specs.KeyLaws.{block_cmp_total}
use Rattle.qfs_laws_slots.specs.Slots.{slot_cmp_total}
use Rattle.qfs_model_meta.specs.LeasedGrants.{comes_after}
use Rattle.qfs_model_meta.specs.Slots.{block_order, change_state, file_order, never_granted}
use Rattle.qfs_model_meta.specs.Slots.{slot_cmp, slot_id, slot_order}
use Rattle.qfs_table.specs.Keys.{Falls, Follows, IsOnly}
use Rattle.qfs_table.specs.KeyLaws.{front_falls, whole_alone, whole_falls}
use Rattle.qfs_blocks.specs.Entries.{above_order, entry_cmp, entry_order}
use Rattle.qfs_blocks.specs.Records.{after_order}

-- a slot as a row
abbrev row_of_slot : SlotId → SlotRow
row_of_slot id = record { block = id.block; slot = id.slot; state = never_granted }

pub slot_falls : (id : SlotId) → Follows slot_cmp (slot_order id)
unfolding slot_cmp
slot_falls id = whole_falls slot_cmp_total (row_of_slot id)

pub slot_alone : (id : SlotId) → IsOnly slot_cmp (slot_order id)
unfolding slot_cmp
slot_alone id = whole_alone slot_cmp_total (row_of_slot id)

pub block_falls : (block : BlockId) → Follows slot_cmp (block_order block)
unfolding slot_cmp
block_falls block a b = front_falls block_cmp_total block a.block b.block _

pub file_falls : (file : ℕ) → Follows slot_cmp (file_order file)
unfolding slot_cmp
file_falls file a b less =
    front_falls nat_cmp_total file a.block.file b.block.file
    (ordering_then (nat_cmp a.block.index b.block.index) (nat_cmp a.slot b.slot))
    (sym (then_then (nat_cmp a.block.file b.block.file) _ _) ∙ less)
  where
    then_then : (first next last : Ordering)
        → ordering_then (ordering_then first next) last
        ≡ ordering_then first (ordering_then next last)
    then_then Less next last = refl
    then_then Equal next last = refl
    then_then Greater next last = refl

-- a change of a record leaves its slot
pub change_keeps : (change : SlotRecord → SlotRecord) (a b : SlotRow)
    → slot_cmp (change_state change a) b ≡ slot_cmp a b
unfolding slot_cmp change_state
change_keeps change a b = refl

-- what fails up to some row, and passes from there on
passed_falls : (first later : Bool) → (first ≡ true → later ≡ true)
    → Falls (cond first Equal Greater) (cond later Equal Greater)
passed_falls false true goes = (λ _. refl, λ _. refl)
passed_falls false false goes = (λ _. refl, λ _. refl)
passed_falls true true goes = (λ is. absurd cc, λ _. refl)
passed_falls true false goes = absurd (true≢false (sym (goes refl)))

-- a number is the whole key of an entry
pub number_falls : (number : ℕ) → Follows entry_cmp (entry_order number)
number_falls number a b =
    whole_falls nat_cmp_total number a.condemned.number b.condemned.number

pub number_alone : (number : ℕ) → IsOnly entry_cmp (entry_order number)
number_alone number a b =
    whole_alone nat_cmp_total number a.condemned.number b.condemned.number

pub above_falls : (number : ℕ) → Follows entry_cmp (above_order number)
above_falls number a b less =
    let below : a.condemned.number < b.condemned.number =
    ranked a.condemned.number b.condemned.number Less (sym less) in
    passed_falls (nat_lt number a.condemned.number) (nat_lt number b.condemned.number)
    (λ is. grind (arith, nat_tests))

pub after_falls : (after : Option SlotId) → Follows slot_cmp (after_order after)
unfolding comes_after slot_cmp slot_id
after_falls None a b less = passed_falls true true (λ is. refl)
after_falls (Some id) a b less =
    let key = row_of_slot id in
    passed_falls (is_lt (slot_cmp key a)) (is_lt (slot_cmp key b))
    (λ is. ap is_lt (slot_cmp_total.trans key a b (lt_is _ is) less))
  where
    lt_is : (o : Ordering) → is_lt o ≡ true → o ≡ Less
    lt_is Less e = refl
    lt_is Equal e = absurd (true≢false (sym e))
    lt_is Greater e = absurd (true≢false (sym e))
