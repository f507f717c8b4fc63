-- A server that is chosen, or that isn't barred, may get a grant. For the law `stays_sound`.
use Rattle.qfs_base.specs.NumberSet.{has, with_member}
use Rattle.qfs_base.specs.Sizes.{LAST_U32}
use Rattle.qfs_base.specs.Table.{Each}
use Rattle.qfs_base.specs.declared.change.Change.{Change}
use Rattle.qfs_base.specs.declared.chunk.BlockId.{BlockId}
use Rattle.qfs_base.specs.declared.chunk.Copy.{Copy}
use Rattle.qfs_base.specs.declared.image.MetaImage.{MetaImage}
use Rattle.qfs_base.specs.declared.image.ServerView.{ServerView}
use Rattle.qfs_base.specs.declared.image.SlotRow.{SlotRow}
use Rattle.qfs_base.specs.declared.image.TreeRow.{TreeRow}
use Rattle.qfs_model_meta.specs.Apply.{apply}
use Rattle.qfs_model_meta.specs.Grammar.{IsServer}
use Rattle.qfs_model_meta.specs.Placing.{barred_for_block, barred_for_put, with_live_servers}
use Rattle.qfs_model_meta.specs.Servers.{is_live}
use Rattle.qfs_model_meta.specs.Slots.{copies_of_block, granted_copy, grants_of_block, is_of_block}
use Rattle.qfs_model_meta.specs.Slots.{never_granted, slot_at}
use Rattle.qfs_model_meta.specs.Sound.{live_servers}
use Rattle.qfs_model_meta.specs.TreeRows.{closed_file}
use Rattle.std.proofs.Common.{List, None, Option, Some, [], ap, arith, cond, false, filter, length}
use Rattle.std.proofs.Common.{nat_eq, refl, subst, sym, true, ℕ, ◌++◌, ◌+◌, ◌<◌, ◌||◌, ◌∙◌, ◌∷◌}
use Rattle.std.proofs.Common.{◌≡◌}
use Rattle.std.proofs.lemmas.Bool.{or_parts, true≢false}
use Rattle.std.specs.BTreeSet.{insert_key}
use Rattle.std.specs.Cmp.{ranked}
use Rattle.std.specs.Option.{option_to_list}
use Rattle.std.specs.Ordering.{match_ordering, nat_cmp}
use Rattle.std.specs.Prelude.{IsTrue, flat_map, fold, is_some}
use Rattle.std.specs.declared.cmp.Ordering.TheVariants.{Equal, Greater, Less}
use Rattle.qfs_laws_meta.specs.Kept.{Fits}
use Rattle.qfs_laws_meta.specs.OneServer.{stands_on}
use Rattle.qfs_laws_slots.specs.Losing.{IsLosing, losing-slots}
use Rattle.qfs_laws_slots.specs.SlotTable.{RowFits}
use Rattle.qfs_laws_slots.specs.Slots.{of_block-is, slot-cases, slot_has}
use Rattle.qfs_laws_tables.specs.Distinct.{copies, one_if}
use Rattle.qfs_base.specs.EachLaws.{each_weaker}
use Rattle.qfs_laws_tables.specs.Sums.{total, total-filter, total-map, weigh_if}

-- ---- who is barred

has-inserted : (ms : List ℕ) (k s : ℕ) → has (insert_key nat_cmp ms k) s ≡ false
    → (has ms s ≡ false) × (nat_eq k s ≡ false)
has-inserted [] k s off = let p = or_parts (nat_eq k s) false off in (refl, p.0)
has-inserted (x ∷ xs) k s off =
    (elim (nat_cmp k x) as (λ r. nat_cmp k x ≡ r → has
    (match_ordering r (k ∷ x ∷ xs) (x ∷ xs) (x ∷ insert_key nat_cmp xs k)) s ≡ false →
    (has (x ∷ xs) s ≡ false) × (nat_eq k s ≡ false)) [
      | Less ↦ λ _ off. let p = or_parts (nat_eq k s) (has (x ∷ xs) s) off in (p.1, p.0)
      | Equal ↦ λ is off. (
        off,
        let p = or_parts (nat_eq x s) (has xs s) off in ap (λ n. nat_eq n s)
            (ranked k x Equal (sym is)) ∙ p.0,
      )
      | Greater ↦ λ _ off. let p = or_parts (nat_eq x s) (has (insert_key nat_cmp xs k) s) off in
          let q = has-inserted xs k s p.1 in ((λ i. p.0 i || q.0 i), q.1)
    ]) refl off

pub live-free : (servers : List ServerView) (copies : List Copy) (set : List ℕ) (s : ℕ)
    → has (with_live_servers servers set copies) s ≡ false
    → (has set s ≡ false) × (total (stands_on servers s) copies ≡ 0)
unfolding with_live_servers
live-free servers [] set s off = (off, refl)
live-free servers (copy ∷ copies) set s off =
    (elim (is_live servers copy) as
    (λ b. has (fold (λ members (copy : Copy). cond (is_live servers copy)
    (with_member members copy.server) members) (cond b (with_member set copy.server) set) copies)
    s ≡ false
    → (has set s ≡ false) × (weigh_if b (one_if (nat_eq copy.server s)) + total
    (stands_on servers s) copies ≡ 0)) [
      | true ↦ λ off.
          let rest = live-free servers copies (with_member set copy.server) s off in
          let here = has-inserted set copy.server s rest.0 in
          let z : one_if (nat_eq copy.server s) ≡ 0 = ap one_if here.1 in
          (here.0, let t = rest.1 in omega arith)
      | false ↦ λ off. let rest = live-free servers copies set s off in
          (rest.0, let t = rest.1 in omega arith)
    ]) off

live-total : (block : BlockId) (n : ℕ) (m : MetaImage)
    → copies n (live_servers block m.servers m.slots) ≡ total (stands_on m.servers n)
    (copies_of_block block m.slots)
unfolding live_servers
live-total block n m =
    total-map (λ k. one_if (nat_eq k n)) (λ (copy : Copy). copy.server)
    (filter (is_live m.servers) (copies_of_block block m.slots))
    ∙ total-filter (λ (copy : Copy). one_if (nat_eq copy.server n)) (is_live m.servers)
    (copies_of_block block m.slots)

pub unbarred-apart : (m : MetaImage) (block : BlockId) (server : ℕ)
    → has (barred_for_block m.servers m.slots block) server ≡ false
    → copies server (live_servers block m.servers m.slots) ≡ 0
unfolding barred_for_block
unbarred-apart m block server off =
    live-total block server m ∙ (live-free m.servers (copies_of_block block m.slots) [] server
    off).1

-- a block whose rows have no current copies has its grants alone
bare-copies : (block : BlockId) (rows : List SlotRow)
    → Each (λ (row : SlotRow). row.block.file ≡ block.file → row.state.current ≡ None) rows
    → copies_of_block block rows ≡ grants_of_block block rows
unfolding copies_of_block grants_of_block
bare-copies block [] each = refl
bare-copies block (row ∷ rows) each =
    let rest = bare-copies block rows each.1 in
    (elim (is_of_block block row) as (λ b. is_of_block block row ≡ b →
    flat_map (λ (row : SlotRow). option_to_list row.state.current ++ option_to_list
    (granted_copy row.state.grant))
    (cond b (row ∷ filter (is_of_block block) rows) (filter (is_of_block block) rows))
    ≡ flat_map (λ (row : SlotRow). option_to_list (granted_copy row.state.grant))
    (cond b (row ∷ filter (is_of_block block) rows) (filter (is_of_block block) rows))) [
      | true ↦ λ is.
          let none = each.0 (ap (λ (k : BlockId). k.file) (of_block-is block row is)) in
          (λ i. (option_to_list (none i) ++ option_to_list (granted_copy row.state.grant)) ++ rest
          i)
      | false ↦ λ _. rest
    ]) refl

rows-bare : (servers next : ℕ) (tree : List TreeRow) (file : ℕ)
    → is_some (closed_file file tree) ≡ false → (rows : List SlotRow)
    → Each (RowFits servers next tree) rows
    → Each (λ (row : SlotRow). row.block.file ≡ file → row.state.current ≡ None) rows
rows-bare servers next tree file still_open rows each =
    each_weaker (RowFits servers next tree) _
    (λ row f own. none row.state.current
    (subst (λ k. Each (λ (copy : Copy). IsServer servers copy.server × IsTrue
    (is_some (closed_file k tree))) (option_to_list row.state.current)) own f.state.current)) rows
    each
  where
    none : (o : Option Copy)
        → Each (λ (copy : Copy). IsServer servers copy.server × IsTrue
        (is_some (closed_file file tree))) (option_to_list o)
        → o ≡ None
    none None each = refl
    none (Some copy) each = absurd (true≢false (sym each.0.1 ∙ still_open))

pub put-apart : (m : MetaImage) (block : BlockId) (failed : List ℕ) (server : ℕ) → Fits m
    → is_some (closed_file block.file m.tree) ≡ false
    → has (barred_for_put m.servers m.slots block failed) server ≡ false
    → copies server (live_servers block m.servers m.slots) ≡ 0
unfolding barred_for_put
put-apart m block failed server f still_open off =
    live-total block server m
    ∙ ap (total (stands_on m.servers server))
    (bare-copies block m.slots
    (rows-bare (length m.servers) m.next_lease m.tree block.file still_open
    m.slots f.table.rows))
    ∙ (live-free m.servers (grants_of_block block m.slots) failed server off).1

-- ---- versions

pub version-left : (slots : List SlotRow) (block : BlockId) (slot : ℕ)
    → Each (λ (row : SlotRow). row.state.next < LAST_U32) slots
    → (slot_at slots block slot).next < LAST_U32
unfolding never_granted
version-left slots block slot each =
    slot_has (λ st. st.next < LAST_U32) slots block slot (omega arith)
    (each_weaker _ _ (λ row l _ _. l) slots each)

pub version-kept : (m : MetaImage) (change : Change) → IsLosing change
    → (block : BlockId) (slot : ℕ) → (slot_at m.slots block slot).next < LAST_U32
    → (slot_at (apply m change).slots block slot).next < LAST_U32
version-kept m change is block slot left =
    losing-slots (λ rows. (slot_at rows block slot).next < LAST_U32)
    (λ change loses other number rows left. slot-cases (λ st. st.next < LAST_U32) other block number
    slot change rows
    (λ p. let e = loses.next never_granted in omega arith)
    (λ _ _. let e = loses.next (slot_at rows block slot) in omega arith) (λ _. left)) m change is
    left
