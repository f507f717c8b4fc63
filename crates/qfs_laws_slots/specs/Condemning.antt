-- Condemned copies: what a change of their list leaves of each, and how many copies of a slot have
-- a version. Cited by the laws of the metaserver, and for the metaserver in memory.
use Rattle.qfs_base.specs.Table.{Each, change_row}
use Rattle.qfs_base.specs.declared.chunk.BlockId.{BlockId}
use Rattle.qfs_base.specs.declared.chunk.Copy.{Copy}
use Rattle.qfs_base.specs.declared.image.CondemnedRow.{CondemnedRow}
use Rattle.qfs_base.specs.declared.image.MetaImage.{MetaImage}
use Rattle.qfs_model_meta.specs.Condemned.{condemn, condemn_any, condemned_row, forget_if_risen}
use Rattle.qfs_model_meta.specs.Condemned.{is_numbered, is_on_server, list_if_live, mark_ordered}
use Rattle.qfs_model_meta.specs.Condemned.{sweep, unblock, unblock_all}
use Rattle.qfs_model_meta.specs.Servers.{is_live}
use Rattle.qfs_model_meta.specs.Slots.{same_block}
use Rattle.qfs_model_meta.specs.Sound.{is_condemned_of}
use Rattle.std.proofs.Common.{Bool, List, None, Option, Some, [], ap, arith, false, nat_eq, not}
use Rattle.std.proofs.Common.{refl, subst, sym, true, ℕ, ◌&&◌, ◌++◌, ◌+◌, ◌==◌, ◌∷◌, ◌≡◌, ◌≤◌}
use Rattle.std.specs.Option.{option_to_list}
use Rattle.qfs_laws_tables.specs.Distinct.{one_if}
use Rattle.qfs_base.specs.EachLaws.{each_filter}
use Rattle.qfs_laws_tables.specs.EachRow.{each_change, each_map, each_push}
use Rattle.qfs_laws_tables.specs.Sums.{total, total-append, total-filter-le, weigh_if}

-- a state in which a live copy was condemned just now
abbrev pub with_condemned : BlockId → ℕ → Copy → MetaImage → MetaImage
with_condemned block slot copy m =
    record m {
      condemned = m.condemned ++ condemned_row m.next_condemned block slot copy m.leases
          ∷ [];
      next_condemned = m.next_condemned + 1;
    }

-- a copy that is condemned is listed, if it is live
pub condemn-cases : (Q : MetaImage → Type 0) (block : BlockId) (slot : ℕ) (copy : Copy)
    (m : MetaImage)
    → (is_live m.servers copy ≡ false → Q m) →
    (is_live m.servers copy ≡ true → Q (with_condemned block slot copy m)) → Q
    (condemn block slot copy m)
unfolding condemn list_if_live
condemn-cases Q block slot copy m dead live =
    elim (is_live m.servers copy) as
    (λ b. is_live m.servers copy ≡ b → Q
    (list_if_live (condemned_row m.next_condemned block slot copy m.leases) m b)) [
      | true ↦ live
      | false ↦ dead
    ] refl

pub condemn_any-cases : (Q : MetaImage → Type 0) (block : BlockId) (slot : ℕ) (m : MetaImage)
    (found : Option Copy)
    → (found ≡ None → Q m)
    → ((copy : Copy) → found ≡ Some copy → is_live m.servers copy ≡ false → Q m)
    → ((copy : Copy) → found ≡ Some copy → is_live m.servers copy ≡ true → Q
    (with_condemned block slot copy m))
    → Q (condemn_any block slot m found)
unfolding condemn_any
condemn_any-cases Q block slot m None none dead live = none refl
condemn_any-cases Q block slot m (Some copy) none dead live =
    condemn-cases Q block slot copy m (dead copy refl) (live copy refl)

-- only the condemned copies and their next number change
pub record IsFrame (m n : MetaImage) : Type 0 where
  pub is : n ≡ record m { condemned = n.condemned; next_condemned = n.next_condemned }

pub condemn_any-frame : (block : BlockId) (slot : ℕ) (m : MetaImage) (found : Option Copy)
    → IsFrame m (condemn_any block slot m found)
condemn_any-frame block slot m found =
    condemn_any-cases (IsFrame m) block slot m found (λ _. record { is = refl })
    (λ _ _ _. record { is = refl }) (λ _ _ _. record { is = refl })

-- ---- how many condemned copies of a slot have a version

abbrev pub version_of : ℕ → Copy → ℕ
version_of v copy = one_if (nat_eq copy.version v)

abbrev pub weight_of : ℕ → BlockId → ℕ → CondemnedRow → ℕ
weight_of v block slot row =
    weigh_if (is_condemned_of block slot row) (version_of v row.condemned.copy)

abbrev pub condemned_count : ℕ → BlockId → ℕ → List CondemnedRow → ℕ
condemned_count v block slot rows = total (weight_of v block slot) rows

abbrev pub count_in : ℕ → Option Copy → ℕ
count_in v found = total (version_of v) (option_to_list found)

-- whether two slots are the same
abbrev pub same_slot : BlockId → ℕ → BlockId → ℕ → Bool
same_slot block slot other number = same_block block other && (slot == number)

pub condemned-count : (v : ℕ) (block other : BlockId) (slot number : ℕ) (m : MetaImage)
    (found : Option Copy)
    → condemned_count v other number (condemn_any block slot m found).condemned
    ≤ condemned_count v other number m.condemned + weigh_if (same_slot block slot other number)
    (count_in v found)
unfolding is_condemned_of condemned_row
condemned-count v block other slot number m found =
    condemn_any-cases
    (λ n. condemned_count v other number n.condemned ≤ condemned_count v other number m.condemned +
    weigh_if (same_slot block slot other number) (count_in v found))
    block slot m found
    (λ _. omega arith) (λ _ _ _. omega arith)
    (λ copy is live.
    let more = total-append (weight_of v other number) m.condemned
    (condemned_row m.next_condemned block slot copy m.leases ∷ []) in
    subst (λ o. condemned_count v other number
    (m.condemned ++ condemned_row m.next_condemned block slot copy m.leases ∷ []) ≤ condemned_count
    v other number m.condemned + weigh_if (same_slot block slot other number) (count_in v o))
    (sym is)
    (one (same_slot block slot other number) (version_of v copy) _ _ more))
  where
    one : (b : Bool) (n c d : ℕ) → d ≡ c + (weigh_if b n + 0) → d ≤ c + weigh_if b (n + 0)
    one true n c d e = omega arith
    one false n c d e = omega arith

-- ---- what each condemned copy has

pub condemned-each : (P : BlockId → ℕ → Copy → Type 0) (block : BlockId) (slot : ℕ) (m : MetaImage)
    (found : Option Copy)
    → Each (P block slot) (option_to_list found)
    → Each (λ (row : CondemnedRow). P row.condemned.block row.condemned.slot row.condemned.copy)
    m.condemned
    → Each (λ (row : CondemnedRow). P row.condemned.block row.condemned.slot row.condemned.copy)
    (condemn_any block slot m found).condemned
unfolding condemned_row
condemned-each P block slot m found holds each =
    condemn_any-cases (λ n. Each (λ (row : CondemnedRow). P row.condemned.block row.condemned.slot
    row.condemned.copy) n.condemned) block slot m found
    (λ _. each) (λ _ _ _. each)
    (λ copy is live. each_push _ m.condemned
    (condemned_row m.next_condemned block slot copy m.leases) each
    (let here : Each (P block slot) (option_to_list (Some copy)) = subst
    (λ o. Each (P block slot) (option_to_list o)) is holds in here.0))

-- ---- the rows that stay

pub unblocked-count : (v : ℕ) (block : BlockId) (slot lease : ℕ) (rows : List CondemnedRow)
    → condemned_count v block slot (unblock_all lease rows) ≡ condemned_count v block slot rows
unfolding unblock_all unblock is_condemned_of
unblocked-count v block slot lease [] = refl
unblocked-count v block slot lease (row ∷ rows) =
    ap (λ n. weight_of v block slot row + n) (unblocked-count v block slot lease rows)

pub marked-count : (v : ℕ) (block : BlockId) (slot number : ℕ) (rows : List CondemnedRow)
    → condemned_count v block slot (mark_ordered number rows) ≡ condemned_count v block slot rows
unfolding mark_ordered is_condemned_of
marked-count v block slot number [] = refl
marked-count v block slot number (row ∷ rows) =
    elim (is_numbered number row) as
    (λ b. weight_of v block slot (change_row (λ (row : CondemnedRow). record row { ordered = true })
    row b) + condemned_count v block slot (mark_ordered number rows) ≡ weight_of v block slot row +
    condemned_count v block slot rows) [
      | true ↦ ap (λ n. weight_of v block slot row + n) (marked-count v block slot number rows)
      | false ↦ ap (λ n. weight_of v block slot row + n) (marked-count v block slot number rows)
    ]

pub swept-count : (v : ℕ) (block : BlockId) (slot number : ℕ) (rows : List CondemnedRow)
    → condemned_count v block slot (sweep number rows) ≤ condemned_count v block slot rows
unfolding sweep
swept-count v block slot number rows =
    total-filter-le (weight_of v block slot)
    (λ (row : CondemnedRow). not (is_numbered number row && row.ordered)) rows

pub risen-count : (v : ℕ) (block : BlockId) (slot server : ℕ) (rows : List CondemnedRow) (b : Bool)
    → condemned_count v block slot (forget_if_risen server rows b) ≤ condemned_count v block slot
    rows
unfolding forget_if_risen
risen-count v block slot server rows true =
    total-filter-le (weight_of v block slot) (λ (row : CondemnedRow). not (is_on_server server row))
    rows
risen-count v block slot server rows false = omega arith

module _ (P : CondemnedRow → Type 0) where
  pub unblocked-each : (lease : ℕ) (rows : List CondemnedRow)
      → ((row : CondemnedRow) → P row → P (unblock lease row)) → Each P rows
      → Each P (unblock_all lease rows)
  unfolding unblock_all
  unblocked-each lease rows keeps each = each_map P P (unblock lease) keeps rows each

  pub marked-each : (number : ℕ) (rows : List CondemnedRow)
      → ((row : CondemnedRow) → P row → P (record row { ordered = true })) → Each P rows
      → Each P (mark_ordered number rows)
  unfolding mark_ordered
  marked-each number rows keeps each =
      each_change P P (is_numbered number) (λ (row : CondemnedRow). record row { ordered = true })
      (λ row _. keeps row) (λ row _ p. p) rows each

  pub swept-each : (number : ℕ) (rows : List CondemnedRow) → Each P rows
      → Each P (sweep number rows)
  unfolding sweep
  swept-each number rows each =
      each_filter P (λ (row : CondemnedRow). not (is_numbered number row && row.ordered)) rows each

  pub risen-each : (server : ℕ) (rows : List CondemnedRow) (b : Bool) → Each P rows
      → Each P (forget_if_risen server rows b)
  unfolding forget_if_risen
  risen-each server rows true each =
      each_filter P (λ (row : CondemnedRow). not (is_on_server server row)) rows each
  risen-each server rows false each = each
