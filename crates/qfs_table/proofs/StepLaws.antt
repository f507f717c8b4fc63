-- A step from one row to the next, and a row that is changed.
use Rattle.std.proofs.Common.{◌≡◌, ℕ, zero, suc, ◌≤◌, ◌<◌, Bool, true, false, List, [], ◌∷◌, ◌++◌, length, take, drop, set, get_or, true≢false, refl, sym, ◌∙◌, ap, arith, append_assoc, length-drop, length-set}
use Rattle.std.proofs.lemmas.List.{append-nil, append_cancel_left, drop_all, drop-append-le, take_all, take-set}
use Rattle.std.specs.Cmp.{IsTotalOrder}
use Rattle.std.specs.Ordering.{is_ge, is_gt, ordering_reverse}
use Rattle.std.specs.Prelude.{Vec}
use Rattle.std.specs.declared.cmp.Ordering.{Ordering}
use Rattle.qfs_base.specs.Table.{Each, IsRising, change_row, change_where, has_key}
use Rattle.qfs_table.specs.Chunks.{flat, rows_at, front, back, change_first}
use Rattle.qfs_table.specs.Cuts.{IsCut}
use Rattle.qfs_table.specs.Keys.{starts_tied}
use Rattle.qfs_table.specs.Rooms.{strain}
use Rattle.qfs_base.specs.EachLaws.{each_weaker}
use Rattle.qfs_table.proofs.FlatLaws.{drop_next, set_cut, flat_cut, set_rows, set_strain}
use Rattle.qfs_laws_tables.specs.InOrder.{change_rises as rows_rise}
use Rattle.qfs_laws_tables.specs.Placed.{change_append, change_none}
use Rattle.qfs_table.proofs.RowLaws.{all_other, gt_not_eq}

module _ {X : Type 0} where
  take_one : (xs ys : List X) (at : ℕ) → at < length xs →
      take (suc at) xs ≡ take at xs ++ take 1 (drop at xs ++ ys)
  take_one [] ys at within = absurd (omega arith)
  take_one (x ∷ xs) ys zero within = refl
  take_one (x ∷ xs) ys (suc at) within = ap (λ rest. x ∷ rest) (take_one xs ys at (omega arith))

changed_there : {T : Type 0} (change : T → T) (xs ys : List T) (at : ℕ) (old : T) → at < length xs →
    old ≡ get_or xs at old →
    change old ∷ drop 1 (drop at xs ++ ys) ≡ change_first change (drop at xs ++ ys)
changed_there change [] ys at old within read = absurd (omega arith)
changed_there change (x ∷ xs) ys zero old within read = ap (λ row. change row ∷ (xs ++ ys)) read
changed_there change (x ∷ xs) ys (suc at) old within read =
    changed_there change xs ys at old (omega arith) read

module _ {T Z : Type 0} where
  rows_at_set : (chunks : List (Vec T Z)) (at : ℕ) (one : Vec T Z) → at < length chunks →
      rows_at (set chunks at one) at ≡ one.items
  rows_at_set [] at one within = absurd (omega arith)
  rows_at_set (chunk ∷ chunks) zero one within = refl
  rows_at_set (chunk ∷ chunks) (suc at) one within = rows_at_set chunks at one (omega arith)

  -- what stands before a place stays where what stands before it in its chunk does
  front_set : (chunks : List (Vec T Z)) (chunk row : ℕ) (one : Vec T Z) → chunk < length chunks →
      take row one.items ≡ take row (rows_at chunks chunk) →
      front (set chunks chunk one) chunk row ≡ front chunks chunk row
  unfolding front
  front_set chunks chunk row one within is =
      λ i. flat (take-set chunks chunk one i) ++
      (ap (take row) (rows_at_set chunks chunk one within) ∙ is) i

  -- what stands from a place on, by what stands before it
  back_by_front : (new old : List (Vec T Z)) (chunk row : ℕ) (rest : List T) →
      front new chunk row ≡ front old chunk row → flat new ≡ front old chunk row ++ rest →
      back new chunk row ≡ rest
  back_by_front new old chunk row rest same is =
      append_cancel_left (front new chunk row) (back new chunk row) rest
      (sym (flat_cut new chunk row) ∙ is ∙ ap (λ rows. rows ++ rest) (sym same))

  -- another row at a place
  module _ (chunks : List (Vec T Z)) (chunk row : ℕ) (one : Vec T Z) (new : T)
      (within : chunk < length chunks)
      (inside : row < length (rows_at chunks chunk))
      (is : one.items ≡ set (rows_at chunks chunk) row new) where
    pub row_front : front (set chunks chunk one) chunk row ≡ front chunks chunk row
    row_front = front_set chunks chunk row one within
        (ap (take row) is ∙ take-set (rows_at chunks chunk) row new)

    pub row_rows : flat (set chunks chunk one) ≡ front chunks chunk row ++ new ∷ drop 1
        (back chunks chunk row)
    row_rows =
        set_rows chunks chunk row one within 1 (new ∷ [])
        (omega (arith, length-drop row (rows_at chunks chunk)))
        (is ∙ set_cut (rows_at chunks chunk) row new inside)

    pub row_back : back (set chunks chunk one) chunk row ≡ new ∷ drop 1 (back chunks chunk row)
    row_back = back_by_front (set chunks chunk one) chunks chunk row
        (new ∷ drop 1 (back chunks chunk row)) row_front row_rows

    pub row_many : length (rows_at (set chunks chunk one) chunk) ≡ length (rows_at chunks chunk)
    row_many = ap length (rows_at_set chunks chunk one within ∙ is)
        ∙ length-set (rows_at chunks chunk) row new

    pub row_strain : strain (set chunks chunk one) ≤ strain chunks
    row_strain =
        omega (
          arith,
          set_strain chunks chunk row one within 0
              (omega (arith, ap length is, length-set (rows_at chunks chunk) row new)),
        )

  -- the row at a place is changed
  pub first_changed : (change : T → T) (chunks : List (Vec T Z)) (chunk row : ℕ) (old : T) →
      row < length (rows_at chunks chunk) → old ≡ get_or (rows_at chunks chunk) row old →
      change old ∷ drop 1 (back chunks chunk row) ≡ change_first change (back chunks chunk row)
  unfolding back
  first_changed change chunks chunk row old inside read =
      changed_there change (rows_at chunks chunk) (flat (drop (suc chunk) chunks)) row old inside
      read

  -- ---- a step in a chunk, and into the next

  pub front_step : (chunks : List (Vec T Z)) (chunk row : ℕ) → row < length (rows_at chunks chunk) →
      front chunks chunk (suc row) ≡ front chunks chunk row ++ take 1 (back chunks chunk row)
  unfolding front back
  front_step chunks chunk row inside =
      let before : List T = flat (take chunk chunks) in
      let own : List T = rows_at chunks chunk in
      let behind : List T = flat (drop (suc chunk) chunks) in
      ap (λ rest. before ++ rest) (take_one own behind row inside)
      ∙ sym (append_assoc before (take row own) (take 1 (drop row own ++ behind)))

  pub back_step : (chunks : List (Vec T Z)) (chunk row : ℕ) → row < length (rows_at chunks chunk) →
      back chunks chunk (suc row) ≡ drop 1 (back chunks chunk row)
  unfolding back
  back_step chunks chunk row inside =
      let own : List T = rows_at chunks chunk in
      let behind : List T = flat (drop (suc chunk) chunks) in
      ap (λ rows. rows ++ behind) (drop_next own row)
      ∙ sym (drop-append-le 1 (drop row own) behind (omega (arith, length-drop row own)))

  flat_dropped : (chunks : List (Vec T Z)) (at : ℕ) →
      flat (drop at chunks) ≡ rows_at chunks at ++ flat (drop (suc at) chunks)
  flat_dropped [] zero = refl
  flat_dropped [] (suc at) = refl
  flat_dropped (chunk ∷ chunks) zero = refl
  flat_dropped (chunk ∷ chunks) (suc at) = flat_dropped chunks at

  flat_more : (chunks : List (Vec T Z)) (at : ℕ) → flat (take (suc at) chunks)
      ≡ flat (take at chunks) ++ rows_at chunks at
  flat_more [] zero = refl
  flat_more [] (suc at) = refl
  flat_more (chunk ∷ chunks) zero = append-nil chunk.items
  flat_more (chunk ∷ chunks) (suc at) =
      ap (λ rest. chunk.items ++ rest) (flat_more chunks at)
      ∙ sym (append_assoc chunk.items (flat (take at chunks)) (rows_at chunks at))

  pub front_over : (chunks : List (Vec T Z)) (chunk row : ℕ) → length (rows_at chunks chunk) ≤ row →
      front chunks (suc chunk) 0 ≡ front chunks chunk row
  unfolding front
  front_over chunks chunk row end =
      append-nil (flat (take (suc chunk) chunks))
      ∙ flat_more chunks chunk
      ∙ ap (λ rows. flat (take chunk chunks) ++ rows)
      (sym (take_all row (rows_at chunks chunk) end))

  pub back_over : (chunks : List (Vec T Z)) (chunk row : ℕ) → length (rows_at chunks chunk) ≤ row →
      back chunks (suc chunk) 0 ≡ back chunks chunk row
  unfolding back
  back_over chunks chunk row end =
      sym (flat_dropped chunks (suc chunk)) ∙ ap (λ rows. rows ++ flat (drop (suc chunk) chunks))
      (sym (drop_all row (rows_at chunks chunk) end))

-- ---- changes of the rows with a key

pub change_long : {X : Type 0} (test : X → Bool) (change : X → X) (rows : List X) →
    length (change_where test change rows) ≡ length rows
change_long test change [] = refl
change_long test change (row ∷ rows) = ap suc (change_long test change rows)

-- the rows below a key stay
pub change_front : {X : Type 0} (order : X → Ordering) (change : X → X) (front back : List X) →
    Each (λ row. is_gt (order row) ≡ true) front →
    front ++ change_where (has_key order) change back ≡ change_where (has_key order) change
    (front ++ back)
change_front order change front back before =
    sym (change_append (has_key order) change front back
    ∙ ap (λ rows. rows ++ change_where (has_key order) change back)
    (change_none (has_key order) change front
    (each_weaker _ _ (λ row above. gt_not_eq (order row) above) front before)))

-- so do those from the first above the key on
pub change_back : {X : Type 0} (order : X → Ordering) (change : X → X) (rows : List X) →
    Each (λ row. is_gt (order row) ≡ false) rows → IsCut (λ row. is_ge (order row)) rows →
    starts_tied order rows ≡ false → change_where (has_key order) change rows ≡ rows
change_back order change rows low cut other = change_none (has_key order) change rows
    (all_other order rows low cut other)

-- one row with the key is changed, and what is left
pub change_step : {X : Type 0} (order : X → Ordering) (change : X → X) (front rows : List X) →
    starts_tied order rows ≡ true →
    (front ++ take 1 (change_first change rows)) ++ change_where (has_key order) change
    (drop 1 (change_first change rows)) ≡ front ++ change_where (has_key order) change rows
change_step order change front [] tied = absurd (true≢false (sym tied))
change_step order change front (row ∷ rows) tied =
    append_assoc front (change row ∷ []) (change_where (has_key order) change rows)
    ∙ ap (λ b. front ++ (change_row change row b ∷ change_where (has_key order) change rows))
    (sym tied)

pub low_step : {X : Type 0} (P : X → Type 0) (change : X → X) (rows : List X) → Each P rows →
    Each P (drop 1 (change_first change rows))
low_step P change [] each = tt
low_step P change (row ∷ rows) each = each.1

pub cut_step : {X : Type 0} (test : X → Bool) (change : X → X) (rows : List X) → IsCut test rows →
    IsCut test (drop 1 (change_first change rows))
cut_step test change [] cut = tt
cut_step test change (row ∷ rows) cut = cut.1

-- a change that leaves the keys leaves the order
module _ {X : Type 0} {cmp : X → X → Ordering} (total : IsTotalOrder cmp) (change : X → X)
    (keeps : (a b : X) → cmp (change a) b ≡ cmp a b) (test : X → Bool) where
  pub change_rises : (rows : List X) → IsRising cmp rows →
      IsRising cmp (change_where test change rows)
  change_rises =
      rows_rise cmp test change keeps
      (λ a b. total.antisymm a (change b) ∙ ap ordering_reverse (keeps b a) ∙ sym (total.antisymm a b))
