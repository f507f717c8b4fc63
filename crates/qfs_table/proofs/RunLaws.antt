-- The rows between two places.
use Rattle.std.proofs.Common.{◌≡◌, ℕ, zero, suc, ◌+◌, ◌-◌, ◌≤◌, ◌<◌, true, false, true≢false, List, [], ◌∷◌, ◌++◌, take, drop, filter, slice_range, refl, sym, ◌∙◌, ap, subst, arith, append_assoc, add-one}
use Rattle.std.proofs.lemmas.List.{append-nil, append_cancel_left, take-append-drop}
use Rattle.std.proofs.lemmas.List.Elements.{filter-append}
use Rattle.std.specs.Ordering.{is_eq, is_ge, is_gt}
use Rattle.std.specs.Prelude.{Vec}
use Rattle.std.specs.declared.cmp.Ordering.{Ordering}
use Rattle.std.specs.declared.cmp.Ordering.TheVariants.{Less, Equal, Greater}
use Rattle.qfs_base.specs.Table.{Each, has_key}
use Rattle.qfs_table.specs.declared.place.Place.{Place}
use Rattle.qfs_table.specs.Chunks.{flat, rows_at, front, back}
use Rattle.qfs_table.specs.Places.{IsFirst}
use Rattle.qfs_base.specs.EachLaws.{each_weaker}
use Rattle.qfs_table.proofs.RowLaws.{gt_not_eq, lt_not_eq}
use Rattle.qfs_table.proofs.FlatLaws.{flat_append, flat_cut}
use Rattle.qfs_laws_tables.specs.EachRow.{each_both, each-left, each-right, filter_all, filter_none}

module _ {X : Type 0} where
  take_nothing : (n : ℕ) → take n (let none : List X = [] in none) ≡ []
  take_nothing zero = refl
  take_nothing (suc n) = refl

  -- a list up to a place, and from there up to another
  take_between : (xs : List X) (from to : ℕ) → from ≤ to →
      take from xs ++ slice_range xs from to ≡ take to xs
  take_between xs zero to rises = ap (λ n. take n xs) (let same : to - 0 ≡ to = omega arith in same)
  take_between xs (suc from) zero rises = absurd (omega arith)
  take_between [] (suc from) (suc to) rises = take_nothing (suc to - suc from)
  take_between (x ∷ xs) (suc from) (suc to) rises =
      let less : suc to - suc from ≡ to - from = omega arith in
      ap (λ n. x ∷ (take from xs ++ take n (drop from xs))) less
      ∙ ap (λ rest. x ∷ rest) (take_between xs from to (omega arith))

module _ {T Z : Type 0} where
  flat_taken : (chunks : List (Vec T Z)) (from more : ℕ) →
      flat (take (suc more) (drop from chunks)) ≡ rows_at chunks from ++ flat
      (take more (drop (suc from) chunks))
  flat_taken [] zero more = ap flat (sym (take_nothing more))
  flat_taken [] (suc from) more = ap flat (sym (take_nothing more))
  flat_taken (chunk ∷ chunks) zero more = refl
  flat_taken (chunk ∷ chunks) (suc from) more = flat_taken chunks from more

  -- the rows of the chunks up to a later one
  flat_until : (chunks : List (Vec T Z)) (from to : ℕ) → from < to →
      flat (take to chunks) ≡ flat (take from chunks) ++
      (rows_at chunks from ++ flat (slice_range chunks (suc from) to))
  flat_until chunks from to below =
      let more : suc (to - suc from) ≡ to - from = omega arith in
      ap flat (sym (take_between chunks from to (omega arith)))
      ∙ flat_append (take from chunks) (slice_range chunks from to)
      ∙ ap (λ n. flat (take from chunks) ++ flat (take n (drop from chunks))) (sym more)
      ∙ ap (λ rest. flat (take from chunks) ++ rest) (flat_taken chunks from (to - suc from))

  -- two places in one chunk
  pub part_between : (chunks : List (Vec T Z)) (chunk from to : ℕ) → from ≤ to →
      front chunks chunk from ++ (slice_range (rows_at chunks chunk) from to ++ [])
      ≡ front chunks chunk to
  unfolding front
  part_between chunks chunk from to rises =
      let before : List T = flat (take chunk chunks) in
      let own : List T = rows_at chunks chunk in
      append_assoc before (take from own) (slice_range own from to ++ [])
      ∙ ap (λ rest. before ++ (take from own ++ rest)) (append-nil (slice_range own from to))
      ∙ ap (λ rest. before ++ rest) (take_between own from to rises)

  -- two places in two chunks
  pub chunks_between : (chunks : List (Vec T Z)) (first from last to : ℕ) → first < last →
      front chunks first from ++
      (drop from (rows_at chunks first) ++
      (flat (slice_range chunks (first + 1) last) ++ take to (rows_at chunks last)))
      ≡ front chunks last to
  unfolding front
  chunks_between chunks first from last to below =
      let before : List T = flat (take first chunks) in
      let own : List T = rows_at chunks first in
      let middle : List T = flat (slice_range chunks (suc first) last) in
      let end : List T = take to (rows_at chunks last) in
      ap (λ n. (before ++ take from own) ++
      (drop from own ++ (flat (slice_range chunks n last) ++ end))) (add-one first)
      ∙ append_assoc before (take from own) (drop from own ++ (middle ++ end))
      ∙ ap (λ rest. before ++ rest)
      (sym (append_assoc (take from own) (drop from own) (middle ++ end)))
      ∙ ap (λ rows. before ++ (rows ++ (middle ++ end))) (take-append-drop from own)
      ∙ ap (λ rest. before ++ rest) (sym (append_assoc own middle end))
      ∙ sym (append_assoc before (own ++ middle) end)
      ∙ ap (λ rows. rows ++ end) (sym (flat_until chunks first last below))

-- ---- the rows with a key

between_so : (o : Ordering) → is_gt o ≡ false → is_ge o ≡ true → is_eq o ≡ true
between_so Less e f = absurd (true≢false (sym f))
between_so Equal e f = refl
between_so Greater e f = absurd (true≢false e)

-- what is above a row isn't below it
pub gt_ge : (o : Ordering) → is_gt o ≡ true → is_ge o ≡ true
gt_ge Less e = absurd (true≢false (sym e))
gt_ge Equal e = refl
gt_ge Greater e = refl

module _ {T Z : Type 0} (order : T → Ordering) (chunks : List (Vec T Z)) (from to : Place)
    (between : List T)
    (first : IsFirst (λ row. is_gt (order row)) chunks from)
    (last : IsFirst (λ row. is_ge (order row)) chunks to)
    (is : front chunks from.chunk from.row ++ between ≡ front chunks to.chunk to.row) where
  rest_is : back chunks from.chunk from.row ≡ between ++ back chunks to.chunk to.row
  rest_is =
      let low : List T = front chunks from.chunk from.row in
      let high : List T = back chunks to.chunk to.row in
      append_cancel_left low (back chunks from.chunk from.row) (between ++ high)
      (sym (flat_cut chunks from.chunk from.row) ∙ flat_cut chunks to.chunk to.row
      ∙ ap (λ rows. rows ++ high) (sym is) ∙ append_assoc low between high)

  between_tied : Each (λ row. has_key order row ≡ true) between
  between_tied =
      let low : List T = front chunks from.chunk from.row in
      let high : List T = back chunks to.chunk to.row in
      each_weaker _ _ (λ row both. between_so (order row) both.0 both.1) between
      (each_both _ _ between
      (each-left (λ row. is_gt (order row) ≡ false) between high
      (subst (Each _) rest_is first.behind))
      (each-right (λ row. is_ge (order row) ≡ true) low between
      (subst (Each _) (sym is) last.before)))

  -- the rows with a key are those between the first that isn't below it and the first above it
  pub run_is : between ≡ filter (has_key order) (flat chunks)
  run_is =
      let low : List T = front chunks from.chunk from.row in
      let high : List T = back chunks to.chunk to.row in
      let test = has_key order in
      sym (ap (filter test) (flat_cut chunks from.chunk from.row ∙ ap (λ rest. low ++ rest) rest_is)
      ∙ filter-append test low (between ++ high)
      ∙ ap (λ rows. rows ++ filter test (between ++ high))
      (filter_none test low (each_weaker _ _ (λ row e. gt_not_eq (order row) e) low
      first.before))
      ∙ filter-append test between high
      ∙ (λ i. filter_all test between between_tied i ++ filter_none test high
      (each_weaker _ _ (λ row e. lt_not_eq (order row) e) high last.behind) i)
      ∙ append-nil between)
