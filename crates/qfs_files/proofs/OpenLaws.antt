-- A file that is closed, or taken out, at each path that is kept for it is so wherever it stands
-- unclosed; and the paths that are kept go on to be enough.
use Rattle.std.proofs.Common.{◌≡◌, ℕ, Bool, List, [], ◌∷◌, filter, cond, fold, not, true, false, refl, ap, sym, ◌∙◌, true≢false, ◌&&◌, ◌||◌, ◌==◌}
use Rattle.std.proofs.lemmas.Bool.{and_parts, eq-eqb, eqb-true}
use Rattle.std.proofs.lemmas.Cmp.{nat_cmp_total, ranked, tied_itself}
use Rattle.std.specs.List.{list_any}
use Rattle.std.specs.Ordering.{is_eq, nat_cmp, ordering_then}
use Rattle.std.specs.declared.cmp.Ordering.{Ordering}
use Rattle.std.specs.declared.cmp.Ordering.TheVariants.{Less, Equal, Greater}
use Rattle.qfs_base.specs.EachLaws.{each_weaker}
use Rattle.qfs_base.specs.NameTree.{path_cmp}
use Rattle.qfs_base.specs.Table.{Each, change_row, change_where, has_key, place, place_before, without}
use Rattle.qfs_laws_tables.specs.EachRow.{each_change}
use Rattle.qfs_files.specs.declared.row.FileRow.{FileRow}
use Rattle.qfs_files.specs.declared.row.Holding.{Holding}
use Rattle.qfs_files.specs.declared.row.Holding.TheVariants.{Directory, Unclosed, Closed}
use Rattle.qfs_files.specs.declared.row.OpenRow.{OpenRow}
use Rattle.qfs_files.specs.Keys.{file_order, open_cmp, paths_total}
use Rattle.qfs_files.specs.Open.{Covers, IsCovered, finds}
use Rattle.qfs_files.specs.Rows.{closed_by, holds_unclosed, is_unclosed_row}

-- ---- what a kept path finds

tied_if : (o : Ordering) (t : Bool)
    → is_eq (ordering_then o (cond t Equal Less)) ≡ (is_eq o && t)
tied_if Less t = refl
tied_if Equal true = refl
tied_if Equal false = refl
tied_if Greater t = refl

and_false : (b : Bool) → (b && false) ≡ false
and_false true = refl
and_false false = refl

finds_is : (kept : OpenRow) (row : FileRow)
    → finds kept row ≡ (is_eq (path_cmp kept.names row.names) && is_unclosed_row kept.file row)
finds_is kept row =
    tied_if (path_cmp kept.names row.names) (is_unclosed_row kept.file row)

finds_unclosed : (kept : OpenRow) (row : FileRow) → finds kept row ≡ true
    → is_unclosed_row kept.file row ≡ true
finds_unclosed kept row found =
    (and_parts (is_eq (path_cmp kept.names row.names)) (is_unclosed_row kept.file row)
    (sym (finds_is kept row) ∙ found)).1

-- a closed file is found by none
finds_closed : (file actor command : ℕ) (kept : OpenRow) (row : FileRow)
    → finds kept (closed_by file actor command row) ≡ false
finds_closed file actor command kept row =
    finds_is kept (closed_by file actor command row)
    ∙ and_false (is_eq (path_cmp kept.names row.names))

-- an unclosed file has one number
one_number : (a b : ℕ) (holding : Holding) → holds_unclosed a holding ≡ true
    → holds_unclosed b holding ≡ true → a ≡ b
one_number a b Directory is other = absurd (true≢false (sym is))
one_number a b (Closed number actor command) is other = absurd (true≢false (sym is))
one_number a b (Unclosed number) is other =
    sym (eqb-true number a is) ∙ eqb-true number b other

-- whether a path is kept for this file
abbrev of_file : ℕ → OpenRow → Bool
of_file file kept = has_key (file_order file) kept

equal_is : (o : Ordering) → is_eq o ≡ true → o ≡ Equal
equal_is Less e = absurd (true≢false (sym e))
equal_is Equal e = refl
equal_is Greater e = absurd (true≢false (sym e))

own_number : (file : ℕ) (kept : OpenRow) → of_file file kept ≡ true → file ≡ kept.file
own_number file kept own = ranked file kept.file Equal (sym (equal_is _ own))

number_own : (file : ℕ) (kept : OpenRow) → kept.file ≡ file → of_file file kept ≡ true
number_own file kept e =
    ap (λ n. is_eq (nat_cmp file n)) e ∙ ap is_eq (tied_itself nat_cmp_total file)

-- ---- the paths of one file are enough for it

none_own : (file : ℕ) (row : FileRow) (places : List OpenRow) → is_unclosed_row file row ≡ false
    → list_any (λ kept. finds kept row) (filter (of_file file) places) ≡ false
none_own file row [] off = refl
none_own file row (kept ∷ places) off =
    (elim (of_file file kept) as (λ b. of_file file kept ≡ b →
    list_any (λ kept. finds kept row) (cond b (kept ∷ filter (of_file file) places)
    (filter (of_file file) places)) ≡ false) [
      | true ↦ λ own.
          ap (λ b. b || list_any (λ kept. finds kept row) (filter (of_file file) places))
          (finds_is kept row
          ∙ ap (λ n. is_eq (path_cmp kept.names row.names) && is_unclosed_row n row)
          (sym (own_number file kept own))
          ∙ ap (λ b. is_eq (path_cmp kept.names row.names) && b) off
          ∙ and_false (is_eq (path_cmp kept.names row.names)))
          ∙ none_own file row places off
      | false ↦ λ other. none_own file row places off
    ]) refl

some_own : (file : ℕ) (row : FileRow) (places : List OpenRow) → is_unclosed_row file row ≡ true
    → list_any (λ kept. finds kept row) places ≡ true
    → list_any (λ kept. finds kept row) (filter (of_file file) places) ≡ true
some_own file row [] is any = any
some_own file row (kept ∷ places) is any =
    (elim (finds kept row) as (λ b. finds kept row ≡ b →
    (b || list_any (λ kept. finds kept row) places) ≡ true →
    list_any (λ kept. finds kept row) (filter (of_file file) (kept ∷ places)) ≡ true) [
      | true ↦ λ found _.
          let own = number_own file kept (one_number kept.file file row.holding
          (finds_unclosed kept row found) is) in
          ap (λ b. list_any (λ kept. finds kept row) (cond b
          (kept ∷ filter (of_file file) places) (filter (of_file file) places))) own
          ∙ ap (λ b. b || list_any (λ kept. finds kept row) (filter (of_file file) places)) found
      | false ↦ λ found any.
          let rest = some_own file row places is any in
          elim (of_file file kept) as (λ b. list_any (λ kept. finds kept row)
          (cond b (kept ∷ filter (of_file file) places) (filter (of_file file) places)) ≡ true) [
            | true ↦ ap (λ b. b || list_any (λ kept. finds kept row)
                (filter (of_file file) places)) found ∙ rest
            | false ↦ rest
          ]
    ]) refl any

-- a row is found by a path of this file exactly where it is of that unclosed file
own_finds : (file : ℕ) (row : FileRow) (places : List OpenRow) → IsCovered places row
    → list_any (λ kept. finds kept row) (filter (of_file file) places) ≡ is_unclosed_row file row
own_finds file row places covered =
    (elim (is_unclosed_row file row) as (λ b. is_unclosed_row file row ≡ b →
    list_any (λ kept. finds kept row) (filter (of_file file) places) ≡ b) [
      | true ↦ λ is. some_own file row places is (covered file is)
      | false ↦ λ off. none_own file row places off
    ]) refl

own_finds_each : (file : ℕ) (places : List OpenRow) (rows : List FileRow) → Covers places rows
    → Each (λ row. list_any (λ kept. finds kept row) (filter (of_file file) places)
    ≡ is_unclosed_row file row) rows
own_finds_each file places rows covers =
    each_weaker (IsCovered places) _ (λ row covered. own_finds file row places covered) rows covers

-- ---- one path after another

without_both : {X : Type 0} (p q : X → Bool) (rows : List X)
    → without q (without p rows) ≡ without (λ row. p row || q row) rows
without_both p q [] = refl
without_both p q (row ∷ rows) =
    elim (p row) as (λ b. without q (cond (not b) (row ∷ without p rows) (without p rows))
    ≡ cond (not (b || q row)) (row ∷ without (λ row. p row || q row) rows)
    (without (λ row. p row || q row) rows)) [
      | true ↦ without_both p q rows
      | false ↦ elim (q row) as (λ b. cond (not b) (row ∷ without q (without p rows))
          (without q (without p rows))
          ≡ cond (not b) (row ∷ without (λ row. p row || q row) rows)
          (without (λ row. p row || q row) rows)) [
            | true ↦ without_both p q rows
            | false ↦ ap (λ xs. row ∷ xs) (without_both p q rows)
          ]
    ]

without_none : {X : Type 0} (rows : List X) → without (λ _. false) rows ≡ rows
without_none [] = refl
without_none (row ∷ rows) = ap (λ xs. row ∷ xs) (without_none rows)

without_same : {X : Type 0} (p q : X → Bool) (rows : List X) → Each (λ row. p row ≡ q row) rows
    → without p rows ≡ without q rows
without_same p q [] same = refl
without_same p q (row ∷ rows) same =
    (λ i. cond (not (same.0 i)) (row ∷ without_same p q rows same.1 i)
    (without_same p q rows same.1 i))

taken_all : (places : List OpenRow) (rows : List FileRow)
    → fold (λ rows kept. without (finds kept) rows) rows places
    ≡ without (λ row. list_any (λ kept. finds kept row) places) rows
taken_all [] rows = sym (without_none rows)
taken_all (kept ∷ places) rows =
    taken_all places (without (finds kept) rows)
    ∙ without_both (finds kept) (λ row. list_any (λ kept. finds kept row) places) rows

change_both : {X : Type 0} (p q : X → Bool) (change : X → X)
    → ((row : X) → q (change row) ≡ false) → (rows : List X)
    → change_where q change (change_where p change rows)
    ≡ change_where (λ row. p row || q row) change rows
change_both p q change once [] = refl
change_both p q change once (row ∷ rows) =
    (λ i. one (p row) i ∷ change_both p q change once rows i)
  where
    one : (b : Bool) → change_row change (change_row change row b) (q (change_row change row b))
        ≡ change_row change row (b || q row)
    one true = ap (change_row change (change row)) (once row)
    one false = refl

change_none : {X : Type 0} (change : X → X) (rows : List X)
    → change_where (λ _. false) change rows ≡ rows
change_none change [] = refl
change_none change (row ∷ rows) = ap (λ xs. row ∷ xs) (change_none change rows)

change_same : {X : Type 0} (p q : X → Bool) (change : X → X) (rows : List X)
    → Each (λ row. p row ≡ q row) rows → change_where p change rows ≡ change_where q change rows
change_same p q change [] same = refl
change_same p q change (row ∷ rows) same =
    (λ i. change_row change row (same.0 i) ∷ change_same p q change rows same.1 i)

closed_any : (file actor command : ℕ) (places : List OpenRow) (row : FileRow)
    → list_any (λ kept. finds kept (closed_by file actor command row)) places ≡ false
closed_any file actor command [] row = refl
closed_any file actor command (kept ∷ places) row =
    ap (λ b. b || list_any (λ kept. finds kept (closed_by file actor command row)) places)
    (finds_closed file actor command kept row)
    ∙ closed_any file actor command places row

closed_all : (file actor command : ℕ) (places : List OpenRow) (rows : List FileRow)
    → fold (λ rows kept. change_where (finds kept) (closed_by file actor command) rows) rows places
    ≡ change_where (λ row. list_any (λ kept. finds kept row) places)
    (closed_by file actor command) rows
closed_all file actor command [] rows = sym (change_none (closed_by file actor command) rows)
closed_all file actor command (kept ∷ places) rows =
    closed_all file actor command places
    (change_where (finds kept) (closed_by file actor command) rows)
    ∙ change_both (finds kept) (λ row. list_any (λ kept. finds kept row) places)
    (closed_by file actor command) (closed_any file actor command places) rows

-- a file is taken out wherever it stands unclosed
pub taken_own : (file : ℕ) (places : List OpenRow) (rows : List FileRow) → Covers places rows
    → fold (λ rows kept. without (finds kept) rows) rows (filter (of_file file) places)
    ≡ without (is_unclosed_row file) rows
taken_own file places rows covers =
    taken_all (filter (of_file file) places) rows
    ∙ without_same _ (is_unclosed_row file) rows (own_finds_each file places rows covers)

-- and closed
pub closed_own : (file actor command : ℕ) (places : List OpenRow) (rows : List FileRow)
    → Covers places rows
    → fold (λ rows kept. change_where (finds kept) (closed_by file actor command) rows) rows
    (filter (of_file file) places)
    ≡ change_where (is_unclosed_row file) (closed_by file actor command) rows
closed_own file actor command places rows covers =
    closed_all file actor command (filter (of_file file) places) rows
    ∙ change_same _ (is_unclosed_row file) (closed_by file actor command) rows
    (own_finds_each file places rows covers)

-- ---- the paths stay enough

pub covers_closed : (file actor command : ℕ) (places : List OpenRow) (rows : List FileRow)
    → Covers places rows
    → Covers places (change_where (is_unclosed_row file) (closed_by file actor command) rows)
covers_closed file actor command places rows covers =
    each_change (IsCovered places) (IsCovered places) (is_unclosed_row file)
    (closed_by file actor command) (λ row _ _ number is. absurd (true≢false (sym is)))
    (λ row _ covered. covered) rows covers

-- where another path is kept, those that were found are
pub kept_finds : (new : OpenRow) (places : List OpenRow) (row : FileRow)
    → list_any (λ kept. finds kept row) places ≡ true
    → list_any (λ kept. finds kept row) (place open_cmp new places) ≡ true
kept_finds new [] row any = absurd (true≢false (sym any))
kept_finds new (kept ∷ places) row any =
    (elim (open_cmp new kept) as (λ o. open_cmp new kept ≡ o → list_any (λ kept. finds kept row)
    (place_before new kept places (place open_cmp new places) o) ≡ true) [
      | Less ↦ λ _. or_right (finds new row) _ any
      | Equal ↦ λ tie. ap (λ b. b || list_any (λ kept. finds kept row) places)
          (same_finds new kept row tie) ∙ any
      | Greater ↦ λ _. later (finds kept row) (kept_finds new places row) any
    ]) refl
  where
    or_right : (a b : Bool) → b ≡ true → (a || b) ≡ true
    or_right true b e = refl
    or_right false b e = e

    later : (b : Bool)
        → (list_any (λ kept. finds kept row) places ≡ true
        → list_any (λ kept. finds kept row) (place open_cmp new places) ≡ true)
        → (b || list_any (λ kept. finds kept row) places) ≡ true
        → (b || list_any (λ kept. finds kept row) (place open_cmp new places)) ≡ true
    later true further any = refl
    later false further any = further any

    then_tied : (a b : Ordering) → ordering_then a b ≡ Equal → (a ≡ Equal) × (b ≡ Equal)
    then_tied Less b e = absurd (true≢false (sym (ap is_eq e)))
    then_tied Equal b e = (refl, e)
    then_tied Greater b e = absurd (true≢false (sym (ap is_eq e)))

    same_finds : (new kept : OpenRow) (row : FileRow) → open_cmp new kept ≡ Equal
        → finds new row ≡ finds kept row
    same_finds new kept row tie =
        let t = then_tied (nat_cmp new.file kept.file) (path_cmp new.names kept.names) tie in
        let number : new.file ≡ kept.file = ranked new.file kept.file Equal (sym t.0) in
        (λ i. is_eq (ordering_then (paths_total.congr new.names kept.names row.names t.1 i)
        (cond (is_unclosed_row (number i) row) Equal Less)))

-- and that path finds its own
pub new_finds : (new : OpenRow) (places : List OpenRow) (row : FileRow) → finds new row ≡ true
    → list_any (λ kept. finds kept row) (place open_cmp new places) ≡ true
new_finds new [] row found = ap (λ b. b || false) found
new_finds new (kept ∷ places) row found =
    elim (open_cmp new kept) as (λ o. list_any (λ kept. finds kept row)
    (place_before new kept places (place open_cmp new places) o) ≡ true) [
      | Less ↦ ap (λ b. b || list_any (λ kept. finds kept row) (kept ∷ places)) found
      | Equal ↦ ap (λ b. b || list_any (λ kept. finds kept row) places) found
      | Greater ↦ later (finds kept row) (new_finds new places row found)
    ]
  where
    later : (b : Bool) → list_any (λ kept. finds kept row) (place open_cmp new places) ≡ true
        → (b || list_any (λ kept. finds kept row) (place open_cmp new places)) ≡ true
    later true further = refl
    later false further = further

-- a path that is kept for an unclosed file covers its row
pub covers_own : (file : ℕ) (places : List OpenRow) (row : FileRow)
    → row.holding ≡ Unclosed file
    → IsCovered (place open_cmp (record { file = file; names = row.names }) places) row
covers_own file places row is number own =
    new_finds (record { file = file; names = row.names }) places row
    (finds_is (record { file = file; names = row.names }) row
    ∙ (λ i. is_eq (tied_itself paths_total row.names i) && holds_unclosed file (is i))
    ∙ eqb_refl file)
  where
    eqb_refl : (n : ℕ) → (n == n) ≡ true
    eqb_refl n = eq-eqb n n refl

-- a directory or a closed file needs none
pub covers_other : (places : List OpenRow) (row : FileRow)
    → ((file : ℕ) → holds_unclosed file row.holding ≡ false) → IsCovered places row
covers_other places row other file is = absurd (true≢false (sym is ∙ other file))
