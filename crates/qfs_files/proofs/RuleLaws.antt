-- What the rules of the name tree say of the rows. `parents_next` belongs to qfs_base.
use Rattle.std.proofs.Common.{◌≡◌, ℕ, suc, ◌<◌, ◌+◌, ◌-◌, Bool, true, false, cond, List, [], ◌∷◌, ◌++◌, ◌||◌, length, map, take, find, Option, Some, None, refl, ap, ◌∙◌, arith}
use Rattle.std.proofs.lemmas.List.{append_assoc, append-nil}
use Rattle.std.specs.Option.{option_map, option_or}
use Rattle.std.specs.List.{cons_option, list_any, range_with_len}
use Rattle.std.specs.Prelude.{filter_map}
use Rattle.qfs_base.specs.declared.reply.TreeRefusal.{TreeRefusal}
use Rattle.qfs_base.specs.NameTree.{PathNames, Standing, grows_too_deep, is_below, is_filled, kind_at, names_below, path_eq, stands_at}
use Rattle.qfs_base.specs.Table.{first_of}
use Rattle.qfs_files.specs.declared.row.FileRow.{FileRow}
use Rattle.qfs_files.specs.declared.row.Holding.TheVariants.{Directory}
use Rattle.qfs_files.specs.Rows.{child_at, is_deep, kind_held, row_names, standing_of}

find_standing : (rows : List FileRow) (path : PathNames) →
    option_map (λ (row : Standing). row.kind)
    (find (λ (row : Standing). path_eq row.path path) (standing_of rows))
    ≡ option_map (λ (row : FileRow). kind_held row.holding) (find (stands_at row_names path) rows)
find_standing [] path = refl
find_standing (row ∷ rows) path =
    elim (path_eq row.names path) as (λ b.
    option_map (λ (row : Standing). row.kind)
    (cond b (Some (record { path = row.names; kind = kind_held row.holding }))
    (find (λ (row : Standing). path_eq row.path path) (standing_of rows)))
    ≡ option_map (λ (row : FileRow). kind_held row.holding)
    (cond b (Some row) (find (stands_at row_names path) rows)))
    [ true ↦ refl | false ↦ find_standing rows path ]

-- below the root the row of a path tells what stands there
pub kind_at_filled : (rows : List FileRow) (path : PathNames) → 0 < length path →
    kind_at (standing_of rows) path
    ≡ option_map (λ (row : FileRow). kind_held row.holding) (find (stands_at row_names path) rows)
unfolding kind_at
kind_at_filled rows [] above = absurd (omega arith)
kind_at_filled rows (name ∷ names) above = find_standing rows (name ∷ names)

-- a parent that may be led through leaves the choice to those below it
pub parents_next : (refusal_at : PathNames → Option TreeRefusal) (names : PathNames) (depth : ℕ)
    → depth < length names → refusal_at (take depth names) ≡ None
    → first_of refusal_at (map (λ n. take n names) (range_with_len depth (length names - depth)))
    ≡ first_of refusal_at
    (map (λ n. take n names) (range_with_len (depth + 1) (length names - (depth + 1))))
parents_next refusal_at names depth within passed =
    let e : length names - depth ≡ suc (length names - (depth + 1)) = omega arith in
    ap (λ k. first_of refusal_at (map (λ n. take n names) (range_with_len depth k))) e
    ∙ ap (λ o. option_or o (first_of refusal_at
    (map (λ n. take n names) (range_with_len (depth + 1) (length names - (depth + 1)))))) passed

any_standing : (test : PathNames → Bool) (rows : List FileRow)
    → list_any (λ (row : Standing). test row.path) (standing_of rows)
    ≡ list_any (λ (row : FileRow). test row.names) rows
any_standing test [] = refl
any_standing test (row ∷ rows) = ap (λ b. test row.names || b) (any_standing test rows)

-- whether something stands below a directory that isn't the root
pub filled_below : (rows : List FileRow) (path : PathNames) → 0 < length path
    → is_filled (standing_of rows) path
    ≡ list_any (λ (row : FileRow). is_below path row.names) rows
unfolding is_filled
filled_below rows [] above = absurd (omega arith)
filled_below rows (name ∷ names) above = any_standing (is_below (name ∷ names)) rows

-- whether something within a path would lie too deep within another
pub too_deep : (from to : PathNames) (rows : List FileRow)
    → grows_too_deep (standing_of rows) from to ≡ list_any (is_deep from to) rows
unfolding grows_too_deep
too_deep from to rows =
    any_standing (λ names. is_deep from to (row_with names)) rows
  where
    row_with : PathNames → FileRow
    row_with names = record { names = names; holding = Directory }

-- the names right below a directory, row by row
pub children : (directory : PathNames) (rows : List FileRow)
    → names_below (standing_of rows) directory ≡ filter_map (child_at directory) rows
unfolding names_below
children directory [] = refl
children directory (row ∷ rows) =
    ap (cons_option (child_at directory row)) (children directory rows)

-- a name that may be put behind others, and then more
pub push_option : {X : Type 0} (xs : List X) (more : Option X) (ys : List X)
    → (xs ++ cons_option more []) ++ ys ≡ xs ++ cons_option more ys
push_option xs None ys = ap (λ zs. zs ++ ys) (append-nil xs)
push_option xs (Some x) ys = append_assoc xs (x ∷ []) ys
