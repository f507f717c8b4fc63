-- What changing each row of a table does.
use Rattle.std.proofs.Common.{◌≡◌, ℕ, ◌+◌, ◌<◌, Bool, List, [], ◌∷◌, ◌++◌, length, take, drop, map, slice_set, slice_index_or, refl, ap, sym, ◌∙◌, append_assoc, arith}
use Rattle.std.proofs.lemmas.List.{drop_more, take_more_set, drop-set-lt}
use Rattle.qfs_base.specs.Table.{change_row, change_where}

-- one more row has been changed
pub change_goes_on : {X : Type 0} (f : X → X) (rows first : List X) (at : ℕ) (d y : X) → at < length rows →
    take at rows ++ map f (drop at rows) ≡ map f first →
    y ≡ f (slice_index_or rows at d) →
    take (at + 1) (slice_set rows at y) ++ map f (drop (at + 1) (slice_set rows at y)) ≡ map f first
change_goes_on f rows first at d y within before changed =
    ap (λ front. front ++ map f (drop (at + 1) (slice_set rows at y))) (take_more_set rows at y within)
    ∙ ap (λ rest. (take at rows ++ y ∷ []) ++ map f rest) (drop-set-lt (at + 1) rows at y (omega arith))
    ∙ append_assoc (take at rows) (y ∷ []) (map f (drop (at + 1) rows))
    ∙ ap (λ x. take at rows ++ x ∷ map f (drop (at + 1) rows)) changed
    ∙ ap (λ rest. take at rows ++ map f rest) (sym (drop_more rows at d within))
    ∙ before

-- the rows that pass a test change where each row changes if it passes
pub change_where-map : {X : Type 0} (test : X → Bool) (change : X → X) (rows : List X) →
    change_where test change rows ≡ map (λ row. change_row change row (test row)) rows
change_where-map test change [] = refl
change_where-map test change (row ∷ rows) =
    ap (λ rest. change_row change row (test row) ∷ rest) (change_where-map test change rows)
