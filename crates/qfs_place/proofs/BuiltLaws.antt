-- What the loops that make a census keep.
use Rattle.std.proofs.Common.{◌≡◌, ◌∙◌, ℕ, ◌+◌, ◌<◌, ◌≤◌, List, [], ◌∷◌, ◌++◌, length, drop, take, map, slice_index_or, append_assoc, refl, sym, ap}
use Rattle.std.proofs.lemmas.List.{drop_more, take_more, append-nil}
use Rattle.std.proofs.Math.ListN.{drop_of_length-le}
use Rattle.std.specs.List.{enumerate_from}
use Rattle.qfs_base.specs.declared.image.Load.{Load}
use Rattle.qfs_base.specs.declared.image.ServerView.{ServerView}
use Rattle.qfs_base.specs.declared.image.SlotRow.{SlotRow}
use Rattle.qfs_model_meta.specs.Placing.{load_of, census}
use Rattle.qfs_place.specs.Loads.{count_row}
use Rattle.qfs_place.specs.LoadLaws.{census_row, count_on_none}

-- the loads of the servers from a number on that have no copies
abbrev pub empty_from : ℕ → List ServerView → List Load
empty_from number servers =
    map (λ (s : ℕ × ServerView). load_of [] s.0 s.1) (enumerate_from number servers)

pub empty_all : (servers : List ServerView) → empty_from 1 servers ≡ census servers []
unfolding census
empty_all servers = refl

pub empty_load : (number : ℕ) (server : ServerView)
    → load_of [] number server ≡ record { up = server.up; leaving = server.leaving; count = 0 }
unfolding load_of
empty_load number server =
    ap (λ (count : ℕ). record { up = server.up; leaving = server.leaving; count = count })
    (count_on_none number server.life)

-- the loads with that of one server more
pub empty_next : (servers : List ServerView) (done : List Load) (at : ℕ) (d : ServerView)
    → at < length servers
    → (done ++ record {
      up = (slice_index_or servers at d).up;
      leaving = (slice_index_or servers at d).leaving;
      count = 0;
    } ∷ []) ++ empty_from (at + 1 + 1) (drop (at + 1) servers)
    ≡ done ++ empty_from (at + 1) (drop at servers)
empty_next servers done at d within =
    let server : ServerView = slice_index_or servers at d in
    let load : Load = record { up = server.up; leaving = server.leaving; count = 0 } in
    let rest : List Load = empty_from (at + 1 + 1) (drop (at + 1) servers) in
    append_assoc done (load ∷ []) rest
    ∙ ap (λ x. done ++ x ∷ rest) (sym (empty_load (at + 1) server))
    ∙ ap (λ left. done ++ empty_from (at + 1) left) (sym (drop_more servers at d within))

pub empty_end : (servers : List ServerView) (done : List Load) (at : ℕ) → length servers ≤ at
    → done ++ empty_from (at + 1) (drop at servers) ≡ done
empty_end servers done at past =
    ap (λ left. done ++ empty_from (at + 1) left) (drop_of_length-le servers past)
    ∙ append-nil done

-- the census with one slot more
pub row_next : (servers : List ServerView) (slots : List SlotRow) (at : ℕ) (row : SlotRow)
    → at < length slots → row ≡ slice_index_or slots at row
    → count_row servers (census servers (take at slots)) row ≡ census servers (take (at + 1) slots)
row_next servers slots at row within read =
    sym (census_row servers (take at slots) row)
    ∙ ap (λ x. census servers (take at slots ++ x ∷ [])) read
    ∙ ap (census servers) (sym (take_more slots at row within))
