-- The best one of the servers, one server after another.
use Rattle.std.proofs.Common.{◌≡◌, ℕ, ◌+◌, true, false, cond, List, ◌∷◌, filter, fold, Option, Some, None, length, refl, subst, arith}
use Rattle.std.specs.List.{reduce, enumerate_from}
use Rattle.std.specs.Prelude.{IfSome}
use Rattle.qfs_base.specs.EachLaws.{each_filter}
use Rattle.qfs_base.specs.declared.image.Load.{Load}
use Rattle.qfs_laws_slots.specs.Choice.{IsNumbered, enumerated, reduced}
use Rattle.qfs_model_meta.specs.Grammar.{IsServer}
use Rattle.qfs_model_meta.specs.Placing.{Numbered, is_open, open_servers, choose}
use Rattle.qfs_place.specs.Choosing.{best_with, better_of}
use Rattle.qfs_place.specs.declared.choosing.Wanted.{Wanted}

-- the best of a server that may be there and of those behind it
abbrev pub best_from : Wanted → Option Numbered → List Numbered → Option Numbered
best_from wanted None servers = reduce (better_of wanted) servers
best_from wanted (Some best) servers = Some (fold (better_of wanted) best servers)

-- the servers from a number on that may get a new chunk
abbrev pub open_from : List ℕ → ℕ → List Load → List Numbered
open_from barred number loads = filter (is_open barred) (enumerate_from number loads)

pub best_next : (wanted : Wanted) (barred : List ℕ) (best : Option Numbered) (number : ℕ)
    (load : Load) (loads : List Load)
    → best_from wanted (best_with wanted barred best (number, load))
    (open_from barred (number + 1) loads)
    ≡ best_from wanted best (open_from barred number (load ∷ loads))
best_next wanted barred None number load loads =
    let rest : List Numbered = open_from barred (number + 1) loads in
    elim (is_open barred (number, load)) as (λ b.
    best_from wanted (cond b (Some (number, load)) None) rest
    ≡ best_from wanted None (cond b ((number, load) ∷ rest) rest)) [
      | true ↦ refl
      | false ↦ refl
    ]
best_next wanted barred (Some best) number load loads =
    let rest : List Numbered = open_from barred (number + 1) loads in
    elim (is_open barred (number, load)) as (λ b.
    best_from wanted (cond b (Some (better_of wanted best (number, load))) (Some best)) rest
    ≡ best_from wanted (Some best) (cond b ((number, load) ∷ rest) rest)) [
      | true ↦ refl
      | false ↦ refl
    ]

-- who is chosen is one of the servers
pub chosen_number : (loads : List Load) (barred : List ℕ)
    → IfSome (choose loads barred) (IsServer (length loads))
unfolding choose open_servers
chosen_number loads barred =
    elim (choose loads barred) as
    (λ (o : Option ℕ). choose loads barred ≡ o → IfSome o (IsServer (length loads))) [
      | None ↦ λ _. tt
      | Some number ↦ λ is.
          let among = reduced (IsNumbered 1 (1 + length loads))
          (filter (is_open barred) (enumerate_from 1 loads)) number
          (λ s within n e. subst (λ k. IsNumbered 1 (1 + length loads) (k, s.1)) e within)
          (each_filter (IsNumbered 1 (1 + length loads)) (is_open barred) (enumerate_from 1 loads)
          (enumerated 1 loads)) is in
          let same = among.1 in
          let low = among.2.0 in
          let high = among.2.1 in
          (omega (arith, same, low), omega (arith, same, high))
    ] refl
