-- What the loops of the choice of a server keep.
use Rattle.std.proofs.Common.{◌≡◌, ℕ, ◌+◌, nat_lt, true, false, cond, not, ◌&&◌, List, [], ◌∷◌, map, filter, fold, Option, Some, None, refl, sym, ap, ◌∙◌}
use Rattle.std.proofs.lemmas.List.Sums.{fold-append}
use Rattle.std.specs.Option.{option_map}
use Rattle.std.specs.List.{reduce, enumerate_from, flat_map}
use Rattle.qfs_base.specs.declared.image.ServerView.{ServerView}
use Rattle.qfs_base.specs.declared.image.SlotRow.{SlotRow}
use Rattle.qfs_base.specs.declared.chunk.Copy.{Copy}
use Rattle.qfs_base.specs.NumberSet.{has, with_member}
use Rattle.qfs_model_meta.specs.Servers.{is_live}
use Rattle.qfs_model_meta.specs.Placing.{Numbered, load_of, census, is_open, open_servers, lighter, choose, with_live_servers}
use Rattle.qfs_meta.specs.declared.census.Candidate.{Candidate}
use Rattle.qfs_meta.specs.Candidates.{lighter_of, after_server, best_from}
use Rattle.qfs_meta.specs.Granting.{granted_elsewhere, IsLeftOut}
use Rattle.qfs_meta.specs.Loads.{loads_of}
use Rattle.qfs_meta.proofs.LoadLaws.{loads_from}

-- the copies that the grants of these rows allow, but for those of a slot
abbrev pub grants_of : ℕ → List SlotRow → List Copy
grants_of slot rows = flat_map (granted_elsewhere slot) rows

pub barred-none : (servers : List ServerView) (set : List ℕ) (slot : ℕ) → with_live_servers servers set (grants_of slot []) ≡ set
unfolding with_live_servers
barred-none servers set slot = refl

-- a row's grant is barred first, and then those of the rows behind it
pub barred-next : (servers : List ServerView) (set : List ℕ) (slot : ℕ) (row : SlotRow) (rows : List SlotRow) →
    with_live_servers servers set (grants_of slot (row ∷ rows))
    ≡ with_live_servers servers (with_live_servers servers set (granted_elsewhere slot row)) (grants_of slot rows)
unfolding with_live_servers
barred-next servers set slot row rows =
    fold-append (λ members (copy : Copy). cond (is_live servers copy) (with_member members copy.server) members) set (granted_elsewhere slot row) (grants_of slot rows)

-- a server as placement sees it, as a candidate
abbrev pub as_candidate : Numbered → Candidate
as_candidate s = record { server = s.0; load = s.1.count }

as_candidate-lighter : (best next : Numbered) → lighter_of (Some (as_candidate best)) (as_candidate next) ≡ as_candidate (lighter best next)
unfolding lighter
as_candidate-lighter best next =
    elim (nat_lt next.1.count best.1.count) as (λ b. cond b (as_candidate next) (as_candidate best) ≡ as_candidate (cond b next best))
    [ true ↦ refl | false ↦ refl ]

server_of_candidate : (server : Option Numbered) → option_map (λ (c : Candidate). c.server) (option_map as_candidate server) ≡ option_map (λ (s : Numbered). s.0) server
server_of_candidate None = refl
server_of_candidate (Some s) = refl

-- the lightest of a server that may be there and of those behind it
abbrev pub lightest : Option Numbered → List Numbered → Option Numbered
lightest None servers = reduce lighter servers
lightest (Some best) servers = Some (fold lighter best servers)

-- the servers from a number on, as placement sees them
abbrev pub open_from : List SlotRow → List ℕ → ℕ → List ServerView → List Numbered
open_from slots barred number servers =
    filter (is_open barred) (enumerate_from number (map (λ (s : ℕ × ServerView). load_of slots s.0 s.1) (enumerate_from number servers)))

pub best_from-lightest : (copy : Option Copy) (slots others : List SlotRow) → IsLeftOut copy slots others →
    (barred : List ℕ) (best : Option Numbered) (number : ℕ) (servers : List ServerView) →
    best_from copy barred (option_map as_candidate best) number servers (loads_from number servers slots)
    ≡ option_map as_candidate (lightest best (open_from others barred number servers))
unfolding is_open load_of lighter
best_from-lightest copy slots others left barred None number [] = refl
best_from-lightest copy slots others left barred (Some best) number [] = refl
best_from-lightest copy slots others left barred None number (server ∷ servers) =
    let next : Numbered = (number, load_of others number server) in
    let rest : List Numbered = open_from others barred (number + 1) servers in
    ap (λ load. best_from copy barred (after_server barred None number server load) (number + 1) servers (loads_from (number + 1) servers slots)) (sym (left number server.life))
    ∙ elim (server.up && not server.leaving && not (has barred number)) as (λ b.
    best_from copy barred (cond b (Some (as_candidate next)) None) (number + 1) servers (loads_from (number + 1) servers slots)
    ≡ option_map as_candidate (lightest None (cond b (next ∷ rest) rest))) [
      | true ↦ best_from-lightest copy slots others left barred (Some next) (number + 1) servers
      | false ↦ best_from-lightest copy slots others left barred None (number + 1) servers
    ]
best_from-lightest copy slots others left barred (Some best) number (server ∷ servers) =
    let next : Numbered = (number, load_of others number server) in
    let rest : List Numbered = open_from others barred (number + 1) servers in
    ap (λ load. best_from copy barred (after_server barred (Some (as_candidate best)) number server load) (number + 1) servers (loads_from (number + 1) servers slots)) (sym (left number server.life))
    ∙ elim (server.up && not server.leaving && not (has barred number)) as (λ b.
    best_from copy barred (cond b (Some (lighter_of (Some (as_candidate best)) (as_candidate next))) (Some (as_candidate best))) (number + 1) servers (loads_from (number + 1) servers slots)
    ≡ option_map as_candidate (lightest (Some best) (cond b (next ∷ rest) rest))) [
      | true ↦
          ap (λ c. best_from copy barred (Some c) (number + 1) servers (loads_from (number + 1) servers slots)) (as_candidate-lighter best next)
          ∙ best_from-lightest copy slots others left barred (Some (lighter best next)) (number + 1) servers
      | false ↦ best_from-lightest copy slots others left barred (Some best) (number + 1) servers
    ]

-- the best candidate of all servers is the one that is chosen
pub best_from-choose : (copy : Option Copy) (slots others : List SlotRow) → IsLeftOut copy slots others → (barred : List ℕ) (servers : List ServerView) →
    option_map (λ (c : Candidate). c.server) (best_from copy barred None 1 servers (loads_of servers slots)) ≡ choose (census servers others) barred
unfolding choose census open_servers
best_from-choose copy slots others left barred servers =
    ap (option_map (λ (c : Candidate). c.server)) (best_from-lightest copy slots others left barred None 1 servers)
    ∙ server_of_candidate (lightest None (open_from others barred 1 servers))
