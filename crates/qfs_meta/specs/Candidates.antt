-- The choice of a server, one server after another.
use Rattle.std.specs.Prelude.{ℕ, ◌+◌, ◌-◌, nat_lt, count_by, cond, not, ◌&&◌, List, [], ◌∷◌, Option, Some, None}
use Rattle.std.specs.Option.{option_to_list}
use Rattle.qfs_base.specs.declared.chunk.Copy.{Copy}
use Rattle.qfs_base.specs.declared.image.ServerView.{ServerView}
use Rattle.qfs_base.specs.NumberSet.{has}
use Rattle.qfs_model_meta.specs.Slots.{is_on}
use Rattle.qfs_meta.specs.Kept.{IsServerNumber}
use Rattle.qfs_meta.specs.declared.census.Candidate.{Candidate}

-- a candidate is a server
abbrev pub IsCandidate : Candidate → Type 0
IsCandidate candidate = IsServerNumber candidate.server

-- the candidate with the lower load, and of two with the same the first
abbrev pub lighter_of : Option Candidate → Candidate → Candidate
lighter_of None next = next
lighter_of (Some best) next = cond (nat_lt next.load best.load) next best

-- the best candidate once the server of a number, with this load, was looked at too
abbrev pub after_server : List ℕ → Option Candidate → ℕ → ServerView → ℕ → Option Candidate
after_server barred best number server load =
    cond (server.up && not server.leaving && not (has barred number))
    (Some (lighter_of best (record { server = number; load = load })))
    best

-- a server's load without a copy, if it stands there
abbrev pub load_without : Option Copy → ℕ → ServerView → ℕ → ℕ
load_without copy number server load = load - count_by (is_on number server.life) (option_to_list copy)

-- the best candidate once the servers from a number on, with these loads but for a copy, were looked at too
abbrev pub best_from : Option Copy → List ℕ → Option Candidate → ℕ → List ServerView → List ℕ → Option Candidate
best_from copy barred best number [] loads = best
best_from copy barred best number (server ∷ servers) [] = best
best_from copy barred best number (server ∷ servers) (load ∷ loads) =
    best_from copy barred (after_server barred best number server (load_without copy number server load)) (number + 1) servers loads
