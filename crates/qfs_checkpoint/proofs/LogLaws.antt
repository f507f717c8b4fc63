-- Reading a log record by record.
use Rattle.std.proofs.Common.{◌≡◌, ◌≢◌, ◌∙◌, refl, sym, ap, arith, ℕ, ◌+◌, ◌-◌, ◌<◌, ◌≤◌, zero, suc, cond, false, List, [], ◌∷◌, ◌++◌, length, get_or, drop, length-drop, Some, None, Result, Ok, Err}
use Rattle.std.specs.Prelude.{◌==◌}
use Rattle.std.proofs.lemmas.Bool.Decides.{nat_tests}
use Rattle.std.proofs.lemmas.List.{drop-drop, drop_more, drop_all}
use Rattle.qfs_model_disks.specs.LogRecord.{log_record_at}
use Rattle.qfs_model_disks.specs.Spelled.{records_from, records_behind, with_record}
use Rattle.qfs_model_meta.specs.Step.{Logged}
use Rattle.qfs_checkpoint.specs.Gate.{gate_from, gate_behind}
use Rattle.qfs_checkpoint.specs.Reading.{HasRead, with_records}

-- ---- records before others

pub with_more : (records : List Logged) (one : Logged) (found : Result (List Logged) ℕ) → with_records (records ++ one ∷ []) found ≡ with_records records (with_record one found)
with_more [] one found = refl
with_more (first ∷ records) one found = ap (λ r. with_record first r) (with_more records one found)

pub with_none : (records : List Logged) → with_records records (Ok []) ≡ Ok records
unfolding with_record
with_none [] = refl
with_none (first ∷ records) = ap (λ r. with_record first r) (with_none records)

pub with_bad : (records : List Logged) (offset : ℕ) → with_records records (Err offset) ≡ Err offset
unfolding with_record
with_bad [] offset = refl
with_bad (first ∷ records) offset = ap (λ r. with_record first r) (with_bad records offset)

-- ---- one gate

-- bytes from a place on, by the gate there
open_case : (most at : ℕ) (disk : List ℕ) → at < length disk → get_or disk at 0 ≡ 1
    → (records_from (suc most) at (drop at disk) ≡ records_behind (records_from most) (at + 1) (drop (at + 1) disk) (log_record_at (drop (at + 1) disk)))
    × (gate_from (suc most) at (drop at disk) ≡ gate_behind (gate_from most) (at + 1) (drop (at + 1) disk) (log_record_at (drop (at + 1) disk)))
unfolding records_from gate_from
open_case most at disk inside opened =
    let split = drop_more disk at 0 inside ∙ ap (λ n. n ∷ drop (at + 1) disk) opened in
    (ap (λ (l : List ℕ). records_from (suc most) at l) split, ap (λ (l : List ℕ). gate_from (suc most) at l) split)

shut_test : (g : ℕ) → g ≢ 1 → (g == 1) ≡ false
shut_test g shut = grind (arith, nat_tests, shut)

shut_case : (most at : ℕ) (disk : List ℕ) → at < length disk → get_or disk at 0 ≢ 1 → (records_from (suc most) at (drop at disk) ≡ Ok []) × (gate_from (suc most) at (drop at disk) ≡ at)
unfolding records_from gate_from
shut_case most at disk inside shut =
    let split = drop_more disk at 0 inside in
    let off = shut_test (get_or disk at 0) shut in
    let rest = drop (at + 1) disk in (
      ap (λ (l : List ℕ). records_from (suc most) at l) split ∙ ap (λ b. cond b (records_behind (records_from most) (at + 1) rest (log_record_at rest)) (Ok [])) off,
      ap (λ (l : List ℕ). gate_from (suc most) at l) split ∙ ap (λ b. cond b (gate_behind (gate_from most) (at + 1) rest (log_record_at rest)) at) off,
    )

-- ---- steps

pub starts : (disk : List ℕ) (start : ℕ) → HasRead disk start start []
starts disk start = record { most = length disk; enough = omega arith; found = refl; gate = refl }

pub goes_on : (disk : List ℕ) (start at size : ℕ) (records : List Logged) (one : Logged) → HasRead disk start at records → at < length disk → get_or disk at 0 ≡ 1 → size ≤ length (drop (at + 1) disk)
    → Some (one, drop size (drop (at + 1) disk)) ≡ log_record_at (drop (at + 1) disk) → HasRead disk start (at + (1 + size)) (records ++ one ∷ [])
unfolding records_behind gate_behind
goes_on disk start at size records one read inside opened fits is = go read.most read.enough read.found read.gate
  where
    rest : List ℕ
    rest = drop (at + 1) disk

    next : at + 1 + (length rest - length (drop size rest)) ≡ at + (1 + size)
    next = omega (arith, fits, length-drop size rest)

    behind : drop size rest ≡ drop (at + (1 + size)) disk
    behind = drop-drop size (at + 1) disk ∙ ap (λ n. drop n disk) (omega arith)

    go : (most : ℕ) → length disk ≤ at + most → records_from (length disk) start (drop start disk) ≡ with_records records (records_from most at (drop at disk)) → gate_from (length disk) start (drop start disk) ≡ gate_from most at (drop at disk) → HasRead disk start (at + (1 + size)) (records ++ one ∷ [])
    go zero enough found gate = absurd (omega (arith, enough, inside))
    go (suc most) enough found gate = record {
      most = most;
      enough = omega (arith, enough);
      found = found
          ∙ ap (λ r. with_records records r) ((open_case most at disk inside opened).0 ∙ ap (λ f. records_behind (records_from most) (at + 1) rest f) (sym is)
          ∙ ap (λ n. with_record one (records_from most n (drop size rest))) next ∙ ap (λ (l : List ℕ). with_record one (records_from most (at + (1 + size)) l)) behind)
          ∙ sym (with_more records one (records_from most (at + (1 + size)) (drop (at + (1 + size)) disk)));
      gate = gate ∙ (open_case most at disk inside opened).1 ∙ ap (λ f. gate_behind (gate_from most) (at + 1) rest f) (sym is)
          ∙ ap (λ n. gate_from most n (drop size rest)) next ∙ ap (λ (l : List ℕ). gate_from most (at + (1 + size)) l) behind;
    }

-- ---- ends

pub ends_shut : (disk : List ℕ) (start at : ℕ) (records : List Logged) → HasRead disk start at records → at < length disk → get_or disk at 0 ≢ 1
    → (records_from (length disk) start (drop start disk) ≡ Ok records) × (gate_from (length disk) start (drop start disk) ≡ at)
ends_shut disk start at records read inside shut = go read.most read.enough read.found read.gate
  where
    go : (most : ℕ) → length disk ≤ at + most → records_from (length disk) start (drop start disk) ≡ with_records records (records_from most at (drop at disk)) → gate_from (length disk) start (drop start disk) ≡ gate_from most at (drop at disk) → (records_from (length disk) start (drop start disk) ≡ Ok records) × (gate_from (length disk) start (drop start disk) ≡ at)
    go zero enough found gate = absurd (omega (arith, enough, inside))
    go (suc most) enough found gate =
        let case = shut_case most at disk inside shut in (found ∙ ap (λ r. with_records records r) case.0 ∙ with_none records, gate ∙ case.1)

pub ends_bad : (disk : List ℕ) (start at : ℕ) (records : List Logged) → HasRead disk start at records → at < length disk → get_or disk at 0 ≡ 1 → None ≡ log_record_at (drop (at + 1) disk)
    → records_from (length disk) start (drop start disk) ≡ Err (at + 1)
unfolding records_behind
ends_bad disk start at records read inside opened none = go read.most read.enough read.found
  where
    go : (most : ℕ) → length disk ≤ at + most → records_from (length disk) start (drop start disk) ≡ with_records records (records_from most at (drop at disk)) → records_from (length disk) start (drop start disk) ≡ Err (at + 1)
    go zero enough found = absurd (omega (arith, enough, inside))
    go (suc most) enough found =
        found ∙ ap (λ r. with_records records r) ((open_case most at disk inside opened).0 ∙ ap (λ f. records_behind (records_from most) (at + 1) (drop (at + 1) disk) f) (sym none)) ∙ with_bad records (at + 1)

pub ends_out : (disk : List ℕ) (start at : ℕ) (records : List Logged) → HasRead disk start at records → length disk ≤ at → records_from (length disk) start (drop start disk) ≡ Err at
unfolding records_from
ends_out disk start at records read past =
    read.found ∙ ap (λ (l : List ℕ). with_records records (records_from read.most at l)) (drop_all at disk past) ∙ with_bad records at
