-- The records of requests: each is read back, none is the front of another's, and what is read was written so.
use Rattle.std.proofs.Common.{◌≡◌, ◌∙◌, refl, sym, ap, subst, arith, ℕ, ◌<◌, ◌^◌, cond, false, ltb, List, [], ◌∷◌, ◌++◌, length, take, drop, ◌-◌, ◌≤◌, append_assoc, append-nil, Option, Some, None}
use Rattle.std.specs.Int.{to_be_bytes, w32}
use Rattle.std.specs.Option.{option_and_then}
use Rattle.std.proofs.lemmas.Bool.{le-ltb}
use Rattle.std.proofs.lemmas.List.{take_at, drop_at, length-append}
use Rattle.qfs_model_disks.specs.LogRecord.{IsLogRecord, log_body, log_record, log_record_at, whole_body}
use Rattle.qfs_model_meta.specs.Step.{Logged}
use Rattle.qfs_record.specs.Part.{AreBytes, counted}
use Rattle.qfs_record.proofs.PartLaws.{IsPart, Takes, counted32, map_some, number32, pair-is_part, then_some}
use Rattle.qfs_spelling.proofs.Fronts.{are_apart, behind_front, read_front, read_none, read_only}
use Rattle.qfs_spelling.proofs.ValueLaws.{from_one-is_part}
use Rattle.qfs_journal.proofs.RequestLaws.{request-is_part}

body-is_part : IsPart log_body
body-is_part = pair-is_part _ _ from_one-is_part request-is_part

-- a body that was read whole
whole_was : (found : Option (Logged × List ℕ)) (logged : Logged) → whole_body found ≡ Some logged → found ≡ Some (logged, [])
unfolding whole_body
whole_was None logged is = absurd cc
whole_was (Some (one, [])) logged is = let same : one ≡ logged = cc in ap (λ (l : Logged). Some (l, [])) same
whole_was (Some (one, byte ∷ bytes)) logged is = absurd cc

-- what is read behind a count
abbrev behind_count : ℕ × List ℕ → Option (List ℕ × List ℕ)
behind_count count = cond (ltb (length count.1) count.0) None (Some (take count.0 count.1, drop count.0 count.1))

counted_here : (text rest : List ℕ) → behind_count (length text, text ++ rest) ≡ Some (text, rest)
counted_here text rest =
    let long : ltb (length (text ++ rest)) (length text) ≡ false = le-ltb _ _ (omega (arith, length-append text rest)) in
    rw (long, take_at text rest (length text) refl, drop_at text rest (length text) refl) refl

counted_again : (text rest : List ℕ) → length text < 2 ^ 32 → (counted w32).read ((counted w32).text text ++ rest) ≡ Some (text, rest)
counted_again text rest short =
    ap (counted w32).read (append_assoc (to_be_bytes w32 (length text)) text rest)
    ∙ ap (option_and_then {U = List ℕ × List ℕ} behind_count) (number32.again (length text) (text ++ rest) short)
    ∙ counted_here text rest

record_again : (logged : Logged) (rest : List ℕ) → IsLogRecord logged → log_record_at (log_record.text logged ++ rest) ≡ Some (logged, rest)
unfolding log_record_at whole_body
record_again logged rest is =
    let text = log_body.text logged in
    let body : log_body.read text ≡ Some (logged, []) = ap log_body.read (sym (append-nil text)) ∙ body-is_part.again logged [] is.body in
    rw (counted_again text rest is.short, body) refl

record_spelled : (bytes : List ℕ) (logged : Logged) (rest : List ℕ) → AreBytes bytes → log_record_at bytes ≡ Some (logged, rest) → Takes log_record bytes logged rest
unfolding log_record_at
record_spelled bytes logged rest are read =
    let f = then_some ((counted w32).read bytes) _ (logged, rest) read in
    let body = f.0 in
    let m = map_some (whole_body (log_body.read body.0)) (λ (one : Logged). (one, body.1)) (logged, rest) f.2 in
    let one = m.0 in
    let t = counted32.spelled bytes body.0 body.1 are f.1 in
    let p = body-is_part.spelled body.0 one [] t.fits.0 (whole_was (log_body.read body.0) one m.1) in
    let text : body.0 ≡ log_body.text one = p.parts ∙ append-nil (log_body.text one) in
    let takes : Takes log_record bytes one body.1 = record {
      fits = record { body = p.fits; short = subst (λ (t : List ℕ). length t < 2 ^ 32) text t.fits.1 };
      parts = t.parts ∙ ap (λ (t : List ℕ). (counted w32).text t ++ body.1) text;
      rest_fits = t.rest_fits;
    } in
    subst (λ (r : Logged × List ℕ). Takes log_record bytes r.0 r.1) m.2 takes

pub record-is_part : IsPart log_record
record-is_part = record { again = record_again; spelled = record_spelled }

-- ---- what the program reads

pub not_counted : (input : List ℕ) → None ≡ (counted w32).read input → None ≡ log_record_at input
unfolding log_record_at
not_counted input none = rw (sym none) refl

pub no_body : (input body rest : List ℕ) → Some (body, rest) ≡ (counted w32).read input → None ≡ whole_body (log_body.read body) → None ≡ log_record_at input
unfolding log_record_at
no_body input body rest counted none = rw (sym counted, sym none) refl

pub record_read : (input body rest : List ℕ) (logged : Logged) → AreBytes input → Some (body, rest) ≡ (counted w32).read input
    → Some logged ≡ whole_body (log_body.read body)
    → (length rest ≤ length input) × (Some (logged, drop (length input - length rest) input) ≡ log_record_at input)
unfolding log_record_at
record_read input body rest logged are found whole =
    let t = counted32.spelled input body rest are (sym found) in
    let behind = behind_front input ((counted w32).text body) rest t.parts in (
      omega (arith, ap length t.parts, length-append ((counted w32).text body) rest),
      rw (sym found, sym whole, behind) refl,
    )

-- the clauses of a read record follow from what the definition reads
pub found_whole : (input : List ℕ) (logged : Logged) (size : ℕ) → AreBytes input → size ≤ length input → Some (logged, drop size input) ≡ log_record_at input
    → IsLogRecord logged × (take size input ≡ log_record.text logged)
found_whole input logged size are within read = read_front log_record record-is_part input logged size are within (sym read)

pub found_only : (input : List ℕ) (logged : Logged) (size : ℕ) → AreBytes input → size ≤ length input → Some (logged, drop size input) ≡ log_record_at input
    → (other : Logged) (rest : List ℕ) → IsLogRecord other → input ≡ log_record.text other ++ rest
    → (logged ≡ other) × (size ≡ length (log_record.text other))
found_only input logged size are within read = read_only log_record record-is_part input logged size are within (sym read)

pub found_none : {X : Type 0} (input : List ℕ) → None ≡ log_record_at input → (other : Logged) (rest : List ℕ) → IsLogRecord other
    → input ≡ log_record.text other ++ rest → X
found_none input read = read_none log_record record-is_part input (sym read)

pub records_apart : (one other : Logged) (rest after : List ℕ) → IsLogRecord one → IsLogRecord other
    → log_record.text one ++ rest ≡ log_record.text other ++ after → (one ≡ other) × (rest ≡ after)
records_apart = are_apart log_record record-is_part
