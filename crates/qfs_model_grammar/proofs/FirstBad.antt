-- The first bad line decides what is told of a text.
use Rattle.std.proofs.Common.{◌≡◌, ◌⊎◌, inl, inr, ℕ, ◌+◌, Bool, false, List, [], ◌∷◌, ◌++◌, length, Result, Ok, Err, refl, sym, ap, subst, arith, ◌∙◌}
use Rattle.std.specs.Prelude.{nat_le}
use Rattle.std.proofs.lemmas.Bool.Decides.{nat_tests}
use Rattle.qfs_base.specs.declared.script.Script.{Script}
use Rattle.qfs_base.specs.declared.script.ScriptCause.{ScriptCause}
use Rattle.qfs_model_script.specs.Limits.{MOST_TEXT_BYTES}
use Rattle.qfs_model_grammar.specs.Laws.{IsFirstBad, FirstBadDecides, LongTextIsRefused}
use Rattle.qfs_model_grammar.specs.Said.{Said, ◌>>=◌, if_kept}
use Rattle.qfs_model_grammar.specs.ReadScript.{BadLine, at_line, read_line, read_lines, whole_script, script_of_lines, read_script}
use Rattle.qfs_model_grammar.specs.SoFar.{SoFar, nothing_yet}

-- ---- behind good lines

record GoesOn (read : Said SoFar) (rest : SoFar → Result SoFar BadLine) (last : SoFar) : Type 0 where
  given : SoFar
  is : read ≡ Ok given
  left : rest given ≡ Ok last

goes_on : (read : Said SoFar) (number : ℕ) (rest : SoFar → Result SoFar BadLine) (last : SoFar)
    → (at_line number read >>= rest) ≡ Ok last → GoesOn read rest last
goes_on (Ok given) number rest last is = record { given = given; is = refl; left = is }
goes_on (Err cause) number rest last is = cc

good_lines : (so_far last : SoFar) (number : ℕ) (before more : List (List ℕ)) → read_lines so_far number before ≡ Ok last
    → read_lines so_far number (before ++ more) ≡ read_lines last (number + length before) more
unfolding read_lines
good_lines so_far last number [] more good =
    let same : so_far ≡ last = cc in
    ap (λ s. read_lines s number more) same ∙ ap (λ n. read_lines last n more) (omega arith)
good_lines so_far last number (line ∷ before) more good =
    let on = goes_on (read_line so_far number line) number (λ next. read_lines next (number + 1) before) last good in
    ap (λ read. at_line number read >>= (λ next. read_lines next (number + 1) (before ++ more))) on.is
    ∙ good_lines on.given last (number + 1) before more on.left
    ∙ ap (λ n. read_lines last n more) (omega arith)

bad_line : (so_far : SoFar) (number : ℕ) (line : List ℕ) (behind : List (List ℕ)) (cause : ScriptCause)
    → read_line so_far number line ≡ Err cause → read_lines so_far number (line ∷ behind) ≡ Err (number, cause)
unfolding read_lines
bad_line so_far number line behind cause refused =
    ap (λ read. at_line number read >>= (λ next. read_lines next (number + 1) behind)) refused

told : (replays : Bool) (lines : List (List ℕ)) (number : ℕ) (cause : ScriptCause)
    → IsFirstBad lines number cause → script_of_lines replays lines ≡ Err (number, cause)
unfolding script_of_lines
told replays lines number cause first =
    let ended = λ (so_far : SoFar). at_line (length lines + 1) (whole_script replays so_far) in
    ap (λ all. read_lines nothing_yet 1 all >>= ended) first.cut
    ∙ ap (λ read. read >>= ended) (good_lines nothing_yet first.so_far 1 first.before (first.line ∷ first.behind) first.good)
    ∙ ap (λ n. read_lines first.so_far n (first.line ∷ first.behind) >>= ended) (sym first.numbered)
    ∙ ap (λ read. read >>= ended) (bad_line first.so_far number first.line first.behind cause first.refused)

-- ---- what is told

record FindsBad (so_far : SoFar) (number : ℕ) (lines : List (List ℕ)) (bad : BadLine) : Type 0 where
  before : List (List ℕ)
  line : List ℕ
  behind : List (List ℕ)
  last : SoFar
  cut : lines ≡ before ++ line ∷ behind
  numbered : bad.0 ≡ number + length before
  good : read_lines so_far number before ≡ Ok last
  refused : read_line last bad.0 line ≡ Err bad.1

err_is : {A : Type 0} (first second : BadLine) (read : Result A BadLine) → read ≡ Err first → read ≡ Err second → first ≡ second
err_is first second read one other = cc

finds_here : (so_far : SoFar) (number : ℕ) (line : List ℕ) (lines : List (List ℕ)) (cause : ScriptCause)
    → read_line so_far number line ≡ Err cause → FindsBad so_far number (line ∷ lines) (number, cause)
unfolding read_lines
finds_here so_far number line lines cause refused = record {
  before = [];
  line = line;
  behind = lines;
  last = so_far;
  cut = refl;
  numbered = omega arith;
  good = refl;
  refused = refused;
}

finds_behind : (so_far next : SoFar) (number : ℕ) (line : List ℕ) (lines : List (List ℕ)) (bad : BadLine)
    → read_line so_far number line ≡ Ok next → FindsBad next (number + 1) lines bad → FindsBad so_far number (line ∷ lines) bad
unfolding read_lines
finds_behind so_far next number line lines bad is found = record {
  before = line ∷ found.before;
  line = found.line;
  behind = found.behind;
  last = found.last;
  cut = ap (λ rest. line ∷ rest) found.cut;
  numbered = omega (arith, found.numbered);
  good = ap (λ read. at_line number read >>= (λ next. read_lines next (number + 1) found.before)) is ∙ found.good;
  refused = found.refused;
}

finds_step : (so_far : SoFar) (number : ℕ) (line : List ℕ) (lines : List (List ℕ)) (bad : BadLine)
    → ((next : SoFar) → read_lines next (number + 1) lines ≡ Err bad → FindsBad next (number + 1) lines bad)
    → (read : Said SoFar) → read_line so_far number line ≡ read
    → (at_line number read >>= (λ next. read_lines next (number + 1) lines)) ≡ Err bad → FindsBad so_far number (line ∷ lines) bad
finds_step so_far number line lines bad further (Ok next) is read = finds_behind so_far next number line lines bad is (further next read)
finds_step so_far number line lines bad further (Err cause) is read =
    subst (FindsBad so_far number (line ∷ lines)) (err_is {A = SoFar} (number, cause) bad (Err (number, cause)) refl read)
    (finds_here so_far number line lines cause is)

finds : (so_far : SoFar) (number : ℕ) (lines : List (List ℕ)) (bad : BadLine) → read_lines so_far number lines ≡ Err bad
    → FindsBad so_far number lines bad
unfolding read_lines
finds so_far number [] bad is = cc
finds so_far number (line ∷ lines) bad is =
    finds_step so_far number line lines bad (λ next. finds next (number + 1) lines bad) (read_line so_far number line) refl is

at_its_line : {A : Type 0} (read : Said A) (at number : ℕ) (cause : ScriptCause) → at_line at read ≡ Err (number, cause) → number ≡ at
at_its_line (Ok value) at number cause is = cc
at_its_line {A} (Err found) at number cause is =
    ap (λ (bad : BadLine). bad.0) (err_is {A = A} (number, cause) (at, found) (Err (at, found)) is refl)

is_bad_in : (replays : Bool) (lines : List (List ℕ)) (number : ℕ) (cause : ScriptCause) (read : Result SoFar BadLine)
    → read_lines nothing_yet 1 lines ≡ read
    → (read >>= (λ so_far. at_line (length lines + 1) (whole_script replays so_far))) ≡ Err (number, cause)
    → IsFirstBad lines number cause ⊎ (number ≡ length lines + 1)
is_bad_in replays lines number cause (Ok so_far) is ended =
    inr (at_its_line (whole_script replays so_far) (length lines + 1) number cause ended)
is_bad_in replays lines number cause (Err bad) is ended =
    let same : bad ≡ (number, cause) = err_is {A = Script} bad (number, cause) (Err bad) refl ended in
    let found = finds nothing_yet 1 lines (number, cause) (is ∙ ap (λ b. Err b) same) in
    inl (record {
      before = found.before;
      line = found.line;
      behind = found.behind;
      so_far = found.last;
      cut = found.cut;
      numbered = found.numbered;
      good = found.good;
      refused = found.refused;
    })

is_bad : (replays : Bool) (lines : List (List ℕ)) (number : ℕ) (cause : ScriptCause)
    → script_of_lines replays lines ≡ Err (number, cause) → IsFirstBad lines number cause ⊎ (number ≡ length lines + 1)
unfolding script_of_lines
is_bad replays lines number cause is = is_bad_in replays lines number cause (read_lines nothing_yet 1 lines) refl is

pub first_bad : FirstBadDecides
first_bad = record { told = told; is_bad = is_bad }

-- ---- long texts

pub long_text : LongTextIsRefused
unfolding read_script if_kept
long_text replays text long =
    let past : nat_le (length text) MOST_TEXT_BYTES ≡ false = grind (arith, nat_tests) in
    rw past
