-- Words that tell runs of steps.
use Rattle.std.proofs.Common.{◌≡◌, ◌∙◌, sym, ap, refl, arith, ℕ, ◌+◌, ◌-◌, ◌<◌, ◌≤◌, Bool, true, false, not, cond, List, [], ◌∷◌, length, take, drop, Option, Some, None, Result, Ok, Err, nat_lt}
use borrow.Author.Tests.{ltb-true, ltb-false}
use Rattle.std.specs.Prelude.{◌≢◌, position, take_while, codes, find}
use Rattle.std.specs.List.{prefix_len, position_or_len, slice_split}
use Rattle.std.specs.Str.{bytes_eq}
use Rattle.std.proofs.lemmas.Grind.{common_steps}
use Rattle.std.proofs.lemmas.List.{length-take-le, take_all, drop_all}
use Rattle.std.proofs.lemmas.List.Splits.{length-slice_split}
use Rattle.std.proofs.lemmas.Bool.{false_from_ne_true, both_ways}
use Rattle.std.proofs.lemmas.Slice.Eq.{bytes_eq-Decides}
use Rattle.qfs_base.specs.declared.history.Outcome.{Outcome}
use Rattle.qfs_base.specs.declared.history.Outcome.TheVariants as Ended
use Rattle.qfs_base.specs.declared.order.StepRun.{StepRun}
use Rattle.qfs_base.specs.declared.script.ScriptCause.TheVariants as Cause
use Rattle.qfs_model_text.specs.Order.{outcome_mark}
use Rattle.qfs_model_grammar.specs.Kinds.{is_digit, is_times, outcome_of_mark, run_of, run_in}
use Rattle.qfs_model_grammar.specs.Said.{Said}
use Rattle.qfs_lexer.specs.Left.{is_other}
use Rattle.qfs_lexer.proofs.Splits.{some_place, no_place, split_at, split_nowhere}

-- ---- the digits at the head

twice_not : (b : Bool) → not (not b) ≡ b
twice_not true = refl
twice_not false = refl

same_prefix : (word : List ℕ) → position_or_len is_other word ≡ prefix_len is_digit word
same_prefix [] = refl
same_prefix (byte ∷ word) =
    ap (λ b. cond b (1 + prefix_len (λ x. not (is_other x)) word) 0) (twice_not (is_digit byte))
    ∙ ap (λ n. cond (is_digit byte) (1 + n) 0) (same_prefix word)

ends_at : (word : List ℕ) (at : ℕ) → Some at ≡ position is_other word → (prefix_len is_digit word ≡ at) × (at ≤ length word)
ends_at word at found =
    let place = some_place _ _ _ (sym found) in
    let inside : position_or_len is_other word < length word = ltb-true _ _ place.0 in
    let here : position_or_len is_other word ≡ at = place.1 in
    (sym (same_prefix word) ∙ here, omega arith)

pub digits_end_front : (word : List ℕ) (at : ℕ) → Some at ≡ position is_other word → take at word ≡ take_while is_digit word
digits_end_front word at found = ap (λ n. take n word) (sym (ends_at word at found).0)

pub digits_end_behind : (word : List ℕ) (at : ℕ) → Some at ≡ position is_other word
    → take (length word - at) (drop at word) ≡ drop (length (take_while is_digit word)) word
digits_end_behind word at found =
    let ends = ends_at word at found in
    let long : length (take_while is_digit word) ≡ at = ap length (sym (digits_end_front word at found)) ∙ length-take-le at word ends.1 in
    let whole : take (length word - at) (drop at word) ≡ drop at word = grind (arith, common_steps) in
    whole ∙ ap (λ n. drop n word) (sym long)

no_other : (word : List ℕ) → None ≡ position is_other word → length word ≤ prefix_len is_digit word
no_other word absent =
    let past : length word ≤ position_or_len is_other word = ltb-false _ _ (no_place _ _ (sym absent)) in
    omega (arith, same_prefix word, past)

pub all_digits_front : (word : List ℕ) → None ≡ position is_other word → word ≡ take_while is_digit word
all_digits_front word absent = sym (take_all _ word (no_other word absent))

pub all_digits_behind : (word : List ℕ) → None ≡ position is_other word
    → take (length word - length word) (drop (length word) word) ≡ drop (length (take_while is_digit word)) word
all_digits_behind word absent =
    let none : take (length word - length word) (drop (length word) word) ≡ [] = grind (arith, common_steps) in
    none ∙ sym (drop_all _ word (omega (arith, ap length (all_digits_front word absent))))

-- ---- the texts around the only `x`

pub no_times : (text : List ℕ) → None ≡ position is_times text → length (slice_split is_times text) ≢ 2
no_times text absent two = omega (arith, two, ap length (split_nowhere is_times text (sym absent)))

pub one_times : (text rest : List ℕ) (at : ℕ) → Some at ≡ position is_times text → rest ≡ take (length text - (at + 1)) (drop (at + 1) text)
    → None ≡ position is_times rest → slice_split is_times text ≡ take at text ∷ rest ∷ []
one_times text rest at found is absent =
    split_at is_times text at (sym found)
    ∙ ap (λ (r : List ℕ). take at text ∷ slice_split is_times r) (sym is)
    ∙ ap (λ (parts : List (List ℕ)). take at text ∷ parts) (split_nowhere is_times rest (sym absent))

pub more_times : (text rest : List ℕ) (at next : ℕ) → Some at ≡ position is_times text → rest ≡ take (length text - (at + 1)) (drop (at + 1) text)
    → Some next ≡ position is_times rest → length (slice_split is_times text) ≢ 2
more_times text rest at next found is further two =
    let behind = take (length rest - (next + 1)) (drop (next + 1) rest) in
    let cut : slice_split is_times text ≡ take at text ∷ take next rest ∷ slice_split is_times behind =
    split_at is_times text at (sym found)
    ∙ ap (λ (r : List ℕ). take at text ∷ slice_split is_times r) (sym is)
    ∙ ap (λ (parts : List (List ℕ)). take at text ∷ parts) (split_at is_times rest next (sym further)) in
    omega (arith, two, ap length cut, length-slice_split is_times behind)

-- ---- marks

other_mark : (outcome : Outcome) (mark : List ℕ) → (mark ≡ outcome_mark outcome → ⊥) → bytes_eq (outcome_mark outcome) mark ≡ false
other_mark outcome mark other = false_from_ne_true _ (λ same. other (sym ((bytes_eq-Decides _ _).0 same)))

nothing : (mark : List ℕ) → length mark ≡ 0 → mark ≡ []
nothing [] is = refl
nothing (byte ∷ mark) is = absurd (omega arith)

pub mark_done : (mark : List ℕ) → length mark ≡ 0 → Some Ended.Done ≡ outcome_of_mark mark
unfolding outcome_of_mark outcome_mark
mark_done mark is = ap outcome_of_mark (sym (nothing mark is))

pub mark_failed : (mark : List ℕ) → bytes_eq mark (codes "f") ≡ true → Some Ended.Failed ≡ outcome_of_mark mark
unfolding outcome_of_mark outcome_mark
mark_failed mark is = ap outcome_of_mark {x = codes "f"} {y = mark} (sym ((bytes_eq-Decides mark (codes "f")).0 is))

pub mark_no_memory : (mark : List ℕ) → bytes_eq mark (codes "m") ≡ true → Some Ended.NoMemory ≡ outcome_of_mark mark
unfolding outcome_of_mark outcome_mark
mark_no_memory mark is = ap outcome_of_mark {x = codes "m"} {y = mark} (sym ((bytes_eq-Decides mark (codes "m")).0 is))

differs : (mark word : List ℕ) → bytes_eq mark word ≡ false → mark ≡ word → ⊥
differs mark word other same = both_ways _ other ((bytes_eq-Decides _ _).1 same)

pub no_mark : (mark : List ℕ) → (length mark ≡ 0 → ⊥) → bytes_eq mark (codes "f") ≡ false → bytes_eq mark (codes "m") ≡ false → None ≡ outcome_of_mark mark
unfolding outcome_of_mark outcome_mark
no_mark mark some other_failed other_memory =
    let a : bytes_eq [] mark ≡ false = other_mark Ended.Done mark (λ is. some (ap length is)) in
    let b : bytes_eq (codes "f") mark ≡ false = other_mark Ended.Failed mark (differs mark (codes "f") other_failed) in
    let c : bytes_eq (codes "m") mark ≡ false = other_mark Ended.NoMemory mark (differs mark (codes "m") other_memory) in
    sym (rw a (rw b (rw c refl)))

-- ---- runs

pub run_around : (word actor mark count behind : List ℕ) (run : Said StepRun) → actor ≡ take_while is_digit word
    → behind ≡ drop (length (take_while is_digit word)) word → slice_split is_times behind ≡ mark ∷ count ∷ []
    → run ≡ run_of actor (mark ∷ count ∷ []) → run ≡ run_in word
unfolding run_in
run_around word actor mark count behind run digits is cut said =
    said
    ∙ ap (λ (a : List ℕ). run_of a (mark ∷ count ∷ [])) digits
    ∙ ap (run_of (take_while is_digit word)) (sym cut)
    ∙ ap (λ (b : List ℕ). run_of (take_while is_digit word) (slice_split is_times b)) is

not_two : (actor : List ℕ) (parts : List (List ℕ)) → length parts ≢ 2 → run_of actor parts ≡ Err Cause.Number
unfolding run_of
not_two actor [] other = refl
not_two actor (mark ∷ []) other = refl
not_two actor (mark ∷ count ∷ []) other = absurd (other refl)
not_two actor (mark ∷ count ∷ more ∷ parts) other = refl

pub no_run : (word behind : List ℕ) → behind ≡ drop (length (take_while is_digit word)) word → length (slice_split is_times behind) ≢ 2
    → Err Cause.Number ≡ run_in word
unfolding run_in
no_run word behind is other =
    sym (not_two (take_while is_digit word) (slice_split is_times behind) other)
    ∙ ap (λ (b : List ℕ). run_of (take_while is_digit word) (slice_split is_times b)) is
