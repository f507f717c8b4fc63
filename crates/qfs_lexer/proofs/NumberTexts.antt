-- Which numbers a text writes.
use Rattle.std.proofs.Common.{◌≡◌, ◌∙◌, sym, ap, refl, subst, arith, ℕ, ◌<◌, ◌≤◌, ◌^◌, Bool, true, false, ◌&&◌, cond, List, Option, Some, None, Result, Ok, Err, Bor}
use Rattle.std.specs.Prelude.{decimal, IsUtf8, MatchResult, nat_le, ok_or}
use Rattle.std.specs.Result.{result_ok}
use Rattle.std.specs.Str.{bytes_eq}
use Rattle.std.specs.Str.Parse.{digits_value}
use Rattle.std.proofs.lemmas.Bool.{le-leb, leb-true, and_parts, and_from, cond-true, cond-false, false_from_ne_true}
use Rattle.std.proofs.lemmas.Fmt.{decimal_is_IsNumeral, IsAscii-decimal}
use Rattle.std.proofs.lemmas.Str.{IsUtf8-from_ascii}
use Rattle.std.proofs.lemmas.Slice.Eq.{bytes_eq-Decides}
use Rattle.qfs_base.specs.declared.script.ScriptCause.{ScriptCause}
use Rattle.qfs_base.specs.declared.script.ScriptCause.TheVariants as Cause
use Rattle.qfs_model_grammar.specs.Said.{Said, ◌>>=◌, if_kept}
use Rattle.qfs_model_grammar.specs.Kinds.{number_of, number_in}

-- a text that is a number in decimal writes that number
pub number_of_decimal : (n : ℕ) (text : List ℕ) → n < 2 ^ 64 → decimal n ≡ text → number_of text ≡ Some n
unfolding number_of
number_of_decimal n text small written =
    let value : digits_value 10 text ≡ n = ap (digits_value 10) (sym written) ∙ (decimal_is_IsNumeral n (omega arith)).1 in
    let same : bytes_eq (decimal (digits_value 10 text)) text ≡ true = (bytes_eq-Decides _ _).1 (ap decimal value ∙ written) in
    cond-true _ _ _ same ∙ ap (λ (m : ℕ). Some m) value

in_range : (first last n : ℕ) → first ≤ n → n ≤ last → if_kept (nat_le first n && nat_le n last) Cause.Number n ≡ Ok n
unfolding if_kept
in_range first last n low high =
    ap (λ b. if_kept b Cause.Number n) (and_from _ _ (le-leb _ _ low) (le-leb _ _ high))

out_of_range : (first last n : ℕ) → (first ≤ n → n ≤ last → ⊥) → if_kept (nat_le first n && nat_le n last) Cause.Number n ≡ Err Cause.Number
unfolding if_kept
out_of_range first last n never =
    ap (λ b. if_kept b Cause.Number n)
    (false_from_ne_true _ (λ tested. let parts = and_parts _ _ tested in never (leb-true _ _ parts.0) (leb-true _ _ parts.1)))

-- the number that a text writes, in its range and out of it
pub number_within : (first last n : ℕ) (text : List ℕ) → n < 2 ^ 64 → decimal n ≡ text → first ≤ n → n ≤ last → Ok n ≡ number_in first last text
unfolding number_in
number_within first last n text small written low high =
    sym (ap (λ (number : Option ℕ). ok_or number Cause.Number >>= (λ n. if_kept (nat_le first n && nat_le n last) Cause.Number n)) (number_of_decimal n text small written)
    ∙ in_range first last n low high)

pub number_outside : (first last n : ℕ) (text : List ℕ) → n < 2 ^ 64 → decimal n ≡ text → (first ≤ n → n ≤ last → ⊥) → Err Cause.Number ≡ number_in first last text
unfolding number_in
number_outside first last n text small written never =
    sym (ap (λ (number : Option ℕ). ok_or number Cause.Number >>= (λ n. if_kept (nat_le first n && nat_le n last) Cause.Number n)) (number_of_decimal n text small written)
    ∙ out_of_range first last n never)

-- a text that writes no number below 2^64
nowhere_at : (first last number : ℕ) (same : Bool) → last < 2 ^ 64 → (number < 2 ^ 64 → same ≡ true → ⊥)
    → (ok_or (cond same (Some number) None) Cause.Number >>= (λ n. if_kept (nat_le first n && nat_le n last) Cause.Number n)) ≡ Err Cause.Number
nowhere_at first last number true fits never =
    out_of_range first last number (λ low high. never (omega (arith, high, fits)) refl)
nowhere_at first last number false fits never = refl

pub number_nowhere : (first last : ℕ) (text : List ℕ) → last < 2 ^ 64 → ((n : ℕ) → n < 2 ^ 64 → decimal n ≡ text → ⊥) → Err Cause.Number ≡ number_in first last text
unfolding number_in number_of
number_nowhere first last text fits never =
    let number = digits_value 10 text in
    sym (nowhere_at first last number (bytes_eq (decimal number) text) fits (λ small same. never number small ((bytes_eq-Decides _ _).0 same)))

-- a number in decimal is a text
text_of_decimal : (n : ℕ) (text : List ℕ) → n < 2 ^ 64 → decimal n ≡ text → IsUtf8 text
text_of_decimal n text small is = subst IsUtf8 is (IsUtf8-from_ascii (decimal n) (IsAscii-decimal n small))

-- bytes that are no text write no number
pub no_text : {E : Type 0} (text : List ℕ) (Q : E → Type 0) (r : Result (Bor (List ℕ)) E) → MatchResult r (λ s. (s.now ≡ text) × IsUtf8 text) (λ e. ¬ (IsUtf8 text) × Q e) → result_ok r ≡ None → (n : ℕ) → n < 2 ^ 64 → decimal n ≡ text → ⊥
no_text text Q (Ok s) read none n small is = cc none
no_text text Q (Err e) refused none n small is = refused.0 (text_of_decimal n text small is)

-- bytes that are a text are parsed as it
pub same_text : {E : Type 0} (text : List ℕ) (Q : E → Type 0) (r : Result (Bor (List ℕ)) E) (s : Bor (List ℕ)) → MatchResult r (λ s. (s.now ≡ text) × IsUtf8 text) (λ e. ¬ (IsUtf8 text) × Q e) → result_ok r ≡ Some s → s.now ≡ text
same_text text Q (Ok t) s read some = let same : t ≡ s = cc some in ap (λ (b : Bor (List ℕ)). b.now) (sym same) ∙ read.0
same_text text Q (Err e) s refused some = cc some
