-- Which numbers a text writes.
use Rattle.std.proofs.Common.{◌≡◌, ◌∙◌, sym, ap, refl, subst, arith, ℕ, ◌<◌, ◌≤◌, ◌^◌, Bool, true, false, ◌&&◌, cond, List, Option, Some, None, Result, Ok, Err, Bor, nat_lt}
use Rattle.std.specs.Prelude.{decimal, IsUtf8, MatchResult}
use Rattle.std.specs.Result.{result_ok}
use Rattle.std.specs.Option.{option_and_then}
use Rattle.std.specs.Str.{bytes_eq}
use Rattle.std.specs.Str.Parse.{digits_value}
use Rattle.std.proofs.lemmas.Bool.{lt-ltb, le-ltb, ltb-true, and_parts, cond-true, cond-false, both_ways, and_from}
use Rattle.std.proofs.lemmas.Fmt.{decimal_is_IsNumeral, IsAscii-decimal}
use Rattle.std.proofs.lemmas.Str.{IsUtf8-from_ascii}
use Rattle.std.proofs.lemmas.Slice.Eq.{bytes_eq-Decides}
use Rattle.qfs_first.specs.Numbers.{number_below}

-- a text that is a number in decimal writes that number
pub below_some : (bound n : ℕ) (text : List ℕ) → n < bound → bound ≤ 2 ^ 64 → decimal n ≡ text → number_below bound text ≡ Some n
unfolding number_below
below_some bound n text small fits written =
    let value : digits_value 10 text ≡ n = ap (digits_value 10) (sym written) ∙ (decimal_is_IsNumeral n (omega arith)).1 in
    let less : nat_lt (digits_value 10 text) bound ≡ true = lt-ltb _ _ (omega (arith, value)) in
    let same : bytes_eq (decimal (digits_value 10 text)) text ≡ true = (bytes_eq-Decides _ _).1 (ap decimal value ∙ written) in
    cond-true _ _ _ (and_from _ _ less same) ∙ ap (λ (m : ℕ). Some m) value

none_if : (b : Bool) (n : ℕ) → (b ≡ true → ⊥) → cond b (Some n) None ≡ None
none_if true n never = absurd (never refl)
none_if false n never = refl

-- a text that is no number in decimal writes none
pub below_none : (bound : ℕ) (text : List ℕ) → ((n : ℕ) → n < bound → decimal n ≡ text → ⊥) → number_below bound text ≡ None
unfolding number_below
below_none bound text never =
    none_if _ _ (λ tested. let parts = and_parts _ _ tested in
    never (digits_value 10 text) (ltb-true _ _ parts.0) ((bytes_eq-Decides _ _).0 parts.1))

-- what was parsed and is written the same way
pub written : (n : ℕ) (text : List ℕ) → n < 2 ^ 64 → bytes_eq (decimal n) text ≡ true → Some n ≡ number_below (2 ^ 64) text
written n text small same = sym (below_some (2 ^ 64) n text small (omega arith) ((bytes_eq-Decides _ _).0 same))

-- what was parsed, but is written otherwise
pub written_otherwise : (n : ℕ) (text : List ℕ) → ((m : ℕ) → m < 2 ^ 64 → decimal m ≡ text → Some n ≡ Some m) → bytes_eq (decimal n) text ≡ false → None ≡ number_below (2 ^ 64) text
written_otherwise n text only other =
    sym (below_none (2 ^ 64) text (λ m small is.
    let same : n ≡ m = cc (only m small is) in
    both_ways _ other ((bytes_eq-Decides _ _).1 (ap decimal same ∙ is))))

pub not_written : (text : List ℕ) (r : Option ℕ) → r ≡ None → ((m : ℕ) → m < 2 ^ 64 → decimal m ≡ text → r ≡ Some m) → None ≡ number_below (2 ^ 64) text
not_written text r none only =
    sym (below_none (2 ^ 64) text (λ m small is. cc (only m small is)))

-- a smaller bound
below_at : (m bound wide : ℕ) (same small less : Bool) → small ≡ nat_lt m bound → (small ≡ true → less ≡ true) → cond (small && same) (Some m) None ≡ option_and_then (λ n. cond (nat_lt n bound) (Some n) None) (cond (less && same) (Some m) None)
below_at m bound wide true true true is wider = sym (cond-true _ _ _ (sym is))
below_at m bound wide true true false is wider = cc (wider refl)
below_at m bound wide true false true is wider = sym (cond-false _ _ _ (sym is))
below_at m bound wide true false false is wider = refl
below_at m bound wide false true true is wider = refl
below_at m bound wide false true false is wider = refl
below_at m bound wide false false true is wider = refl
below_at m bound wide false false false is wider = refl

pub below_narrow : (bound wide : ℕ) (text : List ℕ) → bound ≤ wide → number_below bound text ≡ option_and_then (λ n. cond (nat_lt n bound) (Some n) None) (number_below wide text)
unfolding number_below
below_narrow bound wide text narrower =
    let m = digits_value 10 text in
    below_at m bound wide (bytes_eq (decimal m) text) (nat_lt m bound) (nat_lt m wide) refl
    (λ small. lt-ltb _ _ (omega (arith, ltb-true _ _ small)))

-- what was found below the wide bound of 64 bits, at a bound of 32
pub found_below : (bound n : ℕ) (text : List ℕ) → n < bound → bound < 2 ^ 32 → Some n ≡ number_below (2 ^ 64) text → Some n ≡ number_below bound text
found_below bound n text small fits found =
    sym (below_narrow bound (2 ^ 64) text (omega arith)
    ∙ ap (option_and_then (λ (m : ℕ). cond (nat_lt m bound) (Some m) None)) (sym found)
    ∙ cond-true _ _ _ (lt-ltb n bound small))

pub found_above : (bound n : ℕ) (text : List ℕ) → bound ≤ n → bound < 2 ^ 32 → Some n ≡ number_below (2 ^ 64) text → None ≡ number_below bound text
found_above bound n text large fits found =
    sym (below_narrow bound (2 ^ 64) text (omega arith)
    ∙ ap (option_and_then (λ (m : ℕ). cond (nat_lt m bound) (Some m) None)) (sym found)
    ∙ cond-false _ _ _ (le-ltb n bound large))

pub found_nowhere : (bound : ℕ) (text : List ℕ) → bound < 2 ^ 32 → None ≡ number_below (2 ^ 64) text → None ≡ number_below bound text
found_nowhere bound text fits found =
    sym (below_narrow bound (2 ^ 64) text (omega arith)
    ∙ ap (option_and_then (λ (m : ℕ). cond (nat_lt m bound) (Some m) None)) (sym found))

-- a number in decimal is a text
text_of_decimal : (n : ℕ) (text : List ℕ) → n < 2 ^ 64 → decimal n ≡ text → IsUtf8 text
text_of_decimal n text small is = subst IsUtf8 is (IsUtf8-from_ascii (decimal n) (IsAscii-decimal n small))

-- bytes that are no text write no number
pub no_text : {E : Type 0} (text : List ℕ) (Q : E → Type 0) (r : Result (Bor (List ℕ)) E) → MatchResult r (λ s. (s.now ≡ text) × IsUtf8 text) (λ e. ¬ (IsUtf8 text) × Q e) → result_ok r ≡ None → (n : ℕ) → n < 2 ^ 64 → decimal n ≡ text → ⊥
no_text text Q (Ok s) read none n small is = cc none
no_text text Q (Err e) refused none n small is = refused.0 (text_of_decimal n text small is)

-- bytes that are a text are parsed as it
pub same_text : {E : Type 0} (text : List ℕ) (Q : E → Type 0) (r : Result (Bor (List ℕ)) E) (s : Bor (List ℕ)) → MatchResult r (λ s. (s.now ≡ text) × IsUtf8 text) (λ e. ¬ (IsUtf8 text) × Q e) → result_ok r ≡ Some s → s.now ≡ text
same_text text Q (Ok t) s read some = let same : t ≡ s = cc some in ap (λ (b : Bor (List ℕ)). b.now) (sym same) ∙ read.0
same_text text Q (Err e) s refused some = cc some
