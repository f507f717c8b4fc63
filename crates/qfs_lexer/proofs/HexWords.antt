-- Words that tell bytes by hexadecimal digits.
use Rattle.std.proofs.Common.{◌≡◌, ◌∙◌, sym, ap, refl, subst, arith, inl, inr, ℕ, ◌*◌, ◌<◌, ◌≤◌, Bool, true, false, ◌&&◌, List, length, Option, Some, None, Result, Ok, Err}
use Rattle.std.specs.Prelude.{◌⊎◌, nat_le, ok_or}
use Rattle.std.specs.Result.{result_ok}
use Rattle.std.proofs.lemmas.Bool.{leb-true, le-leb, and_parts, and_from, false_from_ne_true}
use Rattle.hex.specs.Hex.{decode_of}
use Rattle.hex.proofs.HexLemmas.{decode_of-ok}
use Rattle.hex.specs.declared.error.FromHexError.{FromHexError}
use Rattle.hex.specs.declared.error.FromHexError.TheVariants.{OutOfMemory}
use Rattle.qfs_base.specs.declared.script.ScriptCause.{ScriptCause}
use Rattle.qfs_base.specs.declared.script.ScriptCause.TheVariants as Cause
use Rattle.qfs_model_grammar.specs.Said.{Said, ◌>>=◌, if_kept}
use Rattle.qfs_model_grammar.specs.Kinds.{bytes_in}

pub decoded : (word bytes listing : List ℕ) → listing ≡ bytes → decode_of word ≡ Ok bytes → ok_or (result_ok (decode_of word)) Cause.Hex ≡ Ok listing
decoded word bytes listing same told =
    ap (λ (r : Result (List ℕ) FromHexError). ok_or (result_ok r) Cause.Hex) told ∙ ap (λ (b : List ℕ). Ok b) (sym same)

pub refused : (word : List ℕ) (error : FromHexError) → (error ≡ OutOfMemory) ⊎ (decode_of word ≡ Err error) → (error ≡ OutOfMemory → ⊥) → ok_or (result_ok (decode_of word)) Cause.Hex ≡ Err Cause.Hex
refused word error (inl memory) other = absurd (other memory)
refused word error (inr told) other = ap (λ (r : Result (List ℕ) FromHexError). ok_or (result_ok r) Cause.Hex) told

-- two digits a byte
twice_at : (word bytes : List ℕ) (told : Result (List ℕ) FromHexError) → decode_of word ≡ told → ok_or (result_ok told) Cause.Hex ≡ Ok bytes → length word ≡ 2 * length bytes
twice_at word bytes (Ok found) is said = let same : found ≡ bytes = cc in subst (λ (b : List ℕ). length word ≡ 2 * length b) same (decode_of-ok word found is).2
twice_at word bytes (Err error) is said = cc

twice : (word bytes : List ℕ) → ok_or (result_ok (decode_of word)) Cause.Hex ≡ Ok bytes → length word ≡ 2 * length bytes
twice word bytes said = twice_at word bytes (decode_of word) refl said

pub few_of : (most : ℕ) (word bytes : List ℕ) → ok_or (result_ok (decode_of word)) Cause.Hex ≡ Ok bytes → length word ≤ 2 * most → length bytes ≤ most
few_of most word bytes said short = omega (arith, twice word bytes said)

kept : (least most : ℕ) (bytes : List ℕ) → least ≤ length bytes → length bytes ≤ most → if_kept (nat_le least (length bytes) && nat_le (length bytes) most) Cause.Hex bytes ≡ Ok bytes
unfolding if_kept
kept least most bytes low high = ap (λ b. if_kept b Cause.Hex bytes) (and_from _ _ (le-leb _ _ low) (le-leb _ _ high))

not_kept : (least most : ℕ) (bytes : List ℕ) → (least ≤ length bytes → length bytes ≤ most → ⊥) → if_kept (nat_le least (length bytes) && nat_le (length bytes) most) Cause.Hex bytes ≡ Err Cause.Hex
unfolding if_kept
not_kept least most bytes never =
    ap (λ b. if_kept b Cause.Hex bytes)
    (false_from_ne_true _ (λ tested. let parts = and_parts _ _ tested in never (leb-true _ _ parts.0) (leb-true _ _ parts.1)))

pub enough : (least most : ℕ) (word bytes : List ℕ) → ok_or (result_ok (decode_of word)) Cause.Hex ≡ Ok bytes → length word ≤ 2 * most → least ≤ length bytes → bytes_in least most word ≡ Ok bytes
unfolding bytes_in
enough least most word bytes said short low =
    ap (λ (read : Said (List ℕ)). read >>= (λ b. if_kept (nat_le least (length b) && nat_le (length b) most) Cause.Hex b)) said
    ∙ kept least most bytes low (few_of most word bytes said short)

pub too_few : (least most : ℕ) (word bytes : List ℕ) → ok_or (result_ok (decode_of word)) Cause.Hex ≡ Ok bytes → length bytes < least → bytes_in least most word ≡ Err Cause.Hex
unfolding bytes_in
too_few least most word bytes said small =
    ap (λ (read : Said (List ℕ)). read >>= (λ b. if_kept (nat_le least (length b) && nat_le (length b) most) Cause.Hex b)) said
    ∙ not_kept least most bytes (λ low high. omega arith)

pub no_bytes : (least most : ℕ) (word : List ℕ) (cause : ScriptCause) → ok_or (result_ok (decode_of word)) Cause.Hex ≡ Err cause → bytes_in least most word ≡ Err cause
unfolding bytes_in
no_bytes least most word cause said =
    ap (λ (read : Said (List ℕ)). read >>= (λ b. if_kept (nat_le least (length b) && nat_le (length b) most) Cause.Hex b)) said

long_at : (least most : ℕ) (word : List ℕ) (said : Said (List ℕ)) → ok_or (result_ok (decode_of word)) Cause.Hex ≡ said → 2 * most < length word
    → (said >>= (λ b. if_kept (nat_le least (length b) && nat_le (length b) most) Cause.Hex b)) ≡ Err Cause.Hex
long_at least most word (Ok bytes) is long = not_kept least most bytes (λ low high. omega (arith, twice word bytes is))
long_at least most word (Err cause) is long = let same : cause ≡ Cause.Hex = hex_only (result_ok (decode_of word)) cause is in ap (λ (c : ScriptCause). Err c) same
  where
    hex_only : (found : Option (List ℕ)) (cause : ScriptCause) → ok_or found Cause.Hex ≡ Err cause → cause ≡ Cause.Hex
    hex_only (Some bytes) cause is = cc
    hex_only None cause is = cc

pub too_long : (least most : ℕ) (word : List ℕ) → 2 * most < length word → bytes_in least most word ≡ Err Cause.Hex
unfolding bytes_in
too_long least most word long = long_at least most word (ok_or (result_ok (decode_of word)) Cause.Hex) refl long
