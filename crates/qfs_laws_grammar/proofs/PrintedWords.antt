-- The words of a script as they are printed: each is plain, and is read back. For the law
-- `printed_scripts_are_read_back`.
use Rattle.std.proofs.Common.{◌≡◌, ◌∙◌, sym, ap, refl, arith, ℕ, zero, suc, ◌/◌, ◌%◌, ◌<◌, ◌≤◌, ◌^◌, List, [], ◌∷◌, length, Option, Result, Ok}
use Rattle.std.specs.Prelude.{All, ok_or, decimal, slice_index}
use Rattle.std.specs.Int.{is_power_of_two}
use Rattle.std.specs.Result.{result_ok}
use Rattle.std.proofs.lemmas.Fmt.{decimal_nonempty}
use Rattle.std.proofs.lemmas.List.Elements.{All-head, All-tail}
use Rattle.hex.specs.Hex.{encode_with, encode_lower, lower_digits, IsBytes}
use Rattle.hex.specs.declared.error.FromHexError.{FromHexError}
use Rattle.hex.proofs.HexLemmas.{length-encode_with, decode_of-encode_lower}
use Rattle.qfs_base.specs.EachLaws.{each_append, each_weaker, each_all}
use Rattle.qfs_base.specs.Path.{IsName, IsNameByte, IsPath, names_text, path_text}
use Rattle.qfs_base.specs.Shape.{IsStripe}
use Rattle.qfs_base.specs.Table.{Each}
use Rattle.qfs_base.specs.declared.script.ScriptCause.TheVariants as Cause
use Rattle.qfs_lexer.proofs.HexWords.{enough}
use Rattle.qfs_lexer.proofs.NumberTexts.{number_within}
use Rattle.qfs_lexer.proofs.PathWords.{spelled_by}
use Rattle.qfs_model_text.proofs.WordsApart.{IsDigit, digits_of}
use Rattle.qfs_model_script.specs.InScript.{IsByte}
use Rattle.qfs_model_grammar.specs.Kinds.{number_in, stripe_in, path_in, bytes_in}
use Rattle.qfs_model_grammar.specs.Said.{Said, ◌>>=◌, if_kept}
use Rattle.qfs_laws_grammar.proofs.PlainWords.{IsVisible, IsPlain, plain}

-- ---- numbers

pub plain_number : (n : ℕ) → n < 2 ^ 64 → IsPlain (decimal n)
plain_number n small = record {
  some = decimal_nonempty n small;
  visible = each_weaker IsDigit IsVisible
      (λ byte digit. (omega (arith, digit.0), omega (arith, digit.1))) (decimal n)
      (digits_of n small);
}

pub number_back : (first last n : ℕ) → n < 2 ^ 64 → first ≤ n → n ≤ last
    → number_in first last (decimal n) ≡ Ok n
number_back first last n small low high =
    sym (number_within first last n (decimal n) small refl low high)

pub stripe_back : (stripe : ℕ) → IsStripe stripe → stripe_in (decimal stripe) ≡ Ok stripe
unfolding stripe_in if_kept
stripe_back stripe is =
    ap (λ (said : Said ℕ). said >>=
    (λ stripe. if_kept (is_power_of_two stripe) Cause.Number stripe))
    (number_back 16 65536 stripe (omega (arith, is.1)) is.0 is.1)
    ∙ ap (λ b. if_kept b Cause.Number stripe) is.2

-- ---- paths

abbrev IsPathByte : ℕ → Type 0
IsPathByte byte = IsVisible byte

name_bytes : (name : List ℕ) → All IsNameByte name → Each IsVisible name
name_bytes [] are = tt
name_bytes (byte ∷ name) are =
    let first = All-head IsNameByte byte name are in
    ((first.0, first.1), name_bytes name (All-tail IsNameByte byte name are))

names_bytes : (names : List (List ℕ)) → All IsName names → Each IsVisible (names_text names)
names_bytes [] are = tt
names_bytes (name ∷ names) are = (
  (omega arith, omega arith),
  each_append IsVisible name (names_text names) (name_bytes name (All-head IsName name names are).2)
      (names_bytes names (All-tail IsName name names are)),
)

pub plain_path : (path : List (List ℕ)) → IsPath path → IsPlain (path_text path)
plain_path [] is = record { some = omega arith; visible = ((omega arith, omega arith), tt) }
plain_path (name ∷ names) is =
    record { some = omega arith; visible = names_bytes (name ∷ names) is.1 }

pub path_back : (path : List (List ℕ)) → IsPath path → path_in (path_text path) ≡ Ok path
unfolding path_in
path_back path is = ap (λ (found : Option (List (List ℕ))). ok_or found Cause.Path)
    (spelled_by path is)

-- ---- bytes

visible_digit : (k : ℕ) → k < 16 → IsVisible (slice_index lower_digits k)
visible_digit k inside = each_all IsVisible lower_digits (plain lower_digits refl).visible k 0
    (omega (arith, inside))

hex_visible : (bytes : List ℕ) → Each IsByte bytes → Each IsVisible (encode_lower bytes)
unfolding encode_with
hex_visible [] are = tt
hex_visible (byte ∷ bytes) are = (
  visible_digit (byte / 16) (omega (arith, are.0)),
  (visible_digit (byte % 16) (omega arith), hex_visible bytes are.1),
)

pub plain_hex : (bytes : List ℕ) → 1 ≤ length bytes → Each IsByte bytes
    → IsPlain (encode_lower bytes)
plain_hex bytes some are =
    record {
      some = omega (arith, length-encode_with lower_digits bytes, some);
      visible =
          hex_visible bytes are;
    }

is_bytes : (bytes : List ℕ) → Each IsByte bytes → IsBytes bytes
is_bytes [] are k = omega arith
is_bytes (byte ∷ bytes) are zero = are.0
is_bytes (byte ∷ bytes) are (suc k) = is_bytes bytes are.1 k

pub bytes_back : (least most : ℕ) (bytes : List ℕ) → Each IsByte bytes → least ≤ length bytes
    → length bytes ≤ most → bytes_in least most (encode_lower bytes) ≡ Ok bytes
bytes_back least most bytes are low high =
    enough least most (encode_lower bytes) bytes
    (ap (λ (read : Result (List ℕ) FromHexError). ok_or (result_ok read) Cause.Hex)
    (decode_of-encode_lower bytes (is_bytes bytes are)))
    (omega (arith, length-encode_with lower_digits bytes, high)) low
