-- The paths of a made script are paths, and its words are numbers of 32 bits.
use Rattle.std.proofs.Common.{◌≢◌, ℕ, zero, suc, ◌+◌, ◌*◌, ◌/◌, ◌%◌, ◌-◌, ◌^◌, ◌<◌, ◌≤◌, List, [], ◌∷◌, ◌++◌, length, get_or, codes, ap, arith, All}
use Rattle.std.specs.Prelude.{decimal, bit_xor}
use Rattle.std.specs.Int.{w32, rotate_right}
use Rattle.std.proofs.Math.Nat.{div-le_self}
use Rattle.std.proofs.lemmas.Fmt.{decimal_by_steps, length-decimal-le}
use Rattle.std.proofs.lemmas.List.Elements.{All-append}
use Rattle.std.proofs.lemmas.Nat.{or_lt}
use Rattle.qfs_base.specs.Path.{IsNameByte, IsName, IsPath}
use Rattle.qfs_base.specs.Table.{Each}
use Rattle.rand_pcg.specs.Lcg.{Lcg}
use Rattle.rand_pcg.specs.Pcg.{pcg32}
use Rattle.qfs_model_script.specs.MadeScript.{words_from, directory, file_in}

-- ---- names

digit : (n : ℕ) → n < 10 → IsNameByte (48 + n)
digit n small = (omega arith, omega arith, λ e. omega (arith, e, small))

one_digit : (n : ℕ) → n < 10 → All IsNameByte ((48 + n) ∷ [])
one_digit n small zero d inside = digit n small
one_digit n small (suc k) d inside = absurd (omega arith)

digits : (n : ℕ) → n < 2 ^ 64 → All IsNameByte (decimal n)
digits =
    decimal_by_steps (λ n ds. All IsNameByte ds) one_digit
    (λ n ds big before. All-append IsNameByte ds ((48 + n % 10) ∷ []) before (one_digit (n % 10) (omega arith)))

letter_first : (letter : ℕ) → IsNameByte letter → (ds : List ℕ) → All IsNameByte ds → All IsNameByte (letter ∷ ds)
letter_first letter is ds each zero d inside = is
letter_first letter is ds each (suc k) d inside = each k d (omega arith)

-- a letter and the digits of a number
named : (letter n : ℕ) → IsNameByte letter → letter ≢ 46 → n < 10 ^ 9 → IsName (letter ∷ decimal n)
named letter n is no_dot small =
    let short : length (decimal n) ≤ 9 = length-decimal-le 9 n (omega arith) small (omega (arith, small)) in
    (omega arith, omega (arith, short), letter_first letter is (decimal n) (digits n (omega (arith, small))), λ e. no_dot (ap (λ name. get_or name 0 0) e), λ e. no_dot (ap (λ name. get_or name 0 0) e))

one_name : (a : ℕ) → a < 10 ^ 9 → IsName (codes "c" ++ decimal a)
one_name a small = named 99 a (omega arith, omega arith, λ e. omega (arith, e)) (λ e. omega (arith, e)) small

file_name : (k : ℕ) → k < 10 ^ 9 → IsName (codes "f" ++ decimal k)
file_name k small = named 102 k (omega arith, omega arith, λ e. omega (arith, e)) (λ e. omega (arith, e)) small

pub directory_path : (a : ℕ) → a < 10 ^ 9 → IsPath (directory a)
directory_path a small = (omega arith, names)
  where
    names : All IsName (directory a)
    names zero d inside = one_name a small
    names (suc k) d inside = absurd (omega arith)

pub file_path : (a k : ℕ) → a < 10 ^ 9 → k < 10 ^ 9 → IsPath (file_in a k)
file_path a k small few = (omega arith, names)
  where
    names : All IsName (file_in a k)
    names zero d inside = one_name a small
    names (suc zero) d inside = file_name k few
    names (suc (suc i)) d inside = absurd (omega arith)

-- ---- words

rotated_lt : (n by : ℕ) → n < 2 ^ 32 → rotate_right w32 n by < 2 ^ 32
rotated_lt n by small =
    or_lt 32 (n / 2 ^ (by % 32)) (n * 2 ^ ((32 - by % 32) % 32) % 2 ^ 32) (omega (arith, div-le_self n (2 ^ (by % 32)))) (omega arith)

abbrev pub IsWord : ℕ → Type 0
IsWord word = word < 2 ^ 32

pub words_fit : (count : ℕ) (generator : Lcg) → Each IsWord (words_from count generator)
unfolding words_from
words_fit zero generator = tt
words_fit (suc count) generator = (
  rotated_lt (bit_xor (generator.state / 2 ^ 18) generator.state / 2 ^ 27 % 2 ^ 32) (generator.state / 2 ^ 59) (omega arith),
  words_fit count (pcg32 generator).1,
)
