-- What hexadecimal digits tell are bytes.
use Rattle.std.proofs.Common.{◌≡◌, ℕ, ◌+◌, ◌-◌, ◌*◌, ◌<◌, ◌≤◌, Bool, true, false, cond, List, [], ◌∷◌, refl, subst, arith, Option, Some, None, Result, Ok, Err}
use Rattle.std.specs.Prelude.{◌&&◌, nat_le}
use Rattle.std.proofs.lemmas.Bool.{leb-true, and_parts}
use Rattle.std.proofs.lemmas.Option.{same_Some}
use Rattle.hex.specs.Hex.{◌>>=◌, decode_pairs, pair_value, value_at, digit_or_error, hex_digit_value}
use Rattle.hex.specs.declared.error.FromHexError.{FromHexError}
use Rattle.qfs_base.specs.Table.{Each}
use Rattle.qfs_model_script.specs.InScript.{IsByte}

ok-is : {A : Type 0} (a b : A) (read : Result A FromHexError) → read ≡ Ok a → read ≡ Ok b → a ≡ b
ok-is a b read first second = cc

-- one of three answers, or none
digit_case : (upper lower digit : Bool) (u l d v : ℕ) → (upper ≡ true → u < 16) → (lower ≡ true → l < 16) → (digit ≡ true → d < 16)
    → cond upper (Some u) (cond lower (Some l) (cond digit (Some d) None)) ≡ Some v → v < 16
digit_case true lower digit u l d v of_u of_l of_d is = subst (λ n. n < 16) (same_Some u v is) (of_u refl)
digit_case false true digit u l d v of_u of_l of_d is = subst (λ n. n < 16) (same_Some l v is) (of_l refl)
digit_case false false true u l d v of_u of_l of_d is = subst (λ n. n < 16) (same_Some d v is) (of_d refl)
digit_case false false false u l d v of_u of_l of_d is = cc

within : (first last c : ℕ) → (nat_le first c && nat_le c last) ≡ true → (first ≤ c) × (c ≤ last)
within first last c is = let parts = and_parts _ _ is in (leb-true _ _ parts.0, leb-true _ _ parts.1)

digit_small : (c v : ℕ) → hex_digit_value c ≡ Some v → v < 16
digit_small c v is =
    digit_case (nat_le 65 c && nat_le c 70) (nat_le 97 c && nat_le c 102) (nat_le 48 c && nat_le c 57) (c - 55) (c - 87) (c - 48) v
    (λ upper. let w = within 65 70 c upper in omega (arith, w.0, w.1))
    (λ lower. let w = within 97 102 c lower in omega (arith, w.0, w.1))
    (λ digit. let w = within 48 57 c digit in omega (arith, w.0, w.1))
    is

value_small : (c i v : ℕ) (digit : Option ℕ) → ((w : ℕ) → digit ≡ Some w → w < 16) → digit_or_error c i digit ≡ Ok v → v < 16
value_small c i v (Some w) small is = subst (λ n. n < 16) (ok-is w v (Ok w) refl is) (small w refl)
value_small c i v None small is = cc

pair_small : (high low : Result ℕ FromHexError) (byte : ℕ) → ((h : ℕ) → high ≡ Ok h → h < 16) → ((l : ℕ) → low ≡ Ok l → l < 16)
    → (high >>= (λ h. low >>= (λ l. Ok (h * 16 + l)))) ≡ Ok byte → byte < 256
pair_small (Ok h) (Ok l) byte of_high of_low is =
    subst (λ n. n < 256) (ok-is (h * 16 + l) byte (Ok (h * 16 + l)) refl is) (omega (arith, of_high h refl, of_low l refl))
pair_small (Ok h) (Err error) byte of_high of_low is = cc
pair_small (Err error) low byte of_high of_low is = cc

byte_small : (high low i byte : ℕ) → pair_value high low i ≡ Ok byte → byte < 256
byte_small high low i byte is =
    pair_small (value_at high i) (value_at low (i + 1)) byte
    (λ h. value_small high i h (hex_digit_value high) (digit_small high))
    (λ l. value_small low (i + 1) l (hex_digit_value low) (digit_small low))
    is

more_small : (byte : Result ℕ FromHexError) (more : Result (List ℕ) FromHexError) (bytes : List ℕ)
    → ((b : ℕ) → byte ≡ Ok b → b < 256) → ((bs : List ℕ) → more ≡ Ok bs → Each IsByte bs)
    → (◌>>=◌ {B = List ℕ} byte (λ b. more >>= (λ bs. Ok (b ∷ bs)))) ≡ Ok bytes → Each IsByte bytes
more_small (Ok b) (Ok bs) bytes of_byte of_more is = subst (Each IsByte) (ok-is (b ∷ bs) bytes (Ok (b ∷ bs)) refl is) (of_byte b refl, of_more bs refl)
more_small (Ok b) (Err error) bytes of_byte of_more is = cc
more_small (Err error) more bytes of_byte of_more is = cc

pub pairs_said : (i : ℕ) (digits bytes : List ℕ) → decode_pairs i digits ≡ Ok bytes → Each IsByte bytes
unfolding decode_pairs
pairs_said i [] bytes is = subst (Each IsByte) (ok-is [] bytes (Ok []) refl is) tt
pairs_said i (digit ∷ []) bytes is = cc
pairs_said i (high ∷ low ∷ digits) bytes is =
    more_small (pair_value high low i) (decode_pairs (i + 2) digits) bytes (byte_small high low i)
    (λ bs. pairs_said (i + 2) digits bs) is
