-- Numbers as they are written: decimal, without a sign and without leading zeros.
use Rattle.std.specs.Prelude.{ℕ, ◌&&◌, nat_lt, if◌then◌else◌, decimal, List, Option, Some, None}
use Rattle.std.specs.Str.{bytes_eq}
use Rattle.std.specs.Str.Parse.{digits_value}

-- the number below the bound that a text writes; printing it gives the text again, so that each
-- number is written in one way only
unfoldable pub number_below : ℕ → List ℕ → Option ℕ
number_below bound text =
    let number = digits_value 10 text in
    if nat_lt number bound && bytes_eq (decimal number) text then Some number else None
