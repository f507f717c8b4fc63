-- A set of numbers as the rising list of its members, and such a list read off the bits of one
-- number.
use Rattle.std.specs.Prelude.{ℕ, zero, suc, ◌+◌, ◌-◌, ◌^◌, Bool, true, false, List, [], ◌∷◌, nat_eq}
use Rattle.std.specs.List.{sum_by}
use Rattle.std.specs.Ordering.{nat_cmp}
use Rattle.std.specs.Int.{bit_at}
use Rattle.std.specs.List.{list_any}
use Rattle.std.specs.BTreeSet.{insert_key}

-- whether a number is a member
abbrev pub has : List ℕ → ℕ → Bool
has members n = list_any (λ m. nat_eq m n) members

-- the members and n, in order
abbrev pub with_member : List ℕ → ℕ → List ℕ
with_member members n = insert_key nat_cmp members n

-- a number before others, if it is kept
abbrev pub keep_if : Bool → ℕ → List ℕ → List ℕ
keep_if true n rest = n ∷ rest
keep_if false n rest = rest

-- those of `count` numbers from `first` on that pass a test, rising
abbrev pub numbers_in : (ℕ → Bool) → ℕ → ℕ → List ℕ
numbers_in test first zero = []
numbers_in test first (suc count) = keep_if (test first) first (numbers_in test (first + 1) count)

-- whether the bit of n is set, where bit 0 stands for `first`
abbrev pub is_bit_of : ℕ → ℕ → ℕ → Bool
is_bit_of first bits n = nat_eq (bit_at bits (n - first)) 1

-- the members that the lowest `count` bits tell
unfoldable pub members_of_bits : ℕ → ℕ → ℕ → List ℕ
members_of_bits first count bits = numbers_in (is_bit_of first bits) first count

-- the bits that tell these members
unfoldable pub bits_of_members : ℕ → List ℕ → ℕ
bits_of_members first members = sum_by (λ n. 2 ^ (n - first)) members
