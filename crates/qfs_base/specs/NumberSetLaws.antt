-- What a set that is told by the bits of a number has, and how a bit that is set changes it.
use Rattle.std.proofs.Common.{◌≡◌, ◌≢◌, ◌⊎◌, inl, inr, ⊎_elim, ℕ, zero, suc, ◌+◌, ◌-◌, ◌*◌, ◌/◌, ◌%◌, ◌^◌, ◌<◌, ◌≤◌, Bool, true, false, List, [], ◌∷◌, nat_eq, refl, sym, ap, ◌∙◌, subst, arith}
use Rattle.std.proofs.lemmas.Grind.{common_steps}
use Rattle.std.proofs.lemmas.Bool.{cases_lt, eqb-true, eq-eqb}
use Rattle.std.specs.Cmp.Lexicographic.{pointwise, bytes_decides}
use Rattle.std.proofs.lemmas.Nat.{mod-pow-add, and_le_l}
use Rattle.std.proofs.lemmas.Nat.Bits.{bit_at-lt, bit_at-zero, shr_and_one, bit_at_set_same, bit_at_set_other, bit_at_clear_same, bit_at_clear_other, bit_at-trailing_zeros, bit_at_above}
use Rattle.std.proofs.lemmas.List.Sums.{sum_by-cons}
use Rattle.std.specs.List.{sum_by}
use Rattle.std.proofs.Common.{zero-add}
use Rattle.std.proofs.Math.Nat.{eq-or-lt_of_le, mod-eq_of_lt}
use Rattle.std.specs.Int.{bit_at, Width, bit_not, trailing_zeros}
use mir.Val.{bits}
use Rattle.std.specs.Prelude.{bit_and, bit_or}
use Rattle.std.specs.Prelude.{◌||◌, ◌&&◌}
use Rattle.std.specs.Cmp.{nat_cmp_is}
use Rattle.std.specs.Ordering.{nat_cmp, match_ordering}
use Rattle.std.specs.declared.cmp.Ordering.TheVariants.{Less, Equal, Greater}
use Rattle.qfs_base.specs.NumberSet.{has, with_member, keep_if, numbers_in, is_bit_of, members_of_bits, bits_of_members}

-- ---- what is a member

has-keep_if : (b : Bool) (m : ℕ) (rest : List ℕ) (n : ℕ) → has (keep_if b m rest) n ≡ ((b && nat_eq m n) || has rest n)
has-keep_if true m rest n = refl
has-keep_if false m rest n = refl

above : (m n : ℕ) → n < m → nat_eq m n ≡ false
above m n below = grind (arith, common_steps)

below : (m n : ℕ) → m < n → nat_eq m n ≡ false
below m n above = grind (arith, common_steps)

neither : (b c : Bool) → ((b && false) || c) ≡ c
neither true c = refl
neither false c = refl

pub has-numbers_in_above : (test : ℕ → Bool) (first count n : ℕ) → n < first → has (numbers_in test first count) n ≡ false
has-numbers_in_above test first zero n low = refl
has-numbers_in_above test first (suc count) n low =
    has-keep_if (test first) first (numbers_in test (first + 1) count) n
    ∙ ap (λ t. (test first && t) || has (numbers_in test (first + 1) count) n) (above first n low)
    ∙ neither (test first) _
    ∙ has-numbers_in_above test (first + 1) count n (omega arith)

same_number : (n : ℕ) → nat_eq n n ≡ true
same_number n = grind (arith, common_steps)

only_here : (b c : Bool) → c ≡ false → ((b && true) || c) ≡ b
only_here true c e = refl
only_here false c e = e

pub has-numbers_in : (test : ℕ → Bool) (first count n : ℕ) → first ≤ n → n < first + count → has (numbers_in test first count) n ≡ test n
has-numbers_in test first zero n low high = absurd (omega arith)
has-numbers_in test first (suc count) n low high =
    let rest : List ℕ = numbers_in test (first + 1) count in
    has-keep_if (test first) first rest n
    ∙ ⊎_elim
    (λ here. subst (λ m. ((test first && nat_eq first m) || has rest m) ≡ test m) here
    (ap (λ t. (test first && t) || has rest first) (same_number first)
    ∙ only_here (test first) _ (has-numbers_in_above test (first + 1) count first (omega arith))))
    (λ later. ap (λ t. (test first && t) || has rest n) (below first n later)
    ∙ neither (test first) _
    ∙ has-numbers_in test (first + 1) count n (omega arith) (omega arith))
    (eq-or-lt_of_le low)

pub has-numbers_in_below : (test : ℕ → Bool) (first count n : ℕ) → first + count ≤ n → has (numbers_in test first count) n ≡ false
has-numbers_in_below test first zero n high = refl
has-numbers_in_below test first (suc count) n high =
    has-keep_if (test first) first (numbers_in test (first + 1) count) n
    ∙ ap (λ t. (test first && t) || has (numbers_in test (first + 1) count) n) (below first n (omega arith))
    ∙ neither (test first) _
    ∙ has-numbers_in_below test (first + 1) count n (omega arith)

-- ---- one more member

pub same_numbers : (test other : ℕ → Bool) (first count : ℕ) → ((n : ℕ) → first ≤ n → test n ≡ other n) → numbers_in test first count ≡ numbers_in other first count
same_numbers test other first zero same = refl
same_numbers test other first (suc count) same =
    ap (λ b. keep_if b first (numbers_in test (first + 1) count)) (same first (omega arith))
    ∙ ap (keep_if (other first) first) (same_numbers test other (first + 1) count (λ n from. same n (omega arith)))

less : (n m : ℕ) → n < m → nat_cmp n m ≡ Less
less n m h = sym (nat_cmp_is n m Less h)

equal : (n : ℕ) → nat_cmp n n ≡ Equal
equal n = sym (nat_cmp_is n n Equal refl)

greater : (n m : ℕ) → m < n → nat_cmp n m ≡ Greater
greater n m h = sym (nat_cmp_is n m Greater h)

-- a number before the first that is kept
with_member-before : (test : ℕ → Bool) (first count n : ℕ) → n < first → with_member (numbers_in test first count) n ≡ n ∷ numbers_in test first count
with_member-before test first zero n low = refl
with_member-before test first (suc count) n low =
    let rest : List ℕ = numbers_in test (first + 1) count in
    elim (test first) as (λ b. with_member (keep_if b first rest) n ≡ n ∷ keep_if b first rest) [
      | true ↦ ap (λ r. match_ordering r (n ∷ first ∷ rest) (first ∷ rest) (first ∷ with_member rest n)) (less n first low)
      | false ↦ with_member-before test (first + 1) count n (omega arith)
    ]

with_member-at : (b : Bool) (n : ℕ) (rest : List ℕ) → with_member rest n ≡ n ∷ rest → n ∷ rest ≡ with_member (keep_if b n rest) n
with_member-at true n rest e = sym (ap (λ r. match_ordering r (n ∷ n ∷ rest) (n ∷ rest) (n ∷ with_member rest n)) (equal n))
with_member-at false n rest e = sym e

with_member-later : (b : Bool) (m n : ℕ) (rest : List ℕ) → m < n → keep_if b m (with_member rest n) ≡ with_member (keep_if b m rest) n
with_member-later true m n rest h = sym (ap (λ r. match_ordering r (n ∷ m ∷ rest) (m ∷ rest) (m ∷ with_member rest n)) (greater n m h))
with_member-later false m n rest h = refl

-- the numbers that pass a test, where another test passes the same ones and n
pub numbers_in-with_member : (test wider : ℕ → Bool) (first count n : ℕ) → first ≤ n → n < first + count → wider n ≡ true
    → ((m : ℕ) → first ≤ m → m ≢ n → wider m ≡ test m) → numbers_in wider first count ≡ with_member (numbers_in test first count) n
numbers_in-with_member test wider first zero n low high at others = absurd (omega arith)
numbers_in-with_member test wider first (suc count) n low high at others =
    let rest : List ℕ = numbers_in test (first + 1) count in
    ⊎_elim
    (λ here.
    ap (λ b. keep_if b first (numbers_in wider (first + 1) count)) (ap wider here ∙ at)
    ∙ ap (λ r. first ∷ r) (same_numbers wider test (first + 1) count (λ m from. others m (omega arith) (omega arith)))
    ∙ with_member-at (test first) first rest (with_member-before test (first + 1) count first (omega arith))
    ∙ ap (with_member (keep_if (test first) first rest)) here)
    (λ later.
    ap (λ b. keep_if b first (numbers_in wider (first + 1) count)) (others first (omega arith) (omega arith))
    ∙ ap (keep_if (test first) first) (numbers_in-with_member test wider (first + 1) count n (omega arith) (omega arith) at (λ m from apart. others m (omega arith) apart))
    ∙ with_member-later (test first) first n rest later)
    (eq-or-lt_of_le low)

-- ---- the bits of the members

one_or_none : (digit : ℕ) → digit < 2 → (digit ≡ 1) ⊎ (digit ≡ 0)
one_or_none zero h = inr refl
one_or_none (suc zero) h = inl refl
one_or_none (suc (suc d)) h = absurd (omega arith)

sum-keep_if : (first k digit : ℕ) (rest : List ℕ) → digit < 2 → bits_of_members first (keep_if (nat_eq digit 1) (first + k) rest) ≡ digit * 2 ^ k + bits_of_members first rest
unfolding bits_of_members
sum-keep_if first k digit rest small =
    let place : first + k - first ≡ k = omega arith in
    ⊎_elim
    (λ one. subst (λ d. sum_by (λ n. 2 ^ (n - first)) (keep_if (nat_eq d 1) (first + k) rest) ≡ d * 2 ^ k + sum_by (λ n. 2 ^ (n - first)) rest) (sym one)
    (sum_by-cons _ (first + k) rest ∙ rw place (omega arith)))
    (λ none. subst (λ d. sum_by (λ n. 2 ^ (n - first)) (keep_if (nat_eq d 1) (first + k) rest) ≡ d * 2 ^ k + sum_by (λ n. 2 ^ (n - first)) rest) (sym none)
    (omega arith))
    (one_or_none digit small)

joined : (a b c d e : ℕ) → d ≡ a + c → b + d ≡ e → a + b + c ≡ e
joined a b c d e h i = omega arith

-- the digits from place k on, before those below
sum-numbers_in : (first bits count k : ℕ) → bits_of_members first (numbers_in (is_bit_of first bits) (first + k) count) + bits % 2 ^ k ≡ bits % 2 ^ (count + k)
unfolding bits_of_members
sum-numbers_in first bits zero k = rw (zero-add k) (omega arith)
sum-numbers_in first bits (suc count) k =
    let digit : ℕ = bit_at bits k in
    let rest : List ℕ = numbers_in (is_bit_of first bits) (first + k + 1) count in
    let place : first + k - first ≡ k = omega arith in
    let here : bits_of_members first (keep_if (nat_eq digit 1) (first + k) rest) ≡ digit * 2 ^ k + bits_of_members first rest = sum-keep_if first k digit rest (bit_at-lt bits k) in
    let low : bits % 2 ^ (1 + k) ≡ digit * 2 ^ k + bits % 2 ^ k = mod-pow-add bits 1 k in
    let higher : bits_of_members first (numbers_in (is_bit_of first bits) (first + (k + 1)) count) + bits % 2 ^ (k + 1) ≡ bits % 2 ^ (count + (k + 1)) = sum-numbers_in first bits count (k + 1) in
    let from : first + (k + 1) ≡ first + k + 1 = omega arith in
    let one : 1 + k ≡ k + 1 = omega arith in
    let all : count + (k + 1) ≡ suc count + k = omega arith in
    let later : bits_of_members first rest + bits % 2 ^ (k + 1) ≡ bits % 2 ^ (suc count + k) = subst (λ a. bits_of_members first (numbers_in (is_bit_of first bits) a count) + bits % 2 ^ (k + 1) ≡ bits % 2 ^ (suc count + k)) from (subst (λ a. bits_of_members first (numbers_in (is_bit_of first bits) (first + (k + 1)) count) + bits % 2 ^ (k + 1) ≡ bits % 2 ^ a) all higher) in
    let lower : bits % 2 ^ (k + 1) ≡ digit * 2 ^ k + bits % 2 ^ k = subst (λ a. bits % 2 ^ a ≡ digit * 2 ^ k + bits % 2 ^ k) one low in
    ap (λ a. bits_of_members first (keep_if (nat_eq (bit_at bits a) 1) (first + k) rest) + bits % 2 ^ k) place
    ∙ ap (λ a. a + bits % 2 ^ k) here
    ∙ joined (digit * 2 ^ k) (bits_of_members first rest) (bits % 2 ^ k) (bits % 2 ^ (k + 1)) (bits % 2 ^ (suc count + k)) lower later

mod-one : (n : ℕ) → n % 1 ≡ 0
mod-one n = omega arith

alone : (a b c : ℕ) → b ≡ 0 → a + b ≡ c → a ≡ c
alone a b c h i = omega arith

pub bits_of_members-members_of_bits : (first count bits : ℕ) → bits < 2 ^ count → bits_of_members first (members_of_bits first count bits) ≡ bits
unfolding bits_of_members members_of_bits
bits_of_members-members_of_bits first count bits fits =
    let start : first + 0 ≡ first = omega arith in
    let end : count + 0 ≡ count = omega arith in
    let none : bits % 2 ^ 0 ≡ 0 = mod-one bits in
    let all : bits_of_members first (numbers_in (is_bit_of first bits) (first + 0) count) + bits % 2 ^ 0 ≡ bits % 2 ^ (count + 0) = sum-numbers_in first bits count 0 in
    let told : bits_of_members first (numbers_in (is_bit_of first bits) first count) + bits % 2 ^ 0 ≡ bits % 2 ^ count = subst (λ a. bits_of_members first (numbers_in (is_bit_of first bits) first count) + bits % 2 ^ 0 ≡ bits % 2 ^ a) end (subst (λ a. bits_of_members first (numbers_in (is_bit_of first bits) a count) + bits % 2 ^ 0 ≡ bits % 2 ^ (count + 0)) start all) in
    alone _ (bits % 2 ^ 0) _ none told ∙ mod-eq_of_lt fits

-- ---- the members that bits tell

none_passes : (test : ℕ → Bool) (first count : ℕ) → ((n : ℕ) → test n ≡ false) → numbers_in test first count ≡ []
none_passes test first zero none = refl
none_passes test first (suc count) none = ap (λ b. keep_if b first (numbers_in test (first + 1) count)) (none first) ∙ none_passes test (first + 1) count none

pub members_of_bits-none : (first count : ℕ) → members_of_bits first count 0 ≡ []
unfolding members_of_bits
members_of_bits-none first count = none_passes (is_bit_of first 0) first count (λ n. ap (λ d. nat_eq d 1) (bit_at-zero (n - first)))

pub has-members_of_bits : (first count bits n : ℕ) → first ≤ n → n < first + count → has (members_of_bits first count bits) n ≡ nat_eq (bit_and (bits / 2 ^ (n - first)) 1) 1
unfolding members_of_bits
has-members_of_bits first count bits n low high =
    has-numbers_in (is_bit_of first bits) first count n low high ∙ ap (λ d. nat_eq d 1) (sym (shr_and_one bits (n - first)))

pub has-members_of_bits_low : (first count bits n : ℕ) → n < first → has (members_of_bits first count bits) n ≡ false
unfolding members_of_bits
has-members_of_bits_low first count bits n low = has-numbers_in_above (is_bit_of first bits) first count n low

pub has-members_of_bits_high : (first count bits n : ℕ) → first + count ≤ n → has (members_of_bits first count bits) n ≡ false
unfolding members_of_bits
has-members_of_bits_high first count bits n high = has-numbers_in_below (is_bit_of first bits) first count n high

-- the bit of n is set by `bits | 1 << (n - first)`
pub members_of_bits-set : (w : Width) (first count place n : ℕ) → first ≤ n → n < first + count → n - first < bits w
    → members_of_bits first count (bit_or place (1 * 2 ^ (n - first) % 2 ^ bits w)) ≡ with_member (members_of_bits first count place) n
unfolding members_of_bits
members_of_bits-set w first count place n low high within =
    numbers_in-with_member (is_bit_of first place) (is_bit_of first (bit_or place (1 * 2 ^ (n - first) % 2 ^ bits w))) first count n low high
    (ap (λ d. nat_eq d 1) (bit_at_set_same w place (n - first) within))
    (λ m from apart. ap (λ d. nat_eq d 1) (bit_at_set_other w place (n - first) within (m - first) (λ e. apart (omega arith))))

-- ---- the least member

-- where n is the first to pass a test, and another test passes those behind it
numbers_in-least : (test others : ℕ → Bool) (first count n : ℕ) → first ≤ n → n < first + count → test n ≡ true → others n ≡ false
    → ((m : ℕ) → first ≤ m → m < n → test m ≡ false) → ((m : ℕ) → first ≤ m → m ≢ n → others m ≡ test m)
    → numbers_in test first count ≡ n ∷ numbers_in others first count
numbers_in-least test others first zero n low high at gone before same = absurd (omega arith)
numbers_in-least test others first (suc count) n low high at gone before same =
    let tests : List ℕ = numbers_in test (first + 1) count in
    let rest : List ℕ = numbers_in others (first + 1) count in
    ⊎_elim
    (λ here.
    ap (λ b. keep_if b first tests) (ap test here ∙ at)
    ∙ ap (λ ns. first ∷ ns) (same_numbers test others (first + 1) count (λ m from. sym (same m (omega arith) (omega arith))))
    ∙ ap (λ b. first ∷ keep_if b first rest) (sym (ap others here ∙ gone))
    ∙ ap (λ m. m ∷ keep_if (others first) first rest) here)
    (λ later.
    ap (λ b. keep_if b first tests) (before first (omega arith) later)
    ∙ numbers_in-least test others (first + 1) count n (omega arith) (omega arith) at gone (λ m from to. before m (omega arith) to) (λ m from apart. same m (omega arith) apart)
    ∙ ap (λ b. n ∷ keep_if b first rest) (sym (same first (omega arith) (omega arith) ∙ before first (omega arith) later)))
    (eq-or-lt_of_le low)

-- every bit but the one that is cleared stays, also past the word's end
others : (w : Width) (word place : ℕ) → place < bits w → word < 2 ^ bits w → (i : ℕ) → i ≢ place → bit_at (bit_and word (bit_not w (1 * 2 ^ place % 2 ^ bits w))) i ≡ bit_at word i
others w word place within fits i apart =
    ⊎_elim
    (λ inside. bit_at_clear_other w word place within i inside apart)
    (λ past.
    let cleared : bit_and word (bit_not w (1 * 2 ^ place % 2 ^ bits w)) ≤ word = and_le_l _ _ in
    let small : bit_and word (bit_not w (1 * 2 ^ place % 2 ^ bits w)) < 2 ^ bits w = omega arith in
    bit_at_above _ (bits w) i small past ∙ sym (bit_at_above word (bits w) i fits past))
    (cases_lt i (bits w))

-- the lowest bit that is set, and the others
pub members_of_bits-least : (w : Width) (first word : ℕ) → 0 < word → word < 2 ^ bits w
    → members_of_bits first (bits w) word ≡ (trailing_zeros w word + first) ∷ members_of_bits first (bits w) (bit_and word (bit_not w (1 * 2 ^ trailing_zeros w word % 2 ^ bits w)))
unfolding members_of_bits
members_of_bits-least w first word some fits =
    let place : ℕ = trailing_zeros w word in
    let lowest : (place < bits w) × (bit_at word place ≡ 1) × ((i : ℕ) → i < place → bit_at word i ≡ 0) = bit_at-trailing_zeros w word some fits in
    let within : place < bits w = lowest.0 in
    let here : place + first - first ≡ place = omega arith in
    numbers_in-least (is_bit_of first word) (is_bit_of first (bit_and word (bit_not w (1 * 2 ^ place % 2 ^ bits w)))) first (bits w) (place + first) (omega arith) (omega arith)
    (ap (λ i. nat_eq (bit_at word i) 1) here ∙ ap (λ d. nat_eq d 1) lowest.1)
    (ap (λ i. nat_eq (bit_at (bit_and word (bit_not w (1 * 2 ^ place % 2 ^ bits w))) i) 1) here ∙ ap (λ d. nat_eq d 1) (bit_at_clear_same w word place within))
    (λ m from to. ap (λ d. nat_eq d 1) (lowest.2 (m - first) (omega arith)))
    (λ m from apart. ap (λ d. nat_eq d 1) (others w word place within fits (m - first) (λ e. apart (omega arith))))

-- ---- two words

same_answer : (a b : Bool) → (a ≡ true → b ≡ true) → (b ≡ true → a ≡ true) → a ≡ b
same_answer true b to from = sym (to refl)
same_answer false true to from = from refl
same_answer false false to from = refl

-- words that fit tell the same members exactly where they are equal
pub pointwise-members_of_bits : (first count word other : ℕ) → word < 2 ^ count → other < 2 ^ count
    → nat_eq word other ≡ pointwise nat_eq (members_of_bits first count word) (members_of_bits first count other)
pointwise-members_of_bits first count word other fits other_fits =
    let lists : (pointwise nat_eq (members_of_bits first count word) (members_of_bits first count other) ≡ true → members_of_bits first count word ≡ members_of_bits first count other)
    × (members_of_bits first count word ≡ members_of_bits first count other → pointwise nat_eq (members_of_bits first count word) (members_of_bits first count other) ≡ true)
    = bytes_decides (members_of_bits first count word) (members_of_bits first count other) in
    same_answer _ _
    (λ same. lists.1 (ap (members_of_bits first count) (eqb-true word other same)))
    (λ same. eq-eqb word other
    (sym (bits_of_members-members_of_bits first count word fits)
    ∙ ap (bits_of_members first) (lists.0 same)
    ∙ bits_of_members-members_of_bits first count other other_fits))
