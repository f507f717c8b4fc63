-- Numbers that rise, as a set of servers is read: one more may come behind the last, and none that isn't above it.
use Rattle.std.proofs.Common.{◌≡◌, ◌∙◌, refl, sym, ap, subst, arith, ℕ, ◌+◌, ◌-◌, ◌<◌, ◌≤◌, Bool, true, false, cond, ltb, eqb, List, [], ◌∷◌, ◌++◌, Option, Some, None, inl, inr, append_assoc}
use Rattle.std.specs.Prelude.{nat_le, ◌⊎◌}
use Rattle.std.specs.BTreeSet.{insert_key}
use Rattle.std.specs.List.{AllByRecursion, list_all}
use Rattle.std.specs.Option.{option_and_then}
use Rattle.std.specs.Int.{w32}
use Rattle.std.specs.Ordering.{is_lt, nat_cmp}
use Rattle.std.specs.declared.cmp.Ordering.TheVariants.{Less, Equal, Greater}
use Rattle.std.proofs.lemmas.Bool.{and_from, and_parts, le-ltb, le-leb, leb-true, lt-ltb, ltb-true, ne_eqb, false_from_ne_true}
use Rattle.std.proofs.lemmas.List.Folds.{list_all-append}
use Rattle.qfs_model_disks.specs.Tests.{are_rising}
use Rattle.qfs_model_disks.specs.Values.{from_one}
use Rattle.qfs_record.specs.Part.{many_at, number_at}
use Rattle.qfs_spelling.specs.Sets.{is_set, server_set}
use Rattle.qfs_spelling.proofs.Lists.{behind, list_goes_on, with_front}

-- ---- the order of numbers

is_less : (x y : ℕ) → x < y → is_lt (nat_cmp x y) ≡ true
is_less x y less = rw (lt-ltb x y less) refl

less_if : (a b : Bool) → is_lt (cond a Less (cond b Equal Greater)) ≡ true → a ≡ true
less_if true b is = refl
less_if false true is = absurd cc
less_if false false is = absurd cc

less_is : (x y : ℕ) → is_lt (nat_cmp x y) ≡ true → x < y
less_is x y is = ltb-true x y (less_if (ltb x y) (eqb x y) is)

-- ---- one more number

-- the last of some numbers, or this one where there are none
abbrev pub last_from : ℕ → List ℕ → ℕ
last_from before [] = before
last_from before (x ∷ xs) = last_from x xs

abbrev pub AreBelow : ℕ → List ℕ → Type 0
AreBelow y xs = AllByRecursion (λ x. x < y) xs

below_last : (x : ℕ) (xs : List ℕ) (y : ℕ) → are_rising nat_cmp (x ∷ xs) ≡ true → last_from x xs < y → AreBelow y (x ∷ xs)
unfolding are_rising
below_last x [] y rising less = (less, tt)
below_last x (z ∷ zs) y rising less =
    let parts = and_parts _ _ rising in
    let first = and_parts _ _ parts.0 in
    let rest = below_last z zs y parts.1 less in
    let near = less_is x z first.0 in
    (omega (arith, rest.0), rest)

pub are_below : (xs : List ℕ) (y : ℕ) → are_rising nat_cmp xs ≡ true → last_from 0 xs < y → AreBelow y xs
are_below [] y rising less = tt
are_below (x ∷ xs) y rising less = below_last x xs y rising less

rises_on : (xs : List ℕ) (y : ℕ) → are_rising nat_cmp xs ≡ true → AreBelow y xs → are_rising nat_cmp (xs ++ y ∷ []) ≡ true
unfolding are_rising
rises_on [] y rising below = refl
rises_on (x ∷ xs) y rising below =
    let parts = and_parts _ _ rising in
    let first : list_all (λ later. is_lt (nat_cmp x later)) (xs ++ y ∷ []) ≡ true =
    list_all-append (λ later. is_lt (nat_cmp x later)) xs (y ∷ [])
    ∙ and_from _ _ parts.0 (and_from _ true (is_less x y below.0) refl) in
    and_from _ _ first (rises_on xs y parts.1 below.1)

-- the set with one more is the list with it behind
pub inserted : (xs : List ℕ) (y : ℕ) → AreBelow y xs → insert_key nat_cmp xs y ≡ xs ++ y ∷ []
inserted [] y below = refl
inserted (x ∷ xs) y below =
    let above : x < y = below.0 in
    let over : ltb y x ≡ false = le-ltb y x (omega arith) in
    let apart : eqb y x ≡ false = ne_eqb y x (λ same. omega (arith, same)) in
    rw (over, apart) (ap (λ ys. x ∷ ys) (inserted xs y below.1))

pub set_more : (xs : List ℕ) (y : ℕ) → is_set xs ≡ true → last_from 0 xs < y → y ≤ 64 → is_set (xs ++ y ∷ []) ≡ true
set_more xs y is less few =
    let parts = and_parts _ _ is in
    let rising = rises_on xs y parts.0 (are_below xs y parts.0 less) in
    let small : list_all (λ server. nat_le server 64) (xs ++ y ∷ []) ≡ true =
    list_all-append (λ server. nat_le server 64) xs (y ∷ []) ∙ and_from _ _ parts.1 (and_from _ true (le-leb y 64 few) refl) in
    and_from _ _ rising small

pub last_more : (before : ℕ) (xs : List ℕ) (y : ℕ) → last_from before (xs ++ y ∷ []) ≡ y
last_more before [] y = refl
last_more before (x ∷ xs) y = last_more x xs y

-- ---- none that isn't above the last

later_above : (xs : List ℕ) (before y : ℕ) (ys : List ℕ) → before < y → are_rising nat_cmp (xs ++ y ∷ ys) ≡ true → last_from before xs < y
unfolding are_rising
later_above [] before y ys less rising = less
later_above (x ∷ xs) before y ys less rising =
    let parts = and_parts _ _ rising in
    let all = sym (list_all-append (λ later. is_lt (nat_cmp x later)) xs (y ∷ ys)) ∙ parts.0 in
    let near = (and_parts _ _ (and_parts _ _ all).1).0 in
    later_above xs x y ys (less_is x y near) parts.1

not_in_set : (xs : List ℕ) (y : ℕ) (ys : List ℕ) → 1 ≤ y → (y ≤ last_from 0 xs) ⊎ (64 < y) → is_set (xs ++ y ∷ ys) ≡ true → ⊥
not_in_set xs y ys from_one out is =
    let parts = and_parts _ _ is in
    let all = sym (list_all-append (λ server. nat_le server 64) xs (y ∷ ys)) ∙ parts.1 in
    let tests : list_all (λ server. nat_le server 64) (y ∷ ys) ≡ true = (and_parts _ _ all).1 in
    let few : y ≤ 64 = leb-true y 64 (and_parts (nat_le y 64) (list_all (λ server. nat_le server 64) ys) tests).0 in
    let above : last_from 0 xs < y = later_above xs 0 y ys from_one parts.0 in
    elim out [ inl low ↦ omega (arith, low, above) | inr high ↦ omega (arith, high, few) ]

-- a list that goes on so is no set, however it ends
abbrev pub if_set : Option (List ℕ × List ℕ) → Option (List ℕ × List ℕ)
if_set found = option_and_then (λ front. cond (is_set front.0) (Some front) None) found

pub no_set : (xs : List ℕ) (y : ℕ) (found : Option (List ℕ × List ℕ)) → 1 ≤ y → (y ≤ last_from 0 xs) ⊎ (64 < y) → if_set (with_front (xs ++ y ∷ []) found) ≡ None
no_set xs y None from_one out = refl
no_set xs y (Some back) from_one out =
    let whole : (xs ++ y ∷ []) ++ back.0 ≡ xs ++ y ∷ back.0 = append_assoc xs (y ∷ []) back.0 in
    let fails : is_set ((xs ++ y ∷ []) ++ back.0) ≡ false =
    false_from_ne_true _ (λ is. not_in_set xs y back.0 from_one out (subst (λ ys. is_set ys ≡ true) whole is)) in
    rw fails refl

-- ---- in the loop that reads them

pub set_begins : (set : List ℕ) → set ≡ [] → (is_set set ≡ true) × (0 ≡ last_from 0 set)
unfolding are_rising
set_begins set none = (ap is_set none, sym (ap (last_from 0) none))

pub set_goes_on : (xs new : List ℕ) (y : ℕ) → is_set xs ≡ true → last_from 0 xs < y → y ≤ 64 → new ≡ insert_key nat_cmp xs y
    → (new ≡ xs ++ y ∷ []) × (is_set new ≡ true) × (y ≡ last_from 0 new)
set_goes_on xs new y is less few put =
    let below = are_below xs y (and_parts _ _ is).0 less in
    let more : new ≡ xs ++ y ∷ [] = put ∙ inserted xs y below in
    (more, ap is_set more ∙ set_more xs y is less few, sym (last_more 0 xs y) ∙ ap (last_from 0) (sym more))

-- a list of numbers that stops being a set is read as none
pub no_set_read : (xs : List ℕ) (y : ℕ) (count i : ℕ) (input bytes first rest : List ℕ) → Some (count, first) ≡ number_at w32 input → i < count
    → from_one.read bytes ≡ Some (y, rest) → 1 ≤ y → (y ≤ last_from 0 xs) ⊎ (64 < y)
    → behind from_one xs (count - i) bytes ≡ many_at from_one count first → None ≡ server_set.read input
no_set_read xs y count i input bytes first rest counted inside read least out so_far =
    let goes = list_goes_on from_one xs (xs ++ y ∷ []) count i bytes y rest (many_at from_one count first) inside read refl so_far in
    rw (sym counted) (sym (no_set xs y (many_at from_one (count - (i + 1)) rest) least out) ∙ ap if_set goes)
