-- Each image after a call is one before it, after what the call may spoil.
use Rattle.std.proofs.Common.{◌≡◌, ◌⊎◌, inl, inr, ⊎_elim, ◌∙◌, refl, sym, ap, arith, ℕ, zero, suc, ◌+◌, ◌<◌, ◌≤◌, min, max, ◌-◌, Bool, true, false, true≢false, cond, ltb, leb, List, [], ◌∷◌, ◌++◌, length, get_or, take, drop, length-append, length-take, length-drop}
use Rattle.std.specs.Prelude.{◌&&◌, IsTrue}
use Rattle.std.proofs.lemmas.Bool.{cases_lt, lt-ltb, le-leb, leb-true, ltb-true}
use Rattle.std.specs.Cmp.Derive.{both_true}
use Rattle.std.proofs.lemmas.List.{get_or-take, get_or-drop}
use Rattle.qfs_disk.specs.Disk.{written, Torn, CutShort}
use Rattle.qfs_disk.specs.Moments.{Moment, IsDirty, IsImage, least_of, after_write, after_cut, after_sync}

-- ---- a list by its places

table : (ℕ → ℕ) → ℕ → List ℕ
table f zero = []
table f (suc n) = f 0 ∷ table (λ i. f (suc i)) n

length-table : (f : ℕ → ℕ) (n : ℕ) → length (table f n) ≡ n
unfolding table
length-table f zero = refl
length-table f (suc n) = omega (arith, length-table (λ i. f (suc i)) n)

get-table : (f : ℕ → ℕ) (n i : ℕ) → i < n → get_or (table f n) i 0 ≡ f i
unfolding table
get-table f zero i inside = absurd (omega (arith, inside))
get-table f (suc n) zero inside = refl
get-table f (suc n) (suc i) inside = get-table (λ j. f (suc j)) n i (omega (arith, inside))

-- a place by a test on its number
choose : {A : Type 0} (b : Bool) (x y : A) → ((b ≡ true) × (cond b x y ≡ x)) ⊎ ((b ≡ false) × (cond b x y ≡ y))
choose true x y = inl (refl, refl)
choose false x y = inr (refl, refl)

and_both : (a b : Bool) → IsTrue (a && b) → IsTrue a × IsTrue b
and_both true b is = (refl, is)
and_both false b is = absurd (true≢false (sym is))

-- ---- ranges

pub dirty_push : (ranges : List (ℕ × ℕ)) (range : ℕ × ℕ) (i : ℕ) → IsDirty (ranges ++ range ∷ []) i → IsDirty ranges i ⊎ ((range.0 ≤ i) × (i < range.0 + range.1))
dirty_push [] range i (inl here) = inr here
dirty_push [] range i (inr none) = absurd none
dirty_push (one ∷ ranges) range i (inl here) = inl (inl here)
dirty_push (one ∷ ranges) range i (inr there) = ⊎_elim (λ d. inl (inr d)) (λ d. inr d) (dirty_push ranges range i there)

-- ---- bytes of a write

append_front : (xs ys : List ℕ) (i : ℕ) → i < length xs → get_or (xs ++ ys) i 0 ≡ get_or xs i 0
append_front [] ys i inside = absurd (omega (arith, inside))
append_front (x ∷ xs) ys zero inside = refl
append_front (x ∷ xs) ys (suc i) inside = append_front xs ys i (omega (arith, inside))

append_back : (xs ys : List ℕ) (i k : ℕ) → i ≡ length xs + k → get_or (xs ++ ys) i 0 ≡ get_or ys k 0
append_back [] ys i k is = ap (λ (n : ℕ). get_or ys n 0) (omega (arith, is))
append_back (x ∷ xs) ys zero k is = absurd (omega (arith, is))
append_back (x ∷ xs) ys (suc i) k is = append_back xs ys i k (omega (arith, is))

module _ (at : ℕ) (put old : List ℕ) (inside : at ≤ length old) where
  front_long : length (take at old) ≡ at
  front_long = omega (arith, length-take at old)

  pub length-written : length (written at put old) ≡ max (length old) (at + length put)
  length-written =
      omega (arith, front_long, length-append (take at old ++ put) (drop (at + length put) old), length-append (take at old) put, length-drop (at + length put) old)

  -- a byte outside of the range stays
  pub written_outside : (i : ℕ) → i < length old → (i < at) ⊎ (at + length put ≤ i) → get_or (written at put old) i 0 ≡ get_or old i 0
  written_outside i in_old (inl before) =
      append_front (take at old ++ put) (drop (at + length put) old) i (omega (arith, front_long, before, length-append (take at old) put))
      ∙ append_front (take at old) put i (omega (arith, front_long, before)) ∙ get_or-take at old i 0 before
  written_outside i in_old (inr after) =
      append_back (take at old ++ put) (drop (at + length put) old) i (i - (at + length put)) (omega (arith, front_long, after, length-append (take at old) put))
      ∙ get_or-drop (at + length put) old (i - (at + length put)) 0 ∙ ap (λ (n : ℕ). get_or old n 0) (omega (arith, after))

-- ---- images

-- after a write
pub write_image : (m : Moment) (at : ℕ) (put : List ℕ) → at ≤ length m.bytes → (c : List ℕ) → IsImage (after_write at put m) c
    → (d : List ℕ) × IsImage m d × Torn at (length put) d c
write_image m at put inside c is = (old, image, torn)
  where
    next : Moment
    next = after_write at put m

    in_range : ℕ → Bool
    in_range i = leb at i && ltb i (at + length put)

    place : ℕ → ℕ
    place i = cond (in_range i) (get_or m.bytes i 0) (get_or c i 0)

    old : List ℕ
    old = table place (min (length c) (max m.greatest (length m.bytes)))

    long : length old ≡ min (length c) (max m.greatest (length m.bytes))
    long = length-table place (min (length c) (max m.greatest (length m.bytes)))

    next_long : length next.bytes ≡ max (length m.bytes) (at + length put)
    next_long = length-written at put m.bytes inside

    same_least : min next.least (length next.bytes) ≡ min m.least (length m.bytes)
    same_least = omega (arith, next_long)

    -- which places pass the test
    within : (i : ℕ) → in_range i ≡ true → (at ≤ i) × (i < at + length put)
    within i passes = let both = and_both (leb at i) (ltb i (at + length put)) passes in (leb-true at i both.0, ltb-true i (at + length put) both.1)

    out : (i : ℕ) → in_range i ≡ false → (i < at) ⊎ (at + length put ≤ i)
    out i misses = elim (cases_lt i at) [
      | inl before ↦ inl before
      | inr from ↦ elim (cases_lt i (at + length put)) [
        | inl inner ↦ absurd (true≢false (sym (both_true (le-leb at i from) (lt-ltb i (at + length put) inner)) ∙ misses))
        | inr past ↦ inr past
      ]
    ]

    clean_next : (i : ℕ) → in_range i ≡ false → (IsDirty m.dirty i → ⊥) → IsDirty next.dirty i → ⊥
    clean_next i misses clean spoiled =
        ⊎_elim clean (λ inner. ⊎_elim (λ before. omega (arith, before, inner.0)) (λ past. omega (arith, past, inner.1)) (out i misses))
        (dirty_push m.dirty (at, length put) i spoiled)

    same_place : (i : ℕ) → i < least_of m → (IsDirty m.dirty i → ⊥) → place i ≡ get_or m.bytes i 0
    same_place i below clean = ⊎_elim
        (λ passes. passes.1)
        (λ misses. misses.1 ∙ is.clean i (omega (arith, below, same_least)) (clean_next i misses.0 clean)
        ∙ written_outside at put m.bytes inside i (omega (arith, below)) (out i misses.0))
        (choose (in_range i) (get_or m.bytes i 0) (get_or c i 0))

    image : IsImage m old
    image = record {
      no_shorter = omega (arith, long, same_least, is.no_shorter);
      no_longer = omega (arith, long);
      clean = λ i below clean. get-table place (min (length c) (max m.greatest (length m.bytes))) i (omega (arith, below, same_least, is.no_shorter)) ∙ same_place i below clean;
    }

    torn : Torn at (length put) old c
    torn = record {
      no_shorter = omega (arith, long);
      no_longer = omega (arith, long, is.no_longer, next_long);
      outside = λ i in_old apart.
          sym (get-table place (min (length c) (max m.greatest (length m.bytes))) i (omega (arith, in_old, long))
          ∙ ⊎_elim (λ passes. let inner = within i passes.0 in absurd (⊎_elim (λ before. omega (arith, before, inner.0)) (λ past. omega (arith, past, inner.1)) apart)) (λ misses. misses.1)
          (choose (in_range i) (get_or m.bytes i 0) (get_or c i 0)));
    }

-- after a cut
pub cut_image : (m : Moment) (len : ℕ) → len ≤ length m.bytes → (c : List ℕ) → IsImage (after_cut len m) c
    → (d : List ℕ) × IsImage m d × CutShort len d c
cut_image m len inside c is = (old, image, short)
  where
    next : Moment
    next = after_cut len m

    kept : ℕ → Bool
    kept i = ltb i len && ltb i (length c)

    place : ℕ → ℕ
    place i = cond (kept i) (get_or c i 0) (get_or m.bytes i 0)

    old : List ℕ
    old = table place (max (length c) (min m.least (length m.bytes)))

    long : length old ≡ max (length c) (min m.least (length m.bytes))
    long = length-table place (max (length c) (min m.least (length m.bytes)))

    next_long : length next.bytes ≡ len
    next_long = length-take len m.bytes ∙ omega (arith, inside)

    within : (i : ℕ) → kept i ≡ true → (i < len) × (i < length c)
    within i passes = let both = and_both (ltb i len) (ltb i (length c)) passes in (ltb-true i len both.0, ltb-true i (length c) both.1)

    same_place : (i : ℕ) → i < least_of m → (IsDirty m.dirty i → ⊥) → place i ≡ get_or m.bytes i 0
    same_place i below clean = ⊎_elim
        (λ passes. let inner = within i passes.0 in passes.1 ∙ is.clean i (omega (arith, below, next_long, inner.0)) clean
        ∙ get_or-take len m.bytes i 0 inner.0)
        (λ misses. misses.1)
        (choose (kept i) (get_or c i 0) (get_or m.bytes i 0))

    image : IsImage m old
    image = record {
      no_shorter = omega (arith, long);
      no_longer = omega (arith, long, is.no_longer, next_long, inside);
      clean = λ i below clean. get-table place (max (length c) (min m.least (length m.bytes))) i (omega (arith, below)) ∙ same_place i below clean;
    }

    short : CutShort len old c
    short = record {
      no_shorter = omega (arith, long, is.no_shorter, next_long);
      no_longer = omega (arith, long);
      front = λ i before in_c.
          sym (get-table place (max (length c) (min m.least (length m.bytes))) i (omega (arith, in_c))
          ∙ ap (λ b. cond b (get_or c i 0) (get_or m.bytes i 0)) (both_true (lt-ltb i len before) (lt-ltb i (length c) in_c)));
    }

lists_same : (c d : List ℕ) → length c ≡ length d → ((i : ℕ) → i < length d → get_or c i 0 ≡ get_or d i 0) → c ≡ d
lists_same [] [] long h = refl
lists_same [] (y ∷ d) long h = absurd (omega (arith, long))
lists_same (x ∷ c) [] long h = absurd (omega (arith, long))
lists_same (x ∷ c) (y ∷ d) long h = (λ i. (h 0 (omega arith)) i ∷ c) ∙ ap (λ (l : List ℕ). y ∷ l) (lists_same c d (omega (arith, long)) (λ i inside. h (suc i) (omega (arith, inside))))

-- after a sync there is one image
pub sync_only : (m : Moment) (c : List ℕ) → IsImage (after_sync m) c → c ≡ m.bytes
sync_only m c is =
    lists_same c m.bytes (omega (arith, is.no_shorter, is.no_longer)) (λ i inside. is.clean i (omega (arith, inside)) (λ none. none))
