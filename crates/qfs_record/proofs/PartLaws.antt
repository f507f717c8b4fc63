-- What was written of a part is read again, whatever follows, and what is read was written so.
use Rattle.std.proofs.Common.{◌≡◌, ◌∙◌, refl, sym, ap, subst, arith, ℕ, ◌<◌, ◌≤◌, ◌^◌, Bool, true, false, cond, ltb, List, [], ◌∷◌, ◌++◌, length, get_or, take, drop, append_assoc, Option, Some, None, inl, inr, lit<, zero, suc}
use Rattle.std.specs.Prelude.{nat_eq, flat_map}
use Rattle.std.specs.Option.{option_and_then, option_map}
use Rattle.std.specs.List.{starts_with, AllByRecursion}
use Rattle.std.specs.Int.{Width, w8, w16, w32, w64, byte_len, to_be_bytes, from_be_bytes}
use Rattle.std.proofs.lemmas.Bool.{ltb-false, le-ltb, cases_lt}
use Rattle.std.proofs.lemmas.Bool.Decides.{Decides-eqb}
use Rattle.std.proofs.lemmas.Slice.Eq.{starts_is}
use Rattle.std.proofs.Math.Nat.{mod-eq_of_lt}
use Rattle.std.proofs.lemmas.List.{take_at, drop_at, take-append-drop, length-append, length-take, get_or_past}
use Rattle.std.proofs.lemmas.List.Elements.{All-take, All-drop, All-tail}
use Rattle.std.proofs.lemmas.Nat.{be_bytes_2, be_bytes_4, be_bytes_8, from_be_bytes-to_be_bytes_2, from_be_bytes-to_be_bytes_4, from_be_bytes-to_be_bytes_8}
use Rattle.std.proofs.lemmas.Option.{same_Some}
use Rattle.qfs_base.specs.ListLaws.{cond_passed}
use Rattle.qfs_record.specs.Part.{Part, AreBytes, number, number_at, pair, such, shaped, marked, counted, counted_at, flag, flag_at, optional, optional_at, optional_text, many_at, listed}

-- bytes are a value's text and a rest
pub record Takes {A : Type 0} (part : Part A) (bytes : List ℕ) (value : A) (rest : List ℕ) : Type 0 where
  pub fits : part.Fits value
  pub parts : bytes ≡ part.text value ++ rest
  pub rest_fits : AreBytes rest

-- the laws of a part
pub record IsPart {A : Type 0} (part : Part A) : Type 0 where
  pub again : (value : A) (rest : List ℕ) → part.Fits value → part.read (part.text value ++ rest) ≡ Some (value, rest)
  pub spelled : (bytes : List ℕ) (value : A) (rest : List ℕ) → AreBytes bytes → part.read bytes ≡ Some (value, rest) → Takes part bytes value rest

-- ---- steps that did not fail

pub then_some : {A B : Type 0} (read : Option A) (f : A → Option B) (y : B) → option_and_then f read ≡ Some y → (x : A) × (read ≡ Some x) × (f x ≡ Some y)
then_some None f y e = absurd cc
then_some (Some x) f y e = (x, refl, e)

pub map_some : {A B : Type 0} (read : Option A) (f : A → B) (y : B) → option_map f read ≡ Some y → (x : A) × (read ≡ Some x) × (f x ≡ y)
map_some None f y e = absurd cc
map_some (Some x) f y e = (x, refl, cc)

unless_some : {A : Type 0} (b : Bool) (x y : A) → cond b None (Some x) ≡ Some y → (b ≡ false) × (x ≡ y)
unless_some true x y e = absurd cc
unless_some false x y e = (refl, cc)

-- ---- numbers

-- what the laws of a width rest on
record IsWide (w : Width) : Type 0 where
  len : (n : ℕ) → length (to_be_bytes w n) ≡ byte_len w
  back : (bytes : List ℕ) → length bytes ≡ byte_len w → AreBytes bytes → to_be_bytes w (from_be_bytes w bytes) ≡ bytes
  again : (n : ℕ) → n < 256 ^ byte_len w → from_be_bytes w (to_be_bytes w n) ≡ n
  below : (bytes : List ℕ) → length bytes ≡ byte_len w → AreBytes bytes → from_be_bytes w bytes < 256 ^ byte_len w

-- a byte is below 256, and so is what stands for one past the end
byte_below : (bytes : List ℕ) → AreBytes bytes → (i : ℕ) → get_or bytes i 0 < 256
byte_below bytes are i =
    elim (cases_lt i (length bytes)) [
      | inl inside ↦ are i 0 inside
      | inr past ↦ rw (get_or_past bytes i 0 past) (lit< tt)
    ]

byte_back : (bytes : List ℕ) → length bytes ≡ 1 → AreBytes bytes → to_be_bytes w8 (from_be_bytes w8 bytes) ≡ bytes
byte_back [] len are = absurd (omega arith)
byte_back (b ∷ []) len are = ap (λ n. n ∷ []) (mod-eq_of_lt (are 0 0 (omega arith)))
byte_back (b ∷ c ∷ bs) len are = absurd (omega arith)

wide8 : IsWide w8
wide8 = record {
  len = λ n. refl;
  back = byte_back;
  again = λ n lt. mod-eq_of_lt lt;
  below = λ bytes len are. byte_below bytes are 0;
}

wide16 : IsWide w16
wide16 = record {
  len = λ n. refl;
  back = λ bytes len are. be_bytes_2 bytes _ len (byte_below bytes are) refl;
  again = λ n lt. from_be_bytes-to_be_bytes_2 n lt;
  below = λ bytes len are. omega (arith, byte_below bytes are 0, byte_below bytes are 1);
}

wide32 : IsWide w32
wide32 = record {
  len = λ n. refl;
  back = λ bytes len are. be_bytes_4 bytes _ len (byte_below bytes are) refl;
  again = λ n lt. from_be_bytes-to_be_bytes_4 n lt;
  below = λ bytes len are. omega (arith, byte_below bytes are 0, byte_below bytes are 1, byte_below bytes are 2, byte_below bytes are 3);
}

wide64 : IsWide w64
wide64 = record {
  len = λ n. refl;
  back = λ bytes len are. be_bytes_8 bytes _ len (byte_below bytes are) refl;
  again = λ n lt. from_be_bytes-to_be_bytes_8 n lt;
  below = λ bytes len are. omega (arith, byte_below bytes are 0, byte_below bytes are 1, byte_below bytes are 2, byte_below bytes are 3, byte_below bytes are 4, byte_below bytes are 5, byte_below bytes are 6, byte_below bytes are 7);
}

number_again : (w : Width) → IsWide w → (n : ℕ) (rest : List ℕ) → n < 256 ^ byte_len w → number_at w (to_be_bytes w n ++ rest) ≡ Some (n, rest)
number_again w wide n rest lt =
    let len = wide.len n in
    let long : ltb (length (to_be_bytes w n ++ rest)) (byte_len w) ≡ false = le-ltb _ _ (omega (arith, length-append (to_be_bytes w n) rest)) in
    rw (long, take_at (to_be_bytes w n) rest (byte_len w) len, drop_at (to_be_bytes w n) rest (byte_len w) len, wide.again n lt) refl

number_spelled : (w : Width) → IsWide w → (bytes : List ℕ) (n : ℕ) (rest : List ℕ) → AreBytes bytes → number_at w bytes ≡ Some (n, rest) → Takes (number w) bytes n rest
number_spelled w wide bytes n rest are read =
    let front = take (byte_len w) bytes in
    let back = drop (byte_len w) bytes in
    let found = unless_some (ltb (length bytes) (byte_len w)) (from_be_bytes w front, back) (n, rest) read in
    let long : byte_len w ≤ length bytes = ltb-false _ _ found.0 in
    let len : length front ≡ byte_len w = omega (arith, length-take (byte_len w) bytes) in
    let bytes_of_front = All-take (λ byte. byte < 256) (byte_len w) bytes are in
    let takes : Takes (number w) bytes (from_be_bytes w front) back = record {
      fits = wide.below front len bytes_of_front;
      parts = rw (wide.back front len bytes_of_front) (sym (take-append-drop (byte_len w) bytes));
      rest_fits = All-drop (λ byte. byte < 256) (byte_len w) bytes are;
    } in
    subst (λ (r : ℕ × List ℕ). Takes (number w) bytes r.0 r.1) found.1 takes

number-is_part : (w : Width) → IsWide w → IsPart (number w)
number-is_part w wide = record { again = number_again w wide; spelled = number_spelled w wide }

pub number8 : IsPart (number w8)
number8 = number-is_part w8 wide8

pub number16 : IsPart (number w16)
number16 = number-is_part w16 wide16

pub number32 : IsPart (number w32)
number32 = number-is_part w32 wide32

pub number64 : IsPart (number w64)
number64 = number-is_part w64 wide64

-- ---- parts from parts

pair_spelled : {A B : Type 0} (first : Part A) (second : Part B) → IsPart first → IsPart second → (bytes : List ℕ) (both : A × B) (rest : List ℕ) → AreBytes bytes → (pair first second).read bytes ≡ Some (both, rest) → Takes (pair first second) bytes both rest
pair_spelled {A} {B} first second one two bytes both rest are read =
    let f = then_some (first.read bytes) _ (both, rest) read in
    let front = f.0 in
    let b = map_some (second.read front.1) (λ back. ((front.0, back.0), back.1)) (both, rest) f.2 in
    let back = b.0 in
    let p = one.spelled bytes front.0 front.1 are f.1 in
    let q = two.spelled front.1 back.0 back.1 p.rest_fits b.1 in
    let takes : Takes (pair first second) bytes (front.0, back.0) back.1 = record {
      fits = (p.fits, q.fits);
      parts = p.parts ∙ ap (λ (t : List ℕ). first.text front.0 ++ t) q.parts ∙ sym (append_assoc (first.text front.0) (second.text back.0) back.1);
      rest_fits = q.rest_fits;
    } in
    subst (λ (r : (A × B) × List ℕ). Takes (pair first second) bytes r.0 r.1) b.2 takes

pub pair-is_part : {A B : Type 0} (first : Part A) (second : Part B) → IsPart first → IsPart second → IsPart (pair first second)
pair-is_part first second one two = record {
  again = λ both rest fits. rw (append_assoc (first.text both.0) (second.text both.1) rest, one.again both.0 (second.text both.1 ++ rest) fits.0, two.again both.1 rest fits.1) refl;
  spelled = pair_spelled first second one two;
}

such_spelled : {A : Type 0} (test : A → Bool) (part : Part A) → IsPart part → (bytes : List ℕ) (value : A) (rest : List ℕ) → AreBytes bytes → (such test part).read bytes ≡ Some (value, rest) → Takes (such test part) bytes value rest
such_spelled {A} test part is bytes value rest are read =
    let f = then_some (part.read bytes) _ (value, rest) read in
    let front = f.0 in
    let passed = cond_passed (test front.0) (Some front) (value, rest) f.2 in
    let p = is.spelled bytes front.0 front.1 are f.1 in
    let takes : Takes (such test part) bytes front.0 front.1 = record { fits = (p.fits, passed.0); parts = p.parts; rest_fits = p.rest_fits } in
    let same : front ≡ (value, rest) = same_Some front (value, rest) passed.1 in
    subst (λ (r : A × List ℕ). Takes (such test part) bytes r.0 r.1) same takes

pub such-is_part : {A : Type 0} (test : A → Bool) (part : Part A) → IsPart part → IsPart (such test part)
such-is_part test part is = record {
  again = λ value rest fits. rw (is.again value rest fits.0, fits.1) refl;
  spelled = such_spelled test part is;
}

shaped_spelled : {A B : Type 0} (to : A → B) (from : B → A) (part : Part A) → ((x : A) → from (to x) ≡ x) → IsPart part → (bytes : List ℕ) (value : B) (rest : List ℕ) → AreBytes bytes → (shaped to from part).read bytes ≡ Some (value, rest) → Takes (shaped to from part) bytes value rest
shaped_spelled {A} {B} to from part back is bytes value rest are read =
    let f = map_some (part.read bytes) (λ front. (to front.0, front.1)) (value, rest) read in
    let front = f.0 in
    let p = is.spelled bytes front.0 front.1 are f.1 in
    let takes : Takes (shaped to from part) bytes (to front.0) front.1 = record {
      fits = subst part.Fits (sym (back front.0)) p.fits;
      parts = subst (λ (x : A). bytes ≡ part.text x ++ front.1) (sym (back front.0)) p.parts;
      rest_fits = p.rest_fits;
    } in
    subst (λ (r : B × List ℕ). Takes (shaped to from part) bytes r.0 r.1) f.2 takes

pub shaped-is_part : {A B : Type 0} (to : A → B) (from : B → A) (part : Part A) → ((x : A) → from (to x) ≡ x) → ((y : B) → to (from y) ≡ y) → IsPart part → IsPart (shaped to from part)
shaped-is_part to from part back forth is = record {
  again = λ value rest fits. rw (is.again (from value) rest fits, forth value) refl;
  spelled = shaped_spelled to from part back is;
}

marked_spelled : {A : Type 0} (mark : List ℕ) (part : Part A) → IsPart part → (bytes : List ℕ) (value : A) (rest : List ℕ) → AreBytes bytes → (marked mark part).read bytes ≡ Some (value, rest) → Takes (marked mark part) bytes value rest
marked_spelled mark part is bytes value rest are read =
    let begins = cond_passed (starts_with nat_eq bytes mark) (part.read (drop (length mark) bytes)) (value, rest) read in
    let p = is.spelled (drop (length mark) bytes) value rest (All-drop (λ byte. byte < 256) (length mark) bytes are) begins.1 in
    record {
      fits = p.fits;
      parts = (starts_is Decides-eqb bytes mark _ refl).0 begins.0 ∙ ap (λ (t : List ℕ). mark ++ t) p.parts ∙ sym (append_assoc mark (part.text value) rest);
      rest_fits = p.rest_fits;
    }

marked_again : {A : Type 0} (mark : List ℕ) (part : Part A) → IsPart part → (value : A) (rest : List ℕ) → part.Fits value → (marked mark part).read ((mark ++ part.text value) ++ rest) ≡ Some (value, rest)
marked_again mark part is value rest fits =
    let whole : (mark ++ part.text value) ++ rest ≡ mark ++ (part.text value ++ rest) = append_assoc mark (part.text value) rest in
    let begins : starts_with nat_eq (mark ++ (part.text value ++ rest)) mark ≡ true = (starts_is Decides-eqb (mark ++ (part.text value ++ rest)) mark _ refl).1 _ refl in
    rw (whole, begins, drop_at mark (part.text value ++ rest) (length mark) refl) (is.again value rest fits)

pub marked-is_part : {A : Type 0} (mark : List ℕ) (part : Part A) → IsPart part → IsPart (marked mark part)
marked-is_part mark part is = record { again = marked_again mark part is; spelled = marked_spelled mark part is }

-- ---- bytes with their count before them

counted_spelled : (w : Width) → IsWide w → (bytes text rest : List ℕ) → AreBytes bytes → counted_at w bytes ≡ Some (text, rest) → Takes (counted w) bytes text rest
counted_spelled w wide bytes text rest are read =
    let f = then_some (number_at w bytes) _ (text, rest) read in
    let count = f.0 in
    let p = number_spelled w wide bytes count.0 count.1 are f.1 in
    let found = unless_some (ltb (length count.1) count.0) (take count.0 count.1, drop count.0 count.1) (text, rest) f.2 in
    let long : count.0 ≤ length count.1 = ltb-false _ _ found.0 in
    let len : length (take count.0 count.1) ≡ count.0 = omega (arith, length-take count.0 count.1) in
    let takes : Takes (counted w) bytes (take count.0 count.1) (drop count.0 count.1) = record {
      fits = (All-take (λ byte. byte < 256) count.0 count.1 p.rest_fits, subst (λ (n : ℕ). n < 256 ^ byte_len w) (sym len) p.fits);
      parts = subst (λ (n : ℕ). bytes ≡ (to_be_bytes w n ++ take count.0 count.1) ++ drop count.0 count.1) (sym len)
          (p.parts ∙ ap (λ (t : List ℕ). to_be_bytes w count.0 ++ t) (sym (take-append-drop count.0 count.1)) ∙ sym (append_assoc (to_be_bytes w count.0) (take count.0 count.1) (drop count.0 count.1)));
      rest_fits = All-drop (λ byte. byte < 256) count.0 count.1 p.rest_fits;
    } in
    subst (λ (r : List ℕ × List ℕ). Takes (counted w) bytes r.0 r.1) found.1 takes

counted_again : (w : Width) → IsWide w → (text rest : List ℕ) → (counted w).Fits text → counted_at w ((to_be_bytes w (length text) ++ text) ++ rest) ≡ Some (text, rest)
counted_again w wide text rest fits =
    let long : ltb (length (text ++ rest)) (length text) ≡ false = le-ltb _ _ (omega (arith, length-append text rest)) in
    rw (append_assoc (to_be_bytes w (length text)) text rest, number_again w wide (length text) (text ++ rest) fits.1, long, take_at text rest (length text) refl, drop_at text rest (length text) refl) refl

pub counted16 : IsPart (counted w16)
counted16 = record { again = counted_again w16 wide16; spelled = counted_spelled w16 wide16 }

pub counted32 : IsPart (counted w32)
counted32 = record { again = counted_again w32 wide32; spelled = counted_spelled w32 wide32 }

-- ---- truth values, optional values and lists

flag_spelled : (bytes : List ℕ) (truth : Bool) (rest : List ℕ) → AreBytes bytes → flag_at bytes ≡ Some (truth, rest) → Takes flag bytes truth rest
flag_spelled [] truth rest are read = absurd cc
flag_spelled (zero ∷ bytes) truth rest are read =
    let same = same_Some {A = Bool × List ℕ} (false, bytes) (truth, rest) read in
    let takes : Takes flag (0 ∷ bytes) false bytes = record { fits = tt; parts = refl; rest_fits = All-tail (λ byte. byte < 256) 0 bytes are } in
    subst (λ (r : Bool × List ℕ). Takes flag (0 ∷ bytes) r.0 r.1) same takes
flag_spelled (suc zero ∷ bytes) truth rest are read =
    let same = same_Some {A = Bool × List ℕ} (true, bytes) (truth, rest) read in
    let takes : Takes flag (1 ∷ bytes) true bytes = record { fits = tt; parts = refl; rest_fits = All-tail (λ byte. byte < 256) 1 bytes are } in
    subst (λ (r : Bool × List ℕ). Takes flag (1 ∷ bytes) r.0 r.1) same takes
flag_spelled (suc (suc byte) ∷ bytes) truth rest are read = absurd cc

flag_again : (truth : Bool) (rest : List ℕ) → flag.Fits truth → flag_at (flag.text truth ++ rest) ≡ Some (truth, rest)
flag_again true rest fits = refl
flag_again false rest fits = refl

pub flag-is_part : IsPart flag
flag-is_part = record { again = flag_again; spelled = flag_spelled }

optional_spelled : {A : Type 0} (part : Part A) → IsPart part → (bytes : List ℕ) (value : Option A) (rest : List ℕ) → AreBytes bytes → optional_at part bytes ≡ Some (value, rest) → Takes (optional part) bytes value rest
optional_spelled part is [] value rest are read = absurd cc
optional_spelled {A} part is (zero ∷ bytes) value rest are read =
    let same = same_Some {A = Option A × List ℕ} (None, bytes) (value, rest) read in
    let takes : Takes (optional part) (0 ∷ bytes) None bytes = record { fits = tt; parts = refl; rest_fits = All-tail (λ byte. byte < 256) 0 bytes are } in
    subst (λ (r : Option A × List ℕ). Takes (optional part) (0 ∷ bytes) r.0 r.1) same takes
optional_spelled {A} part is (suc zero ∷ bytes) value rest are read =
    let f = map_some {B = Option A × List ℕ} (part.read bytes) (λ front. (Some front.0, front.1)) (value, rest) read in
    let front = f.0 in
    let p = is.spelled bytes front.0 front.1 (All-tail (λ byte. byte < 256) 1 bytes are) f.1 in
    let takes : Takes (optional part) (1 ∷ bytes) (Some front.0) front.1 = record { fits = p.fits; parts = ap (λ (t : List ℕ). 1 ∷ t) p.parts; rest_fits = p.rest_fits } in
    subst (λ (r : Option A × List ℕ). Takes (optional part) (1 ∷ bytes) r.0 r.1) f.2 takes
optional_spelled part is (suc (suc byte) ∷ bytes) value rest are read = absurd cc

optional_again : {A : Type 0} (part : Part A) → IsPart part → (value : Option A) (rest : List ℕ) → (optional part).Fits value → optional_at part (optional_text part value ++ rest) ≡ Some (value, rest)
optional_again part is None rest fits = refl
optional_again {A} part is (Some value) rest fits = ap (option_map (λ (front : A × List ℕ). (Some front.0, front.1))) (is.again value rest fits)

pub optional-is_part : {A : Type 0} (part : Part A) → IsPart part → IsPart (optional part)
optional-is_part part is = record { again = optional_again part is; spelled = optional_spelled part is }

-- so many values and a rest
record TakesMany {A : Type 0} (part : Part A) (count : ℕ) (bytes : List ℕ) (values : List A) (rest : List ℕ) : Type 0 where
  long : length values ≡ count
  fits : AllByRecursion part.Fits values
  parts : bytes ≡ flat_map part.text values ++ rest
  rest_fits : AreBytes rest

many_spelled : {A : Type 0} (part : Part A) → IsPart part → (count : ℕ) (bytes : List ℕ) (values : List A) (rest : List ℕ) → AreBytes bytes → many_at part count bytes ≡ Some (values, rest) → TakesMany part count bytes values rest
many_spelled {A} part is zero bytes values rest are read =
    let same = same_Some {A = List A × List ℕ} ([], bytes) (values, rest) read in
    let takes : TakesMany part 0 bytes [] bytes = record { long = refl; fits = tt; parts = refl; rest_fits = are } in
    subst (λ (r : List A × List ℕ). TakesMany part 0 bytes r.0 r.1) same takes
many_spelled {A} part is (suc count) bytes values rest are read =
    let f = then_some {B = List A × List ℕ} (part.read bytes) (λ front. option_map (λ back. (front.0 ∷ back.0, back.1)) (many_at part count front.1)) (values, rest) read in
    let front = f.0 in
    let b = map_some {B = List A × List ℕ} (many_at part count front.1) (λ back. (front.0 ∷ back.0, back.1)) (values, rest) f.2 in
    let back = b.0 in
    let p = is.spelled bytes front.0 front.1 are f.1 in
    let q = many_spelled part is count front.1 back.0 back.1 p.rest_fits b.1 in
    let takes : TakesMany part (suc count) bytes (front.0 ∷ back.0) back.1 = record {
      long = ap suc q.long;
      fits = (p.fits, q.fits);
      parts = p.parts ∙ ap (λ (t : List ℕ). part.text front.0 ++ t) q.parts ∙ sym (append_assoc (part.text front.0) (flat_map part.text back.0) back.1);
      rest_fits = q.rest_fits;
    } in
    subst (λ (r : List A × List ℕ). TakesMany part (suc count) bytes r.0 r.1) b.2 takes

many_again : {A : Type 0} (part : Part A) → IsPart part → (values : List A) (rest : List ℕ) → AllByRecursion part.Fits values → many_at part (length values) (flat_map part.text values ++ rest) ≡ Some (values, rest)
many_again part is [] rest fits = refl
many_again part is (value ∷ values) rest fits =
    rw (append_assoc (part.text value) (flat_map part.text values) rest, is.again value (flat_map part.text values ++ rest) fits.0, many_again part is values rest fits.1) refl

listed_spelled : {A : Type 0} (part : Part A) → IsPart part → (bytes : List ℕ) (values : List A) (rest : List ℕ) → AreBytes bytes → (listed part).read bytes ≡ Some (values, rest) → Takes (listed part) bytes values rest
listed_spelled {A} part is bytes values rest are read =
    let f = then_some {B = List A × List ℕ} (number_at w32 bytes) (λ count. many_at part count.0 count.1) (values, rest) read in
    let count = f.0 in
    let p = number_spelled w32 wide32 bytes count.0 count.1 are f.1 in
    let q = many_spelled part is count.0 count.1 values rest p.rest_fits f.2 in
    record {
      fits = (subst (λ (n : ℕ). n < 2 ^ 32) (sym q.long) p.fits, q.fits);
      parts = p.parts ∙ ap (λ (t : List ℕ). to_be_bytes w32 count.0 ++ t) q.parts ∙ sym (append_assoc (to_be_bytes w32 count.0) (flat_map part.text values) rest)
          ∙ ap (λ (n : ℕ). (to_be_bytes w32 n ++ flat_map part.text values) ++ rest) (sym q.long);
      rest_fits = q.rest_fits;
    }

listed_again : {A : Type 0} (part : Part A) → IsPart part → (values : List A) (rest : List ℕ) → (listed part).Fits values → (listed part).read ((to_be_bytes w32 (length values) ++ flat_map part.text values) ++ rest) ≡ Some (values, rest)
listed_again {A} part is values rest fits =
    ap (listed part).read (append_assoc (to_be_bytes w32 (length values)) (flat_map part.text values) rest)
    ∙ ap (option_and_then {U = List A × List ℕ} (λ count. many_at part count.0 count.1)) (number_again w32 wide32 (length values) (flat_map part.text values ++ rest) fits.0)
    ∙ many_again part is values rest fits.1

pub listed-is_part : {A : Type 0} (part : Part A) → IsPart part → IsPart (listed part)
listed-is_part part is = record { again = listed_again part is; spelled = listed_spelled part is }
