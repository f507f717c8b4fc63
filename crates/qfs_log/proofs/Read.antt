-- What is found was spelled so. A load needs this to know how its log stands.
use Rattle.std.proofs.Common.{◌≡◌, ◌≢◌, ◌⊎◌, inl, inr, ◌∙◌, refl, sym, ap, subst, arith, ℕ, ◌+◌, ◌<◌, ◌≤◌, ◌^◌, zero, suc, Bool, true, false, true≢false, cond, IsTrue, List, [], ◌∷◌, ◌++◌, length, get_or, take, drop, append_assoc, length-take, length-drop, take-append-drop, Option, Some, None, Result, Ok, Err}
use Rattle.std.specs.List.{AllByRecursion}
use Rattle.std.specs.Prelude.{nat_lt, ◌==◌}
use Rattle.std.specs.Int.{w32, w64, to_be_bytes, from_be_bytes}
use Rattle.std.proofs.lemmas.Bool.{ltb-false, le-ltb, cases_lt, eqb-true, eq-eqb}
use Rattle.std.proofs.lemmas.List.{get_or-take, get_or-drop, get_or_past, length-take-le, drop-drop}
use Rattle.std.proofs.lemmas.Nat.{be_bytes_4, be_bytes_8}
use Rattle.qfs_log.proofs.Parts.{and_both}
use Rattle.qfs_log.proofs.Found.{parts}
use Rattle.qfs_log.specs.Found.{is_image, is_body, Content, Found, loaded, bad, record_text, log_text, front_text, FitsRecord, FitsLog, is_checkpoint, epoch_in, epoch_of, sized_record, read_record, with_record, records_behind, records_from, found_log, found_sized, found_on}

abbrev pub AreBytes : List ℕ → Type 0
AreBytes bytes = (i : ℕ) → get_or bytes i 0 < 256

take_bytes : (k : ℕ) (bytes : List ℕ) → AreBytes bytes → AreBytes (take k bytes)
take_bytes k bytes are i = elim (cases_lt i k) [
  | inl inside ↦ subst (λ n. n < 256) (sym (get_or-take k bytes i 0 inside)) (are i)
  | inr past ↦ subst (λ n. n < 256) (sym (get_or_past (take k bytes) i 0 (omega (arith, past, length-take k bytes)))) (omega arith)
]

drop_bytes : (k : ℕ) (bytes : List ℕ) → AreBytes bytes → AreBytes (drop k bytes)
drop_bytes k bytes are i = subst (λ n. n < 256) (sym (get_or-drop k bytes i 0)) (are (k + i))

below_4 : (bytes : List ℕ) → AreBytes bytes → from_be_bytes w32 bytes < 2 ^ 32
below_4 bytes are = omega (arith, are 0, are 1, are 2, are 3)

below_8 : (bytes : List ℕ) → AreBytes bytes → from_be_bytes w64 bytes < 2 ^ 64
below_8 bytes are = omega (arith, are 0, are 1, are 2, are 3, are 4, are 5, are 6, are 7)

pub guard_some : {A : Type 0} (b : Bool) (x : Option A) (y : A) → cond b None x ≡ Some y → (b ≡ false) × (x ≡ Some y)
guard_some true x y is = absurd cc
guard_some false x y is = (refl, is)

pub if_some : {A : Type 0} (b : Bool) (x y : A) → cond b (Some x) None ≡ Some y → (b ≡ true) × (x ≡ y)
if_some true x y is = (refl, cc)
if_some false x y is = absurd cc

-- a record that was read
pub record Recorded (bytes body rest : List ℕ) : Type 0 where
  pub text : bytes ≡ record_text body ++ rest
  pub fits : FitsRecord body
  pub rest_fits : AreBytes rest

pub record_was : (bytes body rest : List ℕ) → AreBytes bytes → read_record bytes ≡ Some (body, rest) → Recorded bytes body rest
unfolding read_record sized_record
record_was bytes body rest are read =
    let front = take 4 bytes in
    let behind = drop 4 bytes in
    let n = from_be_bytes w32 front in
    let long = guard_some (nat_lt (length bytes) 4) _ (body, rest) read in
    let sized = guard_some (nat_lt (length behind) n) _ (body, rest) long.1 in
    let tested = if_some (is_body (take n behind)) (take n behind, drop n behind) (body, rest) sized.1 in
    let body_is : take n behind ≡ body = ap (λ (p : List ℕ × List ℕ). p.0) tested.1 in
    let rest_is : drop n behind ≡ rest = ap (λ (p : List ℕ × List ℕ). p.1) tested.1 in
    let size : length body ≡ n = sym (ap length body_is) ∙ length-take-le n behind (ltb-false (length behind) n sized.0) in
    let head : to_be_bytes w32 n ≡ front = be_bytes_4 front n (length-take-le 4 bytes (ltb-false (length bytes) 4 long.0)) (take_bytes 4 bytes are) refl in
    record {
      text = sym (append_assoc (to_be_bytes w32 (length body)) body rest
          ∙ ap (λ (l : List ℕ). to_be_bytes w32 (length body) ++ l) (ap (λ (l : List ℕ). l ++ rest) (sym body_is) ∙ ap (λ (l : List ℕ). take n behind ++ l) (sym rest_is) ∙ take-append-drop n behind)
          ∙ ap (λ (l : List ℕ). l ++ behind) (ap (λ k. to_be_bytes w32 k) size ∙ head) ∙ take-append-drop 4 bytes);
      fits = record { is = ap is_body (sym body_is) ∙ tested.0; size = subst (λ k. k < 2 ^ 32) (sym size) (below_4 front (take_bytes 4 bytes are)) };
      rest_fits = subst (λ (l : List ℕ). AreBytes l) rest_is (drop_bytes n behind (drop_bytes 4 bytes are));
    }

-- a log that was read, up to its closed gate
pub record Logged (bytes : List ℕ) (bodies : List (List ℕ)) : Type 0 where
  pub gate : ℕ
  pub rest : List ℕ
  pub text : bytes ≡ log_text bodies ++ gate ∷ rest
  pub closed : gate ≢ 1
  pub fits : AllByRecursion FitsRecord bodies

with_ok : (one : List ℕ) (read : Result (List (List ℕ)) ℕ) (bodies : List (List ℕ)) → with_record one read ≡ Ok bodies → (more : List (List ℕ)) × (read ≡ Ok more) × (one ∷ more ≡ bodies)
unfolding with_record
with_ok one (Ok more) bodies is = (more, refl, cc)
with_ok one (Err offset) bodies is = absurd cc

chosen_ok : (b : Bool) (x y : Result (List (List ℕ)) ℕ) (bodies : List (List ℕ)) → cond b x y ≡ Ok bodies → ((b ≡ true) × (x ≡ Ok bodies)) ⊎ ((b ≡ false) × (y ≡ Ok bodies))
chosen_ok true x y bodies is = inl (refl, is)
chosen_ok false x y bodies is = inr (refl, is)

behind_ok : (next : ℕ → List ℕ → Result (List (List ℕ)) ℕ) (at : ℕ) (bytes : List ℕ) (found : Option (List ℕ × List ℕ)) (bodies : List (List ℕ)) → records_behind next at bytes found ≡ Ok bodies
    → (front : List ℕ × List ℕ) × (found ≡ Some front) × (with_record front.0 (next (at + length (record_text front.0)) front.1) ≡ Ok bodies)
unfolding records_behind
behind_ok next at bytes None bodies is = absurd cc
behind_ok next at bytes (Some front) bodies is = (front, refl, is)

pub log_was : (most at : ℕ) (bytes : List ℕ) (bodies : List (List ℕ)) → AreBytes bytes → records_from most at bytes ≡ Ok bodies → Logged bytes bodies
unfolding records_from
log_was most at [] bodies are read = absurd cc
log_was zero at (gate ∷ bytes) bodies are read = absurd cc
log_was (suc most) at (gate ∷ bytes) bodies are read = elim (chosen_ok (gate == 1) (records_behind (records_from most) (at + 1) bytes (read_record bytes)) (Ok []) bodies read) [
  | inl opened ↦
      let front = behind_ok (records_from most) (at + 1) bytes (read_record bytes) bodies opened.1 in
      let one = record_was bytes front.0.0 front.0.1 (λ i. are (suc i)) front.1 in
      let more = with_ok front.0.0 _ bodies front.2 in
      let later = log_was most _ front.0.1 more.0 one.rest_fits more.1 in
      record {
        gate = later.gate;
        rest = later.rest;
        text = (λ i. eqb-true gate 1 opened.0 i ∷ bytes) ∙ ap (λ (l : List ℕ). 1 ∷ l) (one.text ∙ ap (λ (l : List ℕ). record_text front.0.0 ++ l) later.text ∙ sym (append_assoc (record_text front.0.0) (log_text more.0) (later.gate ∷ later.rest)))
            ∙ ap (λ (bs : List (List ℕ)). log_text bs ++ later.gate ∷ later.rest) more.2;
        closed = later.closed;
        fits = subst (λ (bs : List (List ℕ)). AllByRecursion FitsRecord bs) more.2 (one.fits, later.fits);
      }
  | inr closed ↦
      let none : [] ≡ bodies = cc in
      record {
        gate = gate;
        rest = bytes;
        text = ap (λ (bs : List (List ℕ)). log_text bs ++ gate ∷ bytes) none;
        closed = λ is. true≢false (sym (eq_one gate is) ∙ closed.0);
        fits = subst (λ (bs : List (List ℕ)). AllByRecursion FitsRecord bs) none tt;
      }
]
  where
    eq_one : (g : ℕ) → g ≡ 1 → (g == 1) ≡ true
    eq_one g is = eq-eqb g 1 is

-- ---- a disk

guard_found : (b : Bool) (offset : ℕ) (x : Found) (content : Content) → cond b (bad offset) x ≡ loaded content → (b ≡ false) × (x ≡ loaded content)
guard_found true offset x content is = absurd cc
guard_found false offset x content is = (refl, is)

if_found : (b : Bool) (offset : ℕ) (x : Found) (content : Content) → cond b x (bad offset) ≡ loaded content → (b ≡ true) × (x ≡ loaded content)
if_found true offset x content is = (refl, is)
if_found false offset x content is = absurd cc

log_found : (image : List ℕ) (read : Result (List (List ℕ)) ℕ) (content : Content) → found_log image read ≡ loaded content → (bodies : List (List ℕ)) × (read ≡ Ok bodies) × (record { image = image; bodies = bodies } ≡ content)
unfolding found_log
log_found image (Ok bodies) content is = (bodies, refl, cc)
log_found image (Err offset) content is = absurd cc

-- an image and a log that were read
pub record Imaged (size : ℕ) (bytes : List ℕ) (content : Content) : Type 0 where
  pub gate : ℕ
  pub rest : List ℕ
  pub text : bytes ≡ content.image ++ (log_text content.bodies ++ gate ∷ rest)
  pub long : length content.image ≡ size
  pub closed : gate ≢ 1
  pub is : IsTrue (is_image content.image)
  pub fits : AllByRecursion FitsRecord content.bodies

image_was : (size : ℕ) (bytes : List ℕ) (content : Content) → AreBytes bytes → found_sized size bytes ≡ loaded content → Imaged size bytes content
unfolding found_sized
image_was size bytes content are found =
    let long = guard_found (nat_lt (length bytes) size) 17 _ content found in
    let tested = if_found (is_image (take size bytes)) 17 _ content long.1 in
    let read = log_found (take size bytes) _ content tested.1 in
    let log = log_was (length bytes) (17 + size) (drop size bytes) read.0 (drop_bytes size bytes are) read.1 in
    subst (λ one. Imaged size bytes one) read.2 (record {
      gate = log.gate;
      rest = log.rest;
      text = sym (take-append-drop size bytes) ∙ ap (λ (l : List ℕ). take size bytes ++ l) log.text;
      long = length-take-le size bytes (ltb-false (length bytes) size long.0);
      closed = log.closed;
      is = tested.0;
      fits = log.fits;
    })

-- a checkpoint that was found
pub record Disked (disk : List ℕ) (content : Content) : Type 0 where
  pub gate : ℕ
  pub rest : List ℕ
  pub text : disk ≡ front_text (epoch_of disk) content ++ gate ∷ rest
  pub closed : gate ≢ 1
  pub fits : FitsLog (epoch_of disk) content

pub disk_was : (disk : List ℕ) (content : Content) → AreBytes disk → is_checkpoint disk ≡ true → found_on disk ≡ loaded content → Disked disk content
unfolding found_on is_checkpoint epoch_in
disk_was [] content are counts found = absurd (true≢false (sym counts))
disk_was (first ∷ tail) content are counts found =
    let size = from_be_bytes w64 (take 8 (drop 8 tail)) in
    let tail_are : AreBytes tail = λ i. are (suc i) in
    let some = guard_found (nat_lt (length (first ∷ tail)) 9) 1 _ content found in
    let more = guard_found (nat_lt (length (first ∷ tail)) 17) 9 _ content some.1 in
    let long : 17 ≤ length (first ∷ tail) = ltb-false (length (first ∷ tail)) 17 more.0 in
    let image = image_was size (drop 16 tail) content (drop_bytes 16 tail tail_are) more.1 in
    let epoch_is : epoch_in tail ≡ from_be_bytes w64 (take 8 tail) = ap (λ b. cond b 0 (from_be_bytes w64 (take 8 tail))) (le-ltb (length tail) 8 (omega (arith, long))) in
    let epoch_text : to_be_bytes w64 (epoch_in tail) ≡ take 8 tail =
    ap (λ n. to_be_bytes w64 n) epoch_is ∙ be_bytes_8 (take 8 tail) (from_be_bytes w64 (take 8 tail)) (length-take-le 8 tail (omega (arith, long))) (take_bytes 8 tail tail_are) refl in
    let size_text : to_be_bytes w64 (length content.image) ≡ take 8 (drop 8 tail) =
    ap (λ n. to_be_bytes w64 n) image.long ∙ be_bytes_8 (take 8 (drop 8 tail)) size (length-take-le 8 (drop 8 tail) (omega (arith, long, length-drop 8 tail))) (take_bytes 8 (drop 8 tail) (drop_bytes 8 tail tail_are)) refl in
    let behind : drop 8 tail ≡ to_be_bytes w64 (length content.image) ++ (content.image ++ (log_text content.bodies ++ image.gate ∷ image.rest)) =
    sym (take-append-drop 8 (drop 8 tail)) ∙ ap (λ (l : List ℕ). l ++ drop 8 (drop 8 tail)) (sym size_text)
    ∙ ap (λ (l : List ℕ). to_be_bytes w64 (length content.image) ++ l) (drop-drop 8 8 tail ∙ image.text) in
    record {
      gate = image.gate;
      rest = image.rest;
      text = (λ i. eqb-true first 1 (and_both (first == 1) (nat_lt 0 (length tail)) counts).0 i ∷ tail)
          ∙ ap (λ (l : List ℕ). 1 ∷ l) (sym (take-append-drop 8 tail) ∙ ap (λ (l : List ℕ). l ++ drop 8 tail) (sym epoch_text) ∙ ap (λ (l : List ℕ). to_be_bytes w64 (epoch_in tail) ++ l) behind
          ∙ sym (parts (epoch_in tail) content (image.gate ∷ image.rest)));
      closed = image.closed;
      fits = record {
        epoch = subst (λ n. n < 2 ^ 64) (sym epoch_is) (below_8 (take 8 tail) (take_bytes 8 tail tail_are));
        image = record { is = image.is; size = subst (λ n. n < 2 ^ 64) (sym image.long) (below_8 (take 8 (drop 8 tail)) (take_bytes 8 (drop 8 tail) (drop_bytes 8 tail tail_are))) };
        bodies = image.fits;
      };
    }
