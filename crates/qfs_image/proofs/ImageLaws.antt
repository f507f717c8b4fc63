-- Images: each is read back, none is the front of another's spelling, and what is read was written so.
use Rattle.std.proofs.Common.{◌≡◌, ◌∙◌, refl, sym, ap, subst, arith, ℕ, zero, suc, ◌+◌, ◌-◌, ◌<◌, ◌≤◌, true, false, List, [], ◌∷◌, ◌++◌, length, take, drop, Option, Some, None, slice_get, length-append}
use Rattle.std.specs.Prelude.{⊤}
use Rattle.std.specs.Int.{w32}
use Rattle.std.specs.List.{AllByRecursion}
use Rattle.std.specs.Option.{option_map}
use Rattle.std.proofs.lemmas.List.Elements.{All-tail}
use Rattle.qfs_base.specs.declared.history.Entry.{Entry}
use Rattle.qfs_base.specs.declared.history.Entry.TheVariants as Wrote
use Rattle.qfs_base.specs.declared.image.MetaImage.{MetaImage}
use Rattle.qfs_base.specs.declared.image.SlotRow.{SlotRow}
use Rattle.qfs_model_disks.specs.Image.{IsSpelledEntry, ReadsEntry, closing, condemned, condemned_row, counters, creating, dropped_actor, entry, entry_at, entry_by, entry_reader, entry_readers, entry_text, grant, image, lease, reads_entry, server_view, slot_row, state, tree_row}
use Rattle.qfs_model_disks.specs.Tests.{is_image}
use Rattle.qfs_model_disks.specs.Values.{path}
use Rattle.qfs_record.specs.Part.{AreBytes, Part, number, pair}
use Rattle.qfs_record.proofs.ChunkLaws.{block-is_part, slot-is_part}
use Rattle.qfs_record.proofs.PartLaws.{IsPart, Takes, flag-is_part, listed-is_part, map_some, number16, number32, number64, optional-is_part, pair-is_part, shaped-is_part, such-is_part}
use Rattle.qfs_spelling.specs.Sets.{is_set, server_set, set_row}
use Rattle.qfs_spelling.proofs.Fronts.{are_apart, behind_front, read_front, read_none, read_only}
use Rattle.qfs_spelling.proofs.PathLaws.{path-is_part}
use Rattle.qfs_spelling.proofs.ValueLaws.{copy-is_part, from_one-is_part}
use Rattle.qfs_image.specs.Kept.{later_lists, set_state}
use Rattle.qfs_image.proofs.KeptLaws.{set_state_fits}

-- ---- rows

server_view-is_part : IsPart server_view
server_view-is_part =
    shaped-is_part _ _ _ (λ _. refl) (λ _. refl)
    (pair-is_part _ _ flag-is_part (pair-is_part _ _ flag-is_part (pair-is_part _ _ number32 number64)))

tree_row-is_part : IsPart tree_row
tree_row-is_part =
    shaped-is_part _ _ _ (λ _. refl) (λ _. refl)
    (pair-is_part _ _ path-is_part
    (pair-is_part _ _ number32 (pair-is_part _ _ flag-is_part (pair-is_part _ _ number16 (pair-is_part _ _ number16 number32)))))

grant-is_part : IsPart grant
grant-is_part = shaped-is_part _ _ _ (λ _. refl) (λ _. refl) (pair-is_part _ _ copy-is_part (pair-is_part _ _ from_one-is_part number64))

servers-are_part : IsPart server_set
servers-are_part = such-is_part is_set _ (listed-is_part _ from_one-is_part)

set_row-is_part : IsPart set_row
set_row-is_part =
    shaped-is_part _ _ _ (λ _. refl) (λ _. refl)
    (pair-is_part _ _ block-is_part
    (pair-is_part _ _ slot-is_part
    (pair-is_part _ _ number32
    (pair-is_part _ _ (optional-is_part _ copy-is_part) (pair-is_part _ _ (optional-is_part _ grant-is_part) servers-are_part)))))

slot_row-is_part : IsPart slot_row
slot_row-is_part =
    shaped-is_part _ _ _ (λ _. refl) (λ _. refl)
    (pair-is_part _ _ block-is_part
    (pair-is_part _ _ slot-is_part
    (pair-is_part _ _ number32
    (pair-is_part _ _ (optional-is_part _ copy-is_part) (pair-is_part _ _ (optional-is_part _ grant-is_part) (listed-is_part _ from_one-is_part))))))

lease-is_part : IsPart lease
lease-is_part =
    shaped-is_part _ _ _ (λ _. refl) (λ _. refl)
    (pair-is_part _ _ number64 (pair-is_part _ _ from_one-is_part (pair-is_part _ _ number32 number64)))

condemned-is_part : IsPart condemned
condemned-is_part =
    shaped-is_part _ _ _ (λ _. refl) (λ _. refl)
    (pair-is_part _ _ number64 (pair-is_part _ _ block-is_part (pair-is_part _ _ slot-is_part copy-is_part)))

condemned_row-is_part : IsPart condemned_row
condemned_row-is_part =
    shaped-is_part _ _ _ (λ _. refl) (λ _. refl)
    (pair-is_part _ _ condemned-is_part (pair-is_part _ _ flag-is_part (listed-is_part _ number64)))

dropped_actor-is_part : IsPart dropped_actor
dropped_actor-is_part = shaped-is_part _ _ _ (λ _. refl) (λ _. refl) (pair-is_part _ _ from_one-is_part number64)

-- ---- entries of the history

closing-is_part : IsPart closing
closing-is_part = pair-is_part _ _ number32 (pair-is_part _ _ from_one-is_part number16)

creating-is_part : IsPart creating
creating-is_part = pair-is_part _ _ number32 path-is_part

paths-are_part : IsPart (pair path path)
paths-are_part = pair-is_part _ _ path-is_part path-is_part

again_by : {A : Type 0} (part : Part A) → IsPart part → (make : A → Entry) (value : A) (rest : List ℕ) → part.Fits value
    → reads_entry part make (part.text value ++ rest) ≡ Some (make value, rest)
again_by {A} part is make value rest fits =
    ap (option_map (λ (front : A × List ℕ). (make front.0, front.1))) (is.again value rest fits)

entry_again : (wrote : Entry) (rest : List ℕ) → IsSpelledEntry wrote → entry_at (entry_text wrote ++ rest) ≡ Some (wrote, rest)
unfolding entry_at entry_reader entry_by entry_text
entry_again (Wrote.Mkdir p) rest fits = again_by path path-is_part (λ p. Wrote.Mkdir p) p rest fits
entry_again (Wrote.Rmdir p) rest fits = again_by path path-is_part (λ p. Wrote.Rmdir p) p rest fits
entry_again (Wrote.Created file p) rest fits = again_by creating creating-is_part (λ v. Wrote.Created v.0 v.1) (file, p) rest fits
entry_again (Wrote.Closed file actor command) rest fits =
    again_by closing closing-is_part (λ v. Wrote.Closed v.0 v.1.0 v.1.1) (file, (actor, command)) rest fits
entry_again (Wrote.Aborted file) rest fits = again_by (number w32) number32 (λ file. Wrote.Aborted file) file rest fits
entry_again (Wrote.Removed p) rest fits = again_by path path-is_part (λ p. Wrote.Removed p) p rest fits
entry_again (Wrote.Renamed from to) rest fits = again_by (pair path path) paths-are_part (λ v. Wrote.Renamed v.0 v.1) (from, to) rest fits

-- a reader of fields tells the entry of its number that stands there
abbrev Tells : ℕ → ReadsEntry → Type 0
Tells kind read = (bytes : List ℕ) (wrote : Entry) (rest : List ℕ) → AreBytes bytes → read bytes ≡ Some (wrote, rest) → Takes entry (kind ∷ bytes) wrote rest

spelled_by : {A : Type 0} (part : Part A) → IsPart part → (make : A → Entry) (kind : ℕ)
    → ((value : A) → entry_text (make value) ≡ kind ∷ part.text value) → ((value : A) → part.Fits value → IsSpelledEntry (make value))
    → Tells kind (reads_entry part make)
spelled_by {A} part is make kind text fits bytes wrote rest are read =
    let f = map_some (part.read bytes) (λ (front : A × List ℕ). (make front.0, front.1)) (wrote, rest) read in
    let front = f.0 in
    let p = is.spelled bytes front.0 front.1 are f.1 in
    let takes : Takes entry (kind ∷ bytes) (make front.0) front.1 = record {
      fits = fits front.0 p.fits;
      parts = ap (λ (t : List ℕ). kind ∷ t) p.parts ∙ ap (λ (t : List ℕ). t ++ front.1) (sym (text front.0));
      rest_fits = p.rest_fits;
    } in
    subst (λ (r : Entry × List ℕ). Takes entry (kind ∷ bytes) r.0 r.1) f.2 takes

-- the readers of a list tell the entries from this number on
abbrev TellEach : ℕ → List ReadsEntry → Type 0
TellEach kind [] = ⊤
TellEach kind (read ∷ more) = Tells kind read × TellEach (suc kind) more

readers_tell : TellEach 1 entry_readers
unfolding entry_text
readers_tell = (
  spelled_by path path-is_part (λ p. Wrote.Mkdir p) 1 (λ _. refl) (λ _ fits. fits),
  (
    spelled_by path path-is_part (λ p. Wrote.Rmdir p) 2 (λ _. refl) (λ _ fits. fits),
    (
      spelled_by creating creating-is_part (λ v. Wrote.Created v.0 v.1) 3 (λ _. refl) (λ _ fits. fits),
      (
        spelled_by closing closing-is_part (λ v. Wrote.Closed v.0 v.1.0 v.1.1) 4 (λ _. refl) (λ _ fits. fits),
        (
          spelled_by (number w32) number32 (λ file. Wrote.Aborted file) 5 (λ _. refl) (λ _ fits. fits),
          (
            spelled_by path path-is_part (λ p. Wrote.Removed p) 6 (λ _. refl) (λ _ fits. fits),
            (spelled_by (pair path path) paths-are_part (λ v. Wrote.Renamed v.0 v.1) 7 (λ _. refl) (λ _ fits. fits), tt),
          ),
        ),
      ),
    ),
  ),
)

each_tells : (kind : ℕ) (reads : List ReadsEntry) → TellEach kind reads → (n number : ℕ) → number ≡ kind + n
    → (bytes : List ℕ) (wrote : Entry) (rest : List ℕ) → AreBytes bytes
    → entry_by (slice_get reads n) bytes ≡ Some (wrote, rest) → Takes entry (number ∷ bytes) wrote rest
unfolding entry_by
each_tells kind [] tell n number is bytes wrote rest are read = absurd cc
each_tells kind (first ∷ more) tell zero number is bytes wrote rest are read =
    let same : kind ≡ number = omega arith in
    subst (λ (k : ℕ). Takes entry (k ∷ bytes) wrote rest) same (tell.0 bytes wrote rest are read)
each_tells kind (first ∷ more) tell (suc n) number is bytes wrote rest are read =
    each_tells (suc kind) more tell.1 n number (omega arith) bytes wrote rest are read

entry_spelled : (bytes : List ℕ) (wrote : Entry) (rest : List ℕ) → AreBytes bytes → entry_at bytes ≡ Some (wrote, rest) → Takes entry bytes wrote rest
unfolding entry_at entry_reader entry_by
entry_spelled [] wrote rest are read = absurd cc
entry_spelled (zero ∷ bytes) wrote rest are read = absurd cc
entry_spelled (suc n ∷ bytes) wrote rest are read =
    each_tells 1 entry_readers readers_tell n (suc n) (omega arith) bytes wrote rest (All-tail (λ byte. byte < 256) (suc n) bytes are) read

entry-is_part : IsPart entry
entry-is_part = record { again = entry_again; spelled = entry_spelled }

-- ---- the whole

counters-are_part : IsPart counters
counters-are_part =
    pair-is_part _ _ number64
    (pair-is_part _ _ number64 (pair-is_part _ _ number32 (pair-is_part _ _ number64 number64)))

later-are_part : IsPart later_lists
later-are_part =
    pair-is_part _ _ (listed-is_part _ lease-is_part)
    (pair-is_part _ _ (listed-is_part _ condemned_row-is_part)
    (pair-is_part _ _ (listed-is_part _ dropped_actor-is_part) (listed-is_part _ entry-is_part)))

set_state-is_part : IsPart set_state
set_state-is_part =
    shaped-is_part _ _ _ (λ _. refl) (λ _. refl)
    (pair-is_part _ _ counters-are_part
    (pair-is_part _ _ (listed-is_part _ server_view-is_part)
    (pair-is_part _ _ (listed-is_part _ tree_row-is_part)
    (pair-is_part _ _ (listed-is_part _ set_row-is_part) later-are_part))))

state-is_part : IsPart state
state-is_part =
    shaped-is_part _ _ _ (λ _. refl) (λ _. refl)
    (pair-is_part _ _ counters-are_part
    (pair-is_part _ _ (listed-is_part _ server_view-is_part)
    (pair-is_part _ _ (listed-is_part _ tree_row-is_part)
    (pair-is_part _ _ (listed-is_part _ slot_row-is_part) later-are_part))))

pub image-is_part : IsPart image
image-is_part = such-is_part is_image state state-is_part

-- ---- what the program reads

rows_fit : (rows : List SlotRow) → AllByRecursion set_row.Fits rows → AllByRecursion slot_row.Fits rows
rows_fit [] fits = tt
rows_fit (row ∷ rows) fits =
    let f = fits.0 in
    ((f.0, (f.1.0, (f.1.1.0, (f.1.1.1.0, (f.1.1.1.1.0, f.1.1.1.1.1.0))))), rows_fit rows fits.1)

state_fits : (m : MetaImage) → set_state.Fits m → state.Fits m
state_fits m fits =
    let f = fits.1 in
    (fits.0, (f.0, (f.1.0, ((f.1.1.0.0, rows_fit m.slots f.1.1.0.1), f.1.1.1))))

pub read_fits : (input : List ℕ) (m : MetaImage) (rest : List ℕ) → AreBytes input → Some (m, rest) ≡ set_state.read input → set_state.Fits m
read_fits input m rest are read = (set_state-is_part.spelled input m rest are (sym read)).fits

same_read : (input : List ℕ) (m : MetaImage) (rest : List ℕ) → AreBytes input → Some (m, rest) ≡ set_state.read input → state.read input ≡ Some (m, rest)
same_read input m rest are read =
    let t = set_state-is_part.spelled input m rest are (sym read) in
    ap state.read t.parts ∙ state-is_part.again m rest (state_fits m t.fits)

none_or : {A : Type 0} (o : Option A) → ((a : A) → o ≡ Some a → ⊥) → None ≡ o
none_or None never = refl
none_or (Some a) never = absurd (never a refl)

-- where no state was read, no image is
pub no_state : (input : List ℕ) → AreBytes input → None ≡ set_state.read input → None ≡ image.read input
no_state input are none =
    none_or (image.read input) (λ front read.
    let t = image-is_part.spelled input front.0 front.1 are read in
    let again : set_state.read input ≡ Some (front.0, front.1) = ap set_state.read t.parts ∙ set_state-is_part.again front.0 front.1 (set_state_fits front.0 t.fits) in
    some_not (none ∙ again))
  where
    some_not : {A : Type 0} {a : A} → None ≡ Some a → ⊥
    some_not e = absurd cc

pub unsound : (input : List ℕ) (m : MetaImage) (rest : List ℕ) → AreBytes input → Some (m, rest) ≡ set_state.read input → false ≡ is_image m → None ≡ image.read input
unsound input m rest are read off = rw (same_read input m rest are read, sym off) refl

-- the state that was read is the image, and takes the bytes before the rest
pub image_read : (input : List ℕ) (m : MetaImage) (rest : List ℕ) → AreBytes input → Some (m, rest) ≡ set_state.read input → true ≡ is_image m
    → (length rest ≤ length input) × (Some (m, drop (length input - length rest) input) ≡ image.read input)
image_read input m rest are read sound =
    let t = set_state-is_part.spelled input m rest are (sym read) in
    let behind = behind_front input (set_state.text m) rest t.parts in (
      omega (arith, ap length t.parts, length-append (set_state.text m) rest),
      rw (behind, same_read input m rest are read, sym sound) refl,
    )

pub found_whole : (input : List ℕ) (m : MetaImage) (size : ℕ) → AreBytes input → size ≤ length input → Some (m, drop size input) ≡ image.read input
    → image.Fits m × (take size input ≡ image.text m)
found_whole input m size are within read = read_front image image-is_part input m size are within (sym read)

pub found_only : (input : List ℕ) (m : MetaImage) (size : ℕ) → AreBytes input → size ≤ length input → Some (m, drop size input) ≡ image.read input
    → (other : MetaImage) (rest : List ℕ) → image.Fits other → input ≡ image.text other ++ rest → (m ≡ other) × (size ≡ length (image.text other))
found_only input m size are within read = read_only image image-is_part input m size are within (sym read)

pub found_none : {X : Type 0} (input : List ℕ) → None ≡ image.read input → (other : MetaImage) (rest : List ℕ) → image.Fits other → input ≡ image.text other ++ rest → X
found_none input read = read_none image image-is_part input (sym read)

pub images_apart : (one other : MetaImage) (rest after : List ℕ) → image.Fits one → image.Fits other → image.text one ++ rest ≡ image.text other ++ after
    → (one ≡ other) × (rest ≡ after)
images_apart = are_apart image image-is_part
