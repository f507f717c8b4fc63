-- A disk by its parts.
use Rattle.std.proofs.Common.{◌≡◌, ◌∙◌, refl, sym, ap, subst, arith, ℕ, ◌+◌, ◌-◌, ◌<◌, ◌≤◌, cond, Bool, List, [], ◌∷◌, length, take, drop, length-drop, Option, Some, None, Result, Ok, Err, inl, inr}
use Rattle.std.specs.Prelude.{nat_lt, IsErrAnd}
use Rattle.std.specs.Int.{w64, from_be_bytes}
use Rattle.std.proofs.lemmas.Bool.{lt-ltb, le-ltb, cases_lt}
use Rattle.std.proofs.lemmas.List.{drop_all, drop-drop, take_all}
use Rattle.qfs_base.specs.declared.image.MetaImage.{MetaImage}
use Rattle.qfs_model_disks.specs.Image.{image}
use Rattle.qfs_model_disks.specs.Spelled.{Found, found_on, found_image, found_log, loaded, bad, records_from}
use Rattle.qfs_model_meta.specs.Step.{Logged}
use Rattle.qfs_record.specs.Part.{number_at}
use Rattle.qfs_checkpoint.specs.Gate.{image_size}
use Rattle.qfs_checkpoint.specs.declared.errors.LoadError.{LoadError}
use Rattle.qfs_checkpoint.specs.declared.errors.LoadError.TheVariants.{Fault, NoMemory, BadLog}
use Rattle.qfs_checkpoint.specs.declared.reading.Checkpoint.{Checkpoint}
use Rattle.qfs_checkpoint.specs.Reading.{ReadsDisk, ReadsImage, ReadsLog}

-- a part up to the end
pub tail_is : (k : ℕ) (bytes : List ℕ) → take (length bytes - k) (drop k bytes) ≡ drop k bytes
tail_is k bytes = take_all (length bytes - k) (drop k bytes) (omega (arith, length-drop k bytes))

abbrev rest_of : Bool → List ℕ → Found
rest_of right disk =
    cond (nat_lt (length disk) (17 + image_size disk)) (bad right 17) (found_image right (image_size disk) disk (image.read (take (image_size disk) (drop 17 disk))))

cases : (right : Bool) (disk : List ℕ) → found_on right disk ≡ cond (nat_lt (length disk) 9) (bad right 1) (cond (nat_lt (length disk) 17) (bad right 9) (rest_of right disk))
unfolding found_on
cases right disk = refl

pub no_epoch : (right : Bool) (disk : List ℕ) → length disk < 9 → found_on right disk ≡ bad right 1
no_epoch right disk short = cases right disk ∙ ap (λ b. cond b (bad right 1) (cond (nat_lt (length disk) 17) (bad right 9) (rest_of right disk))) (lt-ltb (length disk) 9 short)

behind_epoch : (right : Bool) (disk : List ℕ) → 9 ≤ length disk → found_on right disk ≡ cond (nat_lt (length disk) 17) (bad right 9) (rest_of right disk)
behind_epoch right disk long = cases right disk ∙ ap (λ b. cond b (bad right 1) (cond (nat_lt (length disk) 17) (bad right 9) (rest_of right disk))) (le-ltb (length disk) 9 long)

abbrev some_number : ℕ × List ℕ → Option (ℕ × List ℕ)
some_number front = Some front

-- there are not eight bytes for the length of the image
pub no_size : (right : Bool) (disk : List ℕ) → 9 ≤ length disk → None ≡ number_at w64 (drop 9 disk) → found_on right disk ≡ bad right 9
no_size right disk long none = elim (cases_lt (length disk) 17) [
  | inl short ↦ behind_epoch right disk long ∙ ap (λ b. cond b (bad right 9) (rest_of right disk)) (lt-ltb (length disk) 17 short)
  | inr more ↦ absurd (differ (none ∙ ap (λ b. cond b None (some_number (from_be_bytes w64 (take 8 (drop 9 disk)), drop 8 (drop 9 disk)))) (le-ltb (length (drop 9 disk)) 8 (omega (arith, more, length-drop 9 disk)))))
]
  where
    differ : None ≡ some_number (from_be_bytes w64 (take 8 (drop 9 disk)), drop 8 (drop 9 disk)) → ⊥
    differ is = cc

some_is : (one two : ℕ × List ℕ) → some_number one ≡ some_number two → one ≡ two
some_is one two same = cc

-- the length of the image, and what stands behind it
pub record Sized (disk : List ℕ) (size : ℕ) (rest : List ℕ) : Type 0 where
  pub long : 17 ≤ length disk
  pub number : size ≡ image_size disk
  pub bytes : rest ≡ drop 17 disk

pub sized : (disk : List ℕ) (size : ℕ) (rest : List ℕ) → 9 ≤ length disk → Some (size, rest) ≡ number_at w64 (drop 9 disk) → Sized disk size rest
sized disk size rest long some = elim (cases_lt (length disk) 17) [
  | inl short ↦ absurd (differ (some ∙ ap (λ b. cond b None (some_number read)) (lt-ltb (length (drop 9 disk)) 8 (omega (arith, short, length-drop 9 disk)))))
  | inr more ↦ fit more (some_is (size, rest) read (some ∙ ap (λ b. cond b None (some_number read)) (le-ltb (length (drop 9 disk)) 8 (omega (arith, more, length-drop 9 disk)))))
]
  where
    read : ℕ × List ℕ
    read = (from_be_bytes w64 (take 8 (drop 9 disk)), drop 8 (drop 9 disk))

    differ : some_number (size, rest) ≡ None → ⊥
    differ is = cc

    fit : 17 ≤ length disk → (size, rest) ≡ read → Sized disk size rest
    fit more is = record {
      long = more;
      number = ap (λ (p : ℕ × List ℕ). p.0) is;
      bytes = ap (λ (p : ℕ × List ℕ). p.1) is ∙ drop-drop 8 9 disk;
    }

pub no_image : (right : Bool) (disk : List ℕ) → 17 ≤ length disk → length disk < 17 + image_size disk → found_on right disk ≡ bad right 17
no_image right disk long short =
    behind_epoch right disk (omega (arith, long)) ∙ ap (λ b. cond b (bad right 9) (rest_of right disk)) (le-ltb (length disk) 17 long)
    ∙ ap (λ b. cond b (bad right 17) (found_image right (image_size disk) disk (image.read (take (image_size disk) (drop 17 disk))))) (lt-ltb (length disk) (17 + image_size disk) short)

pub with_image : (right : Bool) (disk : List ℕ) → 17 + image_size disk ≤ length disk → found_on right disk ≡ found_image right (image_size disk) disk (image.read (take (image_size disk) (drop 17 disk)))
with_image right disk long =
    behind_epoch right disk (omega (arith, long)) ∙ ap (λ b. cond b (bad right 9) (rest_of right disk)) (le-ltb (length disk) 17 (omega (arith, long)))
    ∙ ap (λ b. cond b (bad right 17) (found_image right (image_size disk) disk (image.read (take (image_size disk) (drop 17 disk))))) (le-ltb (length disk) (17 + image_size disk) long)

-- ---- an image

pub image_none : (right : Bool) (bytes : List ℕ) → None ≡ image.read bytes → (size : ℕ) (disk : List ℕ) → found_image right size disk (image.read bytes) ≡ bad right 17
unfolding found_image
image_none right bytes none size disk = ap (λ f. found_image right size disk f) (sym none)

left_over : (right : Bool) (size : ℕ) (disk : List ℕ) (state : MetaImage) (rest : List ℕ) → 0 < length rest → found_image right size disk (Some (state, rest)) ≡ bad right 17
unfolding found_image
left_over right size disk state [] some = absurd (omega (arith, some))
left_over right size disk state (byte ∷ rest) some = refl

pub image_short : (right : Bool) (bytes : List ℕ) (state : MetaImage) (n : ℕ) → n < length bytes → Some (state, drop n bytes) ≡ image.read bytes → (size : ℕ) (disk : List ℕ) → found_image right size disk (image.read bytes) ≡ bad right 17
image_short right bytes state n short some size disk = ap (λ f. found_image right size disk f) (sym some) ∙ left_over right size disk state (drop n bytes) (omega (arith, short, length-drop n bytes))

pub image_whole : (bytes : List ℕ) (state : MetaImage) (n : ℕ) → length bytes ≤ n → Some (state, drop n bytes) ≡ image.read bytes → image.read bytes ≡ Some (state, [])
image_whole bytes state n long some = sym some ∙ ap (λ (l : List ℕ). Some (state, l)) (drop_all n bytes long)

-- ---- a disk with an image

image_log : (right : Bool) (disk : List ℕ) (state : MetaImage) → 17 + image_size disk ≤ length disk → image.read (take (image_size disk) (drop 17 disk)) ≡ Some (state, [])
    → found_on right disk ≡ found_log right state (records_from (length disk) (17 + image_size disk) (drop (17 + image_size disk) disk))
unfolding found_image
image_log right disk state long is = with_image right disk long ∙ ap (λ f. found_image right (image_size disk) disk f) is

pub disk_read : (right : Bool) (disk : List ℕ) (state : MetaImage) (records : List Logged) → 17 + image_size disk ≤ length disk → image.read (take (image_size disk) (drop 17 disk)) ≡ Some (state, [])
    → records_from (length disk) (17 + image_size disk) (drop (17 + image_size disk) disk) ≡ Ok records → found_on right disk ≡ loaded (record { right = right; image = state; records = records })
unfolding found_log
disk_read right disk state records long is found = image_log right disk state long is ∙ ap (λ r. found_log right state r) found

answered : (right : Bool) (disk : List ℕ) (result : Result Checkpoint LoadError) (cause : LoadError) → IsErrAnd result (λ passed. passed ≡ cause) → ReadsDisk right disk (Err cause) → ReadsDisk right disk result
answered right disk (Ok value) cause is reads = absurd is
answered right disk (Err passed) cause is reads = subst (λ e. ReadsDisk right disk (Err e)) (sym is) reads

-- an error in the image or the log is the answer
pub image_bad : (right : Bool) (disk : List ℕ) (cause : LoadError) (result : Result Checkpoint LoadError) → 17 + image_size disk ≤ length disk → IsErrAnd result (λ passed. passed ≡ cause) → ReadsImage right (take (image_size disk) (drop 17 disk)) (Err cause)
    → ReadsDisk right disk result
image_bad right disk cause result long is reads = answered right disk result cause is (go cause reads)
  where
    go : (e : LoadError) → ReadsImage right (take (image_size disk) (drop 17 disk)) (Err e) → ReadsDisk right disk (Err e)
    go Fault never = never
    go NoMemory none = tt
    go (BadLog side offset) found = with_image right disk long ∙ found (image_size disk) disk

bad_log : (right : Bool) (state : MetaImage) (offset : ℕ) → found_log right state (Err offset) ≡ bad right offset
unfolding found_log
bad_log right state offset = refl

pub log_bad : (right : Bool) (disk : List ℕ) (state : MetaImage) (cause : LoadError) (result : Result Checkpoint LoadError) → 17 + image_size disk ≤ length disk
    → image.read (take (image_size disk) (drop 17 disk)) ≡ Some (state, []) → IsErrAnd result (λ passed. passed ≡ cause) → ReadsLog right disk (17 + image_size disk) (Err cause) → ReadsDisk right disk result
log_bad right disk state cause result long image is reads = answered right disk result cause is (go cause reads)
  where
    go : (e : LoadError) → ReadsLog right disk (17 + image_size disk) (Err e) → ReadsDisk right disk (Err e)
    go Fault never = never
    go NoMemory none = tt
    go (BadLog side offset) found =
        image_log right disk state long image ∙ ap (λ r. found_log right state r) found.1 ∙ bad_log right state offset ∙ ap (λ s. bad s offset) (sym found.0)
