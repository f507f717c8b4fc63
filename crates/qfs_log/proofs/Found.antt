-- What is spelled is found.
use Rattle.std.proofs.Common.{◌≡◌, ◌≢◌, ◌∙◌, refl, sym, ap, arith, ℕ, ◌+◌, ◌<◌, ◌≤◌, ◌^◌, zero, suc, Bool, true, false, true≢false, cond, IsTrue, List, [], ◌∷◌, ◌++◌, length, take, drop, append_assoc, length-append, Some, None, Ok}
use Rattle.std.specs.List.{AllByRecursion}
use Rattle.std.specs.Prelude.{nat_lt, nat_le, ◌==◌, ◌&&◌}
use Rattle.std.specs.Int.{w32, w64, to_be_bytes, from_be_bytes}
use Rattle.std.proofs.lemmas.Bool.{le-ltb, lt-ltb, leb-true}
use Rattle.std.proofs.lemmas.Bool.Decides.{nat_tests}
use Rattle.std.proofs.lemmas.List.{take_at, drop_at, append-nil}
use Rattle.std.proofs.lemmas.Nat.{from_be_bytes-to_be_bytes_4, from_be_bytes-to_be_bytes_8}
use Rattle.qfs_log.proofs.Parts.{and_both}
use Rattle.qfs_log.specs.Found.{is_image, is_body, Content, with_body, Found, nothing, loaded, bad, record_text, log_text, checkpoint_text, front_text, FitsRecord, FitsImage, FitsLog, is_checkpoint, epoch_in, epoch_of, takes_right, sized_record, read_record, with_record, records_behind, records_from, found_log, found_sized, found_on, found_in, found_by, loses}

-- ---- a record

sized_again : (body rest : List ℕ) → IsTrue (is_body body) → sized_record (length body) (body ++ rest) ≡ Some (body, rest)
unfolding sized_record
sized_again body rest is =
    ap (λ b. cond b None (cond (is_body (take (length body) (body ++ rest))) (Some (take (length body) (body ++ rest), drop (length body) (body ++ rest))) None))
    (le-ltb (length (body ++ rest)) (length body) (omega (arith, length-append body rest)))
    ∙ ap (λ (l : List ℕ). cond (is_body l) (Some (l, drop (length body) (body ++ rest))) None) (take_at body rest (length body) refl)
    ∙ ap (λ b. cond b (Some (body, drop (length body) (body ++ rest))) None) is
    ∙ ap (λ (l : List ℕ). Some (body, l)) (drop_at body rest (length body) refl)

pub record_again : (body rest : List ℕ) → FitsRecord body → read_record (record_text body ++ rest) ≡ Some (body, rest)
unfolding read_record
record_again body rest fits =
    let size = to_be_bytes w32 (length body) in
    ap (λ b. cond b None (sized_record (from_be_bytes w32 size) (body ++ rest))) (le-ltb (length (record_text body ++ rest)) 4 (omega (arith, length-append (record_text body) rest, length-append size body)))
    ∙ ap (λ n. sized_record n (body ++ rest)) (from_be_bytes-to_be_bytes_4 (length body) fits.size)
    ∙ sized_again body rest fits.is

-- ---- the log

closed_log : (most at g : ℕ) (rest : List ℕ) → 0 < most → g ≢ 1 → records_from most at (g ∷ rest) ≡ Ok []
unfolding records_from
closed_log zero at g rest some closed = absurd (omega (arith, some))
closed_log (suc most) at g rest some closed = grind (arith, nat_tests, closed)

pub log_again : (bodies : List (List ℕ)) (most at g : ℕ) (rest : List ℕ) → AllByRecursion FitsRecord bodies → length (log_text bodies) < most → g ≢ 1
    → records_from most at (log_text bodies ++ g ∷ rest) ≡ Ok bodies
unfolding records_from records_behind with_record
log_again [] most at g rest fit room closed = closed_log most at g rest (omega (arith, room)) closed
log_again (body ∷ bodies) zero at g rest fit room closed = absurd (omega (arith, room))
log_again (body ∷ bodies) (suc most) at g rest fit room closed =
    let behind = log_text bodies ++ g ∷ rest in
    let same : (record_text body ++ log_text bodies) ++ g ∷ rest ≡ record_text body ++ behind = append_assoc (record_text body) (log_text bodies) (g ∷ rest) in
    ap (λ found. records_behind (records_from most) (at + 1) ((record_text body ++ log_text bodies) ++ g ∷ rest) found) (ap read_record same ∙ record_again body behind fit.0)
    ∙ ap (λ found. with_record body found) (log_again bodies most (at + 1 + length (record_text body)) g rest fit.1 (omega (arith, room, length-append (record_text body) (log_text bodies))) closed)

-- ---- a disk

image_again : (image : List ℕ) (bodies : List (List ℕ)) (g : ℕ) (rest : List ℕ) → FitsImage image → AllByRecursion FitsRecord bodies → g ≢ 1
    → found_sized (length image) (image ++ (log_text bodies ++ g ∷ rest)) ≡ loaded (record { image = image; bodies = bodies })
unfolding found_sized found_log
image_again image bodies g rest fits fit closed =
    let behind = log_text bodies ++ g ∷ rest in
    let all = image ++ behind in
    let long : length all ≡ length image + length behind = length-append image behind in
    ap (λ b. cond b (bad 17) (cond (is_image (take (length image) all)) (found_log (take (length image) all) (records_from (length all) (17 + length image) (drop (length image) all))) (bad 17)))
    (le-ltb (length all) (length image) (omega (arith, long)))
    ∙ ap (λ (l : List ℕ). cond (is_image l) (found_log l (records_from (length all) (17 + length image) (drop (length image) all))) (bad 17)) (take_at image behind (length image) refl)
    ∙ ap (λ b. cond b (found_log image (records_from (length all) (17 + length image) (drop (length image) all))) (bad 17)) fits.is
    ∙ ap (λ (l : List ℕ). found_log image (records_from (length all) (17 + length image) l)) (drop_at image behind (length image) refl)
    ∙ ap (λ found. found_log image found) (log_again bodies (length all) (17 + length image) g rest fit (omega (arith, long, length-append (log_text bodies) (g ∷ rest))) closed)

-- the bytes behind the first gate, by their parts
pub parts : (epoch : ℕ) (content : Content) (rest : List ℕ)
    → (checkpoint_text epoch content.image ++ log_text content.bodies) ++ rest ≡ to_be_bytes w64 epoch ++ (to_be_bytes w64 (length content.image) ++ (content.image ++ (log_text content.bodies ++ rest)))
parts epoch content rest =
    append_assoc (checkpoint_text epoch content.image) (log_text content.bodies) rest
    ∙ append_assoc (to_be_bytes w64 epoch) (to_be_bytes w64 (length content.image) ++ content.image) (log_text content.bodies ++ rest)
    ∙ ap (λ (l : List ℕ). to_be_bytes w64 epoch ++ l) (append_assoc (to_be_bytes w64 (length content.image)) content.image (log_text content.bodies ++ rest))

-- a front, a closed gate and anything
pub disk_again : (epoch : ℕ) (content : Content) (g : ℕ) (rest : List ℕ) → FitsLog epoch content → g ≢ 1 → found_on (front_text epoch content ++ g ∷ rest) ≡ loaded content
unfolding found_on
disk_again epoch content g rest fits closed =
    let tail = content.image ++ (log_text content.bodies ++ g ∷ rest) in
    let disk = 1 ∷ (to_be_bytes w64 epoch ++ (to_be_bytes w64 (length content.image) ++ tail)) in
    let long : 17 ≤ length disk = omega (arith, length-append (to_be_bytes w64 epoch) (to_be_bytes w64 (length content.image) ++ tail), length-append (to_be_bytes w64 (length content.image)) tail) in
    ap (λ (l : List ℕ). found_on (1 ∷ l)) (parts epoch content (g ∷ rest))
    ∙ ap (λ b. cond b (bad 1) (cond (nat_lt (length disk) 17) (bad 9) (found_sized (from_be_bytes w64 (to_be_bytes w64 (length content.image))) tail))) (le-ltb (length disk) 9 (omega (arith, long)))
    ∙ ap (λ b. cond b (bad 9) (found_sized (from_be_bytes w64 (to_be_bytes w64 (length content.image))) tail)) (le-ltb (length disk) 17 long)
    ∙ ap (λ n. found_sized n tail) (from_be_bytes-to_be_bytes_8 (length content.image) fits.image.size)
    ∙ image_again content.image content.bodies g rest fits.image fits.bodies closed

-- its epoch
pub epoch_again : (epoch : ℕ) (rest : List ℕ) → epoch < 2 ^ 64 → epoch_in (to_be_bytes w64 epoch ++ rest) ≡ epoch
unfolding epoch_in
epoch_again epoch rest fits =
    ap (λ b. cond b 0 (from_be_bytes w64 (to_be_bytes w64 epoch))) (le-ltb (length (to_be_bytes w64 epoch ++ rest)) 8 (omega (arith, length-append (to_be_bytes w64 epoch) rest)))
    ∙ from_be_bytes-to_be_bytes_8 epoch fits

pub front_epoch : (epoch : ℕ) (content : Content) (rest : List ℕ) → epoch < 2 ^ 64 → epoch_of (front_text epoch content ++ rest) ≡ epoch
front_epoch epoch content rest fits = ap epoch_in (parts epoch content rest) ∙ epoch_again epoch _ fits

pub front_counts : (epoch : ℕ) (content : Content) (rest : List ℕ) → is_checkpoint (front_text epoch content ++ rest) ≡ true
unfolding is_checkpoint
front_counts epoch content rest =
    ap (λ (l : List ℕ). is_checkpoint (1 ∷ l)) (parts epoch content rest)
    ∙ lt-ltb 0 (length (to_be_bytes w64 epoch ++ (to_be_bytes w64 (length content.image) ++ (content.image ++ (log_text content.bodies ++ rest)))))
    (omega (arith, length-append (to_be_bytes w64 epoch) (to_be_bytes w64 (length content.image) ++ (content.image ++ (log_text content.bodies ++ rest)))))

-- one record more
log_push : (bodies : List (List ℕ)) (body : List ℕ) → log_text (bodies ++ body ∷ []) ≡ log_text bodies ++ 1 ∷ record_text body
log_push [] body = ap (λ (l : List ℕ). 1 ∷ l) (append-nil (record_text body))
log_push (one ∷ bodies) body = ap (λ (l : List ℕ). 1 ∷ (record_text one ++ l)) (log_push bodies body) ∙ ap (λ (l : List ℕ). 1 ∷ l) (sym (append_assoc (record_text one) (log_text bodies) (1 ∷ record_text body)))

pub front_push : (epoch : ℕ) (content : Content) (body : List ℕ) → front_text epoch (with_body content body) ≡ front_text epoch content ++ 1 ∷ record_text body
front_push epoch content body =
    ap (λ (l : List ℕ). 1 ∷ (checkpoint_text epoch content.image ++ l)) (log_push content.bodies body)
    ∙ ap (λ (l : List ℕ). 1 ∷ l) (sym (append_assoc (checkpoint_text epoch content.image) (log_text content.bodies) (1 ∷ record_text body)))

fits_push : (bodies : List (List ℕ)) (body : List ℕ) → AllByRecursion FitsRecord bodies → FitsRecord body → AllByRecursion FitsRecord (bodies ++ body ∷ [])
fits_push [] body fit fits = (fits, tt)
fits_push (one ∷ bodies) body fit fits = (fit.0, fits_push bodies body fit.1 fits)

pub fits_log_push : (epoch : ℕ) (content : Content) (body : List ℕ) → FitsLog epoch content → FitsRecord body → FitsLog epoch (with_body content body)
fits_log_push epoch content body fit fits = record { epoch = fit.epoch; image = fit.image; bodies = fits_push content.bodies body fit.bodies fits }

-- ---- two disks

-- a disk that counts has bytes behind its gate
pub counts_long : (disk : List ℕ) → is_checkpoint disk ≡ true → nat_lt 0 (length (drop 1 disk)) ≡ true
unfolding is_checkpoint
counts_long [] counts = absurd (true≢false (sym counts))
counts_long (g ∷ disk) counts = (and_both (g == 1) (nat_lt 0 (length disk)) counts).1

right_case : (c o t : Bool) (A B C : Found) → c ≡ true → (o ≡ true → t ≡ true) → cond (c && cond o t true) A (cond o B C) ≡ A
right_case true true true A B C here there = refl
right_case true true false A B C here there = absurd (true≢false (sym (there refl)))
right_case true false t A B C here there = refl
right_case false o t A B C here there = absurd (true≢false (sym here))

left_case : (c o t : Bool) (A B C : Found) → c ≡ true → (o ≡ true → t ≡ false) → cond (o && cond c t true) B (cond c A C) ≡ A
left_case true true false A B C here there = refl
left_case true true true A B C here there = absurd (true≢false (there refl))
left_case true false t A B C here there = refl
left_case false o t A B C here there = absurd (true≢false (sym here))

loses_right : (epoch : ℕ) (bytes : List ℕ) → nat_lt 0 (length bytes) ≡ true → loses true epoch bytes ≡ true → nat_lt (epoch_in bytes) epoch ≡ true
unfolding loses
loses_right epoch bytes some lost = sym (ap (λ b. cond b (nat_lt (epoch_in bytes) epoch) true) some) ∙ lost

loses_left : (epoch : ℕ) (bytes : List ℕ) → nat_lt 0 (length bytes) ≡ true → loses false epoch bytes ≡ true → nat_lt epoch (epoch_in bytes) ≡ false
unfolding loses
loses_left epoch bytes some lost = le-ltb epoch (epoch_in bytes) (leb-true (epoch_in bytes) epoch (sym (ap (λ b. cond b (nat_le (epoch_in bytes) epoch) true) some) ∙ lost))

-- the disk in use is taken where the other one loses
pub current_found : (right : Bool) (current other : List ℕ) → is_checkpoint current ≡ true
    → (is_checkpoint other ≡ true → loses right (epoch_of current) (drop 1 other) ≡ true) → found_by right current other ≡ found_on current
unfolding found_in takes_right
current_found true current other counts behind =
    right_case (is_checkpoint current) (is_checkpoint other) (nat_lt (epoch_of other) (epoch_of current)) (found_on current) (found_on other) nothing counts
    (λ also. loses_right (epoch_of current) (drop 1 other) (counts_long other also) (behind also))
current_found false current other counts behind =
    left_case (is_checkpoint current) (is_checkpoint other) (nat_lt (epoch_of current) (epoch_of other)) (found_on current) (found_on other) nothing counts
    (λ also. loses_left (epoch_of current) (drop 1 other) (counts_long other also) (behind also))

-- and the other one where its epoch is greater
pub other_found : (right : Bool) (current other : List ℕ) → is_checkpoint current ≡ true → is_checkpoint other ≡ true → epoch_of current < epoch_of other → found_by right current other ≡ found_on other
unfolding found_in takes_right
other_found true current other counts also later =
    left_case (is_checkpoint other) (is_checkpoint current) (nat_lt (epoch_of other) (epoch_of current)) (found_on other) (found_on current) nothing also
    (λ _. le-ltb (epoch_of other) (epoch_of current) (omega (arith, later)))
other_found false current other counts also later =
    right_case (is_checkpoint other) (is_checkpoint current) (nat_lt (epoch_of current) (epoch_of other)) (found_on other) (found_on current) nothing also
    (λ _. lt-ltb (epoch_of current) (epoch_of other) later)
