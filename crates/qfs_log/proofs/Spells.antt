-- What is found in bytes is what a load finds.
use Rattle.std.proofs.Common.{◌≡◌, ◌∙◌, refl, sym, ap, subst, arith, ℕ, ◌+◌, ◌-◌, ◌≤◌, zero, suc, Bool, true, false, true≢false, cond, List, [], ◌∷◌, length, take, drop, length-drop, Option, Some, None, Result, Ok, Err}
use Rattle.std.specs.Prelude.{nat_lt, ◌==◌, ◌&&◌}
use Rattle.std.specs.Option.{option_and_then, option_map}
use Rattle.std.specs.Int.{w32, w64, from_be_bytes}
use Rattle.std.proofs.lemmas.Bool.{ltb-false, le-ltb}
use Rattle.std.proofs.lemmas.Bool.Decides.{nat_tests}
use Rattle.std.proofs.lemmas.List.{drop-drop}
use Rattle.qfs_model_disks.specs.Image as Images
use Rattle.qfs_model_disks.specs.LogRecord.{log_body, log_record_at, whole_body}
use Rattle.qfs_model_disks.specs.Spelled as Model
use Rattle.qfs_model_meta.specs.Step.{Logged}
use Rattle.qfs_record.specs.Part.{counted}
use Rattle.qfs_log.proofs.Read.{guard_some, if_some}
use Rattle.qfs_log.specs.Found.{is_whole, is_image, is_body, Content, Found, nothing, loaded, bad, is_checkpoint, epoch_in, epoch_of, takes_right, sized_record, read_record, with_record, records_behind, records_from, found_log, found_sized, found_on, found_in}
use Rattle.qfs_log.specs.Spells.{IsText, AreRecords, Spells, AreSpelled}

whole_some : {A : Type 0} (read : Option (A × List ℕ)) → is_whole read ≡ true → (value : A) × (read ≡ Some (value, []))
unfolding is_whole
whole_some None is = absurd (true≢false (sym is))
whole_some (Some (value, [])) is = (value, refl)
whole_some (Some (value, byte ∷ bytes)) is = absurd (true≢false (sym is))

-- ---- records

record_spelled : (bytes body rest : List ℕ) → read_record bytes ≡ Some (body, rest)
    → (one : Logged) × IsText log_body body one × (log_record_at bytes ≡ Some (one, rest))
unfolding read_record sized_record is_body log_record_at whole_body
record_spelled bytes body rest read =
    let behind = drop 4 bytes in
    let n = from_be_bytes w32 (take 4 bytes) in
    let long = guard_some (nat_lt (length bytes) 4) _ (body, rest) read in
    let sized = guard_some (nat_lt (length behind) n) _ (body, rest) long.1 in
    let tested = if_some (is_body (take n behind)) (take n behind, drop n behind) (body, rest) sized.1 in
    let one = whole_some (log_body.read (take n behind)) tested.0 in
    let body_is : take n behind ≡ body = ap (λ (p : List ℕ × List ℕ). p.0) tested.1 in
    let rest_is : drop n behind ≡ rest = ap (λ (p : List ℕ × List ℕ). p.1) tested.1 in
    let parted : (counted w32).read bytes ≡ Some (take n behind, drop n behind) =
    ap (λ b. option_and_then (λ (count : ℕ × List ℕ). cond (nat_lt (length count.1) count.0) None (Some (take count.0 count.1, drop count.0 count.1))) (cond b None (Some (n, behind)))) long.0
    ∙ ap (λ b. cond b None (Some (take n behind, drop n behind))) sized.0 in (
      one.0,
      ap log_body.read (sym body_is) ∙ one.1,
      ap (λ found. option_and_then (λ (part : List ℕ × List ℕ). option_map (λ logged. (logged, part.1)) (whole_body (log_body.read part.0))) found) parted
          ∙ ap (λ found. option_map (λ logged. (logged, drop n behind)) (whole_body found)) one.1
          ∙ ap (λ (l : List ℕ). Some (one.0, l)) rest_is,
    )

abbrev read_all : List (List ℕ) → Result (List (List ℕ)) ℕ
read_all bodies = Ok bodies

ok_is : (one two : List (List ℕ)) → read_all one ≡ read_all two → one ≡ two
ok_is one two same = cc

-- a record, and the ones behind it
next_spelled : (most more at from : ℕ) (body rest : List ℕ) (one : Logged) (bodies : List (List ℕ)) → IsText log_body body one
    → ((behind : List (List ℕ)) → records_from most at rest ≡ Ok behind → (records : List Logged) × AreRecords behind records × (Model.records_from more from rest ≡ Ok records))
    → (inner : Result (List (List ℕ)) ℕ) → records_from most at rest ≡ inner → with_record body inner ≡ Ok bodies
    → (records : List Logged) × AreRecords bodies records × (Model.with_record one (Model.records_from more from rest) ≡ Ok records)
unfolding with_record Model.with_record
next_spelled most more at from body rest one bodies text next (Ok behind) is joined =
    let then = next behind is in
    (one ∷ then.0, subst (λ (l : List (List ℕ)). AreRecords l (one ∷ then.0)) (ok_is (body ∷ behind) bodies joined) (text, then.1), ap (λ r. Model.with_record one r) then.2)
next_spelled most more at from body rest one bodies text next (Err offset) is joined = absurd cc

-- the records behind a gate that is open, or closed
gate_spelled : (most more at from : ℕ) (bytes : List ℕ) (bodies : List (List ℕ)) (is_open : Bool)
    → ((start to : ℕ) (rest : List ℕ) (behind : List (List ℕ)) → records_from most start rest ≡ Ok behind
    → (records : List Logged) × AreRecords behind records × (Model.records_from more to rest ≡ Ok records))
    → (found : Option (List ℕ × List ℕ)) → read_record bytes ≡ found → cond is_open (records_behind (records_from most) at bytes found) (Ok []) ≡ Ok bodies
    → (records : List Logged) × AreRecords bodies records × (cond is_open (Model.records_behind (Model.records_from more) from bytes (log_record_at bytes)) (Ok []) ≡ Ok records)
unfolding records_behind Model.records_behind
gate_spelled most more at from bytes bodies false next found read is = ([], subst (λ (l : List (List ℕ)). AreRecords l []) (ok_is [] bodies is) tt, refl)
gate_spelled most more at from bytes bodies true next None read is = absurd cc
gate_spelled most more at from bytes bodies true next (Some (body, rest)) read is =
    let one = record_spelled bytes body rest read in
    let to = from + (length bytes - length rest) in
    let then = next_spelled most more _ to body rest one.0 bodies one.1 (λ behind was. next _ to rest behind was) _ refl is in
    (then.0, then.1, ap (λ found. Model.records_behind (Model.records_from more) from bytes found) one.2 ∙ then.2)

records_spelled : (most more at from : ℕ) (bytes : List ℕ) (bodies : List (List ℕ)) → most ≤ more → records_from most at bytes ≡ Ok bodies
    → (records : List Logged) × AreRecords bodies records × (Model.records_from more from bytes ≡ Ok records)
unfolding records_from Model.records_from
records_spelled most more at from [] bodies le is = absurd cc
records_spelled zero more at from (gate ∷ bytes) bodies le is = absurd cc
records_spelled (suc most) zero at from (gate ∷ bytes) bodies le is = absurd (omega (arith, le))
records_spelled (suc most) (suc more) at from (gate ∷ bytes) bodies le is =
    gate_spelled most more (at + 1) (from + 1) bytes bodies (gate == 1)
    (λ start to rest behind was. records_spelled most more start to rest behind (omega (arith, le)) was)
    (read_record bytes) refl is

-- ---- a disk

guard_loaded : (b : Bool) (offset : ℕ) (x : Found) (content : Content) → cond b (bad offset) x ≡ loaded content → (b ≡ false) × (x ≡ loaded content)
guard_loaded true offset x content is = absurd cc
guard_loaded false offset x content is = (refl, is)

if_loaded : (b : Bool) (offset : ℕ) (x : Found) (content : Content) → cond b x (bad offset) ≡ loaded content → (b ≡ true) × (x ≡ loaded content)
if_loaded true offset x content is = (refl, is)
if_loaded false offset x content is = absurd cc

log_case : (bytes : List ℕ) (records : Result (List (List ℕ)) ℕ) (content : Content) → found_log bytes records ≡ loaded content
    → (bytes ≡ content.image) × (records ≡ Ok content.bodies)
unfolding found_log
log_case bytes (Ok bodies) content is = (cc, cc)
log_case bytes (Err offset) content is = absurd cc

disk_spelled : (right : Bool) (disk : List ℕ) (content : Content) → found_on disk ≡ loaded content → Spells content (Model.found_on right disk)
unfolding found_on found_sized is_image Model.found_on Model.found_image Model.found_log
disk_spelled right disk content is =
    let size = from_be_bytes w64 (take 8 (drop 9 disk)) in
    let tail = drop 17 disk in
    let nine = guard_loaded (nat_lt (length disk) 9) 1 _ content is in
    let long = guard_loaded (nat_lt (length disk) 17) 9 _ content nine.1 in
    let sized = guard_loaded (nat_lt (length tail) size) 17 _ content long.1 in
    let tested = if_loaded (is_image (take size tail)) 17 _ content sized.1 in
    let state = whole_some (Images.image.read (take size tail)) tested.0 in
    let parts = log_case (take size tail) (records_from (length tail) (17 + size) (drop size tail)) content tested.1 in
    let fits : 17 + size ≤ length disk = omega (arith, length-drop 17 disk, ltb-false (length tail) size sized.0, ltb-false (length disk) 17 long.0) in
    let logs = records_spelled (length tail) (length disk) (17 + size) (17 + size) (drop size tail) content.bodies (omega (arith, length-drop 17 disk)) parts.1 in
    record {
      right = right;
      state = state.0;
      records = logs.0;
      image = ap Images.image.read (sym parts.0) ∙ state.1;
      bodies = logs.1;
      found =
          ap (λ b. cond b (Model.bad right 1) (cond (nat_lt (length disk) 17) (Model.bad right 9)
          (cond (nat_lt (length disk) (17 + size)) (Model.bad right 17) (Model.found_image right size disk (Images.image.read (take size tail)))))) nine.0
          ∙ ap (λ b. cond b (Model.bad right 9) (cond (nat_lt (length disk) (17 + size)) (Model.bad right 17) (Model.found_image right size disk (Images.image.read (take size tail))))) long.0
          ∙ ap (λ b. cond b (Model.bad right 17) (Model.found_image right size disk (Images.image.read (take size tail)))) (le-ltb (length disk) (17 + size) fits)
          ∙ ap (λ read. Model.found_image right size disk read) state.1
          ∙ ap (λ (l : List ℕ). Model.found_log right state.0 (Model.records_from (length disk) (17 + size) l)) (sym (drop-drop size 17 disk))
          ∙ ap (λ found. Model.found_log right state.0 found) logs.2;
    }

-- ---- two disks

checkpoint_same : (disk : List ℕ) → is_checkpoint disk ≡ Model.is_checkpoint disk
unfolding is_checkpoint Model.is_checkpoint
checkpoint_same [] = refl
checkpoint_same (gate ∷ bytes) = refl

epoch_same : (disk : List ℕ) → epoch_of disk ≡ Model.epoch_of disk
unfolding epoch_in Model.epoch_of
epoch_same disk = grind (arith, nat_tests, length-drop 1 disk)

takes_same : (left right : List ℕ) → takes_right left right ≡ Model.takes_right left right
unfolding takes_right Model.takes_right
takes_same left right =
    ap (λ b. b && cond (is_checkpoint left) (nat_lt (epoch_of left) (epoch_of right)) true) (checkpoint_same right)
    ∙ ap (λ b. Model.is_checkpoint right && cond b (nat_lt (epoch_of left) (epoch_of right)) true) (checkpoint_same left)
    ∙ ap (λ n. Model.is_checkpoint right && cond (Model.is_checkpoint left) (nat_lt n (epoch_of right)) true) (epoch_same left)
    ∙ ap (λ n. Model.is_checkpoint right && cond (Model.is_checkpoint left) (nat_lt (Model.epoch_of left) n) true) (epoch_same right)

pick_loaded : (takes counts : Bool) (left right : List ℕ) (content : Content) → cond takes (found_on right) (cond counts (found_on left) nothing) ≡ loaded content
    → Spells content (cond takes (Model.found_on true right) (cond counts (Model.found_on false left) Model.nothing))
pick_loaded true counts left right content is = disk_spelled true right content is
pick_loaded false true left right content is = disk_spelled false left content is
pick_loaded false false left right content is = absurd cc

guard_nothing : (b : Bool) (offset : ℕ) (x : Found) → cond b (bad offset) x ≡ nothing → x ≡ nothing
guard_nothing true offset x is = absurd cc
guard_nothing false offset x is = is

if_nothing : (b : Bool) (offset : ℕ) (x : Found) → cond b x (bad offset) ≡ nothing → x ≡ nothing
if_nothing true offset x is = is
if_nothing false offset x is = absurd cc

log_nothing : (bytes : List ℕ) (records : Result (List (List ℕ)) ℕ) → found_log bytes records ≡ nothing → ⊥
unfolding found_log
log_nothing bytes (Ok bodies) is = cc
log_nothing bytes (Err offset) is = cc

never_nothing : (disk : List ℕ) → found_on disk ≡ nothing → ⊥
unfolding found_on found_sized
never_nothing disk is =
    let size = from_be_bytes w64 (take 8 (drop 9 disk)) in
    let tail = drop 17 disk in
    let long = guard_nothing (nat_lt (length disk) 17) 9 _ (guard_nothing (nat_lt (length disk) 9) 1 _ is) in
    log_nothing (take size tail) (records_from (length tail) (17 + size) (drop size tail))
    (if_nothing (is_image (take size tail)) 17 _ (guard_nothing (nat_lt (length tail) size) 17 _ long))

pick_nothing : (takes counts : Bool) (left right : List ℕ) → cond takes (found_on right) (cond counts (found_on left) nothing) ≡ nothing
    → cond takes (Model.found_on true right) (cond counts (Model.found_on false left) Model.nothing) ≡ Model.nothing
pick_nothing true counts left right is = absurd (never_nothing right is)
pick_nothing false true left right is = absurd (never_nothing left is)
pick_nothing false false left right is = refl

pub are_spelled : (left right : List ℕ) → AreSpelled left right
unfolding found_in Model.found_in
are_spelled left right = record {
  loaded = λ content is. subst (λ t. Spells content (cond t (Model.found_on true right) (cond (Model.is_checkpoint left) (Model.found_on false left) Model.nothing))) (takes_same left right)
      (subst (λ c. Spells content (cond (takes_right left right) (Model.found_on true right) (cond c (Model.found_on false left) Model.nothing))) (checkpoint_same left)
      (pick_loaded (takes_right left right) (is_checkpoint left) left right content is));
  nothing = λ is. subst (λ t. cond t (Model.found_on true right) (cond (Model.is_checkpoint left) (Model.found_on false left) Model.nothing) ≡ Model.nothing) (takes_same left right)
      (subst (λ c. cond (takes_right left right) (Model.found_on true right) (cond c (Model.found_on false left) Model.nothing) ≡ Model.nothing) (checkpoint_same left)
      (pick_nothing (takes_right left right) (is_checkpoint left) left right is));
}
