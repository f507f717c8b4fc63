-- How a log stands after a record was written.
use Rattle.std.proofs.Common.{◌≡◌, ◌⊎◌, inl, inr, ◌∙◌, refl, sym, ap, subst, arith, ℕ, ◌+◌, ◌<◌, ◌^◌, Bool, true, false, List, [], ◌∷◌, ◌++◌, length, drop, cond, append_assoc, length-append, Option, Some, None}
use Rattle.std.specs.Prelude.{nat_lt, nat_le, not}
use Rattle.std.proofs.lemmas.Bool.{lt-ltb, le-leb}
use Rattle.std.proofs.lemmas.List.{append-nil}
use Rattle.qfs_log.specs.Gates.{Guarded, Staged, GateIs, GateWas, HasGate, AtRest, Opened}
use Rattle.qfs_log.specs.Found.{Content, Found, loaded, found_by, found_in, loses, epoch_in, with_body, new_content, record_text, checkpoint_text, front_text, FitsRecord, FitsImage, FitsLog}
use Rattle.qfs_log.specs.Log.{Bytes, tail_test, other_test, Current, Stands, CurrentWas, OtherWas, MayBe}
use Rattle.qfs_log.specs.declared.log.Log.{Log}
use Rattle.qfs_log.proofs.Pairs.{chosen, behind, pair}
use Rattle.qfs_log.proofs.Found.{front_push, fits_log_push}
use Rattle.qfs_log.proofs.Gates.{rest_images}

module _ (leaves : List ℕ → Type 0) (bytes : List ℕ) (epoch : ℕ) (content : Content) (body tail : List ℕ) (same : tail ≡ record_text body ++ 0 ∷ []) where
  -- an opened record is part of the front, and the log is at rest behind it
  pub next_rest : Opened leaves bytes (front_text epoch content) tail → AtRest leaves bytes (front_text epoch (with_body content body))
  next_rest opened = record {
    gate = 0;
    ends = opened.ends ∙ ap (λ (l : List ℕ). front_text epoch content ++ 1 ∷ l) same
        ∙ sym (append_assoc (front_text epoch content) (1 ∷ record_text body) (0 ∷ [])) ∙ ap (λ (l : List ℕ). l ++ 0 ∷ []) (sym (front_push epoch content body));
    closed = omega arith;
    durable = opened.durable;
  }

  pub next_place : length (front_text epoch (with_body content body)) ≡ length (front_text epoch content) + length tail
  next_place =
      omega (arith, ap length (front_push epoch content body), length-append (front_text epoch content) (1 ∷ record_text body), ap length same, length-append (record_text body) (0 ∷ []))

  pub next_current : (old_gate new_gate : ℕ) (tail_due : Bool) → FitsLog epoch content → FitsRecord body → length (front_text epoch content) ≡ old_gate → new_gate ≡ old_gate + length tail
      → Opened leaves bytes (front_text epoch content) tail → Current leaves bytes epoch new_gate true tail_due None (with_body content body)
  next_current old_gate new_gate tail_due fits fit place moved opened = record {
    fits = fits_log_push epoch content body fits fit;
    place = next_place ∙ ap (λ n. n + length tail) place ∙ sym moved;
    images = rest_images (front_text epoch (with_body content body)) new_gate (next_place ∙ ap (λ n. n + length tail) place ∙ sym moved) leaves bytes (next_rest opened);
    rest = λ _. next_rest opened;
    body = tt;
  }

-- what a closed or open gate might have been
pub was_either : (settled : Bool) (front : List ℕ) (test : List ℕ → Bool) (image : List ℕ) → GateWas settled front test image → Guarded front image ⊎ Staged front test image
was_either true front test image was = inl was
was_either false front test image was = was

is_either : (settled : Bool) (front : List ℕ) (test : List ℕ → Bool) (image : List ℕ) → GateIs settled front test image → GateWas settled front test image
is_either true front test image is = is
is_either false front test image is = inr is

cond_true : (b t : Bool) → t ≡ true → cond b t true ≡ true
cond_true true t is = is
cond_true false t is = refl

module _ {D : Type 0} (tells : D → Bool) (clock : D → ℕ) (leaves : D → List ℕ → Type 0) (left_since : D → ℕ → List ℕ → Type 0) (bytes : D → List ℕ) where
  -- images of a log that stands
  pub current_now : (log : Log D) (content : Content) (rival : Option (List ℕ)) → Stands tells leaves bytes log content rival → (c : List ℕ) → leaves log.current c → CurrentWas log content c
  current_now log content rival stands c left = is_either log.settled (front_text log.epoch content) (tail_test log.unsettled) c (stands.current.images c left)

  pub other_now : (log : Log D) (content : Content) (rival : Option (List ℕ)) → Stands tells leaves bytes log content rival → (o : List ℕ) → leaves log.other o → OtherWas log rival o
  other_now log content rival stands o left = is_either log.other_settled [] (other_test log.right log.epoch rival) o (stands.other.images o left)

  -- a log whose fields that matter are those of another
  pub was_same : (old new : Log D) (content : Content) (c : List ℕ) → new.settled ≡ old.settled → new.epoch ≡ old.epoch → new.unsettled ≡ old.unsettled → CurrentWas new content c → CurrentWas old content c
  was_same old new content c settled epoch unsettled was =
      subst (λ s. GateWas s (front_text old.epoch content) (tail_test old.unsettled) c) settled
      (subst (λ e. GateWas new.settled (front_text e content) (tail_test old.unsettled) c) epoch
      (subst (λ u. GateWas new.settled (front_text new.epoch content) (tail_test u) c) unsettled was))

  -- each pair of images is one of those before
  pub pair_before : (log : Log D) (content : Content) (rival : Option (List ℕ)) (c o : List ℕ) → Stands tells leaves bytes log content rival → CurrentWas log content c → OtherWas log rival o
      → MayBe content log.unsettled rival (found_by log.right c o)
  pair_before log content rival c o stands was_c was_o =
      pair log.right log.epoch content log.unsettled rival c o
      (chosen log.epoch content stands.current.fits log.unsettled c stands.current.body (was_either log.settled (front_text log.epoch content) (tail_test log.unsettled) c was_c))
      (behind log.right log.epoch rival o stands.other.image stands.other.room (was_either log.other_settled [] (other_test log.right log.epoch rival) o was_o))

  new_body : (content : Content) (unsettled : Option Bytes) (body : Bytes) (rival : Option (List ℕ)) (found : Found) → MayBe content (Some body) rival found → MayBe content unsettled rival found ⊎ (found ≡ loaded (with_body content body.items))
  new_body content unsettled body rival found (inl same) = inl (inl same)
  new_body content unsettled body rival found (inr (inl more)) = inr more
  new_body content unsettled body rival found (inr (inr won)) = inl (inr (inr won))

  -- or has the record
  pub pair_after : (log : Log D) (content : Content) (rival : Option (List ℕ)) (body : Bytes) (c o : List ℕ) → Stands tells leaves bytes log content rival → FitsRecord body.items
      → CurrentWas log content c ⊎ GateWas false (front_text log.epoch content) (tail_test (Some body)) c → OtherWas log rival o
      → MayBe content log.unsettled rival (found_by log.right c o) ⊎ (found_by log.right c o ≡ loaded (with_body content body.items))
  pair_after log content rival body c o stands fits (inl was_c) was_o = inl (pair_before log content rival c o stands was_c was_o)
  pair_after log content rival body c o stands fits (inr was_c) was_o =
      new_body content log.unsettled body rival (found_by log.right c o)
      (pair log.right log.epoch content (Some body) rival c o
      (chosen log.epoch content stands.current.fits (Some body) c fits was_c)
      (behind log.right log.epoch rival o stands.other.image stands.other.room (was_either log.other_settled [] (other_test log.right log.epoch rival) o was_o)))

  new_image : (content : Content) (unsettled : Option Bytes) (image : List ℕ) (rival : Option (List ℕ)) (found : Found) → MayBe content unsettled (Some image) found → MayBe content unsettled rival found ⊎ (found ≡ loaded (new_content image))
  new_image content unsettled image rival found (inl same) = inl (inl same)
  new_image content unsettled image rival found (inr (inl more)) = inl (inr (inl more))
  new_image content unsettled image rival found (inr (inr won)) = inr won

  -- or has the checkpoint
  pub pair_image : (log : Log D) (content : Content) (rival : Option (List ℕ)) (image c o : List ℕ) → Stands tells leaves bytes log content rival → FitsImage image → log.epoch + 1 < 2 ^ 64
      → CurrentWas log content c → OtherWas log rival o ⊎ GateWas false [] (other_test log.right log.epoch (Some image)) o
      → MayBe content log.unsettled rival (found_by log.right c o) ⊎ (found_by log.right c o ≡ loaded (new_content image))
  pair_image log content rival image c o stands fits room was_c (inl was_o) = inl (pair_before log content rival c o stands was_c was_o)
  pair_image log content rival image c o stands fits room was_c (inr was_o) =
      new_image content log.unsettled image rival (found_by log.right c o)
      (pair log.right log.epoch content log.unsettled (Some image) c o
      (chosen log.epoch content stands.current.fits log.unsettled c stands.current.body (was_either log.settled (front_text log.epoch content) (tail_test log.unsettled) c was_c))
      (behind log.right log.epoch (Some image) o fits room was_o))

  -- pairs by their sides, before and after the disks change their places
  pub by_sides : (right : Bool) (new_current new_other old_current old_other : D) (goal : Found → Type 0)
      → ((c o : List ℕ) → left_since new_current (clock old_current) c → left_since new_other (clock old_other) o → goal (found_by right c o))
      → (l r : List ℕ) → left_since (cond right new_other new_current) (clock (cond right old_other old_current)) l
      → left_since (cond right new_current new_other) (clock (cond right old_current old_other)) r → goal (found_in l r)
  by_sides true new_current new_other old_current old_other goal all l r left_l left_r = all r l left_r left_l
  by_sides false new_current new_other old_current old_other goal all l r left_l left_r = all l r left_l left_r

  pub by_switched : (right : Bool) (new_current new_other old_current old_other : D) (goal : Found → Type 0)
      → ((c o : List ℕ) → left_since new_current (clock old_current) c → left_since new_other (clock old_other) o → goal (found_by right c o))
      → (l r : List ℕ) → left_since (cond (not right) new_current new_other) (clock (cond right old_other old_current)) l
      → left_since (cond (not right) new_other new_current) (clock (cond right old_current old_other)) r → goal (found_in l r)
  by_switched true new_current new_other old_current old_other goal all l r left_l left_r = all r l left_r left_l
  by_switched false new_current new_other old_current old_other goal all l r left_l left_r = all l r left_l left_r

  pub now_by_sides : (right : Bool) (current other : D) (goal : Found → Type 0) → ((c o : List ℕ) → leaves current c → leaves other o → goal (found_by right c o))
      → (l r : List ℕ) → leaves (cond right other current) l → leaves (cond right current other) r → goal (found_in l r)
  now_by_sides true current other goal all l r left_l left_r = all r l left_r left_l
  now_by_sides false current other goal all l r left_l left_r = all l r left_l left_r

  -- the disk that was in use loses to the next epoch
  loses_below : (right : Bool) (epoch : ℕ) (rest : List ℕ) → epoch_in rest < epoch → loses right epoch rest ≡ true
  unfolding loses
  loses_below true epoch rest below = cond_true (nat_lt 0 (length rest)) (nat_lt (epoch_in rest) epoch) (lt-ltb (epoch_in rest) epoch below)
  loses_below false epoch rest below = cond_true (nat_lt 0 (length rest)) (nat_le (epoch_in rest) epoch) (le-leb (epoch_in rest) epoch (omega (arith, below)))

  pub switched_other : (log : Log D) (content : Content) (rival : Option (List ℕ)) (right : Bool) (d : D) → d ≡ log.current → Stands tells leaves bytes log content rival → HasGate (leaves d) false [] (other_test right (log.epoch + 1) None)
  switched_other log content rival right d is stands c left =
      let was = current_now log content rival stands c (subst (λ e. leaves e c) is left) in
      let one = chosen log.epoch content stands.current.fits log.unsettled c stands.current.body (was_either log.settled (front_text log.epoch content) (tail_test log.unsettled) c was) in
      record { same = refl; behind = loses_below right (log.epoch + 1) (drop 1 c) (omega (arith, one.number)) }

-- the log behind a new checkpoint
pub switched_current : (leaves : List ℕ → Type 0) (bytes : List ℕ) (epoch gate : ℕ) (image tail : List ℕ) (due : Bool) → tail ≡ checkpoint_text epoch image ++ 0 ∷ [] → FitsImage image → epoch < 2 ^ 64 → gate ≡ length tail
    → Opened leaves bytes [] tail → Current leaves bytes epoch gate true due None (new_content image)
switched_current leaves bytes epoch gate image tail due same fits room place opened = record {
  fits = record { epoch = room; image = fits; bodies = tt };
  place = long;
  images = rest_images (front_text epoch (new_content image)) gate long leaves bytes rest;
  rest = λ _. rest;
  body = tt;
}
  where
    front_is : front_text epoch (new_content image) ≡ 1 ∷ checkpoint_text epoch image
    front_is = ap (λ (l : List ℕ). 1 ∷ l) (append-nil (checkpoint_text epoch image))

    long : length (front_text epoch (new_content image)) ≡ gate
    long = ap length front_is ∙ omega (arith, place, ap length same, length-append (checkpoint_text epoch image) (0 ∷ []))

    rest : AtRest leaves bytes (front_text epoch (new_content image))
    rest = record {
      gate = 0;
      ends = opened.ends ∙ ap (λ (l : List ℕ). 1 ∷ l) same ∙ ap (λ (l : List ℕ). l ++ 0 ∷ []) (sym front_is);
      closed = omega arith;
      durable = opened.durable;
    }
