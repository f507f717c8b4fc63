-- What a load of two images finds.
use Rattle.std.proofs.Common.{◌≡◌, ◌≢◌, ◌⊎◌, inl, inr, ⊎_elim, ◌∙◌, sym, ap, subst, arith, ℕ, ◌+◌, ◌<◌, ◌^◌, Bool, true, true≢false, List, [], ◌∷◌, ◌++◌, length, get_or, drop, append_assoc, length-append, length-drop, Option, Some, None}
use Rattle.std.specs.Prelude.{IfSome, ◌==◌, nat_lt}
use Rattle.std.proofs.lemmas.Bool.{cases_eq, eqb-true}
use Rattle.std.proofs.lemmas.List.{append-nil}
use Rattle.qfs_log.specs.Gates.{Guarded, Staged}
use Rattle.qfs_log.specs.Found.{Content, with_body, new_content, loaded, record_text, checkpoint_text, front_text, FitsRecord, FitsImage, FitsLog, is_checkpoint, epoch_of, found_on, found_by, loses}
use Rattle.qfs_log.specs.Log.{Bytes, tail_test, other_test, IsUnsettled, IsRival, MayBe}
use Rattle.qfs_log.proofs.Parts.{and_both, equals_is, split_at}
use Rattle.qfs_log.proofs.Gates.{guarded_split}
use Rattle.qfs_log.proofs.Found.{disk_again, front_counts, front_epoch, front_push, fits_log_push, current_found, other_found}

-- what is told of an image of the disk in use
pub record Chosen (epoch : ℕ) (content : Content) (unsettled : Option Bytes) (image : List ℕ) : Type 0 where
  pub counts : is_checkpoint image ≡ true
  pub number : epoch_of image ≡ epoch
  pub found : (found_on image ≡ loaded content) ⊎ IsUnsettled content unsettled (found_on image)

-- and of the other one: it loses, or it has the checkpoint that failed
pub record Wins (epoch : ℕ) (rival : Option (List ℕ)) (image : List ℕ) : Type 0 where
  pub counts : is_checkpoint image ≡ true
  pub number : epoch_of image ≡ epoch + 1
  pub found : IsRival rival (found_on image)

closed_counts : (image : List ℕ) → get_or image 0 0 ≢ 1 → is_checkpoint image ≡ true → ⊥
unfolding is_checkpoint
closed_counts [] closed counts = true≢false (sym counts)
closed_counts (g ∷ rest) closed counts = closed (eqb-true g 1 (and_both (g == 1) (nat_lt 0 (length rest)) counts).0)

module _ (epoch : ℕ) (content : Content) (fits : FitsLog epoch content) where
  here : (u : Option Bytes) (g : ℕ) (rest image : List ℕ) → image ≡ front_text epoch content ++ g ∷ rest → (found_on image ≡ loaded content) ⊎ IsUnsettled content u (found_on image) → Chosen epoch content u image
  here u g rest image is found = record {
    counts = ap is_checkpoint is ∙ front_counts epoch content (g ∷ rest);
    number = ap epoch_of is ∙ front_epoch epoch content (g ∷ rest) fits.epoch;
    found = found;
  }

  closed_here : (u : Option Bytes) (image : List ℕ) → Guarded (front_text epoch content) image → Chosen epoch content u image
  closed_here u image was =
      let front = front_text epoch content in
      let is = guarded_split front image was in
      here u (get_or image (length front) 0) (drop (length front + 1) image) image is (inl (ap found_on is ∙ disk_again epoch content (get_or image (length front) 0) (drop (length front + 1) image) fits was.closed))

  staged_here : (body : Bytes) (image : List ℕ) → FitsRecord body.items → Staged (front_text epoch content) (tail_test (Some body)) image → Chosen epoch content (Some body) image
  staged_here body image fit was =
      let front = front_text epoch content in
      let tail = record_text body.items ++ 0 ∷ [] in
      let g = get_or image (length front) 0 in
      let behind : drop (length front + 1) image ≡ tail = equals_is tail (drop (length front + 1) image) was.behind in
      let long : length front < length image = omega (arith, length-drop (length front + 1) image, ap length behind, length-append (record_text body.items) (0 ∷ [])) in
      let is : image ≡ front ++ g ∷ tail =
      split_at (length front) image long ∙ ap (λ (l : List ℕ). l ++ g ∷ drop (length front + 1) image) was.same ∙ ap (λ (l : List ℕ). front ++ g ∷ l) behind in
      here (Some body) g tail image is (elim (cases_eq g 1) [
        | inl opened ↦ inr (ap found_on (is ∙ ap (λ (n : ℕ). front ++ n ∷ tail) opened ∙ sym (append_assoc front (1 ∷ record_text body.items) (0 ∷ [])) ∙ ap (λ (l : List ℕ). l ++ 0 ∷ []) (sym (front_push epoch content body.items)))
            ∙ disk_again epoch (with_body content body.items) 0 [] (fits_log_push epoch content body.items fits fit) (omega arith))
        | inr closed ↦ inl (ap found_on is ∙ disk_again epoch content g tail fits closed)
      ])

  pub chosen : (u : Option Bytes) (image : List ℕ) → IfSome u (λ body. FitsRecord body.items) → Guarded (front_text epoch content) image ⊎ Staged (front_text epoch content) (tail_test u) image → Chosen epoch content u image
  chosen u image fit (inl was) = closed_here u image was
  chosen None image fit (inr was) = absurd (true≢false (sym was.behind))
  chosen (Some body) image fit (inr was) = staged_here body image fit was

pub behind : (right : Bool) (epoch : ℕ) (rival : Option (List ℕ)) (image : List ℕ) → IfSome rival FitsImage → IfSome rival (λ _. epoch + 1 < 2 ^ 64)
    → Guarded [] image ⊎ Staged [] (other_test right epoch rival) image
    → (is_checkpoint image ≡ true → loses right epoch (drop 1 image) ≡ true) ⊎ Wins epoch rival image
behind right epoch rival image fits room (inl was) = inl (λ counts. absurd (closed_counts image was.closed counts))
behind right epoch None image fits room (inr was) = inl (λ counts. was.behind)
behind right epoch (Some rival) [] fits room (inr was) = inl (λ counts. absurd (closed_counts [] (omega arith) counts))
behind right epoch (Some rival) (g ∷ rest) fits room (inr was) = elim (cases_eq g 1) [
  | inl opened ↦
      let content = new_content rival in
      let tail = checkpoint_text (epoch + 1) rival ++ 0 ∷ [] in
      let is : g ∷ rest ≡ front_text (epoch + 1) content ++ 0 ∷ [] =
      (λ i. opened i ∷ equals_is tail rest was.behind i) ∙ ap (λ (l : List ℕ). 1 ∷ (l ++ 0 ∷ [])) (sym (append-nil (checkpoint_text (epoch + 1) rival))) in
      inr (record {
        counts = ap is_checkpoint is ∙ front_counts (epoch + 1) content (0 ∷ []);
        number = ap epoch_of is ∙ front_epoch (epoch + 1) content (0 ∷ []) room;
        found = ap found_on is ∙ disk_again (epoch + 1) content 0 [] (record { epoch = room; image = fits; bodies = tt }) (omega arith);
      })
  | inr closed ↦ inl (λ counts. absurd (closed_counts (g ∷ rest) closed counts))
]

-- a pair of images
pub pair : (right : Bool) (epoch : ℕ) (content : Content) (unsettled : Option Bytes) (rival : Option (List ℕ)) (current other : List ℕ)
    → Chosen epoch content unsettled current → (is_checkpoint other ≡ true → loses right epoch (drop 1 other) ≡ true) ⊎ Wins epoch rival other
    → MayBe content unsettled rival (found_by right current other)
pair right epoch content unsettled rival current other one (inl loser) =
    let found = current_found right current other one.counts (λ counts. subst (λ n. loses right n (drop 1 other) ≡ true) (sym one.number) (loser counts)) in
    ⊎_elim (λ is. inl (found ∙ is)) (λ is. inr (inl (subst (λ f. IsUnsettled content unsettled f) (sym found) is))) one.found
pair right epoch content unsettled rival current other one (inr wins) =
    let found = other_found right current other one.counts wins.counts (omega (arith, one.number, wins.number)) in
    inr (inr (subst (λ f. IsRival rival f) (sym found) wins.found))
