-- What is found before and while the first checkpoint is made.
use Rattle.std.proofs.Common.{◌≡◌, ◌≢◌, ◌⊎◌, inl, inr, ⊎_elim, ◌∙◌, refl, sym, ap, subst, arith, ℕ, Bool, true, false, true≢false, cond, List, [], ◌∷◌, ◌++◌, length, get_or, drop, Option, Some, None}
use Rattle.std.specs.Prelude.{IfSome, nat_lt, nat_le, ◌==◌}
use Rattle.std.proofs.lemmas.Bool.{cases_eq, eqb-true}
use Rattle.std.proofs.lemmas.List.{append-nil}
use Rattle.qfs_log.specs.Gates.{Guarded, Staged, GateIs, GateWas}
use Rattle.qfs_log.specs.Found.{nothing, loaded, new_content, checkpoint_text, front_text, FitsImage, is_checkpoint, found_on, found_in, takes_right, loses, epoch_in}
use Rattle.qfs_log.specs.Log.{MayBeEmpty, empty_test}
use Rattle.qfs_log.proofs.Parts.{and_both, equals_is}
use Rattle.qfs_log.proofs.Found.{disk_again, front_counts}

none_found : (left : List ℕ) → is_checkpoint left ≡ false → found_in left [] ≡ nothing
unfolding found_in takes_right is_checkpoint
none_found left no_counts = ap (λ b. cond b (found_on left) nothing) no_counts

left_found : (left : List ℕ) → is_checkpoint left ≡ true → found_in left [] ≡ found_on left
unfolding found_in takes_right is_checkpoint
left_found left counts = ap (λ b. cond b (found_on left) nothing) counts

bool_cases : (b : Bool) → (b ≡ true) ⊎ (b ≡ false)
bool_cases true = inl refl
bool_cases false = inr refl

shut : (left : List ℕ) → (is_checkpoint left ≡ true → ⊥) → is_checkpoint left ≡ false
shut left never = ⊎_elim (λ counts. absurd (never counts)) (λ none. none) (bool_cases (is_checkpoint left))

closed_counts : (image : List ℕ) → get_or image 0 0 ≢ 1 → is_checkpoint image ≡ true → ⊥
unfolding is_checkpoint
closed_counts [] closed counts = true≢false (sym counts)
closed_counts (g ∷ rest) closed counts = closed (eqb-true g 1 (and_both (g == 1) (nat_lt 0 (length rest)) counts).0)

small_counts : (g : ℕ) (rest : List ℕ) → rest ≡ [] → is_checkpoint (g ∷ rest) ≡ true → ⊥
unfolding is_checkpoint
small_counts g rest none counts = true≢false (sym (and_both (g == 1) (nat_lt 0 (length rest)) counts).1 ∙ ap (λ (l : List ℕ). nat_lt 0 (length l)) none)

pub empty_found : (rival : Option (List ℕ)) (left : List ℕ) → IfSome rival FitsImage → Guarded [] left ⊎ Staged [] (empty_test rival) left → MayBeEmpty rival (found_in left [])
empty_found rival left fits (inl was) = inl (none_found left (shut left (closed_counts left was.closed)))
empty_found None [] fits (inr was) = inl (none_found [] (shut [] (closed_counts [] (omega arith))))
empty_found None (g ∷ rest) fits (inr was) = inl (none_found (g ∷ rest) (shut (g ∷ rest) (small_counts g rest (equals_is [] rest was.behind))))
empty_found (Some image) [] fits (inr was) = inl (none_found [] (shut [] (closed_counts [] (omega arith))))
empty_found (Some image) (g ∷ rest) fits (inr was) = elim (cases_eq g 1) [
  | inl opened ↦
      let content = new_content image in
      let is : g ∷ rest ≡ front_text 1 content ++ 0 ∷ [] =
      (λ i. opened i ∷ equals_is (checkpoint_text 1 image ++ 0 ∷ []) rest was.behind i) ∙ ap (λ (l : List ℕ). 1 ∷ (l ++ 0 ∷ [])) (sym (append-nil (checkpoint_text 1 image))) in
      inr (left_found (g ∷ rest) (ap is_checkpoint is ∙ front_counts 1 content (0 ∷ []))
      ∙ ap found_on is ∙ disk_again 1 content 0 [] (record { epoch = omega arith; image = fits; bodies = tt }) (omega arith))
  | inr closed ↦ inl (none_found (g ∷ rest) (shut (g ∷ rest) (closed_counts (g ∷ rest) closed)))
]

either : (settled : Bool) (test : List ℕ → Bool) (image : List ℕ) → GateWas settled [] test image → Guarded [] image ⊎ Staged [] test image
either true test image was = inl was
either false test image was = was

pub empty_now : (settled : Bool) (test : List ℕ → Bool) (image : List ℕ) → GateIs settled [] test image → GateWas settled [] test image
empty_now true test image is = is
empty_now false test image is = inr is

-- a pair while the first checkpoint is made
pub empty_pair : (settled : Bool) (rival : Option (List ℕ)) (image left right : List ℕ) → IfSome rival FitsImage → FitsImage image → right ≡ []
    → GateWas settled [] (empty_test rival) left ⊎ GateWas false [] (empty_test (Some image)) left → MayBeEmpty rival (found_in left right) ⊎ (found_in left right ≡ loaded (new_content image))
empty_pair settled rival image left right fits fit none (inl was) =
    inl (subst (λ (r : List ℕ). MayBeEmpty rival (found_in left r)) (sym none) (empty_found rival left fits (either settled (empty_test rival) left was)))
empty_pair settled rival image left right fits fit none (inr was) =
    subst (λ (r : List ℕ). MayBeEmpty rival (found_in left r) ⊎ (found_in left r ≡ loaded (new_content image))) (sym none)
    (⊎_elim (λ nothing_is. inl (inl nothing_is)) (λ is. inr is) (empty_found (Some image) left fit (either false (empty_test (Some image)) left was)))

-- an empty disk loses
pub empty_loses : (right : Bool) (epoch : ℕ) (disk : List ℕ) → disk ≡ [] → loses right epoch (drop 1 disk) ≡ true
unfolding loses
empty_loses right epoch disk none = ap (λ (l : List ℕ). cond (nat_lt 0 (length (drop 1 l))) (cond right (nat_lt (epoch_in (drop 1 l)) epoch) (nat_le (epoch_in (drop 1 l)) epoch)) true) none
