-- Parts of lists that agree at each place.
use Rattle.std.proofs.Common.{◌≡◌, true≢false, false, ◌&&◌, ◌==◌, inl, inr, Bool, true, IsTrue, ℕ, zero, suc, ◌+◌, ◌<◌, ◌≤◌, List, [], ◌∷◌, ◌++◌, length, get_or, take, drop, refl, sym, ◌∙◌, ap, arith, append_assoc, length-append, length-drop, take-append-drop}
use Rattle.std.proofs.lemmas.List.{take_at, drop_at, drop_more, get_or-drop, drop_all, length-take}
use Rattle.std.proofs.lemmas.Bool.Decides.{nat_tests}
use Rattle.std.proofs.lemmas.Bool.{eqb-true, cases_lt}
use Rattle.qfs_disk.specs.Disk.{Torn}
use Rattle.qfs_log.specs.Gates.{equals}

-- fronts that agree at each place
pub take_same : (k : ℕ) (c d : List ℕ) → k ≤ length c → k ≤ length d → ((i : ℕ) → i < k → get_or c i 0 ≡ get_or d i 0) → take k c ≡ take k d
take_same zero c d lc ld h = refl
take_same (suc k) [] d lc ld h = absurd (omega arith)
take_same (suc k) (x ∷ c) [] lc ld h = absurd (omega arith)
take_same (suc k) (x ∷ c) (y ∷ d) lc ld h =
    (λ i. (h 0 (omega arith)) i ∷ take k c) ∙ ap (λ (l : List ℕ). y ∷ l) (take_same k c d (omega arith) (omega arith) (λ i before. h (suc i) (omega arith)))

-- parts that agree at each place
pub part_same : (k m : ℕ) (c d : List ℕ) → k + m ≤ length c → k + m ≤ length d → ((i : ℕ) → i < m → get_or c (k + i) 0 ≡ get_or d (k + i) 0) → take m (drop k c) ≡ take m (drop k d)
part_same k m c d lc ld h =
    take_same m (drop k c) (drop k d) (omega (arith, length-drop k c)) (omega (arith, length-drop k d)) (λ i before. get_or-drop k c i 0 ∙ h i before ∙ sym (get_or-drop k d i 0))

-- the place behind a front
pub get_behind : (front rest : List ℕ) (g : ℕ) → get_or (front ++ g ∷ rest) (length front) 0 ≡ g
get_behind [] rest g = refl
get_behind (x ∷ front) rest g = get_behind front rest g

pub take_front : (front rest : List ℕ) → take (length front) (front ++ rest) ≡ front
take_front front rest = take_at front rest (length front) refl

pub drop_behind : (front rest : List ℕ) (g : ℕ) → drop (length front + 1) (front ++ g ∷ rest) ≡ rest
drop_behind front rest g =
    ap (λ (l : List ℕ). drop (length front + 1) l) (sym (append_assoc front (g ∷ []) rest)) ∙ drop_at (front ++ g ∷ []) rest (length front + 1) (omega (arith, length-append front (g ∷ [])))

-- a list by its parts at one place
pub split_at : (k : ℕ) (c : List ℕ) → k < length c → c ≡ take k c ++ get_or c k 0 ∷ drop (k + 1) c
split_at k c inside = sym (take-append-drop k c) ∙ ap (λ (l : List ℕ). take k c ++ l) (drop_more c k 0 inside)

-- a front lies in a list
pub front_fits : (front d : List ℕ) → take (length front) d ≡ front → length front ≤ length d
front_fits front d same = omega (arith, ap length same, length-take (length front) d)

-- lists of one length that agree from a place on
pub drop_same : (k : ℕ) (c d : List ℕ) → length c ≡ length d → ((i : ℕ) → k ≤ i → i < length d → get_or c i 0 ≡ get_or d i 0) → drop k c ≡ drop k d
drop_same zero [] [] long h = refl
drop_same zero [] (y ∷ d) long h = absurd (omega (arith, long))
drop_same zero (x ∷ c) [] long h = absurd (omega (arith, long))
drop_same zero (x ∷ c) (y ∷ d) long h = (λ i. (h 0 (omega arith) (omega arith)) i ∷ c) ∙ ap (λ (l : List ℕ). y ∷ l) (drop_same zero c d (omega (arith, long)) (λ i before inside. h (suc i) (omega arith) (omega (arith, inside))))
drop_same (suc k) [] [] long h = refl
drop_same (suc k) [] (y ∷ d) long h = absurd (omega (arith, long))
drop_same (suc k) (x ∷ c) [] long h = absurd (omega (arith, long))
drop_same (suc k) (x ∷ c) (y ∷ d) long h = drop_same k c d (omega (arith, long)) (λ i before inside. h (suc i) (omega (arith, before)) (omega (arith, inside)))

-- what stands behind a byte that is written stays
pub drop_torn : (k : ℕ) (d c : List ℕ) → k ≤ length d → Torn k 1 d c → drop (k + 1) c ≡ drop (k + 1) d
drop_torn k d c inside torn = elim (cases_lt k (length d)) [
  | inr short ↦ drop_all (k + 1) c (omega (arith, short, torn.no_longer)) ∙ sym (drop_all (k + 1) d (omega (arith, short)))
  | inl there ↦ drop_same (k + 1) c d (omega (arith, there, torn.no_shorter, torn.no_longer)) (λ i before in_d. torn.outside i in_d (inr before))
]

pub equals_itself : (l : List ℕ) → IsTrue (equals l l)
unfolding equals
equals_itself [] = refl
equals_itself (x ∷ l) = grind (arith, nat_tests, equals_itself l)

pub and_both : (a b : Bool) → IsTrue (a && b) → IsTrue a × IsTrue b
and_both true b is = (refl, is)
and_both false b is = absurd (true≢false (sym is))

pub equals_is : (l m : List ℕ) → IsTrue (equals l m) → m ≡ l
unfolding equals
equals_is [] [] is = refl
equals_is [] (y ∷ m) is = absurd (true≢false (sym is))
equals_is (x ∷ l) [] is = absurd (true≢false (sym is))
equals_is (x ∷ l) (y ∷ m) is =
    let both = and_both (x == y) (equals l m) is in
    (λ i. (sym (eqb-true x y both.0)) i ∷ m) ∙ ap (λ (k : List ℕ). x ∷ k) (equals_is l m both.1)
