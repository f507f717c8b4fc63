-- The laws of `dot`, the sum of products.
use Rattle.std.proofs.Common.{◌≡◌, ℕ, zero, suc, ◌+◌, ◌<◌, ◌≤◌, ◌⊎◌, ◌==◌, cond, ltb, true, List, [], ◌∷◌, ◌++◌, length, get_or, drop, map, bit_xor, refl, sym, ap, ap₂, ◌∙◌, arith, add-one, add-zero, subst, ltb-true, lt-ltb, lit<, eq-eqb, ne_eqb, ⊎_elim, All, ◌&&◌}
use Rattle.std.proofs.lemmas.Nat.{xor_lt}
use Rattle.std.proofs.lemmas.Bool.{and_parts}
use Rattle.std.specs.Int.Bits.{xor_assoc, xor_zero_r}
use Rattle.std.specs.List.{list_all, range_with_len}
use Rattle.qfs_galois.specs.Field.{product}
use Rattle.qfs_galois.proofs.Additive.{xor_swap}
use Rattle.qfs_galois.proofs.FieldLaws.{product-xor_left, product-xor_right, product_assoc, one-product, product-zero, zero-product, product-lt}
use Rattle.qfs_model_slot.specs.Restored.{dot}

dot-drop_suc : (xs ys : List ℕ) (i : ℕ) → i < length xs → i < length ys
    → dot (drop i xs) (drop i ys) ≡ bit_xor (product (get_or xs i 0) (get_or ys i 0)) (dot (drop (suc i) xs) (drop (suc i) ys))
unfolding dot
dot-drop_suc [] ys i lx _ = absurd (omega arith)
dot-drop_suc (x ∷ xs) [] i _ ly = absurd (omega arith)
dot-drop_suc (x ∷ xs) (y ∷ ys) zero _ _ = refl
dot-drop_suc (x ∷ xs) (y ∷ ys) (suc i) lx ly = dot-drop_suc xs ys i (omega arith) (omega arith)

-- one product is taken off a sum of those from i on
pub dot-drop : (xs ys : List ℕ) (i : ℕ) → i < length xs → i < length ys
    → dot (drop i xs) (drop i ys) ≡ bit_xor (product (get_or xs i 0) (get_or ys i 0)) (dot (drop (i + 1) xs) (drop (i + 1) ys))
dot-drop xs ys i lx ly = rw add-one (dot-drop_suc xs ys i lx ly)

pub dot-past : (xs ys : List ℕ) (i : ℕ) → length xs ≤ i → dot (drop i xs) ys ≡ 0
unfolding dot
dot-past [] ys zero _ = refl
dot-past [] ys (suc i) _ = refl
dot-past (x ∷ xs) ys zero l = absurd (omega arith)
dot-past (x ∷ xs) ys (suc i) l = dot-past xs ys i (omega arith)

-- weights that are sums
pub dot-xor : (f g : ℕ → ℕ) (js ys : List ℕ) → dot (map (λ j. bit_xor (f j) (g j)) js) ys ≡ bit_xor (dot (map f js) ys) (dot (map g js) ys)
unfolding dot
dot-xor f g [] ys = refl
dot-xor f g (j ∷ js) [] = refl
dot-xor f g (j ∷ js) (y ∷ ys) =
    ap₂ bit_xor (product-xor_left (f j) (g j) y) (dot-xor f g js ys)
    ∙ xor_swap (product (f j) y) (product (g j) y) (dot (map f js) ys) (dot (map g js) ys)

-- a multiple of the weights
pub dot-scaled : (a : ℕ) (xs ys : List ℕ) → a < 256 → list_all (λ x. ltb x 256) xs ≡ true → list_all (λ x. ltb x 256) ys ≡ true
    → dot (map (product a) xs) ys ≡ product a (dot xs ys)
unfolding dot
dot-scaled a [] ys _ _ _ = sym (product-zero a)
dot-scaled a (x ∷ xs) [] _ _ _ = sym (product-zero a)
dot-scaled a (x ∷ xs) (y ∷ ys) la lx ly =
    let px = and_parts (ltb x 256) (list_all (λ x. ltb x 256) xs) lx in
    let py = and_parts (ltb y 256) (list_all (λ x. ltb x 256) ys) ly in
    ap₂ bit_xor (product_assoc a x y la (ltb-true x 256 px.0) (ltb-true y 256 py.0)) (dot-scaled a xs ys la px.1 py.1)
    ∙ sym (product-xor_right a (product x y) (dot xs ys))

-- the same where the weights are a function of the slot
pub dot-scaled_by : (a : ℕ) (f : ℕ → ℕ) (js ys : List ℕ) → a < 256 → list_all (λ j. ltb (f j) 256) js ≡ true → list_all (λ x. ltb x 256) ys ≡ true
    → dot (map (λ j. product a (f j)) js) ys ≡ product a (dot (map f js) ys)
unfolding dot
dot-scaled_by a f [] ys _ _ _ = sym (product-zero a)
dot-scaled_by a f (j ∷ js) [] _ _ _ = sym (product-zero a)
dot-scaled_by a f (j ∷ js) (y ∷ ys) la lf ly =
    let pf = and_parts (ltb (f j) 256) (list_all (λ j. ltb (f j) 256) js) lf in
    let py = and_parts (ltb y 256) (list_all (λ x. ltb x 256) ys) ly in
    ap₂ bit_xor (product_assoc a (f j) y la (ltb-true (f j) 256 pf.0) (ltb-true y 256 py.0)) (dot-scaled_by a f js ys la pf.1 py.1)
    ∙ sym (product-xor_right a (product (f j) y) (dot (map f js) ys))

pub dot-append : (xs us ys vs : List ℕ) → length xs ≡ length ys → dot (xs ++ us) (ys ++ vs) ≡ bit_xor (dot xs ys) (dot us vs)
unfolding dot
dot-append [] us [] vs _ = refl
dot-append [] us (y ∷ ys) vs h = absurd (omega arith)
dot-append (x ∷ xs) us [] vs h = absurd (omega arith)
dot-append (x ∷ xs) us (y ∷ ys) vs h =
    ap (bit_xor (product x y)) (dot-append xs us ys vs (omega arith)) ∙ sym (xor_assoc (product x y) (dot xs ys) (dot us vs))

-- weights that are 0 wherever two lists differ
pub dot_same : (f : ℕ → ℕ) (a n : ℕ) (ys zs : List ℕ) → length ys ≡ length zs
    → ((i : ℕ) → i < n → (f (a + i) ≡ 0) ⊎ (get_or ys i 0 ≡ get_or zs i 0)) → dot (map f (range_with_len a n)) ys ≡ dot (map f (range_with_len a n)) zs
unfolding dot
dot_same f a zero ys zs _ _ = refl
dot_same f a (suc n) [] [] _ _ = refl
dot_same f a (suc n) [] (z ∷ zs) h _ = absurd (omega arith)
dot_same f a (suc n) (y ∷ ys) [] h _ = absurd (omega arith)
dot_same f a (suc n) (y ∷ ys) (z ∷ zs) h same =
    let later = λ (i : ℕ) (l : i < n). let P : ℕ → Type 0 = λ k. (f k ≡ 0) ⊎ (get_or ys i 0 ≡ get_or zs i 0) in
    let shift : a + suc i ≡ a + 1 + i = omega arith in subst P shift (same (suc i) (omega arith)) in
    let here : product (f a) y ≡ product (f a) z =
    ⊎_elim
    (λ (none : f (a + 0) ≡ 0). let off = ap f (sym (add-zero a)) ∙ none in
    ap (λ w. product w y) off ∙ zero-product y ∙ sym (zero-product z) ∙ ap (λ w. product w z) (sym off))
    (λ (e : y ≡ z). ap (product (f a)) e)
    (same 0 (omega arith)) in
    ap₂ bit_xor here (dot_same f (a + 1) n ys zs (omega arith) later)

-- the weight 1 at one slot, and 0 at the others
unfoldable pub only : ℕ → ℕ → ℕ
only want j = cond (j == want) 1 0

dot-none : (want a n : ℕ) (ys : List ℕ) → want < a → dot (map (only want) (range_with_len a n)) ys ≡ 0
unfolding dot only
dot-none want a zero ys _ = refl
dot-none want a (suc n) [] _ = refl
dot-none want a (suc n) (y ∷ ys) l =
    let off : only want a ≡ 0 = ap (λ b. cond b 1 0) (ne_eqb a want (λ e. omega arith)) in
    ap₂ bit_xor (ap (λ w. product w y) off ∙ zero-product y) (dot-none want (a + 1) n ys (omega arith))

pub dot-only : (a n k : ℕ) (ys : List ℕ) → k < n → list_all (λ x. ltb x 256) ys ≡ true → dot (map (only (a + k)) (range_with_len a n)) ys ≡ get_or ys k 0
unfolding dot only
dot-only a zero k ys l _ = absurd (omega arith)
dot-only a (suc n) k [] _ _ = refl
dot-only a (suc n) zero (y ∷ ys) _ h =
    let parts = and_parts (ltb y 256) (list_all (λ x. ltb x 256) ys) h in
    let one : only (a + 0) a ≡ 1 = ap (λ b. cond b 1 0) (eq-eqb a (a + 0) (sym (add-zero a))) in
    ap₂ bit_xor (ap (λ w. product w y) one ∙ one-product y (ltb-true y 256 parts.0)) (dot-none (a + 0) (a + 1) n ys (omega arith)) ∙ xor_zero_r y
dot-only a (suc n) (suc k) (y ∷ ys) l h =
    let parts = and_parts (ltb y 256) (list_all (λ x. ltb x 256) ys) h in
    let off : only (a + suc k) a ≡ 0 = ap (λ b. cond b 1 0) (ne_eqb a (a + suc k) (λ e. omega arith)) in
    let shift : a + suc k ≡ a + 1 + k = omega arith in
    ap₂ bit_xor (ap (λ w. product w y) off ∙ zero-product y)
    (ap (λ w. dot (map (only w) (range_with_len (a + 1) n)) ys) shift ∙ dot-only (a + 1) n k ys (omega arith) parts.1)

pub dot-zeros : (js ys : List ℕ) → dot (map (λ j. 0) js) ys ≡ 0
unfolding dot
dot-zeros [] ys = refl
dot-zeros (j ∷ js) [] = refl
dot-zeros (j ∷ js) (y ∷ ys) = ap₂ bit_xor (zero-product y) (dot-zeros js ys)

pub dot-lt : (xs ys : List ℕ) → list_all (λ x. ltb x 256) xs ≡ true → list_all (λ x. ltb x 256) ys ≡ true → dot xs ys < 256
unfolding dot
dot-lt [] ys _ _ = lit< tt
dot-lt (x ∷ xs) [] _ _ = lit< tt
dot-lt (x ∷ xs) (y ∷ ys) lx ly =
    let px = and_parts (ltb x 256) (list_all (λ x. ltb x 256) xs) lx in
    let py = and_parts (ltb y 256) (list_all (λ x. ltb x 256) ys) ly in
    xor_lt 8 (product x y) (dot xs ys) (product-lt x y (ltb-true x 256 px.0) (ltb-true y 256 py.0)) (dot-lt xs ys px.1 py.1)

pub multiples_are_bytes : (a : ℕ) (xs : List ℕ) → a < 256 → list_all (λ x. ltb x 256) xs ≡ true → list_all (λ x. ltb x 256) (map (product a) xs) ≡ true
multiples_are_bytes a [] _ _ = refl
multiples_are_bytes a (x ∷ xs) la h =
    let parts = and_parts (ltb x 256) (list_all (λ x. ltb x 256) xs) h in
    ap₂ (λ b c. b && c) (lt-ltb (product a x) 256 (product-lt a x la (ltb-true x 256 parts.0))) (multiples_are_bytes a xs la parts.1)

-- bytes by their places are bytes one by one
pub all_bytes : (ys : List ℕ) → All (λ byte. byte < 256) ys → list_all (λ x. ltb x 256) ys ≡ true
all_bytes [] _ = refl
all_bytes (y ∷ ys) h =
    ap₂ (λ b c. b && c) (lt-ltb y 256 (h 0 0 (omega arith))) (all_bytes ys (λ k d l. h (suc k) d (omega arith)))
