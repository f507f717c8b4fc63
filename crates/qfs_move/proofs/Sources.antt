-- Which slots of a grant list a copy, slot by slot.
use Rattle.std.proofs.Common.{◌≡◌, ◌∙◌, refl, ap, arith, ℕ, suc, ◌+◌, ◌<◌, List, [], ◌∷◌, ◌++◌, length, take, get_or, Option, Some, None}
use Rattle.std.proofs.lemmas.Grind.{common_steps}
use Rattle.std.proofs.lemmas.List.{take_more, append-nil}
use Rattle.std.proofs.lemmas.List.Elements.{filter_map-append}
use Rattle.std.proofs.lemmas.Option.{slice_get_within, get_or_from_slice_get}
use Rattle.std.specs.List.{enumerate_from, filter_map, slice_get}
use Rattle.qfs_base.specs.declared.chunk.Copy.{Copy}
use Rattle.qfs_model_actor.specs.Grants.{listed_at, sole_copy}
use Rattle.qfs_move.specs.declared.grant.Listed.{Listed}
use Rattle.qfs_move.specs.declared.grant.Listed.TheVariants as Is
use Rattle.qfs_move.specs.Sources.{listed_in, seen_of, sole_of, with_copy, with_listed}

enumerate-push : {X : Type 0} (n : ℕ) (xs : List X) (x : X) → enumerate_from n (xs ++ x ∷ []) ≡ enumerate_from n xs ++ (n + length xs, x) ∷ []
enumerate-push n [] x = let e : n + 0 ≡ n = omega arith in rw e refl
enumerate-push n (y ∷ xs) x =
    let e : n + suc (length xs) ≡ n + 1 + length xs = omega arith in
    rw e (ap (λ more. (n, y) ∷ more) (enumerate-push (n + 1) xs x))

seen-push : (xs : List (ℕ × Copy)) (slot : ℕ) (copy : Copy) → seen_of (xs ++ (slot, copy) ∷ []) ≡ with_copy (seen_of xs) slot copy
seen-push [] slot copy = refl
seen-push (a ∷ []) slot copy = refl
seen-push (a ∷ b ∷ more) slot copy = refl

seen-next : (xs : List (ℕ × Copy)) (slot : ℕ) (listed : Option Copy)
    → seen_of (xs ++ filter_map (λ (p : ℕ × Option Copy). listed_at p.0 p.1) ((slot, listed) ∷ [])) ≡ with_listed (seen_of xs) slot listed
seen-next xs slot None = ap seen_of (append-nil xs)
seen-next xs slot (Some copy) = seen-push xs slot copy

-- with one slot more
pub listed-next : (nine : List (Option Copy)) (slot : ℕ) (listed : Option Copy) → slice_get nine slot ≡ Some listed
    → listed_in (take (slot + 1) nine) ≡ with_listed (listed_in (take slot nine)) slot listed
listed-next nine slot listed at =
    let within : slot < length nine = slice_get_within nine slot listed at in
    let found : get_or nine slot listed ≡ listed = get_or_from_slice_get nine slot listed listed at in
    let long : 0 + length (take slot nine) ≡ slot = grind (arith, common_steps) in
    let more : take (slot + 1) nine ≡ take slot nine ++ listed ∷ [] = take_more nine slot listed within ∙ rw found refl in
    let each = λ (p : ℕ × Option Copy). listed_at p.0 p.1 in
    let pushed : enumerate_from 0 (take slot nine ++ listed ∷ []) ≡ enumerate_from 0 (take slot nine) ++ (slot, listed) ∷ [] =
    enumerate-push 0 (take slot nine) listed ∙ rw long refl in
    rw (more, pushed)
    (ap seen_of (filter_map-append each (enumerate_from 0 (take slot nine)) ((slot, listed) ∷ []))
    ∙ seen-next (filter_map each (enumerate_from 0 (take slot nine))) slot listed)

pub sole-is : (slot : ℕ) (slots : List (ℕ × Copy)) → sole_of slot (seen_of slots) ≡ sole_copy slot slots
unfolding sole_of sole_copy
sole-is slot [] = refl
sole-is slot (first ∷ []) = refl
sole-is slot (first ∷ second ∷ more) = refl

pub sole-none : (slot : ℕ) (seen : Listed) → ((at : ℕ) (copy : Copy) → seen ≡ Is.One at copy → ⊥) → None ≡ sole_of slot seen
unfolding sole_of
sole-none slot Is.Nobody other = refl
sole-none slot (Is.One at copy) other = absurd (other at copy refl)
sole-none slot Is.Several other = refl
