-- Lists that are walked, or built, for one number after another.
use Rattle.std.proofs.Common.{◌≡◌, ℕ, suc, ◌+◌, ◌-◌, ◌<◌, ◌≤◌, Bool, true, false, cond, find, Some, None, List, [], ◌∷◌, ◌++◌, map, sym, ap, ◌∙◌, append_assoc, arith}
use Rattle.std.proofs.lemmas.List.Folds.{find-append}
use Rattle.std.specs.List.{range_with_len, flat_map}
use Rattle.std.specs.Option.{option_or}

-- the next number comes first, and then those behind it
pub range_next : (at count : ℕ) → at < count → range_with_len at (count - at) ≡ at ∷ range_with_len (at + 1) (count - (at + 1))
range_next at count within =
    let e : count - at ≡ suc (count - (at + 1)) = omega arith in
    ap (range_with_len at) e

-- a list that is built for one number more
pub built_next : {X : Type 0} (f : ℕ → X) (built longer whole : List X) (at count : ℕ) (x : X) → at < count →
    built ++ map f (range_with_len at (count - at)) ≡ whole →
    x ≡ f at →
    longer ≡ built ++ x ∷ [] →
    longer ++ map f (range_with_len (at + 1) (count - (at + 1))) ≡ whole
built_next f built longer whole at count x within before made pushed =
    ap (λ front. front ++ map f (range_with_len (at + 1) (count - (at + 1)))) pushed
    ∙ append_assoc built (x ∷ []) (map f (range_with_len (at + 1) (count - (at + 1))))
    ∙ ap (λ y. built ++ y ∷ map f (range_with_len (at + 1) (count - (at + 1)))) made
    ∙ ap (λ numbers. built ++ map f numbers) (sym (range_next at count within))
    ∙ before

-- such a list at its start
pub built_start : {X : Type 0} (f : ℕ → X) (built : List X) (count : ℕ) → built ≡ [] →
    built ++ map f (range_with_len 0 (count - 0)) ≡ map f (range_with_len 0 count)
built_start f built count empty =
    let all : count - 0 ≡ count = omega arith in
    ap (λ front. front ++ map f (range_with_len 0 (count - 0))) empty
    ∙ ap (λ n. map f (range_with_len 0 n)) all

-- the first number whose item passes is this one, or it is further on
pub find_here : {X : Type 0} (test : X → Bool) (f : ℕ → X) (at count : ℕ) → at < count → test (f at) ≡ true →
    find test (map f (range_with_len at (count - at))) ≡ Some (f at)
find_here test f at count within passes =
    ap (λ numbers. find test (map f numbers)) (range_next at count within)
    ∙ ap (λ b. cond b (Some (f at)) (find test (map f (range_with_len (at + 1) (count - (at + 1)))))) passes

pub find_next : {X : Type 0} (test : X → Bool) (f : ℕ → X) (at count : ℕ) → at < count → test (f at) ≡ false →
    find test (map f (range_with_len at (count - at))) ≡ find test (map f (range_with_len (at + 1) (count - (at + 1))))
find_next test f at count within fails =
    ap (λ numbers. find test (map f numbers)) (range_next at count within)
    ∙ ap (λ b. cond b (Some (f at)) (find test (map f (range_with_len (at + 1) (count - (at + 1)))))) fails

-- what is found among the lists of numbers is in this one's list, or it is further on
pub find_flat : {X : Type 0} (test : X → Bool) (f : ℕ → List X) (at count : ℕ) → at < count →
    find test (flat_map f (range_with_len at (count - at)))
    ≡ option_or (find test (f at)) (find test (flat_map f (range_with_len (at + 1) (count - (at + 1)))))
find_flat test f at count within =
    ap (λ numbers. find test (flat_map f numbers)) (range_next at count within)
    ∙ find-append test (f at) (flat_map f (range_with_len (at + 1) (count - (at + 1))))

pub find_flat_here : {X : Type 0} (test : X → Bool) (f : ℕ → List X) (at count : ℕ) (x : X) → at < count → find test (f at) ≡ Some x →
    find test (flat_map f (range_with_len at (count - at))) ≡ Some x
find_flat_here test f at count x within found =
    find_flat test f at count within
    ∙ ap (λ o. option_or o (find test (flat_map f (range_with_len (at + 1) (count - (at + 1)))))) found

pub find_flat_next : {X : Type 0} (test : X → Bool) (f : ℕ → List X) (at count : ℕ) → at < count → find test (f at) ≡ None →
    find test (flat_map f (range_with_len at (count - at))) ≡ find test (flat_map f (range_with_len (at + 1) (count - (at + 1))))
find_flat_next test f at count within none =
    find_flat test f at count within
    ∙ ap (λ o. option_or o (find test (flat_map f (range_with_len (at + 1) (count - (at + 1)))))) none

-- nothing is found beyond the last number
pub find_flat_end : {X : Type 0} (test : X → Bool) (f : ℕ → List X) (at count : ℕ) → count ≤ at →
    find test (flat_map f (range_with_len at (count - at))) ≡ None
find_flat_end test f at count end =
    let none : count - at ≡ 0 = omega arith in
    ap (λ n. find test (flat_map f (range_with_len at n))) none

pub find_end : {X : Type 0} (test : X → Bool) (f : ℕ → X) (at count : ℕ) → count ≤ at →
    find test (map f (range_with_len at (count - at))) ≡ None
find_end test f at count end =
    let none : count - at ≡ 0 = omega arith in
    ap (λ n. find test (map f (range_with_len at n))) none

-- all numbers are those from 0 on
pub find_flat_start : {X : Type 0} (test : X → Bool) (f : ℕ → List X) (count : ℕ) →
    find test (flat_map f (range_with_len 0 (count - 0))) ≡ find test (flat_map f (range_with_len 0 count))
find_flat_start test f count =
    let all : count - 0 ≡ count = omega arith in
    ap (λ n. find test (flat_map f (range_with_len 0 n))) all

pub ruleset find_both = (find-append)

pub ruleset find_steps = (find_here, find_next, find_end)

pub ruleset find_flat_steps = (find_flat_here, find_flat_next, find_flat_end, find_flat_start)
