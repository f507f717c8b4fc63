-- Passing over slots, and the causes of those that can't be read.
use Rattle.std.proofs.Common.{◌≡◌, ◌∙◌, refl, ap, arith, ℕ, suc, ◌+◌, ◌-◌, ◌<◌, ◌≤◌, false, List, [], ◌∷◌, ◌++◌, length, take, get_or, count_by, is_ok, Some, None, Ok, Err}
use Rattle.std.proofs.lemmas.Bool.Decides.{nat_tests}
use Rattle.std.proofs.lemmas.Grind.{common_steps}
use Rattle.std.proofs.lemmas.List.{take_more, append-nil}
use Rattle.std.proofs.lemmas.List.Elements.{filter_map-append}
use Rattle.std.proofs.lemmas.List.Sums.{count_by_more_no, count_by_more_yes}
use Rattle.std.proofs.lemmas.Option.{slice_get_within, get_or_from_slice_get}
use Rattle.std.specs.List.{enumerate_from, filter_map, slice_get, cons_option}
use Rattle.qfs_base.specs.declared.chunk.Copy.{Copy}
use Rattle.qfs_base.specs.declared.lists.Cause.{Cause}
use Rattle.qfs_base.specs.declared.lists.SlotCause.{SlotCause}
use Rattle.qfs_model_actor.specs.Read.{Source, are_too_few, at_source, read_slots, cause_at, causes_of}
use Rattle.qfs_window.specs.Sources.{PassesTo}

pub enough_left : (sources : List Source) → are_too_few sources ≡ false → 6 ≤ count_by is_ok sources
unfolding are_too_few
enough_left sources enough = grind (arith, nat_tests, enough)

pub passes_over : (sources : List Source) (slot : ℕ) (cause : Cause) → slot < 9 → slice_get sources slot ≡ Some (Err cause)
    → PassesTo sources slot (slot + 1)
unfolding read_slots at_source
passes_over sources slot cause within failed =
    let slots : 9 - slot ≡ suc (9 - (slot + 1)) = omega arith in
    λ reading w wanted pieces behind. rw (slots, failed) refl

-- the causes of the first slots
abbrev pub causes_below : List Source → ℕ → List SlotCause
causes_below sources slot = filter_map (λ (slot, source). cause_at slot source) (enumerate_from 0 (take slot sources))

enumerate-push : {X : Type 0} (n : ℕ) (xs : List X) (x : X) → enumerate_from n (xs ++ x ∷ []) ≡ enumerate_from n xs ++ (n + length xs, x) ∷ []
enumerate-push n [] x = let e : n + 0 ≡ n = omega arith in rw e refl
enumerate-push n (y ∷ xs) x =
    let e : n + suc (length xs) ≡ n + 1 + length xs = omega arith in
    rw e (ap (λ more. (n, y) ∷ more) (enumerate-push (n + 1) xs x))

-- one slot more
causes_below-push : (sources : List Source) (slot : ℕ) (source : Source) → slice_get sources slot ≡ Some source
    → causes_below sources (slot + 1) ≡ causes_below sources slot ++ cons_option (cause_at slot source) []
causes_below-push sources slot source at =
    let within : slot < length sources = slice_get_within sources slot source at in
    let found : get_or sources slot source ≡ source = get_or_from_slice_get sources slot source source at in
    let long : 0 + length (take slot sources) ≡ slot = grind (arith, common_steps) in
    let more : take (slot + 1) sources ≡ take slot sources ++ source ∷ [] = take_more sources slot source within ∙ rw found refl in
    let cause = λ (p : ℕ × Source). cause_at p.0 p.1 in
    let pushed : enumerate_from 0 (take slot sources ++ source ∷ []) ≡ enumerate_from 0 (take slot sources) ++ (slot, source) ∷ [] =
    enumerate-push 0 (take slot sources) source ∙ rw long refl in
    rw (more, pushed) (filter_map-append cause (enumerate_from 0 (take slot sources)) ((slot, source) ∷ []))

pub causes_below-some : (sources : List Source) (slot : ℕ) (source : Source) (cause : SlotCause) → slice_get sources slot ≡ Some source
    → cause_at slot source ≡ Some cause → causes_below sources (slot + 1) ≡ causes_below sources slot ++ cause ∷ []
causes_below-some sources slot source cause at is = causes_below-push sources slot source at ∙ rw is refl

pub causes_below-none : (sources : List Source) (slot : ℕ) (source : Source) → slice_get sources slot ≡ Some source
    → cause_at slot source ≡ None → causes_below sources (slot + 1) ≡ causes_below sources slot
causes_below-none sources slot source at is = causes_below-push sources slot source at ∙ rw is (append-nil (causes_below sources slot))

pub causes_below-all : (sources : List Source) (slot : ℕ) → length sources ≡ 9 → 9 ≤ slot → causes_below sources slot ≡ causes_of sources
unfolding causes_of
causes_below-all sources slot nine past =
    let all : take slot sources ≡ sources = grind (arith, common_steps) in
    rw all refl

-- how many of the slots up to one can be read
pub count_ok-none : (sources : List Source) (slot : ℕ) (cause : Cause) → slice_get sources slot ≡ Some (Err cause)
    → count_by is_ok (take (slot + 1) sources) ≡ count_by is_ok (take slot sources)
count_ok-none sources slot cause at =
    count_by_more_no is_ok sources slot (Err cause) (slice_get_within sources slot _ at) (rw (get_or_from_slice_get sources slot (Err cause) (Err cause) at) refl)

pub count_ok-some : (sources : List Source) (slot : ℕ) (copy : Copy) → slice_get sources slot ≡ Some (Ok copy)
    → count_by is_ok (take (slot + 1) sources) ≡ count_by is_ok (take slot sources) + 1
count_ok-some sources slot copy at =
    count_by_more_yes is_ok sources slot (Ok copy) (slice_get_within sources slot _ at) (rw (get_or_from_slice_get sources slot (Ok copy) (Ok copy) at) refl)
