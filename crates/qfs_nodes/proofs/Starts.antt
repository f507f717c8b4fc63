-- Lists that are made item by item.
use Rattle.std.proofs.Common.{◌≡◌, ℕ, suc, zero, ◌+◌, ◌<◌, ◌≤◌, Bool, true, false, List, [], ◌∷◌, ◌++◌, length, take, drop, refl, sym, ◌∙◌, ap, ap₂, subst, arith, append_assoc, Option, Some, None}
use Rattle.std.specs.Prelude.{map, flat_map, is_some, is_none, not, All, ◌^◌, option_map}
use Rattle.std.specs.List.{slice_index_or, AllByRecursion}
use Rattle.std.proofs.lemmas.Grind.{common_steps}
use Rattle.std.proofs.lemmas.List.{append-nil, length-append, map-append, take_more, drop_more, take-map, drop-map}
use Rattle.std.proofs.lemmas.List.Concat.{flat_map-append}
use Rattle.std.proofs.lemmas.List.Folds.{length-flat_map-take}
use Rattle.std.proofs.lemmas.List.Sums.{sum_by-cons, sum_by-drop_more}
use Rattle.std.proofs.lemmas.List.Elements.{All-from_recursion, recursion_from_All}
use Rattle.qfs_actor.specs.Standing.{Standing, at_start}
use Rattle.qfs_base.specs.declared.rules.Rules.{Rules}
use Rattle.qfs_base.specs.declared.command.Command.{Command}
use Rattle.qfs_base.specs.declared.request.NodeRequest.{NodeRequest}
use Rattle.qfs_model_actor.specs.Actor.{Actor, has_finished, node_of, request_of, starting}
use Rattle.qfs_model_actor.specs.Work.{node_of_request}
use Rattle.qfs_model_actor.specs.Shown.{lines_from}
use Rattle.qfs_model_world.specs.Fits.{unfinished, first_filled}
use Rattle.qfs_model_world.specs.World.{numbered_actors}
use Rattle.qfs_model_world.specs.Text.{lines_of_actor}
use Rattle.qfs_nodes.specs.Actors.{actors_of, number_if, by_sizes, size_before, sizes_of, starts_from, total, turn_by_sizes, lines_of_actors}

-- ---- actors at their start

pub starts_append : (rules : Rules) (number : ℕ) (xs ys : List (List Command))
    → starts_from rules number (xs ++ ys) ≡ starts_from rules number xs ++ starts_from rules (number + length xs) ys
starts_append rules number [] ys =
    let none : number ≡ number + 0 = omega arith in ap (λ n. starts_from rules n ys) none
starts_append rules number (x ∷ xs) ys =
    let more : number + 1 + length xs ≡ number + length (x ∷ xs) = omega arith in
    ap (λ rest. at_start rules number x ∷ rest)
    (starts_append rules (number + 1) xs ys ∙ ap (λ n. starts_from rules (number + 1) xs ++ starts_from rules n ys) more)

pub starts_push : (rules : Rules) (number : ℕ) (xs : List (List Command)) (x : List Command)
    → starts_from rules number (xs ++ x ∷ []) ≡ starts_from rules number xs ++ at_start rules (number + length xs) x ∷ []
starts_push rules number xs x = starts_append rules number xs (x ∷ [])

pub length_starts : (rules : Rules) (number : ℕ) (xs : List (List Command)) → length (starts_from rules number xs) ≡ length xs
length_starts rules number [] = refl
length_starts rules number (x ∷ xs) = ap (λ n. suc n) (length_starts rules (number + 1) xs)

-- one actor more
pub starts_more : (rules : Rules) (number : ℕ) (xs : List (List Command)) (i : ℕ) (d : List Command) → i < length xs
    → starts_from rules number (take (i + 1) xs) ≡ starts_from rules number (take i xs) ++ at_start rules (number + i) (slice_index_or xs i d) ∷ []
starts_more rules number xs i d within =
    let long : length (take i xs) ≡ i = grind (arith, common_steps) in
    ap (starts_from rules number) (take_more xs i d within) ∙ starts_push rules number (take i xs) (slice_index_or xs i d)
    ∙ ap (λ n. starts_from rules number (take i xs) ++ at_start rules (number + n) (slice_index_or xs i d) ∷ []) long

-- ---- sizes of phases

sizes_push : (ps : List (List (List Command))) (p : List (List Command)) → sizes_of (ps ++ p ∷ []) ≡ sizes_of ps ++ size_before [] p
sizes_push [] p = refl
sizes_push ([] ∷ ps) p = sizes_push ps p
sizes_push ((c ∷ cs) ∷ ps) p = ap (λ rest. length (c ∷ cs) ∷ rest) (sizes_push ps p)

pub sizes_more : (ps : List (List (List Command))) (i : ℕ) (d : List (List Command)) → i < length ps
    → sizes_of (take (i + 1) ps) ≡ sizes_of (take i ps) ++ size_before [] (slice_index_or ps i d)
sizes_more ps i d within = ap sizes_of (take_more ps i d within) ∙ sizes_push (take i ps) (slice_index_or ps i d)

pub total_sizes : (ps : List (List (List Command))) → total (sizes_of ps) ≡ length (flat_map (λ phase. phase) ps)
total_sizes [] = refl
total_sizes ([] ∷ ps) = total_sizes ps
total_sizes ((c ∷ cs) ∷ ps) =
    let rest = total_sizes ps in
    let one = sum_by-cons (λ (n : ℕ). n) (length (c ∷ cs)) (sizes_of ps) in
    let all = length-append (c ∷ cs) (flat_map (λ phase. phase) ps) in omega (arith, rest, one, all)

pub sizes_step : (ps : List (List (List Command))) (i : ℕ) (p : List (List Command)) (old new : List ℕ)
    → old ≡ sizes_of (take i ps) → i < length ps → p ≡ slice_index_or ps i p → new ≡ old ++ size_before [] p
    → new ≡ sizes_of (take (i + 1) ps)
sizes_step ps i p old new o within at n =
    n ∙ ap (λ l. l ++ size_before [] p) o ∙ ap (λ q. sizes_of (take i ps) ++ size_before [] q) at ∙ sym (sizes_more ps i p within)

-- ---- replies and turns

pub replies_push : (xs : List Standing) (it : Standing)
    → lines_of_actors (actors_of (xs ++ it ∷ [])) ≡ lines_of_actors (actors_of xs) ++ lines_from it.actor.number 1 it.actor.ended
unfolding lines_of_actor
replies_push [] it = append-nil (lines_from it.actor.number 1 it.actor.ended)
replies_push (x ∷ xs) it =
    ap (λ rest. lines_of_actor x.actor ++ rest) (replies_push xs it)
    ∙ sym (append_assoc (lines_of_actor x.actor) (lines_of_actors (actors_of xs)) (lines_from it.actor.number 1 it.actor.ended))

pub unfinished-push : (xs : List Actor) (x : Actor) (finished : Bool) → has_finished x ≡ finished
    → unfinished (xs ++ x ∷ []) ≡ unfinished xs ++ number_if x.number finished
unfolding unfinished
unfinished-push [] x true e = rw e refl
unfinished-push [] x false e = rw e refl
unfinished-push (y ∷ ys) x finished e = choice (has_finished y) refl (unfinished-push ys x finished e)
  where
    choice : (b : Bool) → has_finished y ≡ b
        → unfinished (ys ++ x ∷ []) ≡ unfinished ys ++ number_if x.number finished
        → unfinished (y ∷ (ys ++ x ∷ [])) ≡ unfinished (y ∷ ys) ++ number_if x.number finished
    choice true q rest = rw q rest
    choice false q rest = rw q (ap (λ l. y.number ∷ l) rest)

pub unfinished-none : [] ≡ unfinished []
unfolding unfinished
unfinished-none = refl

pub unfinished_step : (xs : List Standing) (i : ℕ) (x : Standing) (old new : List ℕ)
    → old ≡ unfinished (actors_of (take i xs)) → i < length xs → x ≡ slice_index_or xs i x
    → new ≡ old ++ number_if x.actor.number (has_finished x.actor) → new ≡ unfinished (actors_of (take (i + 1) xs))
unfinished_step xs i x old new o within at n =
    let more : actors_of (take (i + 1) xs) ≡ actors_of (take i xs) ++ x.actor ∷ [] =
    ap actors_of (take_more xs i x within) ∙ map-push (take i xs) (slice_index_or xs i x) ∙ ap (λ (y : Standing). actors_of (take i xs) ++ y.actor ∷ []) (sym at) in
    n ∙ ap (λ l. l ++ number_if x.actor.number (has_finished x.actor)) o
    ∙ sym (unfinished-push (actors_of (take i xs)) x.actor (has_finished x.actor) refl) ∙ ap unfinished (sym more)
  where
    map-push : (ys : List Standing) (y : Standing) → actors_of (ys ++ y ∷ []) ≡ actors_of ys ++ y.actor ∷ []
    map-push ys y = map-append (λ (s : Standing). s.actor) ys (y ∷ [])

-- an actor that goes to no node has finished
none-same : (f : NodeRequest → ℕ) (o : Option NodeRequest) → is_some (option_map f o) ≡ not (is_none o)
none-same f None = refl
none-same f (Some request) = refl

pub node-finished : (actor : Actor) → is_some (node_of actor) ≡ not (has_finished actor)
unfolding node_of has_finished
node-finished actor = none-same node_of_request (request_of actor)

-- ---- the current phase

module _ (sizes : List ℕ) (i size other : ℕ) (rest : List Standing) (within : i < length sizes) (at : size ≡ slice_index_or sizes i other) where
  pub phase-first : first_filled (map unfinished (by_sizes (drop i sizes) (actors_of rest)))
      ≡ first_filled (unfinished (actors_of (take size rest)) ∷ map unfinished (by_sizes (drop (i + 1) sizes) (actors_of (drop size rest))))
  phase-first =
      let more : drop i sizes ≡ size ∷ drop (i + 1) sizes =
      drop_more sizes i other within ∙ ap (λ n. n ∷ drop (i + 1) sizes) (sym at) in
      ap (λ l. first_filled (map unfinished (by_sizes l (actors_of rest)))) more
      ∙ ap (λ l. first_filled (unfinished l ∷ map unfinished (by_sizes (drop (i + 1) sizes) (drop size (actors_of rest)))))
      (take-map (λ (s : Standing). s.actor) size rest)
      ∙ ap (λ l. first_filled (unfinished (actors_of (take size rest)) ∷ map unfinished (by_sizes (drop (i + 1) sizes) l)))
      (drop-map (λ (s : Standing). s.actor) size rest)

  pub phase-total : total (drop i sizes) ≡ size + total (drop (i + 1) sizes)
  phase-total = sum_by-drop_more (λ (n : ℕ). n) sizes i other within ∙ ap (λ n. n + total (drop (i + 1) sizes)) (sym at)

pub filled-first : (list : List ℕ) (lists : List (List ℕ)) → (list ≡ [] → ⊥) → first_filled (list ∷ lists) ≡ list
unfolding first_filled
filled-first [] lists some = absurd (some refl)
filled-first (x ∷ xs) lists some = refl

pub filled-behind : (list : List ℕ) (lists : List (List ℕ)) → list ≡ [] → first_filled (list ∷ lists) ≡ first_filled lists
unfolding first_filled
filled-behind list lists none = rw none refl

pub filled-none : (sizes : List ℕ) (i : ℕ) (actors : List Actor) → length sizes ≤ i
    → turn_by_sizes (drop i sizes) actors ≡ []
unfolding first_filled
filled-none sizes i actors past =
    let none : drop i sizes ≡ [] = grind (arith, common_steps) in
    ap (λ l. first_filled (map unfinished (by_sizes l actors))) none

-- ---- all actors at their start

pub starts-actors : (rules : Rules) (number : ℕ) (xs : List (List Command))
    → actors_of (starts_from rules number xs) ≡ numbered_actors rules number xs
unfolding numbered_actors
starts-actors rules number [] = refl
starts-actors rules number (x ∷ xs) = ap (λ rest. starting rules number x ∷ rest) (starts-actors rules (number + 1) xs)

pub started-long : (rules : Rules) (old all : List Standing) (xs : List (List Command)) (i : ℕ)
    → all ≡ old ++ starts_from rules (length old + 1) (take i xs) → i < length xs → length all ≡ length old + i
started-long rules old all xs i so_far within =
    let taken : length (take i xs) ≡ i = grind (arith, common_steps) in
    omega (
      arith,
      ap length so_far,
      length-append old (starts_from rules (length old + 1) (take i xs)),
      length_starts rules (length old + 1) (take i xs),
      taken,
    )

module _ (rules : Rules) (old all new : List Standing) (xs : List (List Command)) (i len : ℕ) (it : Standing) (x copy : List Command)
    (so_far : all ≡ old ++ starts_from rules (length old + 1) (take i xs)) (within : i < length xs) where
  pub starts_step : x ≡ slice_index_or xs i x → len ≡ length all → copy ≡ x → it ≡ at_start rules (len + 1) copy → new ≡ all ++ it ∷ []
      → new ≡ old ++ starts_from rules (length old + 1) (take (i + 1) xs)
  starts_step at l c t n =
      let number : len + 1 ≡ length old + 1 + i = omega (arith, started-long rules old all xs i so_far within, l) in
      let item : it ≡ at_start rules (length old + 1 + i) (slice_index_or xs i x) =
      t ∙ ap (λ k. at_start rules k copy) number ∙ ap (at_start rules (length old + 1 + i)) (c ∙ at) in
      n ∙ ap (λ l. l ++ it ∷ []) so_far
      ∙ append_assoc old (starts_from rules (length old + 1) (take i xs)) (it ∷ [])
      ∙ ap (λ y. old ++ (starts_from rules (length old + 1) (take i xs) ++ y ∷ [])) item
      ∙ ap (λ l. old ++ l) (sym (starts_more rules (length old + 1) xs i x within))

module _ (rules : Rules) (phases : List (List (List Command))) (i : ℕ) (phase : List (List Command)) (all : List Standing)
    (within : i < length phases) (at : phase ≡ slice_index_or phases i phase)
    (so_far : all ≡ starts_from rules 1 (flat_map (λ p. p) (take i phases))) where
  phases-long : length all ≡ length (flat_map (λ (p : List (List Command)). p) (take i phases))
  phases-long = ap length so_far ∙ length_starts rules 1 (flat_map (λ p. p) (take i phases))

  pub phase-fits : length (flat_map (λ (p : List (List Command)). p) phases) < 2 ^ 16 → length all + length phase < 2 ^ 16
  phase-fits few =
      let fits = length-flat_map-take (λ (p : List (List Command)). p) phases i phase within in
      let same = ap length at in omega (arith, few, fits, same, phases-long)

  pub phase_step : (new : List Standing) → new ≡ all ++ starts_from rules (length all + 1) phase
      → new ≡ starts_from rules 1 (flat_map (λ p. p) (take (i + 1) phases))
  phase_step new n =
      let before = flat_map (λ (p : List (List Command)). p) (take i phases) in
      let number : length all + 1 ≡ 1 + length before = omega (arith, phases-long) in
      let more : flat_map (λ (p : List (List Command)). p) (take (i + 1) phases) ≡ before ++ phase =
      ap (flat_map (λ (p : List (List Command)). p)) (take_more phases i phase within)
      ∙ flat_map-append (λ (p : List (List Command)). p) (take i phases) (slice_index_or phases i phase ∷ [])
      ∙ ap (λ l. before ++ l) (append-nil (slice_index_or phases i phase)) ∙ ap (λ l. before ++ l) (sym at) in
      n ∙ ap₂ (λ a k. a ++ starts_from rules k phase) so_far number
      ∙ sym (starts_append rules 1 before phase) ∙ ap (starts_from rules 1) (sym more)

-- what holds of each item of all lists holds of those of one
all-left : {X : Type 0} (P : X → Type 0) (xs ys : List X) → AllByRecursion P (xs ++ ys) → AllByRecursion P xs × AllByRecursion P ys
all-left P [] ys all = (tt, all)
all-left P (x ∷ xs) ys all = let rest = all-left P xs ys all.1 in ((all.0, rest.0), rest.1)

all-of : {X : Type 0} (P : X → Type 0) (lists : List (List X)) (i : ℕ) (d : List X) → i < length lists
    → AllByRecursion P (flat_map (λ l. l) lists) → AllByRecursion P (slice_index_or lists i d)
all-of P [] i d within all = absurd (omega arith)
all-of P (list ∷ lists) zero d within all = (all-left P list (flat_map (λ l. l) lists) all).0
all-of P (list ∷ lists) (suc i) d within all = all-of P lists i d (omega arith) (all-left P list (flat_map (λ l. l) lists) all).1

pub all-in_phase : {X : Type 0} (P : X → Type 0) (lists : List (List X)) (i : ℕ) (list : List X) → i < length lists
    → list ≡ slice_index_or lists i list → All P (flat_map (λ l. l) lists) → All P list
all-in_phase P lists i list within at all =
    All-from_recursion P list
    (subst (AllByRecursion P) (sym at) (all-of P lists i list within (recursion_from_All P (flat_map (λ l. l) lists) all)))
