-- What the commands of some phases put, with a command, an actor or a phase more. For the law
-- `printed_scripts_are_read_back`.
use Rattle.std.proofs.Common.{◌≡◌, ◌∙◌, sym, ap, arith, ℕ, ◌+◌, Bool, true, List, [], ◌∷◌, ◌++◌, length, Ok, append_assoc, length-append}
use Rattle.std.specs.Prelude.{flat_map, filter_map, sum_by}
use Rattle.std.proofs.lemmas.List.Concat.{flat_map-append}
use Rattle.std.proofs.lemmas.List.Elements.{filter_map-append}
use Rattle.std.proofs.lemmas.List.Sums.{sum_by-append}
use Rattle.qfs_base.specs.declared.command.Command.{Command}
use Rattle.qfs_base.specs.declared.script.ScriptCause.TheVariants as Cause
use Rattle.qfs_model_script.specs.InScript.{len_put}
use Rattle.qfs_model_grammar.specs.Said.{if_kept}
use Rattle.qfs_laws_grammar.proofs.Lists.{flat_push}
use Rattle.qfs_laws_grammar.proofs.Sound.{Phases, actors_in}

-- the commands of actors, and what these commands put
abbrev pub flat : List (List Command) → List Command
flat actors = flat_map (λ commands. commands) actors

abbrev pub cost : (ℕ → ℕ) → List Command → ℕ
cost weight commands = sum_by weight (filter_map len_put commands)

pub cost-append : (weight : ℕ → ℕ) (first second : List Command)
    → cost weight (first ++ second) ≡ cost weight first + cost weight second
cost-append weight first second =
    ap (sum_by weight) (filter_map-append len_put first second)
    ∙ sum_by-append weight (filter_map len_put first) (filter_map len_put second)

-- with one list of commands behind another, as the last actor has them and as a list of actors has
-- them
pub cost_push : (weight : ℕ → ℕ) (actors : List (List Command)) (last : List Command)
    → cost weight (flat (actors ++ last ∷ [])) ≡ cost weight (flat actors) + cost weight last
cost_push weight actors last = ap (cost weight) (flat_push actors last)
    ∙ cost-append weight (flat actors) last

-- phases with an actor that is still open: those before it, the actors before it, and its commands
-- so far
abbrev pub opened : Phases → List (List Command) → List Command → Phases
opened earlier front last = earlier ++ (front ++ last ∷ []) ∷ []

pub actors_opened : (earlier : Phases) (front : List (List Command)) (last : List Command)
    → actors_in (opened earlier front last) ≡ (actors_in earlier ++ front) ++ last ∷ []
actors_opened earlier front last =
    flat_push earlier (front ++ last ∷ [])
    ∙ sym (append_assoc (actors_in earlier) front (last ∷ []))

pub count_opened : (earlier : Phases) (front : List (List Command)) (last : List Command)
    → length (actors_in (opened earlier front last)) ≡ length
    (actors_in (earlier ++ front ∷ [])) + 1
count_opened earlier front last =
    omega (
      arith,
      ap length (actors_opened earlier front last),
      ap length (flat_push earlier front),
      length-append (actors_in earlier ++ front) (last ∷ []),
    )

pub cost_opened : (weight : ℕ → ℕ) (earlier : Phases) (front : List (List Command))
    (last : List Command)
    → cost weight (flat (actors_in (opened earlier front last))) ≡ cost weight
    (flat (actors_in (earlier ++ front ∷ []))) + cost weight last
cost_opened weight earlier front last =
    ap (λ actors. cost weight (flat actors)) (actors_opened earlier front last)
    ∙ cost_push weight (actors_in earlier ++ front) last
    ∙ ap (λ actors. cost weight (flat actors) + cost weight last) (sym (flat_push earlier front))

-- what a phase more costs
pub cost_phase : (weight : ℕ → ℕ) (done : Phases) (phase : List (List Command))
    → cost weight (flat (actors_in (done ++ phase ∷ []))) ≡ cost weight
    (flat (actors_in done)) + cost weight (flat phase)
cost_phase weight done phase =
    ap (λ actors. cost weight (flat actors)) (flat_push done phase)
    ∙ ap (cost weight) (flat_map-append (λ (commands : List Command). commands) (actors_in done)
    phase)
    ∙ cost-append weight (flat (actors_in done)) (flat phase)

pub cost_phases : (weight : ℕ → ℕ) (phase : List (List Command)) (more : Phases)
    → cost weight (flat (actors_in (phase ∷ more))) ≡ cost weight (flat phase) + cost weight
    (flat (actors_in more))
cost_phases weight phase more =
    ap (cost weight) (flat_map-append (λ (commands : List Command). commands) phase
    (actors_in more))
    ∙ cost-append weight (flat phase) (flat (actors_in more))

pub count_phase : (done : Phases) (phase : List (List Command))
    → length (actors_in (done ++ phase ∷ [])) ≡ length (actors_in done) + length phase
count_phase done phase = ap length (flat_push done phase) ∙ length-append (actors_in done) phase

pub kept : {A : Type 0} (b : Bool) (value : A) → b ≡ true → if_kept b Cause.Limit value ≡ Ok value
unfolding if_kept
kept b value is = ap (λ t. if_kept t Cause.Limit value) is
