-- One phase more.
use Rattle.std.proofs.Common.{◌≡◌, ◌+◌, List, [], take, drop, refl, sym, ◌∙◌, ap, arith}
use Rattle.std.specs.Prelude.{map}
use Rattle.std.specs.List.{slice_index_or}
use Rattle.qfs_actor.specs.Standing.{Standing}
use Rattle.qfs_model_world.specs.Fits.{unfinished, first_filled}
use Rattle.qfs_nodes.specs.Actors.{actors_of, by_sizes}
use Rattle.qfs_nodes.proofs.Starts.{phase-first, phase-total, filled-first, filled-behind, filled-none}
use Rattle.qfs_nodes.proofs.turns.current_turn.Goals as goal

pub returns-then-not-is_empty : goal.returns-then-not-is_empty
returns-then-not-is_empty c =
    let sizes = c.args.sizes.now in
    let i = c.loop-size.size-index in
    let size = slice_index_or sizes i 0 in
    let rest = c.loop-size.rest.now in
    let same : c.in_ok-turn.turn ≡ unfinished (actors_of (take size rest)) =
    c.in_ok-turn.ensures ∙ ap (λ (l : List Standing). unfinished (actors_of l)) c.split_at.ensures.front in
    let some : unfinished (actors_of (take size rest)) ≡ [] → ⊥ = λ none. let t = c.is_empty.ensures.1 (same ∙ none) in let f = c.if-not-is_empty.true in cc in
    same
    ∙ sym (c.loop-size.invariant.same ∙ phase-first sizes i size 0 rest c.loop-size-test.true refl ∙ filled-first (unfinished (actors_of (take size rest))) _ some)

pub loop-size-preserved : goal.loop-size-preserved
loop-size-preserved c =
    let sizes = c.args.sizes.now in
    let i = c.loop-size.size-index in
    let size = slice_index_or sizes i 0 in
    let rest = c.loop-size.rest.now in
    let same : c.in_ok-turn.turn ≡ unfinished (actors_of (take size rest)) =
    c.in_ok-turn.ensures ∙ ap (λ (l : List Standing). unfinished (actors_of l)) c.split_at.ensures.front in
    let none : unfinished (actors_of (take size rest)) ≡ [] = sym same ∙ c.is_empty.ensures.0 c.if-not-is_empty.false in
    let all = phase-total sizes i size 0 rest c.loop-size-test.true refl in
    record {
      enough = omega (arith, all, c.split_at.ensures.back_len, c.loop-size.invariant.enough);
      same =
          c.loop-size.invariant.same ∙ phase-first sizes i size 0 rest c.loop-size-test.true refl
          ∙ filled-behind (unfinished (actors_of (take size rest))) _ none
          ∙ ap (λ (l : List Standing). first_filled (map unfinished (by_sizes (drop (i + 1) sizes) (actors_of l)))) (sym c.split_at.ensures.back);
    }

pub returns : goal.returns
returns c =
    c.new.ensures
    ∙ sym (c.loop-size.invariant.same ∙ filled-none c.args.sizes.now c.loop-size.size-index (actors_of c.loop-size.rest.now) c.loop-size-test.false)
