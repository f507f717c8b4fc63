-- An order that fits a script of the first path, and whose steps came out done, is one of actor 1
-- alone. The law `fitting_orders_are_of_one_actor`.
use Rattle.std.proofs.Common.{◌≡◌, ℕ, ◌==◌, Bool, true, false, cond, List, [], ◌∷◌, ◌++◌, refl, sym}
use Rattle.std.proofs.Common.{ap, ◌∙◌, arith, inl, inr}
use Rattle.std.proofs.lemmas.Bool.Decides.{nat_tests}
use Rattle.std.specs.Prelude.{IsTrue}
use Rattle.std.specs.List.{list_all, list_any}
use Rattle.std.proofs.lemmas.Bool.{and_parts}
use Rattle.qfs_base.specs.declared.command.Command.{Command}
use Rattle.qfs_base.specs.declared.history.Outcome.{Outcome}
use Rattle.qfs_base.specs.declared.history.Outcome.TheVariants as Ended
use Rattle.qfs_base.specs.declared.history.Step.{Step}
use Rattle.qfs_base.specs.declared.script.Script.{Script}
use Rattle.qfs_model_actor.specs.Actor.{has_finished}
use Rattle.qfs_model_text.specs.Order.{same_outcome}
use Rattle.qfs_model_world.specs.GivenOrder.{is_done}
use Rattle.qfs_model_world.specs.Events.{Event}
use Rattle.qfs_model_world.specs.Fits.{turn, may_come, fits_from, fits}
use Rattle.qfs_model_world.specs.World.{World, start, move}
use Rattle.qfs_model_world.proofs.OneActor.{done_step, turn-one}
use Rattle.qfs_laws_first.specs.FirstPath.{IsFirstPath, AllDone}
use Rattle.qfs_laws_first.proofs.Laws.{next, run-none}
use Rattle.qfs_laws_first.proofs.Runs.{Run}

done-outcome : (outcome : Outcome) → same_outcome outcome Ended.Done ≡ true → outcome ≡ Ended.Done
unfolding same_outcome
done-outcome Ended.Done h = refl
done-outcome Ended.Failed h = let none : false ≡ true = h in absurd (cc)
done-outcome Ended.NoMemory h = let none : false ≡ true = h in absurd (cc)

-- whose turn it is, where it is someone's
turn-of : (actor number : ℕ) (finished : Bool)
    → list_any (λ n. n == number) (cond finished [] (actor ∷ [])) ≡ true → actor ≡ number
turn-of actor number true h = absurd (cc)
turn-of actor number false h = grind (arith, nat_tests)

module _ (script : Script) (commands : List Command) (first_path : IsFirstPath script commands)
  where
    step-is : (steps : List Event) (w : World) (step : Step) → Run script commands steps w
        → may_come script w step ≡ true → step.outcome ≡ Ended.Done → step ≡ done_step
    unfolding may_come
    step-is steps w step r may done =
        let turns = turn-one script w commands r.actor first_path.alone r.alone in
        let any : list_any (λ n. n == step.actor) (turn script w) ≡ true = (and_parts _ _ may).0 in
        let actor : r.actor.number ≡ step.actor =
        turn-of r.actor.number step.actor (has_finished r.actor)
        (ap (list_any (λ n. n == step.actor)) (sym turns) ∙ any) in
        let one : step.actor ≡ 1 = sym actor ∙ r.number in
        λ i. record { actor = one i; outcome = done i }

    done-from : (order : List Step) (steps : List Event) (w : World) → Run script commands steps w
        → fits_from script w order ≡ true → IsTrue (list_all is_done order) → AllDone order
    unfolding fits_from is_done
    done-from [] steps w r fit done = tt
    done-from (step ∷ order) steps w r fit done =
        let parts = and_parts _ _ fit in
        let parts_done = and_parts _ _ done in
        let is : step ≡ done_step =
        step-is steps w step r parts.0 (done-outcome step.outcome parts_done.0) in
        let rest : fits_from script (move w done_step) order ≡ true =
        ap (λ step. fits_from script (move w step) order) (sym is) ∙ parts.1 in (
          is,
          elim (next script commands steps w first_path r) [
            | inl none ↦ done-from order steps w r (ap (λ v. fits_from script v order) (sym none.1)
                ∙ rest) parts_done.1
            | inr some ↦ done-from order (steps ++ some.0 ∷ []) (move w done_step) some.2 rest
                parts_done.1
          ],
        )

    pub fitting-done : (order : List Step) → IsTrue (fits script order)
        → IsTrue (list_all is_done order) → AllDone order
    unfolding fits
    fitting-done order fit done =
        done-from order [] (start script) (run-none script commands first_path) fit done
