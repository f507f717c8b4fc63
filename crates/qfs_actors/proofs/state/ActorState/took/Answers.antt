use Rattle.std.proofs.Common.{◌∙◌, refl, sym, subst, Option}
use Rattle.qfs_machine.specs.Asking.{IsOut}
use Rattle.qfs_machine.specs.declared.machine.Readiness.{Readiness}
use Rattle.qfs_actors.specs.State.{readiness_in}
use Rattle.qfs_actors.proofs.States.{asks_on, ends_with, few_ahead, some_tries}
use Rattle.qfs_actors.proofs.States.{goes_on-asks, stops-ended}
use Rattle.qfs_actors.proofs.state.ActorState.took.Goals as goal

abbrev IsOutIn : {M : Type 0} → (M → Readiness) → Option M → Type 0
IsOutIn readiness machine = IsOut (readiness_in readiness machine)

pub took-requires : goal.took-requires
took-requires g c =
    subst (IsOutIn g.M.Machine.readiness) (sym c.take.ensures.value ∙ c.in-Some.is) c.requires.out

pub end-requires-clause-tries : goal.end-requires-clause-tries
end-requires-clause-tries g c =
    λ _ _. some_tries c.requires.of.0 c.args.self.now c.requires.of.1

pub end-requires-clause-few : goal.end-requires-clause-few
end-requires-clause-few g c =
    λ _ _. few_ahead c.requires.of.0 c.args.self.now c.in-Some.machine c.requires.of.1
    (sym c.take.ensures.value ∙ c.in-Some.is)

pub unreachable-requires : goal.unreachable-requires
unreachable-requires g c =
    subst (IsOutIn g.M.Machine.readiness) (sym c.take.ensures.value ∙ c.in-None.is) c.requires.out

pub returns-then-is_some-clause-of : goal.returns-then-is_some-clause-of
returns-then-is_some-clause-of g c = λ actor of.
    let asking =
    goes_on-asks _ (rw c.goes_to.ensures at (sym c.is_some.ensures ∙ c.if-is_some.true)) in
    asks_on actor c.args.reply c.args.self.now _ c.in-Some.machine c.took.new.self of
    (sym c.take.ensures.value ∙ c.in-Some.is) refl c.took.ensures.rest asking
    c.took.ensures.unready

pub returns-then-is_some-clause-unready : goal.returns-then-is_some-clause-unready
returns-then-is_some-clause-unready g c = c.took.ensures.unready

pub returns-else-is_some-clause-of : goal.returns-else-is_some-clause-of
returns-else-is_some-clause-of g c = λ actor of.
    let none =
    stops-ended _ (rw c.goes_to.ensures at (sym c.is_some.ensures ∙ c.if-is_some.false)) in
    let ended = c.end.ensures in
    ends_with actor c.args.reply c.args.self.now c.end.new.self c.in-Some.machine
    c.took.new.self of (sym c.take.ensures.value ∙ c.in-Some.is) c.took.ensures.rest none
    (record {
      setting = ended.setting;
      line = ended.line;
      rest_of_next = ended.rest;
      ahead = ended.ahead;
      unready = ended.unready;
    })
