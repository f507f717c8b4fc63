-- When what an actor keeps is that of an actor of the definitions.
use Rattle.std.specs.Prelude.{◌≡◌, ℕ, ◌+◌, ◌<◌, ◌≤◌, ◌^◌, List, [], ◌∷◌, ◌++◌, length, drop}
use Rattle.std.specs.Prelude.{slice_get, Option, Some, None, option_map, IfSome}
use Rattle.std.specs.Prelude.{vec_len, vec_capacity, ⊤}
use Rattle.std.specs.Vec.Iter.{into_iter_items}
use Rattle.qfs_base.specs.declared.command.Command.{Command}
use Rattle.qfs_base.specs.declared.command.ReplyLine.{ReplyLine}
use Rattle.qfs_base.specs.declared.rules.Rules.{Rules}
use Rattle.qfs_machine.specs.Asking.{MayHandOut}
use Rattle.qfs_model_actor.specs.Command.{work_of}
use Rattle.qfs_model_actor.specs.Shown.{kept_report, lines_from}
use Rattle.qfs_machine.specs.declared.machine.Readiness.{Readiness}
use Rattle.qfs_machine.specs.declared.machine.Readiness.TheVariants.{Unready, Ready, Out}
use Rattle.qfs_model_actor.specs.Actor.{Actor, work_left}
use Rattle.qfs_model_actor.specs.Work.{Report, Work, ends}
use Rattle.qfs_actors.specs.declared.state.ActorState.{ActorState}

-- the machine has taken the memory for its next request
abbrev pub HasTaken : Readiness → Type 0
HasTaken Unready = ⊥
HasTaken Ready = ⊤
HasTaken Out = ⊤

-- what the first of these commands asks, which is the actor's command of this number
abbrev pub first_work : Rules → ℕ → List Command → Option Work
first_work rules number commands =
    option_map (λ command. work_of rules number command) (slice_get commands 0)

-- M is the machine of a command, of which `rest` says what is left, and `readiness` how it stands to
-- its next request
module _ {M : Type 0} where
  -- how an actor stands to its next request, by that of its machine; one that has finished is unready
  abbrev pub readiness_in : (M → Readiness) → Option M → Readiness
  readiness_in readiness None = Unready
  readiness_in readiness (Some machine) = readiness machine

  -- the machine, if there is one, is ready for its next request, and it may hand it out
  abbrev pub IsReadyIn : (M → Readiness) → Option M → Type 0
  IsReadyIn readiness machine = IfSome machine (λ it. readiness it ≡ Ready)

  abbrev pub MayHandOutIn : (M → Work) → (M → Readiness) → Option M → Type 0
  MayHandOutIn rest readiness machine =
      IfSome machine (λ it. MayHandOut (readiness it) (rest it))

  -- all commands of an actor that has a present one
  abbrev pub commands_of : ActorState M → ℕ
  commands_of state = length state.replies.items + 1 + length (into_iter_items state.ahead)

  -- the line of the present command, where it has ended with this report
  abbrev pub line_of : ActorState M → Report → ReplyLine
  line_of state report =
      record {
        actor = state.setting.number;
        command = length state.replies.items + 1;
        reply = kept_report report;
      }

  -- the line of the present command, of which this is left, was put behind the lines of the others
  abbrev pub AddsLine : Work → ActorState M → ActorState M → Type 0
  AddsLine work before after =
      (report : Report) → work ≡ ends report
      → after.replies.items ≡ before.replies.items ++ line_of before report ∷ []

  -- what is kept is that of this actor: the commands that haven't begun, the machine of the present
  -- one, and the lines of those that have ended, with room for one more while a request is prepared
  pub record IsOf (rest : M → Work) (readiness : M → Readiness) (actor : Actor)
      (state : ActorState M) : Type 0 where
    pub number : state.setting.number ≡ actor.number
    pub rules : state.setting.rules ≡ actor.rules
    pub tries : 1 ≤ actor.rules.tries
    pub few : length actor.commands < 2 ^ 16
    pub ahead : into_iter_items state.ahead ≡ drop (length actor.ended + 1) actor.commands
    pub machine : option_map rest state.machine ≡ work_left actor
    pub lines : state.replies.items ≡ lines_from actor.number 1 actor.ended
    pub room : HasTaken (readiness_in readiness state.machine)
        → vec_len state.replies < vec_capacity state.replies
