-- How an actor stands: as plain data, and to its next request.
use Rattle.std.specs.Prelude.{◌≡◌, ℕ, List, None, ⊤}
use Rattle.qfs_base.specs.declared.rules.Rules.{Rules}
use Rattle.qfs_base.specs.declared.command.Command.{Command}
use Rattle.qfs_machine.specs.declared.machine.Readiness.{Readiness}
use Rattle.qfs_machine.specs.declared.machine.Readiness.TheVariants.{Unready, Ready, Out}
use Rattle.qfs_model_actor.specs.Actor.{Actor, starting, request_of}

pub record Standing : Type 0 where
  pub actor : Actor
  pub readiness : Readiness

-- at the first command, which isn't prepared
abbrev pub at_start : Rules → ℕ → List Command → Standing
at_start rules number commands =
    record { actor = starting rules number commands; readiness = Unready }

abbrev pub CanAskAs : Actor → Readiness → Type 0
CanAskAs actor Unready = request_of actor ≡ None
CanAskAs actor Ready = ⊤
CanAskAs actor Out = ⊥

-- no request is out, and the actor is ready or has finished
abbrev pub CanAsk : Standing → Type 0
CanAsk standing = CanAskAs standing.actor standing.readiness
