-- What an actor heard in its present command are the steps of that command.
use Rattle.std.specs.Prelude.{◌≡◌, List, map}
use Rattle.qfs_base.specs.Table.{Each}
use Rattle.qfs_base.specs.declared.history.Step.{Step}
use Rattle.qfs_base.specs.declared.script.Script.{Script}
use Rattle.qfs_model_actor.specs.Actor.{Actor, command_number}
use Rattle.qfs_model_world.specs.Events.{Event, events, steps_of}
use Rattle.qfs_model_world.specs.World.{World, after}
use Rattle.qfs_model_promises.specs.Heard.{Exchange, exchanges_of}

-- what was asked and answered in a step
abbrev pub exchange_in : Event → Exchange
exchange_in event = (event.request, event.reply)

-- the exchanges of an actor's present command are those of its steps
abbrev pub HeardItsSteps : List Event → Actor → Type 0
HeardItsSteps steps actor =
    exchanges_of actor ≡ map exchange_in (steps_of actor.number (command_number actor) steps)

abbrev pub HeardAreSteps : World → List Event → Type 0
HeardAreSteps world steps = Each (HeardItsSteps steps) world.actors

-- the same in the world after an order
abbrev pub HeardIn : Script → List Step → Type 0
HeardIn script order = HeardAreSteps (after script order) (events script order)
