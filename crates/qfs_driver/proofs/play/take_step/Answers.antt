-- A step that finds no memory leaves the world as it was; one that fails does so at the server that its actor goes to.
use Rattle.std.proofs.Common.{rules}
use Rattle.qfs_driver.proofs.PlayLaws.{continues_same, goes_there}
use Rattle.qfs_base.specs.declared.history.Outcome.TheVariants as Came
use Rattle.qfs_world.specs.Calls.{TakesStep}
use Rattle.qfs_driver.proofs.play.take_step.Goals as goal

pub returns-in-Ok-NoMemory-2-clause-continues : goal.returns-in-Ok-NoMemory-2-clause-continues
returns-in-Ok-NoMemory-2-clause-continues g c = continues_same c.args.world.now c.step.new.self (search rules)

pub returns-in-Some-clause-err : goal.returns-in-Some-clause-err
returns-in-Some-clause-err g c =
    let steps : TakesStep c.args.world.now c.args.actor Came.Failed c.step.new.self = search rules in
    record { steps = steps; at = goes_there c.args.world.now c.step.new.self c.args.actor c.in-Some.server Came.Failed steps (search rules) }
