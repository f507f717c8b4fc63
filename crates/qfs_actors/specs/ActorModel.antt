-- An actor of no commands.
use Rattle.std.specs.Prelude.{[]}
use Rattle.qfs_model_actor.specs.Actor.{Actor, starting}

abbrev pub nobody : Actor
nobody = starting (record { layout = record { s = 16; r = 1 }; term = 0; tries = 1 }) 0 []
