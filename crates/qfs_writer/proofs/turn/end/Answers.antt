use Rattle.qfs_model_actor.specs.Hold.{end_with}
use Rattle.qfs_writer.specs.Moves.{hold_at}
use Rattle.qfs_writer.proofs.Turns.{ended-at_once}
use Rattle.qfs_writer.proofs.turn.end.Goals as goal

pub returns-in-Dropped-clause-rest : goal.returns-in-Dropped-clause-rest
returns-in-Dropped-clause-rest c =
    rw c.ended.ensures (ended-at_once c.args.put.now (end_with (hold_at c.args.stage)) c.args.ending c.in-Dropped.is)
