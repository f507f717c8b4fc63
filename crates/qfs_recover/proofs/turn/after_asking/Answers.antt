use Rattle.qfs_machine.specs.Endings.{report_of_ending}
use Rattle.qfs_recover.specs.Rest.{report_of_recovery, rest_of_recovery}
use Rattle.qfs_recover.proofs.Turns.{strange_server}
use Rattle.qfs_recover.proofs.turn.after_asking.Goals as goal

pub returns-in-Chunk-clause-rest : goal.returns-in-Chunk-clause-rest
unfolding rest_of_recovery report_of_recovery report_of_ending
returns-in-Chunk-clause-rest c =
    rw (c.ended.ensures, c.in-Chunk.is) (strange_server c.args.layout.now c.args.stage c.in-Chunk.field-0 c.requires.asks)
