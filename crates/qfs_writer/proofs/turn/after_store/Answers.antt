use Rattle.std.proofs.Common.{◌∙◌}
use Rattle.qfs_machine.specs.Endings.{report_of_ending}
use Rattle.qfs_writer.specs.Rest.{rest_of_put, report_of_put}
use Rattle.qfs_writer.proofs.Turns.{stored-goes, stored-strange}
use Rattle.qfs_writer.proofs.turn.after_store.Goals as goal

pub returns-in-Chunk-clause-rest : goal.returns-in-Chunk-clause-rest
returns-in-Chunk-clause-rest c =
    λ copy. rw c.in-Chunk.is (c.on_chunk.ensures.rest ∙ stored-goes c.args.put.now c.args.at copy c.in-Chunk.reply)

pub returns-in-Meta-clause-rest : goal.returns-in-Meta-clause-rest
unfolding rest_of_put report_of_put report_of_ending
returns-in-Meta-clause-rest c =
    λ copy. rw (c.ended.ensures, c.in-Meta.is) (stored-strange c.args.put.now c.args.at copy c.in-Meta.field-0)
