use Rattle.std.proofs.Common.{◌∙◌}
use Rattle.qfs_machine.specs.Endings.{report_of_ending}
use Rattle.qfs_writer.specs.Rest.{rest_of_put, report_of_put}
use Rattle.qfs_writer.proofs.Turns.{asked-goes, asked-strange}
use Rattle.qfs_writer.proofs.turn.after_question.Goals as goal

pub returns-in-Meta-clause-rest : goal.returns-in-Meta-clause-rest
returns-in-Meta-clause-rest c =
    rw c.in-Meta.is (c.on_meta.ensures.rest ∙ asked-goes c.args.put.now c.args.stage c.in-Meta.answer c.requires.asks)

pub returns-in-Chunk-clause-rest : goal.returns-in-Chunk-clause-rest
unfolding rest_of_put report_of_put report_of_ending
returns-in-Chunk-clause-rest c =
    rw (c.ended.ensures, c.in-Chunk.is) (asked-strange c.args.put.now c.args.stage c.in-Chunk.field-0 c.requires.asks)
