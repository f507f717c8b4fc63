use Rattle.std.proofs.Common.{◌∙◌, sym}
use Rattle.qfs_sweep.specs.Rest.{report_of_sweep, rest_of_sweep}
use Rattle.qfs_sweep.proofs.Turns.{server_ends, server_goes_on}
use Rattle.qfs_sweep.proofs.turn.after_server.Goals as goal

pub returns-in-Some-clause-rest : goal.returns-in-Some-clause-rest
unfolding rest_of_sweep report_of_sweep
returns-in-Some-clause-rest c = λ room.
    rw c.ended.ensures
    (server_ends c.args.at c.args.condemned c.args.answer.now room c.in-Some.ending (sym c.of_chunk.ensures ∙ c.in-Some.is))

pub returns-in-None-clause-rest : goal.returns-in-None-clause-rest
returns-in-None-clause-rest c = λ room.
    c.erased.ensures.rest
    ∙ server_goes_on c.args.at c.args.condemned c.args.answer.now room (sym c.of_chunk.ensures ∙ c.in-None.is)
