use Rattle.std.proofs.Common.{◌≡◌, ◌∙◌, sym, false, true}
use Rattle.qfs_machine.specs.Endings.{report_of_ending}
use Rattle.qfs_model_actor.specs.Grants.{is_in_range}
use Rattle.qfs_move.specs.Rest.{report_of_move, rest_of_move}
use Rattle.qfs_move.proofs.Turns.{begin-out, begin-none, begin-some}
use Rattle.qfs_move.proofs.turn.begin.Goals as goal

pub returns-then-not-is_in_range-clause-rest : goal.returns-then-not-is_in_range-clause-rest
unfolding rest_of_move report_of_move report_of_ending
returns-then-not-is_in_range-clause-rest c =
    let out : is_in_range c.args.grant ≡ false = cc in
    rw c.ended.ensures (begin-out c.args.layout.now c.args.errand c.args.grant out)

pub returns-in-Some-clause-rest : goal.returns-in-Some-clause-rest
returns-in-Some-clause-rest c =
    let range : is_in_range c.args.grant ≡ true = cc in
    c.begin_copy.ensures.rest
    ∙ begin-some c.args.layout.now c.args.errand c.args.grant c.in-Some.source range (sym c.source_of.ensures ∙ c.in-Some.is)

pub returns-in-None-clause-rest : goal.returns-in-None-clause-rest
unfolding rest_of_move report_of_move report_of_ending
returns-in-None-clause-rest c =
    let range : is_in_range c.args.grant ≡ true = cc in
    rw c.ended-in-None.ensures
    (begin-none c.args.layout.now c.args.errand c.args.grant range (sym c.source_of.ensures ∙ c.in-None.is))
