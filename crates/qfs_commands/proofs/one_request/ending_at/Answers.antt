use Rattle.std.proofs.Common.{◌∙◌, sym}
use Rattle.qfs_commands.specs.Simple.{report_of_simple}
use Rattle.qfs_commands.proofs.Asked.{ends_so, goes_so}
use Rattle.qfs_commands.proofs.one_request.ending_at.Goals as goal

pub returns-in-Some : goal.returns-in-Some
unfolding report_of_simple
returns-in-Some c =
    rw c.in-Meta.is (ends_so c.args.command.now c.in-Meta.answer c.in-Some.ending (sym c.of_meta.ensures ∙ c.in-Some.is))

pub returns-in-Meta : goal.returns-in-Meta
returns-in-Meta c =
    rw c.in-Meta.is (c.ending_after.ensures ∙ goes_so c.args.command.now c.in-Meta.answer (sym c.of_meta.ensures ∙ c.in-None.is))
