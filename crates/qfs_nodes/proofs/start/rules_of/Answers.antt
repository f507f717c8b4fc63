-- Only puts and gets are built, so a get has one try.
use Rattle.std.proofs.Common.{sym}
use Rattle.qfs_base.specs.Rules.{rules_of}
use Rattle.qfs_nodes.proofs.Tries.{one-try}
use Rattle.qfs_nodes.proofs.start.rules_of.Goals as goal

pub returns : goal.returns
unfolding rules_of
returns c =
    let script = c.args.script.now in
    λ i. record { layout = script.layout; term = script.term; tries = sym (one-try script c.requires) i }
