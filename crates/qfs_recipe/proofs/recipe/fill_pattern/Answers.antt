use Rattle.std.proofs.Common.{arith}
use Rattle.qfs_base.specs.Recipe.{pattern_byte}
use Rattle.qfs_recipe.proofs.Patterns.{told_by}
use Rattle.qfs_recipe.proofs.recipe.fill_pattern.Goals as goal

pub returns : goal.returns
returns c =
    told_by (pattern_byte c.args.start) c.args.offset _ _ (omega arith)
    (λ k inside. c.loop-byte.invariant.written k (omega arith))
