use Rattle.std.proofs.Common.{subst, ℕ, List, Option}
use Rattle.std.specs.Prelude.{IfSome}
use Rattle.qfs_base.specs.Path.{SpellsPath}
use Rattle.qfs_first.proofs.CommandTexts.{one_name, other_path, no_path}
use Rattle.qfs_first.proofs.commands.one_name_path.Goals as goal

pub returns-then-has_one_name : goal.returns-then-has_one_name
returns-then-has_one_name c =
    one_name c.args.word.now c.in-Some.path
    (subst (λ (found : Option (List (List ℕ))). IfSome found (λ path. SpellsPath c.args.word.now path)) c.in-Some.is c.in_ok-path.ensures.found)
    (c.has_one_name.ensures.0 c.if-has_one_name.true)

pub returns-else-has_one_name : goal.returns-else-has_one_name
returns-else-has_one_name c =
    other_path _ _ c.in-Some.path c.in-Some.is
    (λ one. cc (c.has_one_name.ensures.1 one, c.if-has_one_name.false)) c.in_ok-path.ensures.only

pub returns-in-None : goal.returns-in-None
returns-in-None c = no_path _ _ c.in-None.is c.in_ok-path.ensures.only
