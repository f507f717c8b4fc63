use Rattle.std.proofs.Common.{arith, ap, ◌∙◌, ℕ, ◌≡◌, ◌<◌, List, length, Some}
use Rattle.std.proofs.lemmas.Grind.{common_steps}
use Rattle.std.proofs.lemmas.Result.{IfOk-weaker}
use Rattle.qfs_base.proofs.PathTexts.{found_by_text, only_by_text, root_of_text}
use Rattle.qfs_base.proofs.path.path_below.Goals as goal

pub returns-then-is_empty-clause-only : goal.returns-then-is_empty-clause-only
returns-then-is_empty-clause-only c =
    let none : length c.args.below.now ≡ 0 = grind (arith, common_steps) in
    λ names spelled. ap (λ (n : List (List ℕ)). Some n) (c.new-names.ensures ∙ root_of_text _ names none spelled)

pub returns-clause-found : goal.returns-clause-found
returns-clause-found c = IfOk-weaker _ _ _ (found_by_text _) c.names_from.ensures

pub returns-clause-only : goal.returns-clause-only
returns-clause-only c =
    let some : 0 < length c.args.below.now = grind (arith, common_steps) in
    IfOk-weaker _ _ _ (only_by_text _ some) c.names_from.ensures
