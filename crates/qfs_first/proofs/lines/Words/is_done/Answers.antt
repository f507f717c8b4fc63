use Rattle.std.proofs.Common.{subst, List, ℕ, ◌≡◌, [], ◌↔◌}
use Rattle.std.specs.Prelude.{IsTrue}
use Rattle.qfs_first.proofs.Splits.{none_left}
use Rattle.qfs_first.proofs.lines.Words.is_done.Goals as goal

pub returns : goal.returns
returns c =
    subst (λ (words : List (List ℕ)). IsTrue c.is_none.result ↔ (words ≡ [])) c.self.view_is (none_left _ _ c.is_none.ensures)
