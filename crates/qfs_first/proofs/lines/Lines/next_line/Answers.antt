use Rattle.std.proofs.Common.{[], ◌≡◌, ◌∙◌, ◌<◌, arith, length, drop, take, ◌-◌, sym}
use Rattle.std.proofs.lemmas.Grind.{common_steps}
use Rattle.qfs_first.proofs.Splits.{no_lines, lines_at, lines_nowhere}
use Rattle.qfs_first.proofs.lines.Lines.next_line.Goals as goal

pub returns-then-is_empty : goal.returns-then-is_empty
returns-then-is_empty c =
    let empty : c.args.self.now ≡ [] = sym c.self.view_is ∙ no_lines _ (grind (arith, common_steps)) in
    (empty, empty)

pub returns-in-Some : goal.returns-in-Some
returns-in-Some c = sym c.self.view_is ∙ lines_at _ _ (sym c.in-Some.ensures)

pub returns-in-None : goal.returns-in-None
returns-in-None c =
    let text = c.self.inside.rest.now in
    let some : 0 < length text = grind (arith, common_steps) in
    let none : length (take (length text - length text) (drop (length text) text)) ≡ 0 = grind (arith, common_steps) in
    sym c.self.view_is ∙ lines_nowhere _ _ some none (sym c.in-None.ensures)
