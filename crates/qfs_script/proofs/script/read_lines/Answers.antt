use Rattle.std.proofs.Common.{◌≡◌, ◌∙◌, sym, ap, arith, ℕ, List, length}
use Rattle.qfs_model_grammar.specs.ReadScript.{read_lines}
use Rattle.qfs_script.proofs.LinesRead.{good_line, no_line, bad_told}
use Rattle.qfs_script.proofs.script.read_lines.Goals as goal

pub loop-line-preserved : goal.loop-line-preserved
loop-line-preserved c = record {
  said = c.loop-line.invariant.said
      ∙ ap (λ (lines : List (List ℕ)). read_lines c.loop-line.so_far c.loop-line.number lines) c.in-Some.ensures
      ∙ good_line _ _ _ _ _ c.in-Ok.ensures.line;
  counted = omega (arith, c.loop-line.invariant.counted, ap length c.in-Some.ensures);
  few = omega (arith, c.in-Ok.ensures.few);
}

pub returns-in-Err-clause-bad : goal.returns-in-Err-clause-bad
returns-in-Err-clause-bad c =
    bad_told _ _ _ _ _ _ _
    (c.loop-line.invariant.said ∙ ap (λ (lines : List (List ℕ)). read_lines c.loop-line.so_far c.loop-line.number lines) c.in-Some.ensures)
    c.in-Err.ensures.line c.told.ensures

pub returns-clause-all : goal.returns-clause-all
returns-clause-all c =
    c.loop-line.invariant.said
    ∙ ap (λ (lines : List (List ℕ)). read_lines c.loop-line.so_far c.loop-line.number lines) c.in_default.ensures.0
    ∙ no_line _ _
