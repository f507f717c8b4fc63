use Rattle.std.proofs.Common.{◌∙◌, ap, sym, arith, length, ℕ, List, Some, ◌≤◌}
use Rattle.std.specs.Option.{option_map}
use Rattle.std.proofs.lemmas.Grind.{common_steps}
use Rattle.qfs_base.specs.declared.recipe.Form.TheVariants.{Hex}
use Rattle.qfs_first.proofs.CommandTexts.{hex_told, hex_outside, hex_refused, told_bytes}
use Rattle.qfs_first.proofs.commands.hex_recipe.Goals as goal
use Rattle.qfs_first.proofs.commands.hex_recipe.Goals.{then-is_empty-via-then-is_empty, then-is_empty-via-else-is_empty+then-digits}

pub returns-then-is_empty : goal.returns-then-is_empty
returns-then-is_empty c =
    elim c.then-is_empty.branch [
      | then-is_empty-via-then-is_empty w ↦
          ap (option_map Hex) (sym (hex_outside _ (λ some within. grind (arith, common_steps))))
      | then-is_empty-via-else-is_empty+then-digits w ↦
          ap (option_map Hex) (sym (hex_outside _ (λ some within. omega arith)))
    ]

pub invariant_of-result : goal.invariant_of-result
invariant_of-result c =
    let some : 1 ≤ length c.args.digits.now = grind (arith, common_steps) in
    let range = told_bytes _ _ c.in-Ok.ensures.ok some (omega arith) in
    let same = ap length c.from_vec.ensures in
    (omega arith, omega arith)

pub returns-in-Ok : goal.returns-in-Ok
returns-in-Ok c =
    let some : 1 ≤ length c.args.digits.now = grind (arith, common_steps) in
    ap (λ (bytes : List ℕ). Some (Hex bytes)) c.from_vec.ensures
    ∙ ap (option_map Hex) (sym (hex_told _ _ c.in-Ok.ensures.ok some (omega arith)))

pub returns-else-is_no_memory : goal.returns-else-is_no_memory
returns-else-is_no_memory c =
    ap (option_map Hex) (sym (hex_refused _ _ c.in-Err.ensures.err (λ memory. cc (c.is_no_memory.ensures.1 memory, c.if-is_no_memory.false))))
