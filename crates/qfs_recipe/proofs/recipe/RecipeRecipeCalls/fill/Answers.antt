use Rattle.std.proofs.Common.{◌∙◌, ◌+◌, ◌≤◌, sym, ap, arith, length}
use Rattle.std.proofs.lemmas.List.FromFn.{length-map-range_with_len}
use Rattle.std.specs.Prelude.{slice_range}
use Rattle.qfs_base.specs.Recipe.{bytes_of, pattern_byte}
use Rattle.qfs_recipe.proofs.Patterns.{range_of_told}
use Rattle.qfs_recipe.proofs.recipe.RecipeRecipeCalls.fill.Goals as goal

pub returns-in-Pattern : goal.returns-in-Pattern
returns-in-Pattern c =
    let is = ap bytes_of (sym c.self.view_is ∙ c.in-Pattern.is) in
    let inside : c.args.offset + length c.args.out.now ≤ c.in-Pattern.len = omega (arith, ap length is, c.requires, length-map-range_with_len (pattern_byte c.in-Pattern.start) 0 c.in-Pattern.len) in
    c.fill_pattern.ensures ∙ sym (range_of_told (pattern_byte c.in-Pattern.start) c.in-Pattern.len c.args.offset _ inside) ∙ ap (λ bytes. slice_range bytes c.args.offset (c.args.offset + length c.args.out.now)) (sym is)
