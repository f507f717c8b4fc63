use Rattle.std.proofs.Common.{sym}
use Rattle.std.proofs.lemmas.List.FromFn.{length-map-range_with_len}
use Rattle.qfs_base.specs.Recipe.{pattern_byte}
use Rattle.qfs_recipe.proofs.recipe.RecipeRecipeCalls.len.Goals as goal

pub returns-in-Pattern-clause-value : goal.returns-in-Pattern-clause-value
returns-in-Pattern-clause-value c = rw (← c.self.view_is, c.in-Pattern.is) (sym (length-map-range_with_len (pattern_byte c.in-Pattern.start) 0 c.in-Pattern.len))
