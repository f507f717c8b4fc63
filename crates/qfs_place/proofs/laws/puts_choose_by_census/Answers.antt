use Rattle.qfs_place.specs.PutLaws.{chosen_by_census}
use Rattle.qfs_place.proofs.laws.puts_choose_by_census.Goals as goal

pub returns : goal.returns
returns c = chosen_by_census
