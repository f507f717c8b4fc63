use Rattle.qfs_place.specs.BalanceLaws.{balance_by_census}
use Rattle.qfs_place.proofs.laws.moves_even_loads_out.Goals as goal

pub returns : goal.returns
returns c = balance_by_census
