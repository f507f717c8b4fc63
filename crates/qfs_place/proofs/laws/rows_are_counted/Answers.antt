use Rattle.qfs_place.specs.LoadLaws.{census_row}
use Rattle.qfs_place.proofs.laws.rows_are_counted.Goals as goal

pub returns : goal.returns
returns c = census_row
