use Rattle.qfs_place.specs.ChangeLaws.{left_census}
use Rattle.qfs_place.specs.LoadLaws.{uncounted_at}
use Rattle.qfs_place.proofs.laws.loads_are_counts.Goals as goal

pub returns : goal.returns
returns c = record { left_on = left_census; falls = uncounted_at }
