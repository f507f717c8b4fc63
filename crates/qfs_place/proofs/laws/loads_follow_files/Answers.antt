use Rattle.qfs_place.specs.ChangeLaws.{aborted_census, removed_census, closed_census}
use Rattle.qfs_place.proofs.laws.loads_follow_files.Goals as goal

pub returns : goal.returns
returns c = record { aborted = aborted_census; removed = removed_census; closed = closed_census }
