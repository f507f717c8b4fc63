use Rattle.qfs_place.specs.ServerLaws.{others_census}
use Rattle.qfs_place.proofs.laws.other_changes_leave_loads.Goals as goal

pub returns : goal.returns
returns c = others_census
