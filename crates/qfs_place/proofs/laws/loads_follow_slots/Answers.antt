use Rattle.qfs_place.specs.ChangeLaws.{granted_census, gave_up_census, failed_grant_census, confirmed_census, emptied_census}
use Rattle.qfs_place.proofs.laws.loads_follow_slots.Goals as goal

pub returns : goal.returns
returns c = record {
  granted = granted_census;
  given_up = gave_up_census;
  failed = failed_grant_census;
  confirmed = confirmed_census;
  emptied = emptied_census;
}
