use Rattle.qfs_place.specs.ServerLaws.{up_again_census, up_anew_census, down_census, leaving_census, asleep_census}
use Rattle.qfs_place.proofs.laws.loads_follow_servers.Goals as goal

pub returns : goal.returns
returns c = record {
  up_again = up_again_census;
  up_anew = up_anew_census;
  down = down_census;
  leaving = leaving_census;
  asleep = asleep_census;
}
