use Rattle.std.proofs.Common.{refl}
use Rattle.qfs_model_disks.specs.Whole.{whole_disks}
use Rattle.qfs_model_meta.specs.Whole.{whole_metaserver}
use Rattle.qfs_model_disks.proofs.small_disks_are_spelled.Goals as goal

pub returns : goal.returns
unfolding whole_metaserver whole_disks
returns c = record {
  record_text = refl;
  record_read = refl;
  image_text = refl;
  image_read = refl;
  none = refl;
  closed = refl;
  checkpoint = refl;
  logged = refl;
  tail = refl;
  cut_off = refl;
  no_gate = refl;
  no_record = refl;
}
