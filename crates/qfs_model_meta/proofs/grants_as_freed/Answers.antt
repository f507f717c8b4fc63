use Rattle.qfs_model_meta.specs.FreedLaws.{decides_as_freed}
use Rattle.qfs_model_meta.proofs.grants_as_freed.Goals as goal

pub returns : goal.returns
returns c block slot m = decides_as_freed block slot m
