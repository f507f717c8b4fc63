use Rattle.qfs_image.proofs.FitLaws.{images_fit}
use Rattle.qfs_image.proofs.reading.images_keep_rules.Goals as goal

pub returns : goal.returns
returns c = images_fit
