use Rattle.qfs_image.proofs.ImageLaws.{images_apart}
use Rattle.qfs_image.proofs.reading.images_are_apart.Goals as goal

pub returns : goal.returns
returns c = images_apart
