use Rattle.qfs_laws_meta.specs.RunSound.{run-sound}
use Rattle.qfs_laws_meta.proofs.runs_stay_sound.Goals as goal

pub returns : goal.returns
returns c = run-sound
