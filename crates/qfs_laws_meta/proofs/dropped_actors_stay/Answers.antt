use Rattle.qfs_laws_meta.specs.DroppedActors.{dropped-are-told, dropped-stay}
use Rattle.qfs_laws_meta.proofs.dropped_actors_stay.Goals as goal

pub returns : goal.returns
returns c = record { told = dropped-are-told; stay = dropped-stay }
