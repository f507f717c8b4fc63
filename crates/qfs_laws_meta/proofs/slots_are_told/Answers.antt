use Rattle.qfs_laws_meta.specs.ListedTold.{failed-are-not-granted}
use Rattle.qfs_laws_meta.specs.SlotsTold.{slots-are-told, versions-rise-by-one}
use Rattle.qfs_laws_meta.proofs.slots_are_told.Goals as goal

pub returns : goal.returns
returns c =
    record {
      slots = slots-are-told;
      versions = versions-rise-by-one;
      failed = failed-are-not-granted;
    }
