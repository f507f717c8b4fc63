use Rattle.qfs_laws_meta.specs.GrantsFit.{grants-fit-at-first, grants-stay-fit}
use Rattle.qfs_laws_meta.proofs.grants_fit_files.Goals as goal

pub returns : goal.returns
returns c = record { at_first = grants-fit-at-first; stay = grants-stay-fit }
