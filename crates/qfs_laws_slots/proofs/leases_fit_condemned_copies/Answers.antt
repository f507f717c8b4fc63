use Rattle.qfs_laws_slots.specs.Lists.{rows-given, rows-ended}
use Rattle.qfs_laws_slots.proofs.leases_fit_condemned_copies.Goals as goal

pub returns : goal.returns
returns c = record {
  given = λ servers next next_lease actor file until leases rows l h. rows-given servers next actor
      file until next_lease leases rows l h;
  ended = rows-ended;
}
