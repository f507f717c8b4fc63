-- What is found on the device takes the place of the copies that were known.
use Rattle.std.proofs.Common.{Bool, sym, subst}
use Rattle.qfs_store.specs.Known.{Sizes}
use Rattle.qfs_store.specs.Serves.{FindsCopies}
use Rattle.qfs_store.proofs.requests.start.Goals as goal

pub returns-in-Ok-clause-started : goal.returns-in-Ok-clause-started
returns-in-Ok-clause-started g c = (
  c.life-in-Ok.ensures,
  subst (λ (t : Bool × Sizes). FindsCopies c.args.stripe t.0 c.args.copies.now t.1 (g.D.ChunkDevice.told c.args.device.now) (g.D.ChunkDevice.told c.copies_on.new.device))
      (λ i. (sym c.if-up.false i, sym c.replace.ensures.found i))
      (c.replace.ensures.rose, c.in-Ok.ensures.found),
)
