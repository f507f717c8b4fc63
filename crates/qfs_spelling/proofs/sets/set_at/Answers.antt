use Rattle.std.proofs.Common.{arith, sym, inl, inr}
use Rattle.qfs_model_disks.specs.Values.{from_one}
use Rattle.qfs_spelling.proofs.Lists.{list_begins, list_goes_on}
use Rattle.qfs_spelling.proofs.SetLaws.{no_set_read, set_begins, set_goes_on}
use Rattle.qfs_spelling.proofs.sets.set_at.Goals as goal

pub loop-i-init : goal.loop-i-init
loop-i-init c =
    let begins = set_begins c.none-set.result c.none-set.ensures in
    record {
      read = list_begins from_one c.none-set.result c.in_ok-count.count c.in_ok-count.rest.now c.none-set.ensures;
      set = begins.0;
      last = begins.1;
    }

pub returns-then-server-last : goal.returns-then-server-last
returns-then-server-last c =
    no_set_read c.loop-i.set c.in_ok-server.server c.in_ok-count.count c.loop-i.i c.args.bytes.now c.loop-i.rest.now c.in_ok-count.rest.now c.in_ok-server.more.now
    c.in_ok-count.ensures c.loop-i-test.true (sym c.in_ok-server.ensures.read) c.in_ok-server.ensures.least
    (elim c.then-server-last.either [ inl low ↦ inl (omega (arith, low, c.loop-i.invariant.last)) | inr high ↦ inr (omega (arith, high.1)) ])
    c.loop-i.invariant.read

pub loop-i-preserved : goal.loop-i-preserved
loop-i-preserved c =
    let goes = set_goes_on c.loop-i.set c.insert.new.self c.in_ok-server.server c.loop-i.invariant.set (omega (arith, c.loop-i.invariant.last, c.if-server-last.false)) c.if-server-gt-MOST_SERVERS.false c.insert.ensures in
    record {
      read =
          list_goes_on from_one c.loop-i.set c.insert.new.self c.in_ok-count.count c.loop-i.i c.loop-i.rest.now c.in_ok-server.server c.in_ok-server.more.now _
          c.loop-i-test.true (sym c.in_ok-server.ensures.read) goes.0 c.loop-i.invariant.read;
      set = goes.1;
      last = goes.2;
    }
