-- A record behind a log at rest.
use Rattle.std.proofs.Common.{◌∙◌, refl}
use Rattle.qfs_log.specs.Found.{front_text}
use Rattle.qfs_log.proofs.Logs.{next_current}
use Rattle.qfs_log.proofs.log.Log.append_at_rest.Goals as goal

pub returns-clause-ok : goal.returns-clause-ok
returns-clause-ok g c = λ content rival stands.
    let d = g.L.LogDisk in
    let log = c.args.self.now in
    record {
      current_tells = c.write_behind_gate.ensures.tells ∙ stands.current_tells;
      other_tells = stands.other_tells;
      current = next_current (d.leaves c.write_behind_gate.new.disk) (d.content c.write_behind_gate.new.disk) log.epoch content c.args.body.items c.args.tail.now c.requires.tail log.gate _ _
          stands.current.fits c.requires.fits stands.current.place refl (c.in_ok-write_behind_gate.ensures.open (front_text log.epoch content) stands.current.place stands.current_tells (stands.current.rest c.requires.rest));
      other = stands.other;
    }
