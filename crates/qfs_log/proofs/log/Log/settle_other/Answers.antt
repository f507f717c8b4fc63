-- The other disk's gate is closed, and the rival with it.
use Rattle.std.proofs.Common.{[], ◌∙◌, refl, sym, subst, None}
use Rattle.qfs_log.specs.Gates.{GateIs}
use Rattle.qfs_log.specs.Log.{other_test}
use Rattle.qfs_log.proofs.log.Log.settle_other.Goals as goal

pub returns-in_err-close_gate-clause-crash : goal.returns-in_err-close_gate-clause-crash
returns-in_err-close_gate-clause-crash g c = λ content rival stands.
    c.close_gate.ensures.crash [] (other_test c.args.self.now.right c.args.self.now.epoch rival) refl stands.other_tells stands.other.images

pub returns-clause-crash : goal.returns-clause-crash
returns-clause-crash g c = λ content rival stands.
    c.close_gate.ensures.crash [] (other_test c.args.self.now.right c.args.self.now.epoch rival) refl stands.other_tells stands.other.images

pub returns-clause-ok : goal.returns-clause-ok
returns-clause-ok g c = λ content rival stands.
    let test = other_test c.args.self.now.right c.args.self.now.epoch in
    let closed = c.in_ok-close_gate.ensures.settled in
    record {
      current_tells = stands.current_tells;
      other_tells = c.close_gate.ensures.tells ∙ stands.other_tells;
      current = stands.current;
      other = record {
        images = λ o left. subst (λ b. GateIs b [] (test None) o) (sym closed) (subst (λ b. GateIs b [] (test rival) o) closed (c.close_gate.ensures.gate [] (test rival) refl stands.other_tells stands.other.images o left));
        due = λ _. refl;
        image = tt;
        room = tt;
      };
    }
