-- The tail goes, and what stands before it stays.
use Rattle.std.proofs.Common.{◌∙◌, sym, subst, None, true≢false}
use Rattle.qfs_log.specs.Gates.{GateIs}
use Rattle.qfs_log.specs.Found.{front_text}
use Rattle.qfs_log.specs.Log.{tail_test}
use Rattle.qfs_log.proofs.log.Log.repair.Goals as goal

pub returns-in_err-clear_gate-clause-placed : goal.returns-in_err-clear_gate-clause-placed
returns-in_err-clear_gate-clause-placed g c = record {
  fits = c.requires.fits;
  inside = c.clear_gate.ensures.behind c.requires.inside;
  other = c.requires.other;
  shut = λ none. c.clear_gate.ensures.stays (c.requires.shut none);
  due = c.requires.due;
}

pub returns-in_err-clear_gate-clause-stands : goal.returns-in_err-clear_gate-clause-stands
returns-in_err-clear_gate-clause-stands g c = λ content rival stands. record {
  current_tells = c.clear_gate.ensures.tells ∙ stands.current_tells;
  other_tells = stands.other_tells;
  current = record {
    fits = stands.current.fits;
    place = stands.current.place;
    images = c.clear_gate.ensures.gate (front_text c.args.self.now.epoch content) (tail_test c.args.self.now.unsettled) stands.current.place stands.current_tells stands.current.images;
    rest = λ none. absurd (true≢false (sym c.if-not-self.false ∙ none));
    body = stands.current.body;
  };
  other = stands.other;
}

pub returns-in_err-clear_gate-clause-crash : goal.returns-in_err-clear_gate-clause-crash
returns-in_err-clear_gate-clause-crash g c = λ content rival stands.
    c.clear_gate.ensures.crash (front_text c.args.self.now.epoch content) (tail_test c.args.self.now.unsettled) stands.current.place stands.current_tells stands.current.images

pub returns-clause-crash : goal.returns-clause-crash
returns-clause-crash g c = λ content rival stands.
    c.clear_gate.ensures.crash (front_text c.args.self.now.epoch content) (tail_test c.args.self.now.unsettled) stands.current.place stands.current_tells stands.current.images

pub returns-clause-stands : goal.returns-clause-stands
returns-clause-stands g c = λ content rival stands.
    let front = front_text c.args.self.now.epoch content in
    let test = tail_test c.args.self.now.unsettled in
    let closed = c.in_ok-clear_gate.ensures.settled in
    record {
      current_tells = c.clear_gate.ensures.tells ∙ stands.current_tells;
      other_tells = stands.other_tells;
      current = record {
        fits = stands.current.fits;
        place = stands.current.place;
        images = λ o left. subst (λ b. GateIs b front (tail_test None) o) (sym closed) (subst (λ b. GateIs b front test o) closed
            (c.clear_gate.ensures.gate front test stands.current.place stands.current_tells stands.current.images o left));
        rest = λ _. c.in_ok-clear_gate.ensures.rest front test stands.current.place stands.current_tells stands.current.images;
        body = tt;
      };
      other = stands.other;
    }
