use Rattle.std.proofs.Common.{◌≡◌, ◌∙◌, ◌*◌, refl, ap, sym, inl, inr, []}
use Rattle.qfs_window.proofs.Fetches.{other-room}
use Rattle.qfs_window.proofs.window_read.make_room.Goals as goal

pub returns-in_ok-read-clause-rest : goal.returns-in_ok-read-clause-rest
returns-in_ok-read-clause-rest c = λ reading behind same.
    let none : c.args.read.now.have ≡ [] = elim c.requires.at.room [
      | inl none ↦ none
      | inr there ↦ absurd (cc (c.has_room.ensures.1 (there ∙ ap (λ n. 9 * n) (sym c.slot_bytes.ensures.value)), c.if-not-has_room.true))
    ] in
    other-room reading behind c.args.read.now _ refl none
