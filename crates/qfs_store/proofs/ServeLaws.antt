-- What comes of a request that is refused, and of one that is carried out.
use Rattle.std.proofs.Common.{◌≡◌, ℕ, List, Option, Some, None, is_some, refl, sym, ap, subst, ◌∙◌}
use Rattle.qfs_base.specs.Outcome.{chunk_outcome}
use Rattle.qfs_base.specs.declared.reply.ChunkAnswer.{ChunkAnswer}
use Rattle.qfs_base.specs.declared.reply.ChunkReply.{ChunkReply}
use Rattle.qfs_base.specs.declared.request.ChunkRequest.{ChunkRequest}
use Rattle.qfs_device.specs.Held.{Held}
use Rattle.qfs_model_server.specs.Server.{Answered, room_of, server_step}
use Rattle.qfs_store.specs.Known.{refusal}
use Rattle.qfs_store.specs.Serves.{IsLife, IsAllowed, IsDone, Answers, Serves}
use Rattle.qfs_store.specs.Stored.{Stored}
use Rattle.qfs_store.proofs.DoesLaws.{does_step}
use Rattle.qfs_store.proofs.StepLaws.{Led, life_told, refused_step, attempted}

-- what is refused in the life that was told is refused in the life of the device
refused_in_life : (request : ChunkRequest) (before : Stored) (now : ℕ) (held : Held) (due : Option ChunkAnswer) → IsLife now before.told → before.told ≡ Some held
    → refusal before.known now request ≡ due → refusal before.known held.life request ≡ due
refused_in_life request before now held due life told_is is =
    ap (λ (n : ℕ). refusal before.known n request) (sym (life_told now before.told held told_is life)) ∙ is

pub refused_serves : (request : ChunkRequest) (answer : ChunkAnswer) (room : List ℕ) (before : Stored) (now : ℕ) → IsLife now before.told
    → refusal before.known now request ≡ Some answer → room ≡ room_of request → Serves request (record { answer = answer; room = room }) before before
refused_serves request answer room before now life due same =
    let back : record { answer = answer; room = room } ≡ record { answer = answer; room = room_of request } = ap (λ (room : List ℕ). record { answer = answer; room = room }) same in
    record {
      now = now;
      life = life;
      answers = subst (λ (o : Option ChunkAnswer). Answers request (record { answer = answer; room = room }) before before o) (sym due) (back, refl);
      step = λ server held told_is stands.
          subst (λ (reply : ChunkReply). Led request reply before.stripe held before.told before.known server (server_step request (chunk_outcome answer) server)) (sym back)
          (refused_step request answer (chunk_outcome answer) before held server told_is stands (refused_in_life request before now held (Some answer) life told_is due));
      tells = refl;
    }

pub done_serves : (request : ChunkRequest) (reply : ChunkReply) (before after : Stored) (now : ℕ) → IsLife now before.told → refusal before.known now request ≡ None
    → IsDone request reply before after → is_some after.told ≡ is_some before.told → Serves request reply before after
done_serves request reply before after now life none done tells =
    let allowed : IsAllowed request before = record { now = now; life = life; none = none } in
    record {
      now = now;
      life = life;
      answers = subst (λ (o : Option ChunkAnswer). Answers request reply before after o) (sym none) done;
      step = λ server held told_is stands.
          subst (λ (step : Answered). Led request reply before.stripe held after.told after.known server step)
          (sym (attempted request (chunk_outcome reply.answer) before.stripe held before.known server stands (refused_in_life request before now held None life told_is none)))
          (does_step request reply before after server held allowed done.does told_is stands);
      tells = tells;
    }
