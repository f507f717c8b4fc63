-- A store stays sound: where it stood for a server it stands for the one after the step, and where it waits for its first
-- Start or Wipe it goes on to wait.
use Rattle.std.proofs.Common.{◌≡◌, ℕ, true, Option, Some, is_some, inl, inr, sym, ap, subst, ◌∙◌, true≢false}
use Rattle.std.proofs.lemmas.Option.{same_Some}
use Rattle.qfs_base.specs.declared.reply.ChunkReply.{ChunkReply}
use Rattle.qfs_base.specs.declared.request.ChunkRequest.{ChunkRequest}
use Rattle.qfs_device.specs.Held.{Held}
use Rattle.qfs_model_server.specs.Server.{Server, Answered}
use Rattle.qfs_store.specs.Known.{Known}
use Rattle.qfs_store.specs.Stored.{StandsOn, IsUnread, IsConsistent}
use Rattle.qfs_store.proofs.ReadLaws.{some_of}
use Rattle.qfs_store.proofs.StepLaws.{Led}

pub consistent_after : (request : ChunkRequest) (reply : ChunkReply) (stripe : ℕ) (told told' : Option Held) (known known' : Known) (act : Server → Answered) → is_some told' ≡ is_some told
    → ((server : Server) (held : Held) → told ≡ Some held → StandsOn stripe held known server → Led request reply stripe held told' known' server (act server))
    → (IsUnread known → IsConsistent stripe told' known') → IsConsistent stripe told known → IsConsistent stripe told' known'
consistent_after request reply stripe told told' known known' act tells step unread consistent held now_is =
    let before = some_of told (sym tells ∙ ap is_some now_is) in
    elim (consistent before.0 before.1) [
      | inl stood ↦
          let led = step stood.0 before.0 before.1 stood.1 in
          let same : led.0 ≡ held = same_Some led.0 held (sym led.1 ∙ now_is) in
          inl ((act stood.0).server, subst (λ (h : Held). StandsOn stripe h known' (act stood.0).server) same led.2.stands)
      | inr waits ↦ unread waits held now_is
    ]

-- a server that is up doesn't wait
pub not_unread : {A : Type 0} (known : Known) → known.up ≡ true → IsUnread known → A
not_unread known up waits = absurd (true≢false (sym up ∙ waits.down))
