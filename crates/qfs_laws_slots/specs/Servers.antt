-- The list of servers after one of them changed. Cited by the laws of the metaserver.
use Rattle.qfs_base.specs.declared.image.ServerView.{ServerView}
use Rattle.qfs_model_meta.specs.Grammar.{IsServer}
use Rattle.qfs_model_meta.specs.Servers.{change_server, no_server, server_at}
use Rattle.std.proofs.Common.{List, ap, arith, length, refl, subst, suc, sym, zero, ℕ, ⊎_elim, ◌≡◌}
use Rattle.std.proofs.lemmas.Bool.{cases_eq}
use Rattle.std.proofs.lemmas.List.{get_or-set_other, get_or-set_same, length-set}
use Rattle.std.specs.Prelude.{slice_index_or, slice_set}

-- a server after one of them changed
pub server-cases : (P : ServerView → Type 0) (change : ServerView → ServerView)
    (servers : List ServerView) (s t : ℕ)
    → IsServer (length servers) s
    → (s ≡ t → P (change (server_at servers t))) → ((s ≡ t → ⊥) → P (server_at servers t)) → P
    (server_at (change_server change servers s) t)
unfolding server_at change_server
server-cases P change servers zero t is same other = absurd (omega (arith, is.0))
server-cases P change servers (suc s) zero is same other = other (λ e. omega arith)
server-cases P change servers (suc s) (suc t) is same other =
    ⊎_elim
    (λ e. subst (λ k. P (slice_index_or
    (slice_set servers s (change (slice_index_or servers s no_server))) k no_server)) e
    (subst P (sym (get_or-set_same servers s (change (slice_index_or servers s no_server)) no_server
    (omega (arith, is.1)))) (subst (λ k. P (change (slice_index_or servers k no_server))) (sym e)
    (same (ap suc e)))))
    (λ differs. subst P (sym (get_or-set_other servers s t
    (change (slice_index_or servers s no_server)) no_server (λ e. differs (sym e))))
    (other (λ e. differs (omega arith))))
    (cases_eq s t)

pub change-length : (change : ServerView → ServerView) (servers : List ServerView) (s : ℕ)
    → length (change_server change servers s) ≡ length servers
unfolding change_server
change-length change servers zero = refl
change-length change servers (suc s) = length-set servers s _
