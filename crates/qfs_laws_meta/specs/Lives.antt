-- The life of a grant is at most the known life of its server: every change keeps it. For the law
-- `stays_sound`.
use Rattle.qfs_base.specs.declared.change.Change.{Change}
use Rattle.qfs_base.specs.declared.change.Change.TheVariants.{AddDirectory, CondemnStray}
use Rattle.qfs_base.specs.declared.change.Change.TheVariants.{ConfirmSlot, EmptySlot, FailGrant}
use Rattle.qfs_base.specs.declared.change.Change.TheVariants.{GiveUp, GrantSlot, ServerDown}
use Rattle.qfs_base.specs.declared.change.Change.TheVariants.{ServerLeaves, ServerSleeps, ServerUp}
use Rattle.qfs_base.specs.declared.image.MetaImage.{MetaImage}
use Rattle.qfs_base.specs.declared.image.ServerView.{ServerView}
use Rattle.qfs_model_meta.specs.Apply.{add_file, apply, bring_up, finish_lease, grant_slot}
use Rattle.qfs_model_meta.specs.Apply.{with_slots, write_entry}
use Rattle.qfs_model_meta.specs.Grammar.{IsServer}
use Rattle.qfs_model_meta.specs.Past.{Past, SlotCopy, with_copy}
use Rattle.qfs_model_meta.specs.Servers.{change_server, server_asleep, server_at, server_down}
use Rattle.qfs_model_meta.specs.Servers.{server_leaving, server_up}
use Rattle.qfs_model_meta.specs.Sound.{LivesRise}
use Rattle.std.proofs.Common.{ap, arith, length, subst, ℕ, ◌≡◌, ◌≤◌}
use Rattle.qfs_laws_slots.specs.Changes.{MayMake, told}
use Rattle.qfs_laws_slots.specs.Losing.{losing-frame, stray-frame}
use Rattle.qfs_laws_slots.specs.Servers.{server-cases}
use Rattle.qfs_base.specs.EachLaws.{each_weaker}
use Rattle.qfs_laws_tables.specs.EachRow.{each_push}

-- servers whose lives have not fallen
lives-rise : (past : Past) (m n : MetaImage)
    → ((s : ℕ) → (server_at m.servers s).life ≤ (server_at n.servers s).life) → LivesRise past m
    → LivesRise past n
lives-rise past m n rise h =
    each_weaker _ _ (λ (g : SlotCopy) l. less _ _ _ l (rise g.copy.server)) past.granted h
  where
    less : (a b c : ℕ) → a ≤ b → b ≤ c → a ≤ c
    less a b c p q = omega arith

pub changed-server : (change : ServerView → ServerView) (m : MetaImage) (server s : ℕ)
    → IsServer (length m.servers) server
    → ((server_at m.servers server).life ≤ (change (server_at m.servers server)).life)
    → (server_at m.servers s).life ≤ (server_at (change_server change m.servers server) s).life
changed-server change m server s is rises =
    server-cases (λ v. (server_at m.servers s).life ≤ v.life) change m.servers server s is
    (λ same. subst (λ k. (server_at m.servers k).life ≤ (change (server_at m.servers k)).life) same
    rises) (λ _. omega arith)

same-lives : (past : Past) (m n : MetaImage) → n.servers ≡ m.servers → LivesRise past m
    → LivesRise past n
same-lives past m n same h =
    lives-rise past m n (λ s. let e : (server_at n.servers s).life ≡ (server_at m.servers s).life =
    ap (λ vs. (server_at vs s).life) same in omega arith) h

pub kept-lives : (past : Past) (m : MetaImage) (change : Change) → MayMake past m change
    → LivesRise past m → LivesRise (told change m past) (apply m change)
unfolding apply write_entry add_file with_slots finish_lease bring_up grant_slot with_copy server_up
    server_down server_leaving server_asleep
kept-lives past m (GrantSlot block slot server actor lease) may h =
    each_push _ past.granted _ h (omega arith)
kept-lives past m (ServerUp server life) may h =
    lives-rise past m (apply m (ServerUp server life))
    (λ s. changed-server (server_up life) m server s may.0 may.1) h
kept-lives past m (ServerDown server) may h =
    lives-rise past m (apply m (ServerDown server))
    (λ s. changed-server server_down m server s may (omega arith)) h
kept-lives past m (ServerLeaves server) may h =
    lives-rise past m (apply m (ServerLeaves server))
    (λ s. changed-server server_leaving m server s may (omega arith)) h
kept-lives past m (ServerSleeps server until) may h =
    lives-rise past m (apply m (ServerSleeps server until))
    (λ s. changed-server (server_asleep until) m server s may (omega arith)) h
kept-lives past m (FailGrant block slot) may h =
    same-lives past m (apply m (FailGrant block slot))
    (ap (λ (n : MetaImage). n.servers) (losing-frame m (FailGrant block slot) tt).is) h
kept-lives past m (GiveUp block slot) may h =
    same-lives past m (apply m (GiveUp block slot))
    (ap (λ (n : MetaImage). n.servers) (losing-frame m (GiveUp block slot) tt).is) h
kept-lives past m (ConfirmSlot block slot) may h =
    same-lives past m (apply m (ConfirmSlot block slot))
    (ap (λ (n : MetaImage). n.servers) (losing-frame m (ConfirmSlot block slot) tt).is) h
kept-lives past m (EmptySlot block slot) may h =
    same-lives past m (apply m (EmptySlot block slot))
    (ap (λ (n : MetaImage). n.servers) (losing-frame m (EmptySlot block slot) tt).is) h
kept-lives past m (CondemnStray server life key) may h =
    same-lives past m (apply m (CondemnStray server life key))
    (ap (λ (n : MetaImage). n.servers) (stray-frame server life key m)) h
kept-lives past m (AddDirectory path) may h = h
kept-lives past m _ may h = h
