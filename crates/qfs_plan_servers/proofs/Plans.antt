-- Plans of one change for each of several things, behind a first one.
use Rattle.std.proofs.Common.{◌≡◌, ◌∙◌, ◌≤◌, ℕ, true, false, cond, nat_le, filter, List, [], ◌∷◌, ◌++◌, append_assoc, length, map, ap, refl, sym, subst, arith}
use Rattle.std.proofs.lemmas.Bool.Decides.{nat_tests}
use Rattle.std.proofs.lemmas.List.{append-nil}
use Rattle.qfs_base.specs.declared.change.Change.{Change}
use Rattle.qfs_base.specs.declared.change.Change.TheVariants as Made
use Rattle.qfs_base.specs.declared.chunk.ChunkKey.{ChunkKey}
use Rattle.qfs_base.specs.declared.image.Lease.{Lease}
use Rattle.qfs_base.specs.declared.image.MetaImage.{MetaImage}
use Rattle.qfs_base.specs.declared.reply.MetaReply.{MetaReply}
use Rattle.qfs_base.specs.declared.reply.MetaReply.TheVariants as Told
use Rattle.qfs_base.specs.Sizes.{LAST_U64}
use Rattle.qfs_model_meta.specs.Apply.{apply}
use Rattle.qfs_model_meta.specs.Counters.{risen}
use Rattle.qfs_model_meta.specs.Decision.{Decision, Makes, Tells}
use Rattle.qfs_model_meta.specs.Grammar.{IsServer}
use Rattle.qfs_model_meta.specs.Leases.{has_run_out, leases_over}
use Rattle.qfs_model_meta.specs.Servers.{server_at}
use Rattle.qfs_model_meta.specs.ServerRequests.{decide_hello, decide_left_on, decide_tick}
use Rattle.qfs_model_meta.specs.Slots.{count_on}
use Rattle.qfs_planning.specs.Deciding.{unless_true}
use Rattle.qfs_state.specs.declared.prepared.Plan.{Plan}
use Rattle.qfs_state.specs.declared.prepared.Prepared.{Prepared}
use Rattle.qfs_state.specs.declared.prepared.Prepared.TheVariants as Is
use Rattle.qfs_state.specs.Planning.{IsPlan, MayMake, MayMakeAll, change_of, changes_of}

-- changes that may be made at any time may be made one after another
pub each_may : {X : Type 0} (f : X → Prepared) → ((x : X) (m : MetaImage) → MayMake m (f x))
    → (items : List X) (m : MetaImage) → MayMakeAll m (map f items)
each_may f may [] m = tt
each_may f may (x ∷ items) m = (may x m, each_may f may items (apply m (change_of (f x))))

pub each_made : {X : Type 0} (f : X → Prepared) (g : X → Change)
    → ((x : X) → change_of (f x) ≡ g x)
    → (items : List X) → changes_of (map f items) ≡ map g items
each_made f g is [] = refl
each_made f g is (x ∷ items) = λ i. is x i ∷ each_made f g is items i

-- a plan of a first change and of one for each of several things
pub first_and_each : {X : Type 0} (first : Prepared) (f : X → Prepared) (g : X → Change)
    (items : List X) (m : MetaImage) (reply : MetaReply) (plan : Plan)
    → ((x : X) → change_of (f x) ≡ g x) → MayMake m first
    → ((x : X) (n : MetaImage) → MayMake n (f x))
    → plan.changes.items ≡ first ∷ map f items → plan.reply ≡ reply
    → IsPlan m (Makes (change_of first ∷ map g items) reply) plan
first_and_each first f g items m reply plan is begins may made replied = record {
  decided = (λ i. Makes (change_of first ∷ sym (each_made f g is items) i) reply)
      ∙ (λ i. Makes (changes_of (sym made i)) (sym replied i));
  may = subst (MayMakeAll m) (sym made)
      (begins, each_may f may items (apply m (change_of first)));
}

pub hello_plan : (server life count : ℕ) (keys : List ChunkKey) (m : MetaImage) (plan : Plan)
    → (server_at m.servers server).life ≤ life → IsServer (length m.servers) server
    → count_on server life m.slots ≡ count
    → plan.changes.items ≡ Is.ServerUp server life count ∷ map (Is.CondemnStray server life) keys
    → plan.reply ≡ Told.Done (length m.history)
    → IsPlan m (decide_hello server life keys m) plan
unfolding decide_hello
hello_plan server life count keys m plan known is counted made replied =
    let passes : nat_le (server_at m.servers server).life life ≡ true =
    grind (arith, nat_tests) in
    subst (λ (decision : Decision). IsPlan m decision plan)
    (sym (unless_true _ _ _ passes))
    (first_and_each (Is.ServerUp server life count) (Is.CondemnStray server life)
    (Made.CondemnStray server life) keys m (Told.Done (length m.history)) plan (λ _. refl)
    (record { server_there = is; counted = counted }) (λ _ _. tt) made replied)

-- what a decision counts as left on a server
left_of : Decision → ℕ
left_of (Tells (Told.Left count)) = count
left_of other = 0

pub left_counted : (m : MetaImage) (server life count : ℕ)
    → life ≡ (server_at m.servers server).life
    → decide_left_on server m ≡ Tells (Told.Left count) → count_on server life m.slots ≡ count
unfolding decide_left_on left_of
left_counted m server life count same is =
    ap (λ l. count_on server l m.slots) same ∙ ap left_of is

-- the leases that are over, one after another
pub over_next : (now : ℕ) (lease : Lease) (leases : List Lease) → has_run_out now lease ≡ true
    → leases_over now (lease ∷ leases) ≡ lease.lease ∷ leases_over now leases
unfolding leases_over
over_next now lease leases is =
    ap (λ b. map (λ (l : Lease). l.lease)
    (cond b (lease ∷ filter (has_run_out now) leases) (filter (has_run_out now) leases))) is

pub not_over_next : (now : ℕ) (lease : Lease) (leases : List Lease)
    → has_run_out now lease ≡ false
    → leases_over now (lease ∷ leases) ≡ leases_over now leases
unfolding leases_over
not_over_next now lease leases is =
    ap (λ b. map (λ (l : Lease). l.lease)
    (cond b (lease ∷ filter (has_run_out now) leases) (filter (has_run_out now) leases))) is

pub none_over : (now : ℕ) → leases_over now [] ≡ []
unfolding leases_over
none_over now = refl

pub ruleset over_steps = (over_next, not_over_next, none_over)

pub tick_plan : (m : MetaImage) (plan : Plan)
    → plan.changes.items
    ≡ Is.ClockTicks ∷ map Is.EndLease (leases_over (risen LAST_U64 m.clock) m.leases)
    → plan.reply ≡ Told.Clock (risen LAST_U64 m.clock)
    → IsPlan m (decide_tick m) plan
unfolding decide_tick
tick_plan m plan made replied =
    first_and_each Is.ClockTicks Is.EndLease Made.EndLease
    (leases_over (risen LAST_U64 m.clock) m.leases) m (Told.Clock (risen LAST_U64 m.clock)) plan
    (λ _. refl) tt (λ _ _. tt) made replied

-- a lease that is over got its change, and at the end all have
pub over_pushed : (now : ℕ) (lease row : Lease) (changes longer whole : List Prepared)
    (rest before : List Lease) → has_run_out now lease ≡ true → lease ≡ row
    → longer ≡ changes ++ Is.EndLease lease.lease ∷ [] → before ≡ row ∷ rest
    → changes ++ map Is.EndLease (leases_over now before) ≡ whole
    → longer ++ map Is.EndLease (leases_over now rest) ≡ whole
over_pushed now lease row changes longer whole rest before is same pushed steps kept =
    ap (λ front. front ++ map Is.EndLease (leases_over now rest)) pushed
    ∙ append_assoc changes (Is.EndLease lease.lease ∷ [])
    (map Is.EndLease (leases_over now rest))
    ∙ ap (λ numbers. changes ++ map Is.EndLease numbers) (sym (over_next now lease rest is))
    ∙ ap (λ leases. changes ++ map Is.EndLease (leases_over now leases))
    (ap (λ l. l ∷ rest) same ∙ sym steps)
    ∙ kept

pub over_done : (now : ℕ) (changes whole : List Prepared) (before : List Lease) → before ≡ []
    → changes ++ map Is.EndLease (leases_over now before) ≡ whole → changes ≡ whole
over_done now changes whole before steps kept =
    sym (append-nil changes)
    ∙ ap (λ numbers. changes ++ map Is.EndLease numbers) (sym (none_over now))
    ∙ ap (λ leases. changes ++ map Is.EndLease (leases_over now leases)) (sym steps)
    ∙ kept
