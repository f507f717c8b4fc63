-- What becomes of the census where a server goes or comes, and what leaves it alone. Cited by
-- whoever keeps a census beside the servers.
use Rattle.std.proofs.Common.{◌≡◌, ℕ, List, refl, sym, ap, length}
use Rattle.std.specs.Prelude.{⊤}
use Rattle.qfs_base.specs.declared.change.Change.{Change}
use Rattle.qfs_base.specs.declared.change.Change.TheVariants.{AddDirectory, TakeDirectory, AddFile, MovePath, GiveLease, EndLease, MarkOrdered, TakeCondemned, CondemnStray, ServerUp, ServerDown, ServerLeaves, ServerSleeps, ClockTicks, DropActor}
use Rattle.qfs_base.specs.declared.image.Load.{Load}
use Rattle.qfs_base.specs.declared.image.MetaImage.{MetaImage}
use Rattle.qfs_base.specs.declared.image.ServerView.{ServerView}
use Rattle.qfs_base.specs.declared.image.SlotRow.{SlotRow}
use Rattle.qfs_laws_slots.specs.Losing.{stray-frame}
use Rattle.qfs_laws_slots.specs.Servers.{server-cases, change-length}
use Rattle.qfs_model_meta.specs.Apply.{apply, write_entry, add_file, finish_lease, bring_up}
use Rattle.qfs_model_meta.specs.Grammar.{IsServer}
use Rattle.qfs_model_meta.specs.Placing.{load_of, census}
use Rattle.qfs_model_meta.specs.Servers.{server_at, change_server, server_up, server_down, server_leaving, server_asleep}
use Rattle.qfs_model_meta.specs.Slots.{count_on}
use Rattle.qfs_place.specs.ChangeLaws.{census_of}
use Rattle.qfs_place.specs.LoadLaws.{census_moved}
use Rattle.qfs_place.specs.Loads.{change_load, seen_as, counted_as}

-- a server that changed, where the slots stay
changed_census : (see : Load → Load) (change : ServerView → ServerView) (servers : List ServerView)
    (slots : List SlotRow) (s : ℕ) → IsServer (length servers) s
    → load_of slots s (change (server_at servers s)) ≡ see (load_of slots s (server_at servers s))
    → census (change_server change servers s) slots ≡ change_load see (census servers slots) s
changed_census see change servers slots s is own =
    census_moved see s servers (change_server change servers s) slots slots
    (change-length change servers s)
    (server-cases
    (λ (view : ServerView). load_of slots s view ≡ see (load_of slots s (server_at servers s)))
    change servers s s is (λ _. own) (λ differs. absurd (differs refl)))
    (λ n differs. server-cases
    (λ (view : ServerView). load_of slots n view ≡ load_of slots n (server_at servers n))
    change servers s n is (λ e. absurd (differs (sym e))) (λ _. refl))

seen_load : (slots : List SlotRow) (s : ℕ) (before after : ServerView) → after.life ≡ before.life
    → load_of slots s after ≡ seen_as after (load_of slots s before)
unfolding load_of
seen_load slots s before after same = λ i.
    record { up = after.up; leaving = after.leaving; count = count_on s (same i) slots }

counted_load : (slots : List SlotRow) (s : ℕ) (before after : ServerView)
    (count : ℕ) → count_on s after.life slots ≡ count
    → load_of slots s after ≡ counted_as after count (load_of slots s before)
unfolding load_of
counted_load slots s before after count is = λ i.
    record { up = after.up; leaving = after.leaving; count = is i }

-- a server that came up again in the life that was known keeps its load
pub up_again_census : (m : MetaImage) (server life : ℕ) → IsServer (length m.servers) server
    → life ≡ (server_at m.servers server).life
    → census_of (apply m (ServerUp server life))
    ≡ change_load (seen_as (server_up life (server_at m.servers server))) (census_of m) server
unfolding apply bring_up server_up
up_again_census m server life is same =
    let after : ServerView = server_up life (server_at m.servers server) in
    changed_census (seen_as after) (server_up life) m.servers m.slots server is
    (seen_load m.slots server (server_at m.servers server) after same)

-- one that came up in a new life has the copies that stand there in this life, of which a sound
-- state has none
pub up_anew_census : (m : MetaImage) (server life count : ℕ) → IsServer (length m.servers) server
    → count_on server life m.slots ≡ count
    → census_of (apply m (ServerUp server life))
    ≡ change_load (counted_as (server_up life (server_at m.servers server)) count) (census_of m)
    server
unfolding apply bring_up server_up
up_anew_census m server life count is counted =
    let after : ServerView = server_up life (server_at m.servers server) in
    changed_census (counted_as after count) (server_up life) m.servers m.slots server is
    (counted_load m.slots server (server_at m.servers server) after count counted)

-- one that goes down, leaves or hibernates keeps its load
pub down_census : (m : MetaImage) (server : ℕ) → IsServer (length m.servers) server
    → census_of (apply m (ServerDown server))
    ≡ change_load (seen_as (server_down (server_at m.servers server))) (census_of m) server
unfolding apply server_down
down_census m server is =
    let after : ServerView = server_down (server_at m.servers server) in
    changed_census (seen_as after) server_down m.servers m.slots server is
    (seen_load m.slots server (server_at m.servers server) after refl)

pub leaving_census : (m : MetaImage) (server : ℕ) → IsServer (length m.servers) server
    → census_of (apply m (ServerLeaves server))
    ≡ change_load (seen_as (server_leaving (server_at m.servers server))) (census_of m) server
unfolding apply server_leaving
leaving_census m server is =
    let after : ServerView = server_leaving (server_at m.servers server) in
    changed_census (seen_as after) server_leaving m.servers m.slots server is
    (seen_load m.slots server (server_at m.servers server) after refl)

pub asleep_census : (m : MetaImage) (server until : ℕ) → IsServer (length m.servers) server
    → census_of (apply m (ServerSleeps server until))
    ≡ change_load (seen_as (server_asleep until (server_at m.servers server))) (census_of m) server
unfolding apply server_asleep
asleep_census m server until is =
    let after : ServerView = server_asleep until (server_at m.servers server) in
    changed_census (seen_as after) (server_asleep until) m.servers m.slots server is
    (seen_load m.slots server (server_at m.servers server) after refl)

-- the changes of neither servers nor slots
abbrev pub LeavesLoads : Change → Type 0
LeavesLoads (AddDirectory path) = ⊤
LeavesLoads (TakeDirectory path) = ⊤
LeavesLoads (AddFile path actor command len) = ⊤
LeavesLoads (MovePath from to) = ⊤
LeavesLoads (GiveLease actor file until) = ⊤
LeavesLoads (EndLease lease) = ⊤
LeavesLoads (MarkOrdered number) = ⊤
LeavesLoads (TakeCondemned number) = ⊤
LeavesLoads (CondemnStray server life key) = ⊤
LeavesLoads ClockTicks = ⊤
LeavesLoads (DropActor actor) = ⊤
LeavesLoads change = ⊥

pub others_census : (m : MetaImage) (change : Change) → LeavesLoads change
    → census_of (apply m change) ≡ census_of m
unfolding apply write_entry add_file finish_lease
others_census m (AddDirectory path) is = refl
others_census m (TakeDirectory path) is = refl
others_census m (AddFile path actor command len) is = refl
others_census m (MovePath from to) is = refl
others_census m (GiveLease actor file until) is = refl
others_census m (EndLease lease) is = refl
others_census m (MarkOrdered number) is = refl
others_census m (TakeCondemned number) is = refl
others_census m (CondemnStray server life key) is = ap census_of (stray-frame server life key m)
others_census m ClockTicks is = refl
others_census m (DropActor actor) is = refl
others_census m _ is = absurd is
