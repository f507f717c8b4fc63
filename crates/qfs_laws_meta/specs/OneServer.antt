-- The live copies and grants of a block stand on different servers: every change keeps it. For the
-- law `stays_sound`.
use Rattle.qfs_base.specs.Key.{block_cmp}
use Rattle.qfs_base.specs.KeyLaws.{block_cmp-Equal}
use Rattle.qfs_base.specs.Table.{Each, IsRising}
use Rattle.qfs_base.specs.declared.change.Change.{Change}
use Rattle.qfs_base.specs.declared.change.Change.TheVariants.{AbortFile, AddDirectory, CloseFile}
use Rattle.qfs_base.specs.declared.change.Change.TheVariants.{CondemnStray, ConfirmSlot, EmptySlot}
use Rattle.qfs_base.specs.declared.change.Change.TheVariants.{FailGrant, GiveUp, GrantSlot}
use Rattle.qfs_base.specs.declared.change.Change.TheVariants.{RemoveFile, ServerDown, ServerLeaves}
use Rattle.qfs_base.specs.declared.change.Change.TheVariants.{ServerSleeps, ServerUp}
use Rattle.qfs_base.specs.declared.chunk.BlockId.{BlockId}
use Rattle.qfs_base.specs.declared.chunk.Copy.{Copy}
use Rattle.qfs_base.specs.declared.image.MetaImage.{MetaImage}
use Rattle.qfs_base.specs.declared.image.ServerView.{ServerView}
use Rattle.qfs_base.specs.declared.image.SlotRecord.{SlotRecord}
use Rattle.qfs_base.specs.declared.image.SlotRow.{SlotRow}
use Rattle.qfs_model_meta.specs.Apply.{add_file, apply, bring_up, finish_lease, grant_slot}
use Rattle.qfs_model_meta.specs.Apply.{with_slots, write_entry}
use Rattle.qfs_model_meta.specs.Grammar.{IsServer}
use Rattle.qfs_model_meta.specs.Past.{Past}
use Rattle.qfs_model_meta.specs.Servers.{change_server, is_live, server_asleep, server_at}
use Rattle.qfs_model_meta.specs.Servers.{server_down, server_leaving, server_up}
use Rattle.qfs_model_meta.specs.Slots.{change_slot, change_state, copies_of_block, forget_file}
use Rattle.qfs_model_meta.specs.Slots.{granted_copy, granted_slot, is_of_block, is_of_file, is_slot}
use Rattle.qfs_model_meta.specs.Slots.{never_granted, seal_file, sealed_slot, slot_at, slot_cmp}
use Rattle.qfs_model_meta.specs.Slots.{with_slot}
use Rattle.qfs_model_meta.specs.Sound.{OneServerEach, live_servers}
use Rattle.std.proofs.Common.{Bool, List, [], ap, arith, false, filter, length, nat_eq, not, refl}
use Rattle.std.proofs.Common.{subst, sym, true, ℕ, ◌++◌, ◌+◌, ◌==◌, ◌∙◌, ◌∷◌, ◌≡◌, ◌≤◌}
use Rattle.std.proofs.lemmas.Bool.{eq-eqb, eqb-true}
use Rattle.std.specs.Option.{option_to_list}
use Rattle.std.specs.Ordering.{is_eq}
use Rattle.std.specs.Prelude.{flat_map}
use Rattle.qfs_laws_slots.specs.Changes.{MayGrant, MayMake}
use Rattle.qfs_laws_slots.specs.Losing.{IsLosing, losing-frame, losing-slots, stray-frame}
use Rattle.qfs_laws_slots.specs.Losses.{Loses, sealed-loses}
use Rattle.qfs_laws_slots.specs.Servers.{server-cases}
use Rattle.qfs_laws_slots.specs.Slots.{total-placed}
use Rattle.qfs_laws_tables.specs.Distinct.{copies, distinct-once, once-distinct, one_if}
use Rattle.qfs_laws_tables.specs.Keys.{equal-is}
use Rattle.qfs_laws_tables.specs.Sums.{changed-fewer, total, total-append, total-filter}
use Rattle.qfs_laws_tables.specs.Sums.{total-filter-le, total-flat_map, total-le, total-map}
use Rattle.qfs_laws_tables.specs.Sums.{weigh_if}

-- how many live copies and grants of a block a row has on a server
abbrev pub stands_on : List ServerView → ℕ → Copy → ℕ
stands_on servers n copy = weigh_if (is_live servers copy) (one_if (nat_eq copy.server n))

abbrev pub copies_of : SlotRecord → List Copy
copies_of state = option_to_list state.current ++ option_to_list (granted_copy state.grant)

abbrev pub row_weight : List ServerView → BlockId → ℕ → SlotRow → ℕ
row_weight servers block n row =
    weigh_if (is_of_block block row) (total (stands_on servers n) (copies_of row.state))

abbrev pub live_count : List ServerView → BlockId → ℕ → List SlotRow → ℕ
live_count servers block n slots = total (row_weight servers block n) slots

pub live-count : (block : BlockId) (n : ℕ) (m : MetaImage)
    → copies n (live_servers block m.servers m.slots) ≡ live_count m.servers block n m.slots
unfolding live_servers copies_of_block
live-count block n m =
    total-map (λ k. one_if (nat_eq k n)) (λ (copy : Copy). copy.server)
    (filter (is_live m.servers) (flat_map (λ (row : SlotRow). copies_of row.state)
    (filter (is_of_block block) m.slots)))
    ∙ total-filter (λ (copy : Copy). one_if (nat_eq copy.server n)) (is_live m.servers)
    (flat_map (λ (row : SlotRow). copies_of row.state) (filter (is_of_block block) m.slots))
    ∙ total-flat_map (stands_on m.servers n) (λ (row : SlotRow). copies_of row.state)
    (filter (is_of_block block) m.slots)
    ∙ total-filter (λ (row : SlotRow). total (stands_on m.servers n) (copies_of row.state))
    (is_of_block block) m.slots

abbrev pub OneEach : List ServerView → List SlotRow → Type 0
OneEach servers slots = (block : BlockId) (n : ℕ) → live_count servers block n slots ≤ 1

pub one-each : (m : MetaImage) → OneServerEach m → OneEach m.servers m.slots
one-each m h block n =
    let d = distinct-once (live_servers block m.servers m.slots) (h block) n in let e = live-count
    block n m in omega arith

pub each-one : (m : MetaImage) → OneEach m.servers m.slots → OneServerEach m
each-one m h block =
    once-distinct (live_servers block m.servers m.slots)
    (λ n. let d = h block n in let e = live-count block n m in omega arith)

-- ---- rows with fewer copies

lost-fewer : (servers : List ServerView) (block : BlockId) (n : ℕ)
    (change : SlotRecord → SlotRecord)
    → Loses change → (row : SlotRow)
    → row_weight servers block n (change_state change row) ≤ row_weight servers block n row
unfolding change_state is_of_block
lost-fewer servers block n change loses row =
    let f = loses.fewer (stands_on servers n) row.state in
    let a = total-append (stands_on servers n) (option_to_list row.state.current)
    (option_to_list (granted_copy row.state.grant)) in
    let b = total-append (stands_on servers n) (option_to_list (change row.state).current)
    (option_to_list (granted_copy (change row.state).grant)) in
    elim (is_eq (block_cmp block row.block)) as
    (λ t. weigh_if t (total (stands_on servers n) (copies_of (change row.state))) ≤ weigh_if t
    (total (stands_on servers n) (copies_of row.state))) [
      | true ↦ omega arith
      | false ↦ omega arith
    ]

pub one-losing : (servers : List ServerView) (m : MetaImage) (change : Change) → IsLosing change
    → OneEach servers m.slots → OneEach servers (apply m change).slots
unfolding change_slot
one-losing servers m change is h block n =
    losing-slots (λ rows. live_count servers block n rows ≤ 1)
    (λ change loses other slot rows one. let f = changed-fewer (row_weight servers block n)
    (is_slot other slot) (change_state change) (lost-fewer servers block n change loses) rows in
    omega arith)
    m change is (h block n)

-- ---- a grant

pub one-granted : (block : BlockId) (slot server actor lease : ℕ) (m : MetaImage)
    → IsRising slot_cmp m.slots → MayGrant m block slot server actor lease
    → OneEach m.servers m.slots
    → OneEach m.servers (grant_slot block slot server actor lease m).slots
unfolding grant_slot with_slots granted_slot is_of_block granted_copy never_granted
one-granted block slot server actor lease m rising may h other n =
    let old : SlotRecord = slot_at m.slots block slot in
    let life : ℕ = (server_at m.servers server).life in
    let w : SlotRow → ℕ = row_weight m.servers other n in
    let e = total-placed w block slot (granted_slot server life actor lease old) m.slots rising
    (none (is_eq (block_cmp other block))) in
    let o = h other n in
    let free : total (stands_on m.servers n) (option_to_list (granted_copy old.grant)) ≡ 0 = ap
    (λ g. total (stands_on m.servers n) (option_to_list (granted_copy g))) may.free in
    let a = total-append (stands_on m.servers n) (option_to_list old.current)
    (option_to_list (granted_copy old.grant)) in
    let new : Copy = record { server = server; life = life; version = old.next } in
    let b = total-append (stands_on m.servers n) (option_to_list old.current) (new ∷ []) in
    (elim (is_eq (block_cmp other block)) as (λ t. is_eq (block_cmp other block) ≡ t
    → total w (with_slot block slot (granted_slot server life actor lease old) m.slots) + weigh_if t
    (total (stands_on m.servers n) (copies_of old)) ≡ live_count m.servers other n m.slots +
    weigh_if t (total (stands_on m.servers n) (option_to_list old.current ++ new ∷ []))
    → total w (with_slot block slot (granted_slot server life actor lease old) m.slots) ≤ 1) [
      | true ↦ λ is e.
          (elim (nat_eq server n) as (λ t. nat_eq server n ≡ t → total w
          (with_slot block slot (granted_slot server life actor lease old) m.slots) ≤ 1) [
            | true ↦ λ same.
                let none : live_count m.servers other n m.slots ≡ 0 = subst
                (λ k. live_count m.servers k n m.slots ≡ 0)
                (sym (block_cmp-Equal other block (equal-is _ is)))
                (subst (λ k. live_count m.servers block k m.slots ≡ 0) (eqb-true server n same)
                (sym (live-count block server m) ∙ may.apart)) in
                let one : stands_on m.servers n new ≤ 1 = most (is_live m.servers new)
                (nat_eq server n) in
                omega arith
            | false ↦ λ differs.
                let zero_new : stands_on m.servers n new ≡ 0 = nothing (is_live m.servers new)
                (nat_eq server n) differs in
                omega arith
          ]) refl
      | false ↦ λ _ e. omega arith
    ]) refl e
  where
    none : (b : Bool) → weigh_if b 0 ≡ 0
    none true = refl
    none false = refl

    most : (a b : Bool) → weigh_if a (one_if b) ≤ 1
    most true true = omega arith
    most true false = omega arith
    most false b = omega arith

    nothing : (a b : Bool) → b ≡ false → weigh_if a (one_if b) ≡ 0
    nothing true b e = ap one_if e
    nothing false b e = refl

-- ---- servers

-- a server's change leaves no more copies live
same-live : (servers more : List ServerView) (block : BlockId) (n : ℕ) (P : Copy → Type 0)
    → ((copy : Copy) → P copy → stands_on more n copy ≤ stands_on servers n copy)
    → (rows : List SlotRow)
    → Each (λ (row : SlotRow). Each P (copies_of row.state)) rows → live_count more block n rows ≤
    live_count servers block n rows
same-live servers more block n P fewer rows each =
    total-le (λ (row : SlotRow). Each P (copies_of row.state)) (row_weight more block n)
    (row_weight servers block n)
    (λ row h. let f = total-le P (stands_on more n) (stands_on servers n) fewer
    (copies_of row.state) h in one (is_of_block block row) _ _ f) rows each
  where
    one : (b : Bool) (x y : ℕ) → x ≤ y → weigh_if b x ≤ weigh_if b y
    one true x y l = l
    one false x y l = omega arith

-- no copy lives above the known life of its server
abbrev pub KnownLife : List ServerView → Copy → Type 0
KnownLife servers copy = copy.life ≤ (server_at servers copy.server).life

risen-live : (server life n : ℕ) (m : MetaImage) → IsServer (length m.servers) server
    → (server_at m.servers server).life ≤ life → (copy : Copy) → KnownLife m.servers copy
    → stands_on (change_server (server_up life) m.servers server) n copy ≤ stands_on m.servers n
    copy
unfolding is_live server_up
risen-live server life n m is rises copy known =
    server-cases (λ v. weigh_if (copy.life == v.life) (one_if (nat_eq copy.server n)) ≤ weigh_if
    (copy.life == (server_at m.servers copy.server).life) (one_if (nat_eq copy.server n)))
    (server_up life) m.servers server copy.server is
    (λ same.
    let e : (server_at m.servers server).life ≡ (server_at m.servers copy.server).life = ap
    (λ k. (server_at m.servers k).life) same in
    (elim (copy.life == life) as (λ b. (copy.life == life) ≡ b → weigh_if b
    (one_if (nat_eq copy.server n)) ≤ weigh_if (copy.life == (server_at m.servers copy.server).life)
    (one_if (nat_eq copy.server n))) [
      | true ↦ λ at. let f : copy.life ≡ life = eqb-true _ _ at in
          let t : (copy.life == (server_at m.servers copy.server).life) ≡ true = eq-eqb _ _
          (omega arith) in
          subst (λ b. weigh_if true (one_if (nat_eq copy.server n)) ≤ weigh_if b
          (one_if (nat_eq copy.server n))) (sym t) (omega arith)
      | false ↦ λ _. omega arith
    ]) refl)
    (λ _. omega arith)

kept-life : (change : ServerView → ServerView) → ((v : ServerView) → (change v).life ≡ v.life)
    → (server n : ℕ) (m : MetaImage) → IsServer (length m.servers) server → (copy : Copy)
    → stands_on (change_server change m.servers server) n copy ≤ stands_on m.servers n copy
unfolding is_live
kept-life change same server n m is copy =
    server-cases (λ v. weigh_if (copy.life == v.life) (one_if (nat_eq copy.server n)) ≤ weigh_if
    (copy.life == (server_at m.servers copy.server).life) (one_if (nat_eq copy.server n))) change
    m.servers server copy.server is
    (λ _. subst (λ k. weigh_if (copy.life == k) (one_if (nat_eq copy.server n)) ≤ weigh_if
    (copy.life == (server_at m.servers copy.server).life) (one_if (nat_eq copy.server n)))
    (sym (same _)) (omega arith))
    (λ _. omega arith)

losing-one : (m : MetaImage) (change : Change) → IsLosing change → OneEach m.servers m.slots
    → OneEach (apply m change).servers (apply m change).slots
losing-one m change is h =
    subst (λ servers. OneEach servers (apply m change).slots)
    (sym (ap (λ (n : MetaImage). n.servers) (losing-frame m change is).is))
    (one-losing m.servers m change is h)

granted-one : (block : BlockId) (slot server actor lease : ℕ) (m : MetaImage)
    → OneEach m.servers (grant_slot block slot server actor lease m).slots
    → OneEach (grant_slot block slot server actor lease m).servers
    (grant_slot block slot server actor lease m).slots
unfolding grant_slot with_slots
granted-one block slot server actor lease m h = h

pub kept-one : (past : Past) (m : MetaImage) (change : Change) → MayMake past m change
    → IsRising slot_cmp m.slots
    → Each (λ (row : SlotRow). Each (KnownLife m.servers) (copies_of row.state)) m.slots
    → OneEach m.servers m.slots → OneEach (apply m change).servers (apply m change).slots
unfolding apply write_entry add_file with_slots finish_lease bring_up server_down server_leaving
    server_asleep seal_file forget_file
kept-one past m (GrantSlot block slot server actor lease) may rising known h =
    granted-one block slot server actor lease m
    (one-granted block slot server actor lease m rising may h)
kept-one past m (FailGrant block slot) may rising known h = losing-one m (FailGrant block slot) tt h
kept-one past m (GiveUp block slot) may rising known h = losing-one m (GiveUp block slot) tt h
kept-one past m (ConfirmSlot block slot) may rising known h =
    losing-one m (ConfirmSlot block slot) tt h
kept-one past m (EmptySlot block slot) may rising known h = losing-one m (EmptySlot block slot) tt h
kept-one past m (CloseFile file actor command) may rising known h =
    λ block n. let o = h block n in let f = changed-fewer (row_weight m.servers block n)
    (is_of_file file) (change_state sealed_slot)
    (lost-fewer m.servers block n sealed_slot sealed-loses) m.slots in omega arith
kept-one past m (AbortFile file) may rising known h =
    λ block n. let o = h block n in let f = total-filter-le (row_weight m.servers block n)
    (λ row. not (is_of_file file row)) m.slots in omega arith
kept-one past m (RemoveFile path file) may rising known h =
    λ block n. let o = h block n in let f = total-filter-le (row_weight m.servers block n)
    (λ row. not (is_of_file file row)) m.slots in omega arith
kept-one past m (CondemnStray server life key) may rising known h =
    subst (λ (n : MetaImage). OneEach n.servers n.slots) (sym (stray-frame server life key m)) h
kept-one past m (ServerUp server life) may rising known h =
    λ block n. let o = h block n in let f = same-live m.servers
    (change_server (server_up life) m.servers server) block n (KnownLife m.servers)
    (risen-live server life n m may.0 may.1) m.slots known in omega arith
kept-one past m (ServerDown server) may rising known h =
    λ block n. let o = h block n in let f = same-live m.servers
    (change_server server_down m.servers server) block n (KnownLife m.servers)
    (λ copy _. kept-life server_down (λ v. refl) server n m may copy) m.slots known in omega arith
kept-one past m (ServerLeaves server) may rising known h =
    λ block n. let o = h block n in let f = same-live m.servers
    (change_server server_leaving m.servers server) block n (KnownLife m.servers)
    (λ copy _. kept-life server_leaving (λ v. refl) server n m may copy) m.slots known in omega
    arith
kept-one past m (ServerSleeps server until) may rising known h =
    λ block n. let o = h block n in let f = same-live m.servers
    (change_server (server_asleep until) m.servers server) block n (KnownLife m.servers)
    (λ copy _. kept-life (server_asleep until) (λ v. refl) server n m may copy) m.slots known in
    omega arith
kept-one past m (AddDirectory path) may rising known h = h
kept-one past m _ may rising known h = h
