-- Leases with a term: a tick ends just those whose time has come, an ended lease keeps nothing, a
-- live one keeps what it lists from deletion, and a grant is confirmed whether or not its lease is
-- still live. The laws `ticks_end_leases`, `live_leases_keep_copies` and `confirms_without_lease`.
use Rattle.std.proofs.Common.{◌≡◌, ◌≢◌, ℕ, ◌+◌, ◌<◌, ◌≤◌, ◌==◌, nat_lt, nat_le, Bool, true, false}
use Rattle.std.proofs.Common.{cond, not, ◌&&◌, ◌||◌, length, List, [], ◌∷◌, ◌++◌, map, filter}
use Rattle.std.proofs.Common.{Option, Some, None, refl, sym, ap, ◌∙◌, subst, arith}
use Rattle.std.proofs.lemmas.Bool.{and_parts, and_from, lt-ltb, ltb-true, ne_eqb, eq-eqb}
use Rattle.std.specs.Cmp.{ranked}
use Rattle.std.specs.List.{list_any}
use Rattle.std.specs.Prelude.{IsTrue, is_some, min}
use Rattle.std.specs.declared.cmp.Ordering.TheVariants.{Less}
use Rattle.qfs_base.specs.Sizes.{SLOTS, LAST_U32, LAST_U64}
use Rattle.qfs_base.specs.Table.{Each, IsRising, without}
use Rattle.qfs_base.specs.declared.change.Change.TheVariants.{EndLease, ConfirmSlot}
use Rattle.qfs_base.specs.declared.chunk.BlockId.{BlockId}
use Rattle.qfs_base.specs.declared.history.Outcome.TheVariants as Ended
use Rattle.qfs_base.specs.declared.image.CondemnedRow.{CondemnedRow}
use Rattle.qfs_base.specs.declared.image.Lease.{Lease}
use Rattle.qfs_base.specs.declared.image.MetaImage.{MetaImage}
use Rattle.qfs_base.specs.declared.reply.Condemned.{Condemned}
use Rattle.qfs_base.specs.declared.reply.MetaReply.{MetaReply}
use Rattle.qfs_base.specs.declared.reply.MetaReply.TheVariants as Told
use Rattle.qfs_base.specs.declared.request.MetaRequest.TheVariants as Ask
use Rattle.qfs_base.specs.declared.rules.Rules.{Rules}
use Rattle.qfs_model_meta.specs.Apply.{apply, apply_all, finish_lease, confirm_slot, change_record}
use Rattle.qfs_model_meta.specs.Apply.{with_slots}
use Rattle.qfs_model_meta.specs.Counters.{counters_fit}
use Rattle.qfs_model_meta.specs.Decide.{decide, decide_request}
use Rattle.qfs_model_meta.specs.Decision.{Makes, unless}
use Rattle.qfs_model_meta.specs.Dropped.{dropped_at}
use Rattle.qfs_model_meta.specs.Grammar.{IsActor, HasBlockers}
use Rattle.qfs_model_meta.specs.Leases.{lease_cmp, is_lease, is_live_lease, end_lease, has_run_out}
use Rattle.qfs_model_meta.specs.Leases.{leases_on, leases_over}
use Rattle.qfs_model_meta.specs.Past.{Past, ListedCopy, is_copy, remember}
use Rattle.qfs_model_meta.specs.Range.{in_range, is_slot_number}
use Rattle.qfs_model_meta.specs.ServerRequests.{decide_tick}
use Rattle.qfs_model_meta.specs.SettleRequests.{is_own_grant, end_live_lease, may_confirm}
use Rattle.qfs_model_meta.specs.SettleRequests.{confirm_grant, decide_confirm}
use Rattle.qfs_model_meta.specs.Slots.{slot_at, change_slot, confirmed_slot}
use Rattle.qfs_model_meta.specs.Sound.{IsSound, IsLetGo}
use Rattle.qfs_model_meta.specs.Step.{meta_step, serve_unless_dropped, end_step, carry_out}
use Rattle.qfs_model_meta.specs.Step.{take_step, next_turn}
use Rattle.qfs_model_meta.specs.TreeRows.{file_stands, closed_file}
use Rattle.qfs_base.specs.EachLaws.{each_weaker, each_filter}
use Rattle.qfs_laws_tables.specs.EachRow.{each_map, each_of_all, each-right, each-self}
use Rattle.qfs_laws_tables.specs.SomeRow.{any_mapped}
use Rattle.qfs_laws_slots.specs.Condemning.{condemn_any-cases}
use Rattle.qfs_laws_slots.specs.RowKeys.{is_lease-is}
use Rattle.qfs_laws_tree.specs.Stands.{stands_of_closed}
use Rattle.qfs_laws_meta.specs.StaysSound.{stays-sound}

-- ---- a tick

-- a lease that has a term has come to its end at this reading
abbrev pub time_has_come : ℕ → Lease → Bool
time_has_come clock lease = not (lease.until == 0) && nat_le lease.until clock

-- the step of a tick that is carried out tells the clock, and leaves just those leases whose time
-- hasn't come
pub record TicksLeases (m next : MetaImage) (reply : MetaReply) : Type 0 where
  pub clock : next.clock ≡ min (m.clock + 1) LAST_U64
  pub told : reply ≡ Told.Clock next.clock
  pub left : next.leases ≡ without (time_has_come next.clock) m.leases

abbrev pub TicksEndLeases : Type 0
TicksEndLeases =
    (rules : Rules) (actor : ℕ) (past : Past) (m : MetaImage) → IsSound past m → dropped_at actor
    m.dropped ≡ None
    → TicksLeases m (meta_step rules actor Ask.Tick Ended.Done m).meta
    (meta_step rules actor Ask.Tick Ended.Done m).reply

without-none : {X : Type 0} (xs : List X) → xs ≡ without (λ _. false) xs
without-none [] = refl
without-none (x ∷ xs) = ap (λ l. x ∷ l) (without-none xs)

without-twice : {X : Type 0} (p q : X → Bool) (xs : List X)
    → without p (without q xs) ≡ without (λ x. q x || p x) xs
without-twice p q [] = refl
without-twice p q (x ∷ xs) =
    let rest = without-twice p q xs in
    elim (q x) as (λ b. without p (cond (not b) (x ∷ without q xs) (without q xs)) ≡ cond
    (not (b || p x)) (x ∷ without (λ x. q x || p x) xs) (without (λ x. q x || p x) xs)) [
      | true ↦ rest
      | false ↦ elim (p x) as (λ b. cond (not b) (x ∷ without p (without q xs))
          (without p (without q xs)) ≡ cond (not b) (x ∷ without (λ x. q x || p x) xs)
          (without (λ x. q x || p x) xs)) [
            | true ↦ rest
            | false ↦ ap (λ l. x ∷ l) rest
          ]
    ]

without-same : {X : Type 0} (p q : X → Bool) (xs : List X) → Each (λ x. p x ≡ q x) xs
    → without p xs ≡ without q xs
without-same p q [] each = refl
without-same p q (x ∷ xs) each =
    λ i. cond (not (each.0 i)) (x ∷ without-same p q xs each.1 i) (without-same p q xs each.1 i)

abbrev any_of : List ℕ → Lease → Bool
any_of numbers lease = list_any (λ n. is_lease n lease) numbers

-- leases that end one after another
ended-leases : (numbers : List ℕ) (m : MetaImage)
    → (apply_all (map EndLease numbers) m).leases ≡ without (any_of numbers) m.leases
unfolding apply_all apply finish_lease end_lease
ended-leases [] m = without-none m.leases
ended-leases (n ∷ numbers) m =
    ended-leases numbers (finish_lease n m) ∙ without-twice (any_of numbers) (is_lease n) m.leases

ended-clock : (numbers : List ℕ) (m : MetaImage)
    → (apply_all (map EndLease numbers) m).clock ≡ m.clock
unfolding apply_all apply finish_lease
ended-clock [] m = refl
ended-clock (n ∷ numbers) m = ended-clock numbers (finish_lease n m)

ended-counters : (numbers : List ℕ) (m : MetaImage)
    → counters_fit (apply_all (map EndLease numbers) m) ≡ counters_fit m
unfolding apply_all apply finish_lease counters_fit
ended-counters [] m = refl
ended-counters (n ∷ numbers) m = ended-counters numbers (finish_lease n m)

apart : (a b : ℕ) → a < b → (a == b) ≡ false
apart a b l = ne_eqb a b (λ e. omega arith)

later-none : (row : Lease) (test : Lease → Bool) (rows : List Lease)
    → Each (λ later. lease_cmp row later ≡ Less) rows
    → list_any (λ (x : Lease). is_lease x.lease row) (filter test rows) ≡ false
later-none row test [] each = refl
later-none row test (x ∷ rows) each =
    let rest = later-none row test rows each.1 in
    let off : is_lease x.lease row ≡ false = is_lease-is x.lease row ∙ apart row.lease x.lease
    (ranked row.lease x.lease Less (sym each.0)) in
    elim (test x) as (λ b. list_any (λ (x : Lease). is_lease x.lease row)
    (cond b (x ∷ filter test rows) (filter test rows)) ≡ false) [
      | true ↦ (λ i. off i || rest i)
      | false ↦ rest
    ]

-- a lease has the number of one that ends just where its own time has come
over-is : (clock : ℕ) (leases : List Lease) → IsRising lease_cmp leases
    → Each (λ (l : Lease). list_any (λ (x : Lease). is_lease x.lease l)
    (filter (has_run_out clock) leases) ≡ has_run_out clock l) leases
over-is clock [] rising = tt
over-is clock (row ∷ rows) rising = (
  elim (has_run_out clock row) as
      (λ b. list_any (λ (x : Lease). is_lease x.lease row)
      (cond b (row ∷ filter (has_run_out clock) rows) (filter (has_run_out clock) rows)) ≡ b) [
        | true ↦ ap (λ b. b || list_any (λ (x : Lease). is_lease x.lease row)
            (filter (has_run_out clock) rows))
            (is_lease-is row.lease row ∙ eq-eqb row.lease row.lease refl)
        | false ↦ later-none row (has_run_out clock) rows rising.0
      ],
  behind rows rising.0 (over-is clock rows rising.1),
)
  where
    behind : (ls : List Lease) → Each (λ later. lease_cmp row later ≡ Less) ls
        → Each (λ (l : Lease). list_any (λ (x : Lease). is_lease x.lease l)
        (filter (has_run_out clock) rows) ≡ has_run_out clock l) ls
        → Each (λ (l : Lease). list_any (λ (x : Lease). is_lease x.lease l)
        (cond (has_run_out clock row) (row ∷ filter (has_run_out clock) rows)
        (filter (has_run_out clock) rows)) ≡ has_run_out clock l) ls
    behind [] above each = tt
    behind (l ∷ ls) above each = (
      elim (has_run_out clock row) as
          (λ b. list_any (λ (x : Lease). is_lease x.lease l)
          (cond b (row ∷ filter (has_run_out clock) rows)
          (filter (has_run_out clock) rows)) ≡ has_run_out clock l) [
            | true ↦ ap (λ b. b || list_any (λ (x : Lease). is_lease x.lease l)
                (filter (has_run_out clock) rows))
                (is_lease-is row.lease l ∙ other l.lease row.lease
                (ranked row.lease l.lease Less (sym above.0))) ∙ each.0
            | false ↦ each.0
          ],
      behind ls above.1 each.1,
    )
      where
        other : (a b : ℕ) → b < a → (a == b) ≡ false
        other a b less = ne_eqb a b (λ e. omega arith)

pub ticks-end-leases : TicksEndLeases
unfolding meta_step decide in_range unless decide_request decide_tick end_step carry_out apply_all
    apply
ticks-end-leases rules actor past m sound none =
    let now : ℕ = min (m.clock + 1) LAST_U64 in
    let n : MetaImage = record m { clock = now } in
    let numbers : List ℕ = leases_over now m.leases in
    let fits : counters_fit (apply_all (map EndLease numbers) n) ≡ true = ended-counters numbers n
    ∙ still m now ∙ sound.image.counters in
    let ends : TicksLeases m (next_turn (apply_all (map EndLease numbers) n)) (Told.Clock now) =
    ticked m n numbers refl refl (ended-leases numbers n ∙ without-same (any_of numbers)
    (has_run_out now) m.leases
    (each_weaker _ _ (λ (l : Lease) e. mapped now m.leases l ∙ e) m.leases
    (over-is now m.leases sound.image.fits.leases.in_order))) in
    taken m n numbers now (dropped_at actor m.dropped) none fits ends
  where
    still : (m : MetaImage) (now : ℕ) → counters_fit (record m { clock = now }) ≡ counters_fit m
    still m now = unfold counters_fit in refl

    mapped : (now : ℕ) (leases : List Lease) (l : Lease)
        → any_of (leases_over now leases) l ≡ list_any (λ (x : Lease). is_lease x.lease l)
        (filter (has_run_out now) leases)
    mapped now leases l =
        unfold leases_over in any_mapped (λ (x : Lease). x.lease) (λ n. is_lease n l)
        (filter (has_run_out now) leases)

    ticked : (m n : MetaImage) (numbers : List ℕ) → n.clock ≡ min (m.clock + 1) LAST_U64
        → n.leases ≡ m.leases
        → (apply_all (map EndLease numbers) n).leases ≡ without (has_run_out n.clock) m.leases
        → TicksLeases m (next_turn (apply_all (map EndLease numbers) n)) (Told.Clock n.clock)
    ticked m n numbers at same left = unfold next_turn has_run_out in record {
      clock = ended-clock numbers n ∙ at;
      told = ap Told.Clock (sym (ended-clock numbers n));
      left = left ∙ ap (λ c. without (has_run_out c) m.leases) (sym (ended-clock numbers n));
    }

    taken : (m n : MetaImage) (numbers : List ℕ) (now : ℕ) (dropped : Option ℕ) → dropped ≡ None
        → counters_fit (apply_all (map EndLease numbers) n) ≡ true
        → TicksLeases m (next_turn (apply_all (map EndLease numbers) n)) (Told.Clock now)
        → TicksLeases m (serve_unless_dropped m
        (take_step m (apply_all (map EndLease numbers) n) (Told.Clock now)
        (counters_fit (apply_all (map EndLease numbers) n))) dropped).meta
        (serve_unless_dropped m (take_step m (apply_all (map EndLease numbers) n) (Told.Clock now)
        (counters_fit (apply_all (map EndLease numbers) n))) dropped).reply
    taken m n numbers now None e fits ends =
        unfold take_step serve_unless_dropped in subst
        (λ b. TicksLeases m (take_step m (apply_all (map EndLease numbers) n) (Told.Clock now)
        b).meta (take_step m (apply_all (map EndLease numbers) n) (Told.Clock now) b).reply)
        (sym fits) ends
    taken m n numbers now (Some turn) e fits ends = absurd (cc)

-- ---- what a lease keeps

-- only live leases on its file block a condemned copy: so one that ended keeps nothing
abbrev pub OnlyLiveLeasesBlock : Type 0
OnlyLiveLeasesBlock =
    (past : Past) (m : MetaImage) → IsSound past m
    → Each (λ (row : CondemnedRow). Each (λ lease. IsTrue (is_live_lease lease m.leases))
    row.blockers) m.condemned

pub only-live-leases-block : OnlyLiveLeasesBlock
only-live-leases-block past m sound =
    each_weaker (HasBlockers m.leases) _
    (λ (row : CondemnedRow) h. subst (Each Live) (sym h.1)
    (each_filter Live (λ lease. nat_lt lease h.0) (leases_on row.condemned.block.file m.leases)
    (on row.condemned.block.file))) m.condemned sound.image.fits.condemned.blockers
  where
    Live : ℕ → Type 0
    Live lease = IsTrue (is_live_lease lease m.leases)

    own : Each (λ (l : Lease). IsTrue (is_live_lease l.lease m.leases)) m.leases
    own =
        unfold is_live_lease in each-self (λ (_ : Lease). Unit {0})
        (λ (x l : Lease). is_lease x.lease l)
        (λ (x : Lease) _. is_lease-is x.lease x ∙ eq-eqb x.lease x.lease refl) m.leases
        (each_of_all (λ (_ : Lease). Unit {0}) (λ _. tt) m.leases)

    on : (file : ℕ) → Each Live (leases_on file m.leases)
    on file =
        unfold leases_on in each_map (λ (l : Lease). IsTrue (is_live_lease l.lease m.leases)) Live
        (λ (l : Lease). l.lease) (λ l is. is) (filter (λ (l : Lease). l.file == file) m.leases)
        (each_filter _ (λ (l : Lease). l.file == file) m.leases own)

-- a copy that is ordered deleted is none that a live lease lists
abbrev pub OrdersNothingListed : Type 0
OrdersNothingListed =
    (rules : Rules) (actor after : ℕ) (past : Past) (m : MetaImage) (c : Condemned) (turn : ℕ)
    → IsSound past m → length past.granted + 1 < LAST_U32 → IsActor actor
    → (meta_step rules actor (Ask.OrderNext after) Ended.Done m).reply ≡ Told.Ordered c turn
    → Each (λ (listed : ListedCopy). IsTrue
    (is_live_lease listed.lease (meta_step rules actor (Ask.OrderNext after) Ended.Done
    m).meta.leases) → is_copy c.block c.slot c.copy listed.of_slot ≢ true) past.listed

pub orders-nothing-listed : OrdersNothingListed
unfolding remember
orders-nothing-listed rules actor after past m c turn sound left who is =
    let next : MetaImage = (meta_step rules actor (Ask.OrderNext after) Ended.Done m).meta in
    let behind : IsSound (record past { ordered = past.ordered ++ c ∷ [] }) next = subst
    (λ reply. IsSound (remember actor past reply) next) is
    (stays-sound rules actor (Ask.OrderNext after) Ended.Done past m sound left who tt) in
    (each-right (IsLetGo (record past { ordered = past.ordered ++ c ∷ [] }) next) past.ordered
    (c ∷ []) behind.ordered).0.not_listed

-- ---- a grant is confirmed without its lease

-- where its own grant is pending on a slot of a closed file, an actor's Confirm makes it current,
-- whatever leases are live
abbrev pub ConfirmsWithoutLease : Type 0
ConfirmsWithoutLease =
    (rules : Rules) (actor : ℕ) (block : BlockId) (slot version lease : ℕ) (m : MetaImage)
    → dropped_at actor m.dropped ≡ None → slot < SLOTS → IsTrue
    (is_some (closed_file block.file m.tree))
    → is_own_grant actor version lease (slot_at m.slots block slot).grant ≡ true
    → counters_fit m ≡ true → m.next_condemned < LAST_U64
    → (meta_step rules actor (Ask.Confirm block slot version lease) Ended.Done
    m).reply ≡ Told.Confirmed

-- what a change leaves of the counters, but for one condemned copy more
record Counts (m n : MetaImage) : Type 0 where
  file : n.next_file ≡ m.next_file
  lease : n.next_lease ≡ m.next_lease
  condemned : n.next_condemned ≤ m.next_condemned + 1
  history : length n.history ≡ length m.history

counts-fit : (m n : MetaImage) → Counts m n → counters_fit m ≡ true → m.next_condemned < LAST_U64
    → counters_fit n ≡ true
unfolding counters_fit
counts-fit m n c fits room =
    let a = and_parts _ (nat_lt (length m.history) (LAST_U32 + 1)) fits in
    let b = and_parts _ (nat_lt m.next_condemned (LAST_U64 + 1)) a.0 in
    let d = and_parts (nat_lt m.next_file (LAST_U32 + 1)) (nat_lt m.next_lease (LAST_U64 + 1)) b.0
    in
    let file = ltb-true _ _ d.0 in
    let given = ltb-true _ _ d.1 in
    let long = ltb-true _ _ a.1 in
    and_from _ _ (and_from _ _ (and_from _ _
    (lt-ltb n.next_file (LAST_U32 + 1) (omega (arith, c.file)))
    (lt-ltb n.next_lease (LAST_U64 + 1) (omega (arith, c.lease))))
    (lt-ltb n.next_condemned (LAST_U64 + 1) (omega (arith, c.condemned))))
    (lt-ltb (length n.history) (LAST_U32 + 1) (omega (arith, c.history)))

confirmed-counts : (block : BlockId) (slot : ℕ) (m : MetaImage)
    → Counts m (confirm_slot block slot m (slot_at m.slots block slot))
unfolding confirm_slot change_record with_slots
confirmed-counts block slot m =
    condemn_any-cases (λ n. Counts m
    (record n { slots = change_slot block slot confirmed_slot n.slots })) block slot m
    (slot_at m.slots block slot).current
    (λ _. record { file = refl; lease = refl; condemned = omega arith; history = refl })
    (λ _ _ _. record { file = refl; lease = refl; condemned = omega arith; history = refl })
    (λ _ _ _. record { file = refl; lease = refl; condemned = omega arith; history = refl })

pub confirms-without-lease : ConfirmsWithoutLease
unfolding meta_step decide in_range is_slot_number unless decide_request decide_confirm
    confirm_grant may_confirm end_live_lease apply_all apply
confirms-without-lease rules actor block slot version lease m none small closed own fits room =
    one (nat_lt slot SLOTS) (lt-ltb slot SLOTS small) (file_stands block.file m.tree)
    (stands_of_closed block.file m.tree closed) (dropped_at actor m.dropped) none
  where
    carried : (live : Bool)
        → (carry_out m (Makes (cond live (EndLease lease ∷ []) [] ++ ConfirmSlot block slot ∷ [])
        Told.Confirmed)).reply ≡ Told.Confirmed
    carried true =
        unfold carry_out take_step finish_lease in ap
        (λ b. (take_step m (confirm_slot block slot (finish_lease lease m)
        (slot_at m.slots block slot)) Told.Confirmed b).reply)
        (counts-fit (finish_lease lease m) _ (confirmed-counts block slot (finish_lease lease m))
        (ended-counters (lease ∷ []) m ∙ fits) room)
    carried false =
        unfold carry_out take_step in ap
        (λ b. (take_step m (confirm_slot block slot m (slot_at m.slots block slot)) Told.Confirmed
        b).reply) (counts-fit m _ (confirmed-counts block slot m) fits room)

    gated : (refusal : MetaReply) (test : Bool) → test ≡ true
        → (end_step m (unless test refusal
        (Makes (cond (is_live_lease lease m.leases) (EndLease lease ∷ []) [] ++ ConfirmSlot block
        slot ∷ []) Told.Confirmed)) Ended.Done).reply ≡ Told.Confirmed
    gated refusal true e = unfold end_step in carried (is_live_lease lease m.leases)
    gated refusal false e = absurd (cc)

    one : (a : Bool) → a ≡ true → (b : Bool) → b ≡ true → (dropped : Option ℕ) → dropped ≡ None
        → (serve_unless_dropped m (end_step m
        (unless a Told.Nothing (confirm_grant actor block slot version lease m b)) Ended.Done)
        dropped).reply ≡ Told.Confirmed
    one true ea true eb None en =
        unfold serve_unless_dropped in gated _
        (is_some (closed_file block.file m.tree) && is_own_grant actor version lease
        (slot_at m.slots block slot).grant) (and_from _ _ closed own)
    one a ea b eb dropped en = absurd (cc)
