-- The lists of leases and of condemned copies: every change keeps their order, and how they fit
-- together. Cited by the laws of the metaserver.
use Rattle.qfs_base.specs.Table.{Each, without}
use Rattle.qfs_base.specs.declared.chunk.BlockId.{BlockId}
use Rattle.qfs_base.specs.declared.chunk.Copy.{Copy}
use Rattle.qfs_base.specs.declared.image.CondemnedRow.{CondemnedRow}
use Rattle.qfs_base.specs.declared.image.Lease.{Lease}
use Rattle.qfs_base.specs.declared.image.MetaImage.{MetaImage}
use Rattle.qfs_model_meta.specs.Condemned.{condemn_any, condemned_cmp, condemned_row, is_numbered}
use Rattle.qfs_model_meta.specs.Condemned.{mark_ordered, unblock, unblock_all}
use Rattle.qfs_model_meta.specs.Grammar.{HasBlockers, IsActor, IsCondemnedList, IsLeaseList}
use Rattle.qfs_model_meta.specs.Grammar.{IsServer}
use Rattle.qfs_model_meta.specs.Leases.{end_lease, give_lease, is_lease, lease_cmp, leases_on}
use Rattle.std.proofs.Common.{Bool, List, None, Option, Some, [], ap, arith, cond, false, filter}
use Rattle.std.proofs.Common.{length, map, nat_lt, not, refl, subst, sym, true, ℕ, ◌++◌, ◌+◌, ◌<◌}
use Rattle.std.proofs.Common.{◌==◌, ◌||◌, ◌∙◌, ◌∷◌, ◌≡◌, ◌≤◌}
use Rattle.std.proofs.lemmas.Bool.Decides.{nat_tests}
use Rattle.std.specs.Cmp.{nat_cmp_is}
use Rattle.std.specs.Option.{option_to_list}
use Rattle.std.specs.Ordering.{nat_cmp}
use Rattle.std.specs.Prelude.{min, ⊤}
use Rattle.std.specs.declared.cmp.Ordering.TheVariants.{Less}
use Rattle.qfs_laws_slots.specs.Condemning.{condemn_any-cases, with_condemned}
use Rattle.qfs_laws_slots.specs.RowKeys.{is_lease-is}
use Rattle.qfs_base.specs.EachLaws.{each_filter, each_weaker}
use Rattle.qfs_laws_tables.specs.EachRow.{each_change, each_map, each_push}
use Rattle.qfs_laws_tables.specs.InOrder.{change_rises, filter_rises, map_rises, push_rises}
use Rattle.qfs_laws_tables.specs.SomeRow.{any_of_append}
use Rattle.std.specs.List.{list_any}
use Rattle.std.proofs.lemmas.Bool.{ne_eqb, true≢false}

less : (a b : ℕ) → a < b → nat_cmp a b ≡ Less
less a b h = sym (nat_cmp_is a b Less h)

-- ---- leases

pub leases-given : (actor file until next : ℕ) (leases : List Lease) → IsActor actor
    → IsLeaseList next leases → IsLeaseList (next + 1) (give_lease next actor file until leases)
unfolding give_lease
leases-given actor file until next leases is h =
    let new : Lease = record { lease = next; actor = actor; file = file; until = until } in
    record {
      in_order = push_rises lease_cmp leases new h.in_order
          (each_weaker (λ (lease : Lease). lease.lease < next) _ (λ lease l. less _ _ l) leases
          h.numbers);
      numbers = each_push _ leases new
          (each_weaker (λ (lease : Lease). lease.lease < next) _ (λ lease l. later _ l) leases
          h.numbers) (omega arith);
      actors = each_push _ leases new h.actors is;
    }
  where
    later : (a : ℕ) → a < next → a < next + 1
    later a l = omega arith

-- a lease that is live once the next one is given, and isn't that one, was live before
pub live-before : (actor file until next own : ℕ) (leases : List Lease) → own < next
    → list_any (is_lease own) (give_lease next actor file until leases) ≡ true
    → list_any (is_lease own) leases ≡ true
unfolding give_lease
live-before actor file until next own leases older live =
    let new : Lease = record { lease = next; actor = actor; file = file; until = until } in
    let apart : is_lease own new ≡ false = is_lease-is own new ∙ ne_eqb next own
    (λ e. omega arith) in
    drop_last _ _ apart (sym (any_of_append (is_lease own) leases (new ∷ [])) ∙ live)
  where
    drop_last : (a b : Bool) → b ≡ false → (a || (b || false)) ≡ true → a ≡ true
    drop_last true b e h = refl
    drop_last false b e h = absurd (true≢false (sym h ∙ (λ i. e i || false)))

pub leases-ended : (lease next : ℕ) (leases : List Lease) → IsLeaseList next leases
    → IsLeaseList next (end_lease lease leases)
unfolding end_lease
leases-ended lease next leases h = record {
  in_order = filter_rises lease_cmp (λ l. not (is_lease lease l)) leases h.in_order;
  numbers = each_filter _ (λ l. not (is_lease lease l)) leases h.numbers;
  actors = each_filter _ (λ l. not (is_lease lease l)) leases h.actors;
}

-- ---- condemned copies

-- the live leases on a file below a bound
abbrev pub below : ℕ → ℕ → List Lease → List ℕ
below bound file leases = filter (λ lease. nat_lt lease bound) (leases_on file leases)

-- where all are below the next number, a bound above it is as good as it
below-all : (bound next file : ℕ) (leases : List Lease)
    → Each (λ (lease : Lease). lease.lease < next) leases
    → below bound file leases ≡ below (min bound next) file leases
unfolding leases_on
below-all bound next file [] each = refl
below-all bound next file (lease ∷ leases) each =
    let rest = below-all bound next file leases each.1 in
    let l = each.0 in
    let same : nat_lt lease.lease bound ≡ nat_lt lease.lease (min bound next) = same_test
    lease.lease bound next l in
    elim (lease.file == file) as (λ b.
    filter (λ n. nat_lt n bound) (map (λ (l : Lease). l.lease)
    (cond b (lease ∷ filter (λ (l : Lease). l.file == file) leases)
    (filter (λ (l : Lease). l.file == file) leases)))
    ≡ filter (λ n. nat_lt n (min bound next))
    (map (λ (l : Lease). l.lease) (cond b (lease ∷ filter (λ (l : Lease). l.file == file) leases)
    (filter (λ (l : Lease). l.file == file) leases)))) [
      | true ↦ (λ i. cond (same i) (lease.lease ∷ rest i) (rest i))
      | false ↦ rest
    ]
  where
    same_test : (n b k : ℕ) → n < k → nat_lt n b ≡ nat_lt n (min b k)
    same_test n b k l = grind (arith, nat_tests)

below-given : (bound next actor file until own : ℕ) (leases : List Lease) → bound ≤ next
    → below bound own leases ≡ below bound own
    (leases ++ record { lease = next; actor = actor; file = file; until = until } ∷ [])
unfolding leases_on
below-given bound next actor file until own [] low =
    let out : nat_lt next bound ≡ false = grind (arith, nat_tests) in
    elim (file == own) as (λ b. [] ≡ filter (λ n. nat_lt n bound)
    (map (λ (l : Lease). l.lease) (cond b
    (record { lease = next; actor = actor; file = file; until = until } ∷ []) []))) [
      | true ↦ ap (λ t. cond t (next ∷ []) []) (sym out)
      | false ↦ refl
    ]
below-given bound next actor file until own (lease ∷ leases) low =
    let rest = below-given bound next actor file until own leases low in
    let new : List Lease = record { lease = next; actor = actor; file = file; until = until } ∷ []
    in
    elim (lease.file == own) as (λ b.
    filter (λ n. nat_lt n bound) (map (λ (l : Lease). l.lease)
    (cond b (lease ∷ filter (λ (l : Lease). l.file == own) leases)
    (filter (λ (l : Lease). l.file == own) leases)))
    ≡ filter (λ n. nat_lt n bound) (map (λ (l : Lease). l.lease)
    (cond b (lease ∷ filter (λ (l : Lease). l.file == own) (leases ++ new))
    (filter (λ (l : Lease). l.file == own) (leases ++ new))))) [
      | true ↦ (λ i. cond (nat_lt lease.lease bound) (lease.lease ∷ rest i) (rest i))
      | false ↦ rest
    ]

pub blockers-given : (actor file until next : ℕ) (leases : List Lease) (row : CondemnedRow)
    → Each (λ (lease : Lease). lease.lease < next) leases → HasBlockers leases row
    → HasBlockers (give_lease next actor file until leases) row
unfolding give_lease
blockers-given actor file until next leases row each h = (
  min h.0 next,
  h.1 ∙ below-all h.0 next row.condemned.block.file leases each ∙ below-given
      (min h.0 next) next actor file until row.condemned.block.file leases (omega arith),
)

-- a lease that ended is gone from both
below-ended : (bound lease file : ℕ) (leases : List Lease)
    → without (λ n. n == lease) (below bound file leases) ≡ below bound file
    (end_lease lease leases)
unfolding leases_on end_lease
below-ended bound lease file [] = refl
below-ended bound lease file (l ∷ leases) =
    let rest = below-ended bound lease file leases in
    one (l.file == file) (nat_lt l.lease bound) (l.lease == lease) refl refl refl
    (is_lease-is lease l) rest
  where
    kept : List Lease
    kept = filter (λ (x : Lease). not (is_lease lease x)) leases

    one : (f b e : Bool) → (l.file == file) ≡ f → nat_lt l.lease bound ≡ b → (l.lease == lease) ≡ e
        → is_lease lease l ≡ (l.lease == lease)
        → filter (λ n. not (n == lease))
        (filter (λ n. nat_lt n bound) (map (λ (x : Lease). x.lease)
        (filter (λ (x : Lease). x.file == file) leases)))
        ≡ filter (λ n. nat_lt n bound) (map (λ (x : Lease). x.lease)
        (filter (λ (x : Lease). x.file == file) kept))
        → filter (λ n. not (n == lease))
        (filter (λ n. nat_lt n bound) (map (λ (x : Lease). x.lease)
        (filter (λ (x : Lease). x.file == file) (l ∷ leases))))
        ≡ filter (λ n. nat_lt n bound) (map (λ (x : Lease). x.lease)
        (filter (λ (x : Lease). x.file == file)
        (filter (λ (x : Lease). not (is_lease lease x)) (l ∷ leases))))
    one true true true p q r s rest = rw (s, p, q, r) rest
    one true true false p q r s rest = rw (s, p, q, r, p, q) (ap (λ ns. l.lease ∷ ns) rest)
    one true false true p q r s rest = rw (s, p, q, r) rest
    one true false false p q r s rest = rw (s, p, q, r, p, q) rest
    one false b true p q r s rest = rw (s, p, r) rest
    one false b false p q r s rest = rw (s, p, r, p) rest

pub blockers-ended : (lease : ℕ) (leases : List Lease) (row : CondemnedRow) → HasBlockers leases row
    → HasBlockers (end_lease lease leases) (unblock lease row)
unfolding unblock
blockers-ended lease leases row h = (
  h.0,
  ap (without (λ n. n == lease)) h.1 ∙ below-ended h.0 lease row.condemned.block.file
      leases,
)

-- all live leases on the file block what is condemned now
blockers-new : (next : ℕ) (file : ℕ) (leases : List Lease)
    → Each (λ (lease : Lease). lease.lease < next) leases
    → leases_on file leases ≡ below next file leases
unfolding leases_on
blockers-new next file [] each = refl
blockers-new next file (lease ∷ leases) each =
    let rest = blockers-new next file leases each.1 in
    let l = each.0 in
    let in_it : nat_lt lease.lease next ≡ true = grind (arith, nat_tests) in
    elim (lease.file == file) as (λ b.
    map (λ (l : Lease). l.lease) (cond b (lease ∷ filter (λ (l : Lease). l.file == file) leases)
    (filter (λ (l : Lease). l.file == file) leases))
    ≡ filter (λ n. nat_lt n next) (map (λ (l : Lease). l.lease)
    (cond b (lease ∷ filter (λ (l : Lease). l.file == file) leases)
    (filter (λ (l : Lease). l.file == file) leases)))) [
      | true ↦ ap (λ ns. lease.lease ∷ ns) rest ∙ ap
          (λ t. cond t (lease.lease ∷ filter (λ n. nat_lt n next)
          (map (λ (l : Lease). l.lease) (filter (λ (l : Lease). l.file == file) leases)))
          (filter (λ n. nat_lt n next) (map (λ (l : Lease). l.lease)
          (filter (λ (l : Lease). l.file == file) leases)))) (sym in_it)
      | false ↦ rest
    ]

pub rows-given : (servers next actor file until next_lease : ℕ) (leases : List Lease)
    (rows : List CondemnedRow)
    → IsLeaseList next_lease leases → IsCondemnedList servers next leases rows
    → IsCondemnedList servers next (give_lease next_lease actor file until leases) rows
rows-given servers next actor file until next_lease leases rows l h = record {
  in_order = h.in_order;
  numbers = h.numbers;
  slot_numbers = h.slot_numbers;
  on_servers = h.on_servers;
  blockers = each_weaker (HasBlockers leases) _
      (λ row. blockers-given actor file until next_lease leases row l.numbers) rows h.blockers;
}

pub rows-ended : (servers next lease : ℕ) (leases : List Lease) (rows : List CondemnedRow)
    → IsCondemnedList servers next leases rows
    → IsCondemnedList servers next (end_lease lease leases) (unblock_all lease rows)
unfolding unblock_all unblock
rows-ended servers next lease leases rows h = record {
  in_order = map_rises condemned_cmp (unblock lease) (λ a b. refl) rows h.in_order;
  numbers = each_map _ _ (unblock lease) (λ row p. p) rows h.numbers;
  slot_numbers = each_map _ _ (unblock lease) (λ row p. p) rows h.slot_numbers;
  on_servers = each_map _ _ (unblock lease) (λ row p. p) rows h.on_servers;
  blockers = each_map (HasBlockers leases) _ (unblock lease)
      (λ row. blockers-ended lease leases row) rows h.blockers;
}

pub rows-marked : (servers next number : ℕ) (leases : List Lease) (rows : List CondemnedRow)
    → IsCondemnedList servers next leases rows
    → IsCondemnedList servers next leases (mark_ordered number rows)
unfolding mark_ordered
rows-marked servers next number leases rows h = record {
  in_order = change_rises condemned_cmp (is_numbered number)
      (λ (row : CondemnedRow). record row { ordered = true }) (λ a b. refl) (λ a b. refl) rows
      h.in_order;
  numbers = each_change _ _ (is_numbered number)
      (λ (row : CondemnedRow). record row { ordered = true }) (λ row _ p. p) (λ row _ p. p) rows
      h.numbers;
  slot_numbers = each_change _ _ (is_numbered number)
      (λ (row : CondemnedRow). record row { ordered = true }) (λ row _ p. p) (λ row _ p. p) rows
      h.slot_numbers;
  on_servers = each_change _ _ (is_numbered number)
      (λ (row : CondemnedRow). record row { ordered = true }) (λ row _ p. p) (λ row _ p. p) rows
      h.on_servers;
  blockers = each_change (HasBlockers leases) _ (is_numbered number)
      (λ (row : CondemnedRow). record row { ordered = true }) (λ row _ p. p) (λ row _ p. p) rows
      h.blockers;
}

pub rows-filtered : (servers next : ℕ) (leases : List Lease) (test : CondemnedRow → Bool)
    (rows : List CondemnedRow)
    → IsCondemnedList servers next leases rows
    → IsCondemnedList servers next leases (filter test rows)
rows-filtered servers next leases test rows h = record {
  in_order = filter_rises condemned_cmp test rows h.in_order;
  numbers = each_filter _ test rows h.numbers;
  slot_numbers = each_filter _ test rows h.slot_numbers;
  on_servers = each_filter _ test rows h.on_servers;
  blockers = each_filter _ test rows h.blockers;
}

-- the condemned copies of a state, and the numbers that they need
pub record HasRows (m : MetaImage) : Type 0 where
  pub first : 1 ≤ m.next_condemned
  pub leases : IsLeaseList m.next_lease m.leases
  pub rows : IsCondemnedList (length m.servers) m.next_condemned m.leases m.condemned

pub rows-condemned : (block : BlockId) (slot : ℕ) (copy : Copy) (m : MetaImage) → slot < 9
    → IsServer (length m.servers) copy.server → HasRows m
    → HasRows (with_condemned block slot copy m)
unfolding condemned_row
rows-condemned block slot copy m small is h =
    let new : CondemnedRow = condemned_row m.next_condemned block slot copy m.leases in
    let r = h.rows in
    record {
      first = omega arith;
      leases = h.leases;
      rows = record {
        in_order = push_rises condemned_cmp m.condemned new r.in_order
            (each_weaker (λ (row : CondemnedRow). row.condemned.number < m.next_condemned) _
            (λ row l. less _ _ l) m.condemned r.numbers);
        numbers = each_push _ m.condemned new
            (each_weaker (λ (row : CondemnedRow). row.condemned.number < m.next_condemned) _
            (λ row l. later _ l) m.condemned r.numbers) (omega arith);
        slot_numbers = each_push _ m.condemned new r.slot_numbers small;
        on_servers = each_push _ m.condemned new r.on_servers is;
        blockers = each_push _ m.condemned new r.blockers
            (m.next_lease, blockers-new m.next_lease block.file m.leases h.leases.numbers);
      };
    }
  where
    later : (a : ℕ) → a < m.next_condemned → a < m.next_condemned + 1
    later a l = omega arith

abbrev pub HasOne : Option Copy → Type 0
HasOne None = ⊥
HasOne (Some copy) = ⊤

pub rows-condemned_any : (block : BlockId) (slot : ℕ) (m : MetaImage) (found : Option Copy)
    → (HasOne found → slot < 9)
    → Each (λ (copy : Copy). IsServer (length m.servers) copy.server) (option_to_list found)
    → HasRows m → HasRows (condemn_any block slot m found)
rows-condemned_any block slot m found small is h =
    condemn_any-cases HasRows block slot m found (λ _. h) (λ _ _ _. h)
    (λ copy at _. let s : Each (λ (copy : Copy). IsServer (length m.servers) copy.server)
    (option_to_list (Some copy)) = subst
    (λ o. Each (λ (copy : Copy). IsServer (length m.servers) copy.server) (option_to_list o)) at is
    in
    rows-condemned block slot copy m (small (subst HasOne (sym at) tt)) s.0 h)
