-- What the changes of leases and of dropped actors leave: the next lease is above all, and dropped
-- actors stay in order.
use Rattle.std.proofs.Common.{◌≡◌, ◌≤◌, ◌<◌, ◌+◌, ◌∙◌, ap, subst, sym, refl, arith, ℕ, suc, nat_lt, ◌==◌, Bool, true, false, cond, List, [], ◌∷◌, length, Some, None}
use Rattle.std.proofs.lemmas.List.Sums.{prefix_len-le-length}
use Rattle.std.proofs.lemmas.Bool.Decides.{nat_tests}
use Rattle.std.specs.Cmp.{IsTotalOrder, nat_cmp_total, on_total}
use Rattle.std.specs.List.{insert, position, position_or_len}
use Rattle.std.specs.Option.{option_map}
use Rattle.std.specs.Prelude.{find, not, unwrap_or}
use Rattle.qfs_base.specs.declared.change.Change.TheVariants.{EndLease, GiveLease}
use Rattle.qfs_base.specs.declared.image.DroppedActor.{DroppedActor}
use Rattle.qfs_base.specs.declared.image.Lease.{Lease}
use Rattle.qfs_base.specs.declared.image.Load.{Load}
use Rattle.qfs_base.specs.declared.image.MetaImage.{MetaImage}
use Rattle.qfs_base.specs.declared.image.ServerView.{ServerView}
use Rattle.qfs_base.specs.EachLaws.{each_filter, each_weaker}
use Rattle.qfs_base.specs.Table.{Each, has_key, place}
use Rattle.qfs_blocks.specs.BlockTables.{BlockTables}
use Rattle.qfs_blocks.specs.ImageLaws.{with_blocks}
use Rattle.qfs_blocks.specs.LeaseLaws.{ended_is, given_is}
use Rattle.qfs_laws_tables.specs.EachRow.{each_push}
use Rattle.qfs_laws_tables.specs.InOrder.{place_rises}
use Rattle.qfs_lease.specs.LiveLeases.{LiveLeases}
use Rattle.qfs_model_meta.specs.Apply.{apply, finish_lease}
use Rattle.qfs_model_meta.specs.Dropped.{add_dropped, dropped_at, dropped_cmp, dropped_order}
use Rattle.qfs_model_meta.specs.Leases.{end_lease, give_lease}
use Rattle.qfs_state.specs.DroppedActors.{is_above}
use Rattle.qfs_state.specs.Held.{IsHeld}

-- the state with these leases and condemned copies
abbrev pub with_both : LiveLeases → BlockTables → MetaImage → MetaImage
with_both leases t m =
    with_blocks t (record m { leases = leases.leases; next_lease = leases.next })

module _ (m : MetaImage) (blocks : BlockTables) (leases : LiveLeases) (loads : List Load)
    (held : IsHeld m.servers blocks leases m.dropped loads) (later : LiveLeases) where
  pub given_held : (actor file until : ℕ)
      → later.leases ≡ give_lease leases.next actor file until leases.leases
      → later.next ≡ leases.next + 1 → IsHeld m.servers blocks later m.dropped loads
  unfolding give_lease
  given_held actor file until is next =
      record {
        servers_fit = held.servers_fit;
        slots_fit = held.slots_fit;
        next_lease = subst (Each (λ (lease : Lease). lease.lease < later.next)) (sym is)
            (each_push _ leases.leases _
            (each_weaker _ _
            (λ lease (low : lease.lease < leases.next). omega (arith, low, next))
            leases.leases held.next_lease) (omega (arith, next)));
        below = each_weaker _ _
            (λ entry (low : entry.below ≤ leases.next). omega (arith, low, next))
            blocks.condemned held.below;
        dropped_in_order = held.dropped_in_order;
        counted = held.counted;
      }

  pub given_image : (actor file until : ℕ)
      → later.leases ≡ give_lease leases.next actor file until leases.leases
      → later.next ≡ leases.next + 1
      → with_both later blocks m ≡ apply (with_both leases blocks m) (GiveLease actor file until)
  unfolding apply
  given_image actor file until is next =
      (λ i. with_both (record { leases = is i; next = next i; spare = 0 }) blocks m)
      ∙ (λ i. record m {
        leases = give_lease leases.next actor file until leases.leases;
        next_lease = leases.next + 1;
        slots = blocks.slots;
        condemned = given_is leases.next actor file until leases.leases blocks.condemned
            held.below i;
        next_condemned = blocks.next;
      })

  pub ended_held : (lease : ℕ) → later.leases ≡ end_lease lease leases.leases
      → later.next ≡ leases.next → IsHeld m.servers blocks later m.dropped loads
  unfolding end_lease
  ended_held lease is next =
      record {
        servers_fit = held.servers_fit;
        slots_fit = held.slots_fit;
        next_lease = subst (Each (λ (lease : Lease). lease.lease < later.next)) (sym is)
            (each_filter _ _ leases.leases
            (each_weaker _ _
            (λ lease (low : lease.lease < leases.next). omega (arith, low, next))
            leases.leases held.next_lease));
        below = each_weaker _ _
            (λ entry (low : entry.below ≤ leases.next). omega (arith, low, next))
            blocks.condemned held.below;
        dropped_in_order = held.dropped_in_order;
        counted = held.counted;
      }

  pub ended_image : (lease : ℕ) → later.leases ≡ end_lease lease leases.leases
      → later.next ≡ leases.next
      → with_both later blocks m ≡ apply (with_both leases blocks m) (EndLease lease)
  unfolding apply finish_lease
  ended_image lease is next =
      (λ i. with_both (record { leases = is i; next = next i; spare = 0 }) blocks m)
      ∙ (λ i. record m {
        leases = end_lease lease leases.leases;
        next_lease = leases.next;
        slots = blocks.slots;
        condemned = ended_is lease leases.leases blocks.condemned i;
        next_condemned = blocks.next;
      })

-- ---- dropped actors

-- the first place that passes, or the end
pub place_or_end : {X : Type 0} (p : X → Bool) (xs : List X)
    → unwrap_or (position p xs) (length xs) ≡ position_or_len p xs
place_or_end p xs =
    let within = prefix_len-le-length (λ x. not (p x)) xs in
    elim (nat_lt (position_or_len p xs) (length xs)) as (λ b.
    nat_lt (position_or_len p xs) (length xs) ≡ b
    → unwrap_or (cond b (Some (position_or_len p xs)) None) (length xs)
    ≡ position_or_len p xs) [
      | true ↦ λ is. refl
      | false ↦ λ is. grind (arith, nat_tests, within)
    ] refl

-- an actor that wasn't dropped is placed before the first above it
pub placed_above : (actor turn : ℕ) (rows : List DroppedActor) → dropped_at actor rows ≡ None
    → add_dropped actor turn rows
    ≡ insert rows (position_or_len (is_above actor) rows) (record { actor = actor; turn = turn })
unfolding dropped_at add_dropped dropped_cmp
placed_above actor turn [] none = refl
placed_above actor turn (row ∷ rows) none =
    one (nat_lt actor row.actor) (actor == row.actor) refl refl none
    (placed_above actor turn rows)
  where
    one : (below same : Bool) → nat_lt actor row.actor ≡ below → (actor == row.actor) ≡ same
        → option_map (λ (d : DroppedActor). d.turn)
        (find (λ (d : DroppedActor). has_key (dropped_order actor) d) (row ∷ rows)) ≡ None
        → (option_map (λ (d : DroppedActor). d.turn) (find (has_key (dropped_order actor)) rows)
        ≡ None → place dropped_cmp (record { actor = actor; turn = turn }) rows
        ≡ insert rows (position_or_len (is_above actor) rows)
        (record { actor = actor; turn = turn }))
        → place dropped_cmp (record { actor = actor; turn = turn }) (row ∷ rows)
        ≡ insert (row ∷ rows) (position_or_len (is_above actor) (row ∷ rows))
        (record { actor = actor; turn = turn })
    one true same p q none rest = rw p refl
    one false true p q none rest = absurd (let e = rw (p, q) at none in cc)
    one false false p q none rest =
        let further = rest (rw (p, q) at none) in
        let at = position_or_len (is_above actor) rows in
        let next : suc at ≡ 1 + at = omega arith in
        rw (p, q) (ap (λ found. row ∷ found) further
        ∙ ap (λ n. insert (row ∷ rows) n (record { actor = actor; turn = turn })) next)

pub dropped_total : IsTotalOrder dropped_cmp
unfolding dropped_cmp
dropped_total = on_total (λ d. d.actor) nat_cmp_total

pub dropped_held : (servers : List ServerView) (blocks : BlockTables) (leases : LiveLeases)
    (dropped : List DroppedActor) (loads : List Load) (actor turn : ℕ)
    → IsHeld servers blocks leases dropped loads
    → IsHeld servers blocks leases (add_dropped actor turn dropped) loads
unfolding add_dropped
dropped_held servers blocks leases dropped loads actor turn held =
    record {
      servers_fit = held.servers_fit;
      slots_fit = held.slots_fit;
      next_lease = held.next_lease;
      below = held.below;
      dropped_in_order = place_rises dropped_total _ dropped held.dropped_in_order;
      counted = held.counted;
    }
