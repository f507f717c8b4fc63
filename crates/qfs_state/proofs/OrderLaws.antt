-- The condemned copy that goes next is the same by the tables and by the image.
use Rattle.std.proofs.Common.{◌≡◌, ◌∙◌, ap, refl, ℕ, nat_lt, Bool, true, false, not, ◌||◌, ◌&&◌, cond, List, [], ◌∷◌, filter, Some}
use Rattle.std.specs.List.{list_any}
use Rattle.std.specs.Option.{option_map}
use Rattle.qfs_base.specs.declared.image.CondemnedEntry.{CondemnedEntry}
use Rattle.qfs_base.specs.declared.image.CondemnedRow.{CondemnedRow}
use Rattle.qfs_base.specs.declared.image.Lease.{Lease}
use Rattle.qfs_base.specs.declared.image.ServerView.{ServerView}
use Rattle.qfs_blocks.specs.Entries.{condemned_of, entry_may_go, next_entry, row_of_entry, rows_of_entries}
use Rattle.qfs_model_meta.specs.Condemned.{is_unblocked, may_go, next_to_go}
use Rattle.qfs_model_meta.specs.Leases.{leases_on}
use Rattle.qfs_model_meta.specs.Servers.{is_listed}

unblocked_alike : (below : ℕ) (leases : List ℕ)
    → not (list_any (λ lease. nat_lt lease below) leases)
    ≡ is_unblocked (filter (λ lease. nat_lt lease below) leases)
unfolding is_unblocked
unblocked_alike below [] = refl
unblocked_alike below (lease ∷ leases) =
    elim (nat_lt lease below) as (λ b.
    not (b || list_any (λ n. nat_lt n below) leases)
    ≡ is_unblocked (cond b (lease ∷ filter (λ n. nat_lt n below) leases)
    (filter (λ n. nat_lt n below) leases))) [
      | true ↦ refl
      | false ↦ unblocked_alike below leases
    ]

may_go_alike : (servers : List ServerView) (leases : List Lease) (entry : CondemnedEntry)
    → entry_may_go servers leases entry ≡ may_go servers (row_of_entry leases entry)
unfolding may_go
may_go_alike servers leases entry =
    ap (λ b. is_listed servers entry.condemned.copy && b)
    (unblocked_alike entry.below (leases_on entry.condemned.block.file leases))

pub next_alike : (servers : List ServerView) (leases : List Lease) (after : ℕ)
    (entries : List CondemnedEntry)
    → option_map condemned_of (next_entry servers leases after entries)
    ≡ option_map (λ (row : CondemnedRow). row.condemned)
    (next_to_go servers after (rows_of_entries leases entries))
unfolding next_to_go
next_alike servers leases after [] = refl
next_alike servers leases after (entry ∷ entries) =
    ap (λ b. option_map condemned_of (cond (nat_lt after entry.condemned.number && b) (Some entry)
    (next_entry servers leases after entries))) (may_go_alike servers leases entry)
    ∙ one (next_alike servers leases after entries)
    (nat_lt after entry.condemned.number && may_go servers (row_of_entry leases entry))
  where
    one : option_map condemned_of (next_entry servers leases after entries)
        ≡ option_map (λ (row : CondemnedRow). row.condemned)
        (next_to_go servers after (rows_of_entries leases entries))
        → (b : Bool)
        → option_map condemned_of (cond b (Some entry) (next_entry servers leases after entries))
        ≡ option_map (λ (row : CondemnedRow). row.condemned)
        (cond b (Some (row_of_entry leases entry))
        (next_to_go servers after (rows_of_entries leases entries)))
    one rest true = refl
    one rest false = rest
