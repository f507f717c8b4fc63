-- The table of the paths that are lent: a path more, a path that is found, and its keys.
use Rattle.std.proofs.Common.{◌≡◌, ℕ, true, false, List, [], ◌∷◌, Some, cond, refl, ap}
use Rattle.std.specs.Borrow.{Bor}
use Rattle.std.specs.BTreeMap.{insert_entry}
use Rattle.std.specs.List.Sorted.{IsStrictlySortedBy}
use Rattle.std.specs.Map.{keys_of}
use Rattle.std.specs.Option.{option_copied}
use Rattle.std.specs.Ordering.{nat_cmp, is_eq, match_ordering}
use Rattle.std.specs.declared.cmp.Ordering.TheVariants.{Less, Equal, Greater}
use Rattle.qfs_base.specs.KeyMap.{value_at, with_entry}
use Rattle.qfs_base.specs.NameTree.{PathNames}
use Rattle.qfs_report.specs.AuditTables.{paths_of}

pub paths_more : (closed : List (ℕ × Bor PathNames)) (file : ℕ) (path : Bor PathNames)
    → paths_of (with_entry nat_cmp closed file path)
    ≡ with_entry nat_cmp (paths_of closed) file path.now
unfolding paths_of
paths_more [] file path = refl
paths_more (e ∷ es) file path =
    elim (nat_cmp file e.0) as (λ r. paths_of
    (match_ordering r ((file, path) ∷ e ∷ es) ((e.0, path) ∷ es)
    (e ∷ insert_entry nat_cmp es file path))
    ≡ match_ordering r ((file, path.now) ∷ (e.0, e.1.now) ∷ paths_of es)
    ((e.0, path.now) ∷ paths_of es)
    ((e.0, e.1.now) ∷ insert_entry nat_cmp (paths_of es) file path.now)) [
      | Less ↦ refl
      | Equal ↦ refl
      | Greater ↦ ap (λ rest. (e.0, e.1.now) ∷ rest) (paths_more es file path)
    ]

pub paths_found : (closed : List (ℕ × Bor PathNames)) (file : ℕ)
    → value_at nat_cmp (paths_of closed) file ≡ option_copied (value_at nat_cmp closed file)
unfolding paths_of
paths_found [] file = refl
paths_found (e ∷ es) file =
    elim (is_eq (nat_cmp file e.0))
    as (λ b. cond b (Some e.1.now) (value_at nat_cmp (paths_of es) file)
    ≡ option_copied (cond b (Some e.1) (value_at nat_cmp es file))) [
      | true ↦ refl
      | false ↦ paths_found es file
    ]

pub paths_keys : (closed : List (ℕ × Bor PathNames)) → keys_of (paths_of closed) ≡ keys_of closed
unfolding paths_of
paths_keys [] = refl
paths_keys (e ∷ es) = ap (λ keys. e.0 ∷ keys) (paths_keys es)

-- no keys rise
pub none_rise : {V : Type 0} (closed : List (ℕ × V)) → closed ≡ []
    → IsStrictlySortedBy nat_cmp (keys_of closed)
unfolding IsStrictlySortedBy
none_rise closed empty = rw empty tt

pub no_paths : (closed : List (ℕ × Bor PathNames)) → closed ≡ [] → paths_of closed ≡ []
unfolding paths_of
no_paths closed empty = rw empty refl
