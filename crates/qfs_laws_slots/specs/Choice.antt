-- The choice of a server by its load: who is chosen is a server that is open, and not barred. Cited
-- by the laws of the metaserver and of puts and gets.
use Rattle.qfs_base.specs.NumberSet.{has}
use Rattle.qfs_base.specs.Table.{Each}
use Rattle.qfs_base.specs.declared.image.Load.{Load}
use Rattle.qfs_base.specs.declared.image.ServerView.{ServerView}
use Rattle.qfs_base.specs.declared.image.SlotRow.{SlotRow}
use Rattle.qfs_model_meta.specs.Grammar.{IsServer}
use Rattle.qfs_model_meta.specs.Placing.{Numbered, census, choose, is_open, lighter, load_of}
use Rattle.qfs_model_meta.specs.Placing.{open_servers}
use Rattle.std.proofs.Common.{Bool, List, Some, [], ap, arith, cond, false, filter, length, map}
use Rattle.std.proofs.Common.{nat_lt, not, refl, subst, suc, sym, true, ℕ, ◌&&◌, ◌+◌, ◌<◌, ◌∙◌, ◌∷◌}
use Rattle.std.proofs.Common.{◌≡◌, ◌≤◌}
use Rattle.std.proofs.lemmas.Bool.{and_parts, not-true}
use Rattle.std.specs.List.{enumerate_from, reduce}
use Rattle.std.specs.Option.{option_map}
use Rattle.std.specs.Prelude.{fold}
use Rattle.qfs_base.specs.EachLaws.{each_filter, each_weaker}
use Rattle.qfs_laws_tables.specs.EachRow.{each_both, each_passes}

abbrev pub IsNumbered : ℕ → ℕ → Numbered → Type 0
IsNumbered from to s = (from ≤ s.0) × (s.0 < to)

pub enumerated : (from : ℕ) (loads : List Load)
    → Each (IsNumbered from (from + length loads)) (enumerate_from from loads)
enumerated from [] = tt
enumerated from (load ∷ loads) =
    let to : from + 1 + length loads ≡ from + length (load ∷ loads) = omega arith in
    let rest : Each (IsNumbered (from + 1) (from + length (load ∷ loads)))
    (enumerate_from (from + 1) loads) = subst
    (λ to. Each (IsNumbered (from + 1) to) (enumerate_from (from + 1) loads)) to
    (enumerated (from + 1) loads) in (
      (omega arith, omega arith),
      each_weaker (IsNumbered (from + 1) (from + length (load ∷ loads)))
          _ (λ s is. wider s is) (enumerate_from (from + 1) loads) rest,
    )
  where
    wider : (s : Numbered) → IsNumbered (from + 1) (from + length (load ∷ loads)) s
        → IsNumbered from (from + length (load ∷ loads)) s
    wider s is = (omega (arith, is.0), is.1)

pub census-length : (slots : List SlotRow) (from : ℕ) (servers : List ServerView)
    → length (map (λ (s : ℕ × ServerView). load_of slots s.0 s.1)
    (enumerate_from from servers)) ≡ length servers
census-length slots from [] = refl
census-length slots from (s ∷ servers) = ap suc (census-length slots (from + 1) servers)

pub lightest : (P : Numbered → Type 0) (best : Numbered) (servers : List Numbered) → P best
    → Each P servers → P (fold lighter best servers)
unfolding lighter
lightest P best [] b each = b
lightest P best (next ∷ servers) b each =
    lightest P (cond (nat_lt next.1.count best.1.count) next best) servers
    (elim (nat_lt next.1.count best.1.count) as (λ t. P (cond t next best))
    [ true ↦ each.0 | false ↦ b ]) each.1

pub reduced : (P : Numbered → Type 0) (servers : List Numbered) (number : ℕ)
    → ((s : Numbered) → P s → (n : ℕ) → s.0 ≡ n → P (n, s.1)) → Each P servers
    → option_map (λ (s : Numbered). s.0) (reduce lighter servers) ≡ Some number
    → (s : Numbered) × (s.0 ≡ number) × P s
reduced P [] number moves each e = absurd (cc)
reduced P (best ∷ rest) number moves each e =
    let s : Numbered = fold lighter best rest in
    (s, (let q : Some s.0 ≡ Some number = e in cc), lightest P best rest each.0 each.1)

pub chosen-is : (servers : List ServerView) (slots : List SlotRow) (barred : List ℕ) (server : ℕ)
    → choose (census servers slots) barred ≡ Some server
    → IsServer (length servers) server × (has barred server ≡ false)
unfolding choose open_servers is_open census
chosen-is servers slots barred server chosen =
    let loads : List Load = map (λ (s : ℕ × ServerView). load_of slots s.0 s.1)
    (enumerate_from 1 servers) in
    let test : Numbered → Bool = λ s. s.1.up && not s.1.leaving && not (has barred s.0) in
    let r = reduced (λ s. IsNumbered 1 (1 + length loads) s × (test s ≡ true))
    (filter test (enumerate_from 1 loads)) server
    (λ s p n e. subst (λ k. IsNumbered 1 (1 + length loads) (k, s.1) × (test (k, s.1) ≡ true)) e p)
    (each_both (IsNumbered 1 (1 + length loads)) (λ s. test s ≡ true)
    (filter test (enumerate_from 1 loads))
    (each_filter (IsNumbered 1 (1 + length loads)) test (enumerate_from 1 loads)
    (enumerated 1 loads)) (each_passes test (enumerate_from 1 loads))) chosen in
    let l = census-length slots 1 servers in
    let low = r.2.0.0 in
    let high = r.2.0.1 in
    let same = r.1 in (
      (omega arith, omega arith),
      ap (has barred) (sym r.1) ∙ not-true _
          (and_parts (r.0.1.up && not r.0.1.leaving) (not (has barred r.0.0)) r.2.1).1,
    )
