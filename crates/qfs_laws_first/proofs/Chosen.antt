-- Some server is chosen where there are more servers, all of them up, than are barred. Cited by the
-- grants of a put.
use Rattle.std.proofs.Common.{◌≡◌, ℕ, zero, suc, ◌+◌, ◌<◌, ◌≤◌, nat_eq, Bool, true, false, cond}
use Rattle.std.proofs.Common.{not, ◌&&◌, List, [], ◌∷◌, length, map, filter, fold, replicate}
use Rattle.std.proofs.Common.{Option, Some, refl, sym, subst, ◌∙◌, arith}
use Rattle.std.specs.Option.{option_map}
use Rattle.std.specs.List.{IsDistinct, AllByRecursion, range_with_len, reduce, enumerate_from}
use Rattle.std.specs.Set.{is_member}
use Rattle.std.proofs.lemmas.Cmp.{nat_eq_equiv}
use Rattle.std.proofs.lemmas.List.FromFn.{length-range_with_len}
use Rattle.std.proofs.lemmas.Map.Made.{length-le_from_is_member}
use Rattle.std.proofs.lemmas.Bool.{and_right, eqb-true}
use Rattle.std.proofs.lemmas.Bool.Decides.{nat_tests}
use Rattle.std.specs.BTreeSet.{insert_key}
use Rattle.std.specs.declared.cmp.Ordering.TheVariants.{Less, Equal, Greater}
use Rattle.std.specs.Ordering.{nat_cmp, match_ordering}
use Rattle.qfs_base.specs.EachLaws.{each_filter}
use Rattle.qfs_base.specs.NumberSet.{has, with_member}
use Rattle.qfs_base.specs.Table.{Each}
use Rattle.qfs_base.specs.declared.chunk.Copy.{Copy}
use Rattle.qfs_base.specs.declared.image.Load.{Load}
use Rattle.qfs_base.specs.declared.image.ServerView.{ServerView}
use Rattle.qfs_base.specs.declared.image.SlotRow.{SlotRow}
use Rattle.qfs_model_meta.specs.Placing.{Numbered, load_of, census, is_open, open_servers, lighter}
use Rattle.qfs_model_meta.specs.Placing.{choose, with_live_servers}
use Rattle.qfs_model_meta.specs.Servers.{is_live}
use Rattle.qfs_model_meta.specs.Step.{first_server}
use Rattle.std.proofs.lemmas.List.{length-replicate}
use Rattle.qfs_laws_slots.specs.Choice.{IsNumbered, census-length, enumerated, lightest}

-- ---- open servers

-- a server that takes chunks
abbrev IsReady : Load → Type 0
IsReady load = (load.up ≡ true) × (load.leaving ≡ false)

-- where none is open, all of them are barred
none_open : (barred : List ℕ) (number : ℕ) (loads : List Load) → Each IsReady loads
    → filter (is_open barred) (enumerate_from number loads) ≡ []
    → (q : ℕ) → is_member nat_eq (range_with_len number (length loads)) q ≡ true
    → has barred q ≡ true
unfolding is_open
none_open barred number [] ready none q member = absurd (cc)
none_open barred number (load ∷ loads) ready none q member =
    one (has barred number) (nat_eq q number) refl refl
    (none_open barred (number + 1) loads ready.1)
  where
    one : (b here : Bool) → has barred number ≡ b → nat_eq q number ≡ here
        → (filter (is_open barred) (enumerate_from (number + 1) loads) ≡ [] → (q : ℕ)
        → is_member nat_eq (range_with_len (number + 1) (length loads)) q ≡ true
        → has barred q ≡ true)
        → has barred q ≡ true
    one true true p here rest = rw (eqb-true q number here) p
    one true false p here rest =
        let shut : is_open barred (number, load) ≡ false =
        rw p (and_right (load.up && not load.leaving) false refl) in
        rest (rw shut at none) q (rw here at member)
    one false here p is rest =
        let open_now : is_open barred (number, load) ≡ true = rw (ready.0.0, ready.0.1, p) refl in
        let nothing : (number, load) ∷ filter (is_open barred) (enumerate_from (number + 1) loads)
        ≡ [] = rw open_now at none in
        absurd (cc)

member-is : (xs : List ℕ) (q : ℕ) → has xs q ≡ is_member nat_eq xs q
member-is [] q = refl
member-is (x ∷ xs) q = rw (nat_eq_equiv.symm x q, member-is xs q) refl

-- numbers that rise differ
range-apart : (a n : ℕ) → IsDistinct nat_eq (range_with_len a n)
unfolding IsDistinct
range-apart a zero = tt
range-apart a (suc n) = (above (a + 1) n (omega arith), range-apart (a + 1) n)
  where
    above : (b n : ℕ) → a < b → AllByRecursion (λ y. nat_eq a y ≡ false) (range_with_len b n)
    above b zero less = tt
    above b (suc n) less = (grind (arith, nat_tests), above (b + 1) n (omega (arith, less)))

-- a server that was chosen of so many
pub record IsChosen (servers : ℕ) (found : Option ℕ) : Type 0 where
  pub server : ℕ
  pub first : 1 ≤ server
  pub last : server ≤ servers
  pub chosen : found ≡ Some server

chosen_of : (servers : ℕ) (candidates : List Numbered)
    → Each (IsNumbered 1 (1 + servers)) candidates → (candidates ≡ [] → ⊥)
    → IsChosen servers (option_map (λ (s : Numbered). s.0) (reduce lighter candidates))
chosen_of servers [] each some = absurd (some refl)
chosen_of servers (best ∷ rest) each some =
    let lightest = lightest (IsNumbered 1 (1 + servers)) best rest each.0 each.1 in
    record {
      server = (fold lighter best rest).0;
      first = lightest.0;
      last =
          omega (arith, lightest.1);
      chosen = refl;
    }

choose-some : (loads : List Load) (barred : List ℕ) → Each IsReady loads
    → length barred < length loads → IsChosen (length loads) (choose loads barred)
unfolding choose open_servers
choose-some loads barred ready few =
    chosen_of (length loads) (filter (is_open barred) (enumerate_from 1 loads))
    (each_filter (IsNumbered 1 (1 + length loads)) (is_open barred) (enumerate_from 1 loads)
    (enumerated 1 loads))
    (λ none.
    let all = length-le_from_is_member nat_eq_equiv (range_with_len 1 (length loads)) barred
    (range-apart 1 (length loads))
    (λ q member. sym (member-is barred q) ∙ none_open barred 1 loads ready none q member) in
    omega (arith, all, length-range_with_len 1 (length loads), few))

-- ---- the servers of the first path

ready_from : (slots : List SlotRow) (from n : ℕ)
    → Each IsReady (map (λ (s : ℕ × ServerView). load_of slots s.0 s.1)
    (enumerate_from from (replicate n first_server)))
unfolding load_of first_server
ready_from slots from zero = tt
ready_from slots from (suc n) = ((refl, refl), ready_from slots (from + 1) n)

pub choose-first : (slots : List SlotRow) (n : ℕ) (barred : List ℕ) → length barred < n
    → IsChosen n (choose (census (replicate n first_server) slots) barred)
unfolding census
choose-first slots n barred few =
    let long = census-length slots 1 (replicate n first_server) ∙ length-replicate n first_server in
    let loads : List Load =
    map (λ (s : ℕ × ServerView). load_of slots s.0 s.1)
    (enumerate_from 1 (replicate n first_server)) in
    subst (λ k. IsChosen k (choose loads barred)) long
    (choose-some loads barred (ready_from slots 1 n) (omega (arith, few, long)))

-- ---- how many are barred

insert_key-longer : (k : ℕ) (ks : List ℕ) → length (insert_key nat_cmp ks k) ≤ length ks + 1
insert_key-longer k [] = omega arith
insert_key-longer k (x ∷ xs) =
    let rest = insert_key-longer k xs in
    elim (nat_cmp k x) as
    (λ r. length (match_ordering r (k ∷ x ∷ xs) (x ∷ xs) (x ∷ insert_key nat_cmp xs k))
    ≤ length (x ∷ xs) + 1)
    [ Less ↦ omega arith | Equal ↦ omega arith | Greater ↦ omega (arith, rest) ]

barred-one : (servers : List ServerView) (set : List ℕ) (copy : Copy)
    → length (cond (is_live servers copy) (with_member set copy.server) set) ≤ length set + 1
barred-one servers set copy =
    elim (is_live servers copy) as (λ b. length (cond b (with_member set copy.server) set)
    ≤ length set + 1)
    [ true ↦ insert_key-longer copy.server set | false ↦ omega arith ]

pub barred-few : (servers : List ServerView) (set : List ℕ) (copies : List Copy)
    → length (with_live_servers servers set copies) ≤ length set + length copies
unfolding with_live_servers
barred-few servers set [] = omega arith
barred-few servers set (copy ∷ copies) =
    let next : List ℕ = cond (is_live servers copy) (with_member set copy.server) set in
    let rest = barred-few servers next copies in
    omega (arith, rest, barred-one servers set copy)
