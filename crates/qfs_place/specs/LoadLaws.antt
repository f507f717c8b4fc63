-- How the census of the servers changes with the copies that the slots have. Cited by the laws of
-- the changes, and by whoever keeps a census beside a table of slots.
use Rattle.std.proofs.Common.{◌≡◌, ◌≤◌, ◌∙◌, ℕ, zero, suc, ◌+◌, ◌-◌, ◌<◌, ◌==◌, ◌&&◌, Bool, true, false, cond, List, [], ◌∷◌, ◌++◌, length, map, fold, count_by, Option, Some, None, slice_index_or, slice_set, refl, sym, ap, subst, arith, ⊎_elim}
use Rattle.std.proofs.lemmas.Bool.{cases_eq, eqb-true}
use Rattle.std.proofs.lemmas.Bool.Decides.{nat_tests}
use Rattle.std.proofs.lemmas.List.{ext_get_or, get_or-set_other, get_or-set_same, length-set}
use Rattle.std.proofs.lemmas.List.Sums.{sum_by-append}
use Rattle.std.specs.List.{enumerate_from, flat_map}
use Rattle.std.specs.Option.{option_to_list}
use Rattle.qfs_base.specs.declared.chunk.Copy.{Copy}
use Rattle.qfs_base.specs.declared.image.Load.{Load}
use Rattle.qfs_base.specs.declared.image.ServerView.{ServerView}
use Rattle.qfs_base.specs.declared.image.SlotRecord.{SlotRecord}
use Rattle.qfs_base.specs.declared.image.SlotRow.{SlotRow}
use Rattle.qfs_laws_slots.specs.Choice.{census-length}
use Rattle.qfs_laws_tables.specs.Sums.{total, total-append}
use Rattle.qfs_model_meta.specs.Grammar.{IsServer}
use Rattle.qfs_model_meta.specs.Placing.{load_of, census}
use Rattle.qfs_model_meta.specs.Servers.{no_server, server_at, is_live}
use Rattle.qfs_model_meta.specs.Slots.{is_on, count_on, granted_copy}
use Rattle.qfs_place.specs.Loads.{no_load, load_at, change_load, one_more, one_fewer, count_live, uncount_live, count_row, uncount_row}

-- ---- what one slot adds to a server's load

-- how many copies stand on a server in a life: one or none
abbrev pub copies_on : ℕ → ℕ → Option Copy → ℕ
copies_on server life copy = count_by (is_on server life) (option_to_list copy)

-- the same of a slot's current copy and its grant
abbrev pub copies_in : ℕ → ℕ → SlotRecord → ℕ
copies_in server life state =
    copies_on server life state.current + copies_on server life (granted_copy state.grant)

abbrev pub weight : ℕ → ℕ → SlotRow → ℕ
weight server life row = copies_in server life row.state

count_by_append : (p : Copy → Bool) (xs ys : List Copy)
    → count_by p (xs ++ ys) ≡ count_by p xs + count_by p ys
count_by_append p xs ys = sum_by-append _ xs ys

pub count_on_none : (server life : ℕ) → count_on server life [] ≡ 0
unfolding count_on
count_on_none server life = refl

pub count_on_next : (server life : ℕ) (row : SlotRow) (rows : List SlotRow)
    → count_on server life (row ∷ rows) ≡ weight server life row + count_on server life rows
unfolding count_on
count_on_next server life row rows =
    let p = is_on server life in
    let e₁ = count_by_append p (option_to_list row.state.current)
    (flat_map (λ (r : SlotRow). option_to_list r.state.current) rows) in
    let e₂ = count_by_append p (option_to_list (granted_copy row.state.grant))
    (flat_map (λ (r : SlotRow). option_to_list (granted_copy r.state.grant)) rows) in
    omega (arith, e₁, e₂)

pub count_on_total : (server life : ℕ) (slots : List SlotRow)
    → count_on server life slots ≡ total (weight server life) slots
count_on_total server life [] = count_on_none server life
count_on_total server life (row ∷ rows) =
    count_on_next server life row rows
    ∙ ap (λ n. weight server life row + n) (count_on_total server life rows)

pub count_on_append : (server life : ℕ) (xs ys : List SlotRow)
    → count_on server life (xs ++ ys) ≡ count_on server life xs + count_on server life ys
count_on_append server life xs ys =
    let whole = count_on_total server life (xs ++ ys) in
    let front = count_on_total server life xs in
    let rest = count_on_total server life ys in
    let parts = total-append (weight server life) xs ys in
    omega (arith, whole, front, rest, parts)

-- ---- the census, server by server

census_from_at : (number : ℕ) (servers : List ServerView) (slots : List SlotRow) (at : ℕ)
    → at < length servers
    → slice_index_or (map (λ (s : ℕ × ServerView). load_of slots s.0 s.1)
    (enumerate_from number servers)) at no_load
    ≡ load_of slots (number + at) (slice_index_or servers at no_server)
census_from_at number [] slots at within = absurd (omega arith)
census_from_at number (server ∷ servers) slots zero within =
    let n : number ≡ number + 0 = omega arith in
    ap (λ k. load_of slots k server) n
census_from_at number (server ∷ servers) slots (suc at) within =
    let n : number + 1 + at ≡ number + suc at = omega arith in
    census_from_at (number + 1) servers slots at (omega arith)
    ∙ ap (λ k. load_of slots k (slice_index_or servers at no_server)) n

pub census_at : (servers : List ServerView) (slots : List SlotRow) (at : ℕ) → at < length servers
    → slice_index_or (census servers slots) at no_load
    ≡ load_of slots (suc at) (server_at servers (suc at))
unfolding census server_at
census_at servers slots at within =
    let n : 1 + at ≡ suc at = omega arith in
    census_from_at 1 servers slots at within
    ∙ ap (λ k. load_of slots k (slice_index_or servers at no_server)) n

pub length_census : (servers : List ServerView) (slots : List SlotRow)
    → length (census servers slots) ≡ length servers
unfolding census
length_census servers slots = census-length slots 1 servers

-- the load of a server that is there
pub census_load : (servers : List ServerView) (slots : List SlotRow) (s : ℕ)
    → IsServer (length servers) s
    → load_at (census servers slots) s ≡ load_of slots s (server_at servers s)
census_load servers slots zero is = absurd (omega (arith, is.0))
census_load servers slots (suc at) is = census_at servers slots at (omega (arith, is.1))

-- where the load of one server changed, and those of all others stayed
pub census_moved : (change : Load → Load) (s : ℕ) (servers later : List ServerView)
    (before after : List SlotRow) → length later ≡ length servers
    → load_of after s (server_at later s) ≡ change (load_of before s (server_at servers s))
    → ((n : ℕ) → (n ≡ s → ⊥)
    → load_of after n (server_at later n) ≡ load_of before n (server_at servers n))
    → census later after ≡ change_load change (census servers before) s
census_moved change zero servers later before after long own others =
    let new = length_census later after in
    let old = length_census servers before in
    ext_get_or no_load (census later after) (census servers before) (new ∙ long ∙ sym old)
    (λ i within. census_at later after i (omega (arith, within, new))
    ∙ others (suc i) (λ e. omega arith)
    ∙ sym (census_at servers before i (omega (arith, within, new, long))))
census_moved change (suc k) servers later before after long own others =
    let new = length_census later after in
    let old = length_census servers before in
    let load : Load = change (slice_index_or (census servers before) k no_load) in
    let set : List Load = slice_set (census servers before) k load in
    ext_get_or no_load (census later after) set
    (new ∙ long ∙ sym old ∙ sym (length-set (census servers before) k load))
    (λ i within. ⊎_elim
    (λ (e : k ≡ i). subst
    (λ n. slice_index_or (census later after) n no_load ≡ slice_index_or set n no_load) e
    (let here : k < length servers = omega (arith, within, new, long, e) in
    census_at later after k (omega (arith, here, long))
    ∙ own
    ∙ ap change (sym (census_at servers before k here))
    ∙ sym (get_or-set_same (census servers before) k load no_load (omega (arith, here, old)))))
    (λ differs. census_at later after i (omega (arith, within, new))
    ∙ others (suc i) (λ e. differs (omega arith))
    ∙ sym (census_at servers before i (omega (arith, within, new, long)))
    ∙ sym (get_or-set_other (census servers before) k i load no_load (λ e. differs (sym e))))
    (cases_eq k i))

pub load_of_same : (before after : List SlotRow) (n : ℕ) (server : ServerView)
    → count_on n server.life after ≡ count_on n server.life before
    → load_of after n server ≡ load_of before n server
unfolding load_of
load_of_same before after n server same =
    ap (λ (count : ℕ). record { up = server.up; leaving = server.leaving; count = count }) same

load_of_more : (before after : List SlotRow) (n : ℕ) (server : ServerView)
    → count_on n server.life after ≡ count_on n server.life before + 1
    → load_of after n server ≡ one_more (load_of before n server)
unfolding load_of
load_of_more before after n server more =
    ap (λ (count : ℕ). record { up = server.up; leaving = server.leaving; count = count }) more

load_of_fewer : (before after : List SlotRow) (n : ℕ) (server : ServerView)
    → count_on n server.life before ≡ count_on n server.life after + 1
    → load_of after n server ≡ one_fewer (load_of before n server)
unfolding load_of
load_of_fewer before after n server fewer =
    let e : count_on n server.life after ≡ count_on n server.life before - 1 =
    omega (arith, fewer) in
    ap (λ (count : ℕ). record { up = server.up; leaving = server.leaving; count = count }) e

-- where each server's load stayed
pub census_same : (servers : List ServerView) (before after : List SlotRow)
    → ((n : ℕ) → count_on n (server_at servers n).life after
    ≡ count_on n (server_at servers n).life before)
    → census servers after ≡ census servers before
census_same servers before after same =
    census_moved (λ _. load_of after 0 (server_at servers 0)) 0 servers servers before after refl
    refl
    (λ n _. load_of_same before after n (server_at servers n) (same n))

-- ---- one copy more or fewer

pub is_itself : (n : ℕ) → (n == n) ≡ true
is_itself n = grind (arith, nat_tests)

-- a live copy stands on its server, in the life that is known of it, and nowhere else
on_its_own : (servers : List ServerView) (copy : Copy) → is_live servers copy ≡ true
    → copies_on copy.server (server_at servers copy.server).life (Some copy) ≡ 1
unfolding is_live
on_its_own servers copy live =
    let life : ℕ = (server_at servers copy.server).life in
    let both : ((copy.server == copy.server) && (copy.life == life)) ≡ true =
    ap (λ b. b && (copy.life == life)) (is_itself copy.server) ∙ live in
    ap (λ b. 0 + cond b 1 0) both

pub on_no_other : (n life : ℕ) (copy : Copy) → (n ≡ copy.server → ⊥)
    → copies_on n life (Some copy) ≡ 0
on_no_other n life copy differs =
    elim (copy.server == n) as (λ b. (copy.server == n) ≡ b
    → 0 + cond (b && (copy.life == life)) 1 0 ≡ 0) [
      | true ↦ λ is. absurd (differs (sym (eqb-true copy.server n is)))
      | false ↦ λ is. refl
    ] refl

-- one that isn't live stands on no server
on_none : (servers : List ServerView) (copy : Copy) → is_live servers copy ≡ false
    → (n : ℕ) → copies_on n (server_at servers n).life (Some copy) ≡ 0
unfolding is_live
on_none servers copy dead n =
    elim (copy.server == n) as (λ b. (copy.server == n) ≡ b
    → 0 + cond (b && (copy.life == (server_at servers n).life)) 1 0 ≡ 0) [
      | true ↦ λ is.
          let own : (copy.life == (server_at servers n).life) ≡ false =
          subst (λ k. (copy.life == (server_at servers k).life) ≡ false)
          (eqb-true copy.server n is) dead in
          ap (λ b. 0 + cond b 1 0) own
      | false ↦ λ is. refl
    ] refl

-- the slots have one copy more
pub census_counted : (servers : List ServerView) (copy : Option Copy) (before after : List SlotRow)
    → ((n life : ℕ) → count_on n life after ≡ count_on n life before + copies_on n life copy)
    → census servers after ≡ count_live servers copy (census servers before)
census_counted servers None before after more =
    census_same servers before after
    (λ n. let m = more n (server_at servers n).life in omega (arith, m))
census_counted servers (Some copy) before after more =
    elim (is_live servers copy) as (λ b. is_live servers copy ≡ b → census servers after
    ≡ cond b (change_load one_more (census servers before) copy.server) (census servers before)) [
      | true ↦ λ live. census_moved one_more copy.server servers servers before after refl
          (load_of_more before after copy.server (server_at servers copy.server)
          (let m = more copy.server (server_at servers copy.server).life in
          let o = on_its_own servers copy live in omega (arith, m, o)))
          (λ n differs. load_of_same before after n (server_at servers n)
          (let m = more n (server_at servers n).life in
          let o = on_no_other n (server_at servers n).life copy differs in omega (arith, m, o)))
      | false ↦ λ dead. census_same servers before after
          (λ n. let m = more n (server_at servers n).life in
          let o = on_none servers copy dead n in omega (arith, m, o))
    ] refl

-- they have one copy fewer
pub census_uncounted : (servers : List ServerView) (copy : Option Copy)
    (before after : List SlotRow)
    → ((n life : ℕ) → count_on n life before ≡ count_on n life after + copies_on n life copy)
    → census servers after ≡ uncount_live servers copy (census servers before)
census_uncounted servers None before after fewer =
    census_same servers before after
    (λ n. let m = fewer n (server_at servers n).life in omega (arith, m))
census_uncounted servers (Some copy) before after fewer =
    elim (is_live servers copy) as (λ b. is_live servers copy ≡ b → census servers after
    ≡ cond b (change_load one_fewer (census servers before) copy.server) (census servers before)) [
      | true ↦ λ live. census_moved one_fewer copy.server servers servers before after refl
          (load_of_fewer before after copy.server (server_at servers copy.server)
          (let m = fewer copy.server (server_at servers copy.server).life in
          let o = on_its_own servers copy live in omega (arith, m, o)))
          (λ n differs. load_of_same before after n (server_at servers n)
          (let m = fewer n (server_at servers n).life in
          let o = on_no_other n (server_at servers n).life copy differs in omega (arith, m, o)))
      | false ↦ λ dead. census_same servers before after
          (λ n. let m = fewer n (server_at servers n).life in
          let o = on_none servers copy dead n in omega (arith, m, o))
    ] refl

-- no load rises where a copy leaves
fewer_at : (loads : List Load) (s n : ℕ)
    → (load_at (change_load one_fewer loads s) n).count ≤ (load_at loads n).count
fewer_at loads zero n = omega arith
fewer_at loads (suc k) zero = omega arith
fewer_at loads (suc k) (suc i) =
    let load : Load = one_fewer (slice_index_or loads k no_load) in
    ⊎_elim
    (λ (e : k ≡ i). subst
    (λ j. (slice_index_or (slice_set loads k load) j no_load).count
    ≤ (slice_index_or loads j no_load).count)
    e (here loads k))
    (λ differs. let same = ap (λ (l : Load). l.count)
    (get_or-set_other loads k i load no_load (λ e. differs (sym e))) in omega (arith, same))
    (cases_eq k i)
  where
    here : (loads : List Load) (k : ℕ)
        → (slice_index_or (slice_set loads k (one_fewer (slice_index_or loads k no_load))) k
        no_load).count
        ≤ (slice_index_or loads k no_load).count
    here [] k = omega arith
    here (load ∷ loads) zero = omega arith
    here (load ∷ loads) (suc k) = here loads k

pub uncounted_at : (servers : List ServerView) (copy : Option Copy) (loads : List Load) (n : ℕ)
    → (load_at (uncount_live servers copy loads) n).count ≤ (load_at loads n).count
uncounted_at servers None loads n = omega arith
uncounted_at servers (Some copy) loads n =
    elim (is_live servers copy) as (λ b.
    (load_at (cond b (change_load one_fewer loads copy.server) loads) n).count
    ≤ (load_at loads n).count) [
      | true ↦ fewer_at loads copy.server n
      | false ↦ omega arith
    ]

-- ---- slots that come and go

-- a slot without its current copy, and without its grant
abbrev without_current : SlotRow → SlotRow
without_current row = record row { state = record row.state { current = None } }

abbrev pub current_alone : SlotRow → SlotRow
current_alone row = record row { state = record row.state { grant = None } }

pub weight_parts : (n life : ℕ) (row : SlotRow)
    → (weight n life (current_alone row) ≡ copies_on n life row.state.current)
    × (weight n life (without_current row) ≡ copies_on n life (granted_copy row.state.grant))
unfolding granted_copy
weight_parts n life row = (omega arith, omega arith)

weight_last : (n life : ℕ) (rows : List SlotRow) (row : SlotRow)
    → count_on n life (rows ++ row ∷ []) ≡ count_on n life rows + weight n life row
weight_last n life rows row =
    let parts = count_on_append n life rows (row ∷ []) in
    let one = count_on_next n life row [] in
    let none = count_on_none n life in
    omega (arith, parts, one, none)

-- one row more
pub census_row : (servers : List ServerView) (rows : List SlotRow) (row : SlotRow)
    → census servers (rows ++ row ∷ []) ≡ count_row servers (census servers rows) row
census_row servers rows row =
    let middle : List SlotRow = rows ++ current_alone row ∷ [] in
    census_counted servers (granted_copy row.state.grant) middle (rows ++ row ∷ [])
    (λ n life. let a = weight_last n life rows row in
    let b = weight_last n life rows (current_alone row) in
    let c = weight_parts n life row in omega (arith, a, b, c.0))
    ∙ ap (count_live servers (granted_copy row.state.grant))
    (census_counted servers row.state.current rows middle
    (λ n life. let b = weight_last n life rows (current_alone row) in
    let c = weight_parts n life row in omega (arith, b, c.0)))

-- one row fewer, wherever it stood
pub census_unrow : (servers : List ServerView) (row : SlotRow) (before after : List SlotRow)
    → ((n life : ℕ) → count_on n life before ≡ count_on n life after + weight n life row)
    → census servers after ≡ uncount_row servers (census servers before) row
census_unrow servers row before after fewer =
    let middle : List SlotRow = after ++ without_current row ∷ [] in
    census_uncounted servers (granted_copy row.state.grant) middle after
    (λ n life. let b = weight_last n life after (without_current row) in
    let c = weight_parts n life row in omega (arith, b, c.1))
    ∙ ap (uncount_live servers (granted_copy row.state.grant))
    (census_uncounted servers row.state.current before middle
    (λ n life. let a = fewer n life in
    let b = weight_last n life after (without_current row) in
    let c = weight_parts n life row in omega (arith, a, b, c.1)))

-- so many rows fewer
pub census_unrows : (servers : List ServerView) (gone before after : List SlotRow)
    → ((n life : ℕ) → count_on n life before ≡ count_on n life after + count_on n life gone)
    → census servers after ≡ fold (uncount_row servers) (census servers before) gone
census_unrows servers [] before after fewer =
    census_same servers before after
    (λ n. let a = fewer n (server_at servers n).life in
    let b = count_on_none n (server_at servers n).life in omega (arith, a, b))
census_unrows servers (row ∷ gone) before after fewer =
    let middle : List SlotRow = after ++ gone in
    census_unrows servers gone middle after (λ n life. count_on_append n life after gone)
    ∙ ap (λ loads. fold (uncount_row servers) loads gone)
    (census_unrow servers row before middle
    (λ n life. let a = fewer n life in
    let b = count_on_append n life after gone in
    let c = count_on_next n life row gone in omega (arith, a, b, c)))
