-- How the loads of the servers change with the rows of the table of slots.
use Rattle.std.proofs.Common.{◌≡◌, ℕ, zero, suc, ◌+◌, ◌*◌, ◌<◌, ◌≤◌, Bool, false, List, [], ◌∷◌, ◌++◌, length, take, drop, map, replicate, slice_range, slice_set, slice_index_or, count_by, Option, Some, None, refl, ap, sym, ◌∙◌, append_assoc, length-append, arith}
use Rattle.std.proofs.lemmas.List.{take_more, take_all, drop_more, set_at, get_or_at, append-nil, length-drop, length-map, length-take-le}
use Rattle.std.proofs.Math.ListN.{drop_of_length-le}
use Rattle.std.proofs.lemmas.List.Sums.{sum_by-append, count_by-le-length}
use Rattle.std.specs.Option.{option_to_list}
use Rattle.std.specs.List.{enumerate_from, flat_map}
use Rattle.qfs_base.specs.declared.chunk.Copy.{Copy}
use Rattle.qfs_base.specs.declared.image.Load.{Load}
use Rattle.qfs_base.specs.declared.image.MetaImage.{MetaImage}
use Rattle.qfs_base.specs.declared.image.ServerView.{ServerView}
use Rattle.qfs_base.specs.declared.image.SlotRow.{SlotRow}
use Rattle.qfs_base.specs.NameTree.{PathNames}
use Rattle.qfs_model_meta.specs.Apply.{apply, add_file, write_entry, finish_lease}
use Rattle.qfs_base.specs.declared.change.Change.TheVariants.{AddFile, GiveLease, EndLease}
use Rattle.qfs_model_meta.specs.Leases.{give_lease}
use Rattle.qfs_model_meta.specs.Placing.{load_of, census}
use Rattle.qfs_model_meta.specs.Step.{next_turn}
use Rattle.qfs_model_meta.specs.Slots.{is_on, count_on, granted_copy}
use Rattle.qfs_laws_slots.specs.Choice.{census-length}
use Rattle.qfs_meta.specs.Loads.{loads_of}
use Rattle.qfs_meta.proofs.RunLaws.{three_parts}

-- ---- what one server holds

count_by-append : {A : Type 0} (p : A → Bool) (xs ys : List A) → count_by p (xs ++ ys) ≡ count_by p xs + count_by p ys
count_by-append p xs ys = sum_by-append _ xs ys

-- how many copies of a row stand on a server in a life
abbrev pub copies_of_row : ℕ → ℕ → SlotRow → ℕ
copies_of_row server life row =
    count_by (is_on server life) (option_to_list row.state.current)
    + count_by (is_on server life) (option_to_list (granted_copy row.state.grant))

pub count_on-none : (server life : ℕ) → count_on server life [] ≡ 0
unfolding count_on
count_on-none server life = refl

pub count_on-next : (server life : ℕ) (row : SlotRow) (rows : List SlotRow) →
    count_on server life (row ∷ rows) ≡ copies_of_row server life row + count_on server life rows
unfolding count_on
count_on-next server life row rows =
    let p = is_on server life in
    let e₁ = count_by-append p (option_to_list row.state.current) (flat_map (λ (r : SlotRow). option_to_list r.state.current) rows) in
    let e₂ = count_by-append p (option_to_list (granted_copy row.state.grant)) (flat_map (λ (r : SlotRow). option_to_list (granted_copy r.state.grant)) rows) in
    omega (arith, e₁, e₂)

pub count_on-append : (server life : ℕ) (xs ys : List SlotRow) → count_on server life (xs ++ ys) ≡ count_on server life xs + count_on server life ys
count_on-append server life [] ys =
    let e = count_on-none server life in
    omega (arith, e)
count_on-append server life (row ∷ xs) ys =
    let whole = count_on-next server life row (xs ++ ys) in
    let front = count_on-next server life row xs in
    let rest = count_on-append server life xs ys in
    omega (arith, whole, front, rest)

one_at_most : (p : Copy → Bool) (copy : Option Copy) → count_by p (option_to_list copy) ≤ 1
one_at_most p None = omega (arith, count_by-le-length p [])
one_at_most p (Some copy) = count_by-le-length p (copy ∷ [])

-- each row adds two copies at most
pub count_on-bound : (server life : ℕ) (rows : List SlotRow) → count_on server life rows ≤ 2 * length rows
count_on-bound server life [] =
    let e = count_on-none server life in
    omega (arith, e)
count_on-bound server life (row ∷ rows) =
    let e = count_on-next server life row rows in
    let current = one_at_most (is_on server life) row.state.current in
    let granted = one_at_most (is_on server life) (granted_copy row.state.grant) in
    omega (arith, e, current, granted, count_on-bound server life rows)

-- the rows of a run, and the others
pub count_on-parts : (server life : ℕ) (rows : List SlotRow) (from to : ℕ) → from ≤ to →
    count_on server life rows ≡ count_on server life (take from rows ++ drop to rows) + count_on server life (slice_range rows from to)
count_on-parts server life rows from to rises =
    let whole = ap (count_on server life) (three_parts rows from to rises) in
    let first = count_on-append server life (take from rows) (slice_range rows from to ++ drop to rows) in
    let second = count_on-append server life (slice_range rows from to) (drop to rows) in
    let others = count_on-append server life (take from rows) (drop to rows) in
    omega (arith, whole, first, second, others)

-- ---- the loads of all servers

-- what a read past the end of the servers would give
abbrev pub past_end : ServerView
past_end = record { up = false; leaving = false; life = 0; until = 0 }

abbrev pub loads_from : ℕ → List ServerView → List SlotRow → List ℕ
loads_from number servers slots = map (λ (load : Load). load.count) (map (λ (s : ℕ × ServerView). load_of slots s.0 s.1) (enumerate_from number servers))

loads_from-at : (number : ℕ) (servers : List ServerView) (slots : List SlotRow) (at : ℕ) (d : ℕ) (e : ServerView) → at < length servers →
    slice_index_or (loads_from number servers slots) at d ≡ count_on (number + at) (slice_index_or servers at e).life slots
unfolding load_of
loads_from-at number [] slots at d e within = absurd (omega arith)
loads_from-at number (server ∷ servers) slots zero d e within =
    let n : number ≡ number + 0 = omega arith in
    ap (λ k. count_on k server.life slots) n
loads_from-at number (server ∷ servers) slots (suc at) d e within =
    let n : number + 1 + at ≡ number + suc at = omega arith in
    loads_from-at (number + 1) servers slots at d e (omega arith) ∙ ap (λ k. count_on k (slice_index_or servers at e).life slots) n

pub length-loads : (servers : List ServerView) (slots : List SlotRow) → length (loads_of servers slots) ≡ length servers
unfolding census
length-loads servers slots = length-map _ _ ∙ census-length slots 1 servers

-- the load of one server is what the rows of a run add to the load without them
pub load-parts : (servers : List ServerView) (slots : List SlotRow) (from to at d : ℕ) (e : ServerView) → from ≤ to → at < length servers →
    slice_index_or (loads_of servers slots) at d
    ≡ slice_index_or (loads_of servers (take from slots ++ drop to slots)) at d + count_on (at + 1) (slice_index_or servers at e).life (slice_range slots from to)
unfolding census
load-parts servers slots from to at d e rises within =
    let life : ℕ = (slice_index_or servers at e).life in
    let n : 1 + at ≡ at + 1 = omega arith in
    let all = loads_from-at 1 servers slots at d e within ∙ ap (λ k. count_on k life slots) n in
    let others = loads_from-at 1 servers (take from slots ++ drop to slots) at d e within ∙ ap (λ k. count_on k life (take from slots ++ drop to slots)) n in
    omega (arith, all, others, count_on-parts (at + 1) life slots from to rises)

-- a load is far below the last number
pub load-bound : (servers : List ServerView) (slots : List SlotRow) (at d : ℕ) (e : ServerView) → at < length servers →
    slice_index_or (loads_of servers slots) at d ≤ 2 * length slots
unfolding census
load-bound servers slots at d e within =
    omega (arith, loads_from-at 1 servers slots at d e within, count_on-bound (1 + at) (slice_index_or servers at e).life slots)

zeros_from : (number : ℕ) (servers : List ServerView) → replicate (length servers) 0 ≡ loads_from number servers []
unfolding load_of
zeros_from number [] = refl
zeros_from number (server ∷ servers) = λ i. sym (count_on-none number server.life) i ∷ zeros_from (number + 1) servers i

-- with no slots each load is 0
pub zeros : (servers : List ServerView) → replicate (length servers) 0 ≡ loads_of servers []
unfolding census
zeros servers = zeros_from 1 servers

-- ---- loads that are changed one after another: the first are as they are to be, and the others as they were

pub length-mixed : (after before : List ℕ) (at : ℕ) → at ≤ length after → length after ≡ length before → length (take at after ++ drop at before) ≡ length before
length-mixed after before at within same =
    let front = length-take-le at after within in
    let rest = length-drop at before in
    omega (arith, length-append (take at after) (drop at before), front, rest)

pub mixed-at : (after before : List ℕ) (at d : ℕ) → at < length after → length after ≡ length before →
    slice_index_or (take at after ++ drop at before) at d ≡ slice_index_or before at d
mixed-at after before at d within same =
    ap (λ rest. slice_index_or (take at after ++ rest) at d) (drop_more before at d (omega arith))
    ∙ get_or_at (take at after) (slice_index_or before at d) (drop (at + 1) before) d at (length-take-le at after (omega arith))

pub mixed-next : (after before now : List ℕ) (at load d : ℕ) → at < length after → length after ≡ length before →
    now ≡ take at after ++ drop at before → load ≡ slice_index_or after at d →
    slice_set now at load ≡ take (at + 1) after ++ drop (at + 1) before
mixed-next after before now at load d within same is changed =
    ap (λ loads. slice_set loads at load) (is ∙ ap (λ rest. take at after ++ rest) (drop_more before at d (omega arith)))
    ∙ set_at (take at after) (slice_index_or before at d) (drop (at + 1) before) load at (length-take-le at after (omega arith))
    ∙ ap (λ x. take at after ++ x ∷ drop (at + 1) before) changed
    ∙ sym (append_assoc (take at after) (slice_index_or after at d ∷ []) (drop (at + 1) before))
    ∙ ap (λ front. front ++ drop (at + 1) before) (sym (take_more after at d within))

pub mixed-end : (after before now : List ℕ) (at : ℕ) → length after ≤ at → length after ≡ length before → now ≡ take at after ++ drop at before → now ≡ after
mixed-end after before now at done same is =
    let past : length before ≤ at = omega arith in
    is
    ∙ (λ i. take_all at after done i ++ drop_of_length-le before past i)
    ∙ append-nil after

-- ---- requests that leave the servers and the slots

pub turned : (m new : MetaImage) → new ≡ next_turn m → loads_of new.servers new.slots ≡ loads_of m.servers m.slots
unfolding next_turn
turned m new is = ap (λ (n : MetaImage). loads_of n.servers n.slots) is

pub file_added : (m new : MetaImage) (path : PathNames) (actor command len : ℕ) → new ≡ next_turn (apply m (AddFile path actor command len)) →
    loads_of new.servers new.slots ≡ loads_of m.servers m.slots
unfolding next_turn apply add_file write_entry
file_added m new path actor command len is = ap (λ (n : MetaImage). loads_of n.servers n.slots) is

pub lease_given : (m new : MetaImage) (actor file until : ℕ) → new ≡ next_turn (apply m (GiveLease actor file until)) → loads_of new.servers new.slots ≡ loads_of m.servers m.slots
unfolding next_turn apply give_lease
lease_given m new actor file until is = ap (λ (n : MetaImage). loads_of n.servers n.slots) is

pub lease_ended : (m new : MetaImage) (lease : ℕ) → new ≡ next_turn (apply m (EndLease lease)) → loads_of new.servers new.slots ≡ loads_of m.servers m.slots
unfolding next_turn apply finish_lease
lease_ended m new lease is = ap (λ (n : MetaImage). loads_of n.servers n.slots) is
