-- The requests that make many changes: a file is removed or given up, an actor is dropped, a
-- deletion is ordered. For the law `stays_sound`.
use Rattle.qfs_base.specs.NameTree.{PathNames, look_refusal}
use Rattle.qfs_base.specs.Sizes.{LAST_U32}
use Rattle.qfs_base.specs.Table.{Each, IsRising}
use Rattle.qfs_base.specs.declared.change.Change.{Change}
use Rattle.qfs_base.specs.declared.change.Change.TheVariants.{AbortFile, DropActor, EmptySlot}
use Rattle.qfs_base.specs.declared.change.Change.TheVariants.{EndLease, GiveUp, MarkOrdered}
use Rattle.qfs_base.specs.declared.change.Change.TheVariants.{RemoveFile}
use Rattle.qfs_base.specs.declared.chunk.BlockId.{BlockId}
use Rattle.qfs_base.specs.declared.chunk.Copy.{Copy}
use Rattle.qfs_base.specs.declared.image.CondemnedRow.{CondemnedRow}
use Rattle.qfs_base.specs.declared.image.MetaImage.{MetaImage}
use Rattle.qfs_base.specs.declared.image.SlotRecord.{SlotRecord}
use Rattle.qfs_base.specs.declared.image.SlotRow.{SlotRow}
use Rattle.qfs_base.specs.declared.image.TreeRow.{TreeRow}
use Rattle.qfs_base.specs.declared.reply.Condemned.{Condemned}
use Rattle.qfs_model_meta.specs.Apply.{apply, apply_all, change_record, empty_slot, finish_lease}
use Rattle.qfs_model_meta.specs.Apply.{with_slots, write_entry}
use Rattle.qfs_model_meta.specs.Condemned.{condemn_any, condemned_cmp, is_copy_of, is_unblocked}
use Rattle.qfs_model_meta.specs.Condemned.{may_go, next_to_go}
use Rattle.qfs_model_meta.specs.Counters.{counters_fit}
use Rattle.qfs_model_meta.specs.Decision.{Makes}
use Rattle.qfs_model_meta.specs.DropRequest.{changes_unless_dropped, decide_drop, drop_changes}
use Rattle.qfs_model_meta.specs.DropRequest.{is_recovery_of, recovery_changes, unclosed_changes}
use Rattle.qfs_model_meta.specs.Dropped.{dropped_at}
use Rattle.qfs_model_meta.specs.Grammar.{IsActor}
use Rattle.qfs_model_meta.specs.Leases.{leases_of}
use Rattle.qfs_model_meta.specs.Past.{ListedCopy, Past, remember}
use Rattle.qfs_model_meta.specs.PutRequests.{abort_changes, abort_unclosed, decide_abort}
use Rattle.qfs_model_meta.specs.Servers.{is_listed, is_live, server_at}
use Rattle.qfs_model_meta.specs.Slots.{change_slot, emptied_slot, granted_copy, is_of_file, is_slot}
use Rattle.qfs_model_meta.specs.Slots.{never_granted, same_block, slot_at, slots_of}
use Rattle.qfs_model_meta.specs.Sound.{IsLetGo, KeepsListed, is_blocked_copy, is_condemned_of}
use Rattle.qfs_model_meta.specs.SweepRequests.{decide_order, order_row}
use Rattle.qfs_model_meta.specs.TreeRequests.{decide_remove, remove_changes}
use Rattle.qfs_model_meta.specs.TreeRows.{has_file, is_unclosed_of, is_unclosed_row, rising_files}
use Rattle.qfs_model_meta.specs.TreeRows.{row_at, standing, take_file, unclosed_file}
use Rattle.qfs_model_meta.specs.TreeRows.{unclosed_files}
use Rattle.std.proofs.Common.{Bool, List, None, Option, Some, [], ap, arith, cond, false, filter}
use Rattle.std.proofs.Common.{find, inl, inr, length, map, nat_eq, nat_lt, not, refl, subst, suc}
use Rattle.std.proofs.Common.{sym, true, zero, ℕ, ⊎_elim, ◌&&◌, ◌++◌, ◌+◌, ◌<◌, ◌==◌, ◌||◌, ◌∙◌}
use Rattle.std.proofs.Common.{◌∷◌, ◌≡◌, ◌≢◌, ◌≤◌, ◌⊎◌}
use Rattle.std.proofs.lemmas.Bool.{and_from, and_parts, eq-eqb, eqb-true, ne_eqb, or_right}
use Rattle.std.proofs.lemmas.Bool.{true≢false}
use Rattle.std.specs.Cmp.{ranked}
use Rattle.std.specs.List.{list_any}
use Rattle.std.specs.Ordering.{nat_cmp}
use Rattle.std.specs.Prelude.{IsTrue, flat_map}
use Rattle.std.specs.declared.cmp.Ordering.TheVariants.{Less}
use Rattle.qfs_base.specs.declared.reply.MetaReply.TheVariants as Told
use Rattle.qfs_laws_meta.specs.Kept.{Fits, Keeps}
use Rattle.qfs_laws_meta.specs.Known.{Knows, RowGranted, held}
use Rattle.qfs_laws_meta.specs.Replies.{ordered-kept}
use Rattle.qfs_laws_meta.specs.Requests.{AllMake, Fine, apply-append, file-fine, make-append}
use Rattle.qfs_laws_meta.specs.Requests.{need-fine, told-append, told_all}
use Rattle.qfs_laws_meta.specs.SimpleRequests.{IsAlwaysAllowed, each-map, free-make, free-told}
use Rattle.qfs_laws_meta.specs.SimpleRequests.{next-fits, unclosed-fits}
use Rattle.qfs_laws_slots.specs.Changes.{MayAbort}
use Rattle.qfs_laws_slots.specs.Condemning.{condemned_count, count_in, version_of, weight_of}
use Rattle.qfs_laws_slots.specs.Granted.{is_copy-is}
use Rattle.qfs_laws_slots.specs.Losing.{IsLosing, condemned-slots, losing-frame}
use Rattle.qfs_laws_slots.specs.RowKeys.{has_file-is, own-file}
use Rattle.qfs_laws_slots.specs.Slots.{Bare, is_slot-is, is_slot-self, of_file-is, same_block-is}
use Rattle.qfs_laws_slots.specs.Slots.{same_block-self, same_copy-is, slot-cases, slot_at-behind}
use Rattle.qfs_laws_tables.specs.Distinct.{one_if}
use Rattle.qfs_base.specs.EachLaws.{each_append, each_filter, each_weaker}
use Rattle.qfs_laws_tables.specs.EachRow.{each_of_all, each_both, each_map, each_passes, found_has}
use Rattle.qfs_laws_tables.specs.InOrder.{numbers-each, numbers-rise}
use Rattle.qfs_laws_tables.specs.SomeRow.{any_filter, found-any}
use Rattle.qfs_laws_tables.specs.Sums.{found-le-total, once-both, weigh_if}
use Rattle.qfs_laws_tree.specs.Tree.{HasTree, RowIs}

-- ---- changes that keep the tree

abbrev KeepsTree : Change → Type 0
KeepsTree change = (m : MetaImage) → (apply m change).tree ≡ m.tree

keep-tree : (changes : List Change) (m : MetaImage) → Each KeepsTree changes
    → (apply_all changes m).tree ≡ m.tree
unfolding apply_all
keep-tree [] m each = refl
keep-tree (change ∷ changes) m each = keep-tree changes (apply m change) each.1 ∙ each.0 m

losing-tree : (change : Change) → IsLosing change → KeepsTree change
losing-tree change is m = ap (λ (n : MetaImage). n.tree) (losing-frame m change is).is

each-tree : {X : Type 0} (f : X → Change) → ((x : X) → KeepsTree (f x)) → (xs : List X)
    → Each KeepsTree (map f xs)
each-tree f keeps [] = tt
each-tree f keeps (x ∷ xs) = (keeps x, each-tree f keeps xs)

-- ---- a file is removed

abbrev empty_row : SlotRow → Change
empty_row row = EmptySlot row.block row.slot

-- each slot of a file is bare, or one of those that are to be emptied
abbrev BareBut : MetaImage → ℕ → List SlotRow → Type 0
BareBut m file rows =
    (block : BlockId) (slot : ℕ) → block.file ≡ file → ((slot_at m.slots block slot).current ≡ None)
    ⊎ (list_any (is_slot block slot) rows ≡ true)

emptied-one : (m : MetaImage) (row : SlotRow) (block : BlockId) (slot : ℕ)
    → ((slot_at m.slots block slot).current ≡ None) ⊎ (is_slot block slot row ≡ true)
    → (slot_at (apply m (empty_row row)).slots block slot).current ≡ None
unfolding apply empty_slot change_record with_slots emptied_slot never_granted
emptied-one m row block slot either =
    let n : MetaImage = condemn_any row.block row.slot
    (condemn_any row.block row.slot m (slot_at m.slots row.block row.slot).current)
    (granted_copy (slot_at m.slots row.block row.slot).grant) in
    let same : n.slots ≡ m.slots = condemned-slots row.block row.slot _
    (granted_copy (slot_at m.slots row.block row.slot).grant) ∙ condemned-slots row.block
    row.slot m (slot_at m.slots row.block row.slot).current in
    subst (λ rows. (slot_at (change_slot row.block row.slot emptied_slot rows) block
    slot).current ≡ None) (sym same)
    (slot-cases (λ st. st.current ≡ None) row.block block row.slot slot emptied_slot m.slots
    (λ _. refl) (λ _ _. refl)
    (λ off. ⊎_elim (λ none. none) (λ is. absurd
    (let k = is_slot-is block slot row is in true≢false
    (sym (is_slot-self (record { block = row.block; slot = row.slot; state = never_granted }))
    ∙ (λ i. is_slot row.block row.slot
    (record { block = k.0 i; slot = k.1 i; state = never_granted })) ∙ off))) either))

emptied-all : (file : ℕ) (rows : List SlotRow) (m : MetaImage) → BareBut m file rows
    → Bare (apply_all (map empty_row rows) m) file
unfolding apply_all
emptied-all file [] m bare =
    λ block slot own. ⊎_elim (λ none. none) (λ any. absurd (true≢false (sym any)))
    (bare block slot own)
emptied-all file (row ∷ rows) m bare =
    emptied-all file rows (apply m (empty_row row)) (λ block slot own.
    ⊎_elim (λ none. inl (emptied-one m row block slot (inl none)))
    (λ any. (elim (is_slot block slot row) as
    (λ b. is_slot block slot row ≡ b → (b || list_any (is_slot block slot) rows) ≡ true →
    ((slot_at (apply m (empty_row row)).slots block slot).current ≡ None)
    ⊎ (list_any (is_slot block slot) rows ≡ true)) [
      | true ↦ λ is _. inl (emptied-one m row block slot (inr is))
      | false ↦ λ _ any. inr any
    ]) refl any)
    (bare block slot own))

slots-listed : (file : ℕ) (rows : List SlotRow) (block : BlockId) (slot : ℕ) → block.file ≡ file
    → ((slot_at rows block slot).current ≡ None)
    ⊎ (list_any (is_slot block slot) (slots_of file rows) ≡ true)
unfolding slots_of never_granted slot_at
slots-listed file [] block slot own = inl refl
slots-listed file (row ∷ rows) block slot own =
    let rest : List SlotRow = filter (is_of_file file) rows in
    (elim (is_slot block slot row) as
    (λ b. is_slot block slot row ≡ b → ((slot_at (row ∷ rows) block slot).current ≡ None)
    ⊎ (list_any (is_slot block slot) (cond (is_of_file file row) (row ∷ rest) rest) ≡ true)) [
      | true ↦ λ is.
          let k = is_slot-is block slot row is in
          let f : (is_of_file file row) ≡ true = of_file-is file row ∙ eq-eqb _ _
          (ap (λ (b : BlockId). b.file) k.0 ∙ own) in
          inr (subst (λ t. list_any (is_slot block slot) (cond t (row ∷ rest) rest) ≡ true) (sym f)
          (ap (λ t. t || list_any (is_slot block slot) rest) is))
      | false ↦ λ off.
          ⊎_elim (λ none. inl (ap (λ (st : SlotRecord). st.current)
          (slot_at-behind block slot row rows off) ∙ none))
          (λ any. inr (elim (is_of_file file row) as
          (λ t. list_any (is_slot block slot) (cond t (row ∷ rest) rest) ≡ true) [
            | true ↦ ap (λ t. t || list_any (is_slot block slot) rest) off ∙ any
            | false ↦ any
          ]))
          (slots-listed file rows block slot own)
    ]) refl

-- what the removal of a file makes
pub remove-fine : (actor : ℕ) (past : Past) (m : MetaImage) (path : PathNames)
    → Fine actor past m (decide_remove path m)
unfolding decide_remove remove_changes remember
remove-fine actor past m path =
    file-fine actor past m _ _ _ (λ closed.
    let file : ℕ = (row_at m.tree path).file in
    let rows : List SlotRow = slots_of file m.slots in
    let empties : List Change = map empty_row rows in
    let n : MetaImage = apply_all empties m in
    let trees : n.tree ≡ m.tree = keep-tree empties m
    (each-tree empty_row (λ row. losing-tree (empty_row row) tt) rows) in
    let free : Each IsAlwaysAllowed empties = each-map empty_row (λ row p k. (tt, refl)) rows in (
      make-append past m empties (RemoveFile path file ∷ []) (free-make empties free past m) (
        record {
          closed = ap (λ t. look_refusal (standing t) path) trees ∙ closed;
          at = ap (λ t. (row_at t path).file) trees;
          bare = emptied-all file rows m (λ block slot own. slots-listed file m.slots block slot
              own);
        },
        tt,
      ),
      λ h. subst (λ p. Keeps p (apply_all (empties ++ RemoveFile path file ∷ []) m))
          (told-append past m empties (RemoveFile path file ∷ []) ∙ free-told empties free past m)
          h,
    ))

-- ---- a file is given up

abbrev give_row : SlotRow → Change
give_row row = GiveUp row.block row.slot

abort-make : (past : Past) (m : MetaImage) (file : ℕ) (rows : List SlotRow) → MayAbort m file
    → AllMake past m (map give_row rows ++ AbortFile file ∷ [])
abort-make past m file rows may =
    let gives : List Change = map give_row rows in
    let trees : (apply_all gives m).tree ≡ m.tree = keep-tree gives m
    (each-tree give_row (λ row. losing-tree (give_row row) tt) rows) in
    make-append past m gives (AbortFile file ∷ [])
    (free-make gives (each-map give_row (λ row p k. (tt, refl)) rows) past m) (
      record {
        unclosed = subst (λ t. IsTrue
            (list_any (λ (row : TreeRow). is_unclosed_row row && has_file file row) t)) (sym trees)
            may.unclosed;
        number = may.number;
      },
      tt,
    )

abort-told : (past : Past) (m : MetaImage) (file : ℕ) (rows : List SlotRow)
    → told_all (map give_row rows ++ AbortFile file ∷ []) m past ≡ past
abort-told past m file rows =
    told-append past m (map give_row rows) (AbortFile file ∷ []) ∙ free-told (map give_row rows)
    (each-map give_row (λ row p k. (tt, refl)) rows) past m

abort-may : (actor file : ℕ) (m : MetaImage) (row : TreeRow) → Fits m → IsTrue (counters_fit m)
    → unclosed_file actor file m.tree ≡ Some row → MayAbort m file
unfolding unclosed_file
abort-may actor file m row f counters found =
    let u = unclosed-fits actor file m row f (next-fits m counters) found in
    record {
      unclosed = found-any _ (λ (row : TreeRow). is_unclosed_row row && (has_file file row))
          m.tree row found (and_from (is_unclosed_row row) (has_file file row) u.1
          (has_file-is file row ∙ eq-eqb _ _ u.2));
      number = u.0;
    }

pub abort-fine : (actor : ℕ) (past : Past) (m : MetaImage) (file : ℕ) → Fits m
    → IsTrue (counters_fit m) → Fine actor past m (decide_abort actor file m)
unfolding decide_abort abort_unclosed abort_changes remember
abort-fine actor past m file f counters =
    need-fine actor past m Told.Gone _ _ refl (λ row found. (
      abort-make past m file (slots_of file m.slots) (abort-may actor file m row f counters found),
      λ h. subst (λ p. Keeps p (apply_all
          (map give_row (slots_of file m.slots) ++ AbortFile file ∷ []) m))
          (abort-told past m file (slots_of file m.slots)) h,
    ))

-- ---- an actor is dropped

abbrev Unclosed : List TreeRow → ℕ → Type 0
Unclosed tree file =
    IsTrue (list_any (λ (row : TreeRow). is_unclosed_row row && has_file file row) tree)
    × (file ≤ LAST_U32)

files-rise : (actor : ℕ) (tree : List TreeRow) → IsRising nat_cmp (unclosed_files actor tree)
unfolding unclosed_files rising_files
files-rise actor tree =
    numbers-rise (map (λ (row : TreeRow). row.file) (filter (is_unclosed_of actor) tree)) [] tt

files-unclosed : (actor : ℕ) (tree : List TreeRow) (next : ℕ) → next ≤ LAST_U32 → HasTree next tree
    → Each (Unclosed tree) (unclosed_files actor tree)
unfolding unclosed_files rising_files is_unclosed_of
files-unclosed actor tree next fits h =
    numbers-each (Unclosed tree) (map (λ (row : TreeRow). row.file)
    (filter (λ (row : TreeRow). is_unclosed_row row && (row.actor == actor)) tree)) []
    (each_map (λ (row : TreeRow). ((is_unclosed_row row && (row.actor == actor)) ≡ true)
    × ((is_unclosed_row row ≡ true → list_any
    (λ (other : TreeRow). is_unclosed_row other && has_file row.file other) tree ≡ true)
    × (row.file ≤ LAST_U32))) (Unclosed tree) (λ (row : TreeRow). row.file)
    (λ row b. (b.1.0 (and_parts (is_unclosed_row row) (row.actor == actor) b.0).0, b.1.1))
    (filter (λ (row : TreeRow). is_unclosed_row row && (row.actor == actor)) tree)
    (each_both (λ (row : TreeRow). (is_unclosed_row row && (row.actor == actor)) ≡ true) _
    (filter (λ (row : TreeRow). is_unclosed_row row && (row.actor == actor)) tree)
    (each_passes (λ (row : TreeRow). is_unclosed_row row && (row.actor == actor)) tree)
    (each_filter _ (λ (row : TreeRow). is_unclosed_row row && (row.actor == actor)) tree
    (each_both _ (λ (row : TreeRow). row.file ≤ LAST_U32) tree (own tree)
    (each_weaker (RowIs next) (λ (row : TreeRow). row.file ≤ LAST_U32)
    (λ row r. small row.file refl r.number) tree h.rows)))))
    tt
  where
    small : (n : ℕ) → n ≡ n → (0 < n → n < next) → n ≤ LAST_U32
    small zero e below = omega arith
    small (suc n) e below = let l = below (omega arith) in omega arith

    own : (rows : List TreeRow)
        → Each (λ (row : TreeRow). is_unclosed_row row ≡ true → list_any
        (λ (other : TreeRow). is_unclosed_row other && has_file row.file other) rows ≡ true) rows
    own [] = tt
    own (row ∷ rows) = (
      (λ is. ap (λ b. b || list_any (λ (other : TreeRow). is_unclosed_row other && has_file row.file
          other) rows) (and_from (is_unclosed_row row) (has_file row.file row) is
          (has_file-is row.file row ∙ eq-eqb row.file row.file refl))),
      each_weaker (λ (later : TreeRow). is_unclosed_row later ≡ true → list_any
          (λ (other : TreeRow). is_unclosed_row other && has_file later.file other) rows ≡ true)
          (λ (later : TreeRow). is_unclosed_row later ≡ true → list_any
          (λ (other : TreeRow). is_unclosed_row other && has_file later.file other)
          (row ∷ rows) ≡ true) (λ later any is. or_right
          (is_unclosed_row row && has_file later.file row) _ (any is)) rows (own rows),
    )

-- what giving a file up leaves of the tree
aborted-tree : (m : MetaImage) (file : ℕ) (rows : List SlotRow)
    → (apply_all (map give_row rows ++ AbortFile file ∷ []) m).tree ≡ take_file file m.tree
unfolding apply_all apply write_entry with_slots
aborted-tree m file rows =
    ap (λ (n : MetaImage). n.tree) (apply-append m (map give_row rows) (AbortFile file ∷ []))
    ∙ ap (take_file file) (keep-tree (map give_row rows) m
    (each-tree give_row (λ row. losing-tree (give_row row) tt) rows))

still-unclosed : (tree : List TreeRow) (file other : ℕ) → file < other → Unclosed tree other
    → Unclosed (take_file file tree) other
unfolding take_file
still-unclosed tree file other low u = (
  any_filter (λ (row : TreeRow). is_unclosed_row row && has_file other row)
      (λ (row : TreeRow). not (has_file file row))
      (λ row is. let e : row.file ≡ other = own-file other row
      (and_parts (is_unclosed_row row) (has_file other row) is).1 in ap not
      (has_file-is file row ∙ ne_eqb row.file file (λ same. omega arith))) tree u.0,
  u.1,
)

aborts : (past : Past) (slots : List SlotRow) (files : List ℕ) (m : MetaImage)
    → IsRising nat_cmp files → Each (Unclosed m.tree) files
    → AllMake past m (flat_map (λ file. abort_changes file slots) files)
unfolding abort_changes
aborts past slots [] m rising each = tt
aborts past slots (file ∷ files) m rising each =
    let rows : List SlotRow = slots_of file slots in
    make-append past m (map give_row rows ++ AbortFile file ∷ []) _
    (abort-make past m file rows (record { unclosed = each.0.0; number = each.0.1 }))
    (subst (λ p. AllMake p (apply_all (map give_row rows ++ AbortFile file ∷ []) m)
    (flat_map (λ file. map give_row (slots_of file slots) ++ AbortFile file ∷ []) files))
    (sym (abort-told past m file rows))
    (aborts past slots files (apply_all (map give_row rows ++ AbortFile file ∷ []) m) rising.1
    (each_weaker (λ other. (nat_cmp file other ≡ Less) × Unclosed m.tree other) _
    (λ other b. subst (λ t. Unclosed t other) (sym (aborted-tree m file rows))
    (still-unclosed m.tree file other (ranked file other Less (sym b.0)) b.1)) files
    (each_both (λ other. nat_cmp file other ≡ Less) (Unclosed m.tree) files rising.0 each.1))))

aborts-told : (past : Past) (slots : List SlotRow) (files : List ℕ) (m : MetaImage)
    → told_all (flat_map (λ file. abort_changes file slots) files) m past ≡ past
unfolding abort_changes
aborts-told past slots [] m = refl
aborts-told past slots (file ∷ files) m =
    let rows : List SlotRow = slots_of file slots in
    told-append past m (map give_row rows ++ AbortFile file ∷ []) _
    ∙ ap (told_all (flat_map (λ file. map give_row (slots_of file slots) ++ AbortFile file ∷ [])
    files) (apply_all (map give_row rows ++ AbortFile file ∷ []) m)) (abort-told past m file rows)
    ∙ aborts-told past slots files (apply_all (map give_row rows ++ AbortFile file ∷ []) m)

drop-free : (actor : ℕ) (m : MetaImage)
    → Each IsAlwaysAllowed
    (map EndLease (leases_of actor m.leases) ++ recovery_changes actor m.tree m.slots)
unfolding recovery_changes
drop-free actor m =
    each_append IsAlwaysAllowed (map EndLease (leases_of actor m.leases)) _
    (each-map EndLease (λ lease p n. (tt, refl)) (leases_of actor m.leases))
    (each-map give_row (λ row p n. (tt, refl)) (filter (is_recovery_of actor m.tree) m.slots))

drop-tree : (actor : ℕ) (m : MetaImage)
    → Each KeepsTree (DropActor actor ∷ map EndLease (leases_of actor m.leases) ++ recovery_changes
    actor m.tree m.slots)
unfolding recovery_changes apply finish_lease
drop-tree actor m = (
  (λ n. refl),
  each_append KeepsTree (map EndLease (leases_of actor m.leases)) _
      (each-tree EndLease (λ lease n. refl) (leases_of actor m.leases))
      (each-tree give_row (λ row. losing-tree (give_row row) tt)
      (filter (is_recovery_of actor m.tree) m.slots)),
)

dropping : (actor by : ℕ) (past : Past) (m : MetaImage) → IsActor actor → Fits m
    → IsTrue (counters_fit m)
    → Fine by past m (Makes (drop_changes actor m) (Told.Done (length m.history)))
unfolding drop_changes unclosed_changes remember
dropping actor by past m who f counters =
    let rest : List Change = map EndLease (leases_of actor m.leases) ++ recovery_changes actor
    m.tree m.slots in
    let xs : List Change = DropActor actor ∷ rest in
    let n : MetaImage = apply m (DropActor actor) in
    let ys : List Change = flat_map (λ file. abort_changes file m.slots)
    (unclosed_files actor m.tree) in
    let whole : DropActor actor ∷ map EndLease (leases_of actor m.leases) ++ recovery_changes actor
    m.tree m.slots ++ ys ≡ xs ++ ys = refl in
    let trees = keep-tree xs m (drop-tree actor m) in
    let same : told_all xs m past ≡ past = free-told rest (drop-free actor m) past n in
    subst (λ cs. AllMake past m cs × (Keeps (told_all cs m past) (apply_all cs m) → Keeps past
    (apply_all cs m))) (sym whole) (
      make-append past m xs ys (who, free-make rest (drop-free actor m) past n)
          (subst (λ p. AllMake p (apply_all xs m) ys) (sym same)
          (aborts past m.slots (unclosed_files actor m.tree) (apply_all xs m)
          (files-rise actor m.tree)
          (subst (λ t. Each (Unclosed t) (unclosed_files actor m.tree)) (sym trees)
          (files-unclosed actor m.tree m.next_file (next-fits m counters) f.tree)))),
      λ h. subst (λ p. Keeps p (apply_all (xs ++ ys) m))
          (told-append past m xs ys ∙ ap (told_all ys (apply_all xs m)) same ∙ aborts-told past
          m.slots (unclosed_files actor m.tree) (apply_all xs m)) h,
    )

undropped : (actor by : ℕ) (past : Past) (m : MetaImage) → IsActor actor → Fits m
    → IsTrue (counters_fit m)
    → Fine by past m (Makes (changes_unless_dropped actor m None) (Told.Done (length m.history)))
unfolding changes_unless_dropped
undropped actor by past m who f counters = dropping actor by past m who f counters

again : (actor by : ℕ) (past : Past) (m : MetaImage) (turn : ℕ)
    → Fine by past m (Makes (changes_unless_dropped actor m (Some turn))
    (Told.Done (length m.history)))
unfolding changes_unless_dropped remember
again actor by past m turn = (tt, λ h. h)

pub drop-fine : (actor by : ℕ) (past : Past) (m : MetaImage) → IsActor actor → Fits m
    → IsTrue (counters_fit m) → Fine by past m (decide_drop actor m)
unfolding decide_drop
drop-fine actor by past m who f counters = one (dropped_at actor m.dropped)
  where
    one : (o : Option ℕ)
        → Fine by past m (Makes (changes_unless_dropped actor m o) (Told.Done (length m.history)))
    one None = undropped actor by past m who f counters
    one (Some turn) = again actor by past m turn

-- ---- a deletion is ordered

rising-one : (test : CondemnedRow → Bool) (rows : List CondemnedRow) (row : CondemnedRow)
    → IsRising condemned_cmp rows → find test rows ≡ Some row
    → Each (λ (r : CondemnedRow). r.condemned.number ≡ row.condemned.number → r ≡ row) rows
rising-one test [] row rising found = tt
rising-one test (x ∷ rows) row rising found =
    (elim (test x) as (λ b. cond b (Some x) (find test rows) ≡ Some row →
    (x.condemned.number ≡ row.condemned.number → x ≡ row) × Each
    (λ (r : CondemnedRow). r.condemned.number ≡ row.condemned.number → r ≡ row) rows) [
      | true ↦ λ found.
          let e : x ≡ row = cc in (
            (λ _. e),
            each_weaker (λ (r : CondemnedRow). nat_cmp x.condemned.number
                r.condemned.number ≡ Less) (λ (r : CondemnedRow).
                r.condemned.number ≡ row.condemned.number → r ≡ row)
                (λ r above same. absurd (let l = ranked x.condemned.number r.condemned.number Less
                (sym above) in let n : x.condemned.number ≡ row.condemned.number = ap
                (λ (k : CondemnedRow). k.condemned.number) e in omega arith)) rows rising.0,
          )
      | false ↦ λ found.
          let b = (found_has (λ (r : CondemnedRow). nat_cmp x.condemned.number
          r.condemned.number ≡ Less) test rows row found rising.0).0 in (
            (λ same. absurd (let l = ranked x.condemned.number row.condemned.number Less (sym b) in
                omega arith)),
            rising-one test rows row rising.1 found,
          )
    ]) found

unblocked-nil : (leases : List ℕ) → is_unblocked leases ≡ true → leases ≡ []
unfolding is_unblocked
unblocked-nil [] is = refl
unblocked-nil (l ∷ ls) is = absurd (true≢false (sym is))

-- a condemned copy is neither current nor granted
copy-weight : (v : ℕ) (copy : Copy) → copy.version ≡ v → version_of v copy ≡ 1
copy-weight v copy same = ap one_if (eq-eqb copy.version v same)

row-weight : (row : CondemnedRow)
    → weight_of row.condemned.copy.version row.condemned.block row.condemned.slot row ≡ 1
unfolding is_condemned_of
row-weight row =
    let b = same_block-self row.condemned.block in
    let s : (row.condemned.slot == row.condemned.slot) ≡ true = eq-eqb row.condemned.slot
    row.condemned.slot refl in
    let v : nat_eq row.condemned.copy.version row.condemned.copy.version ≡ true = eq-eqb
    row.condemned.copy.version row.condemned.copy.version refl in
    (λ i. weigh_if (b i && s i) (one_if (v i)))

not-held : (past : Past) (m : MetaImage) (test : CondemnedRow → Bool) (row : CondemnedRow)
    → Knows past m → find test m.condemned ≡ Some row
    → held row.condemned.copy.version (slot_at m.slots row.condemned.block row.condemned.slot) ≡ 0
not-held past m test row k found =
    let c : Condemned = row.condemned in
    let o = k.different c.copy.version c.block c.slot in
    let l = found-le-total (weight_of c.copy.version c.block c.slot) test m.condemned row found in
    let w = row-weight row in
    omega arith

no-such-copy : (copy : Copy) (o : Option Copy) → count_in copy.version o ≡ 0 → o ≢ Some copy
no-such-copy copy o none is =
    let w = copy-weight copy.version copy refl in
    let e : count_in copy.version (Some copy) ≡ 0 = subst (λ x. count_in copy.version x ≡ 0) is none
    in
    omega arith

order-found : (m : MetaImage) (after : ℕ) (row : CondemnedRow)
    → next_to_go m.servers after m.condemned ≡ Some row
    → find (λ (row : CondemnedRow). nat_lt after row.condemned.number && may_go m.servers row)
    m.condemned ≡ Some row
unfolding next_to_go
order-found m after row found = found

-- the test that finds the row that is ordered, of its slot and version alone
abbrev that_row : CondemnedRow → CondemnedRow → Bool
that_row row r =
    (is_condemned_of row.condemned.block row.condemned.slot r && nat_eq r.condemned.copy.version
    row.condemned.copy.version) && is_unblocked r.blockers

unblocked-any : (m : MetaImage) (after : ℕ) (row : CondemnedRow)
    → next_to_go m.servers after m.condemned ≡ Some row → is_unblocked row.blockers ≡ true
    → list_any (that_row row) m.condemned ≡ true
unfolding next_to_go is_condemned_of
unblocked-any m after row found free = found-any _ (that_row row) m.condemned row found
    (and_from _ _ (and_from _ _ (and_from _ _ (same_block-self row.condemned.block)
    (eq-eqb row.condemned.slot row.condemned.slot refl))
    (eq-eqb row.condemned.copy.version row.condemned.copy.version refl)) free)

-- a row that a lease blocks and one that nothing blocks are two
weighs-one : (r : CondemnedRow) (block : BlockId) (slot v : ℕ) → r.condemned.block ≡ block
    → r.condemned.slot ≡ slot → r.condemned.copy.version ≡ v → weight_of v block slot r ≡ 1
unfolding is_condemned_of
weighs-one r block slot v b s e =
    let x : same_block r.condemned.block block ≡ true = ap (λ k. same_block k block) b
    ∙ same_block-self block in
    let y : (r.condemned.slot == slot) ≡ true = eq-eqb _ _ s in
    let z : nat_eq r.condemned.copy.version v ≡ true = eq-eqb _ _ e in
    (λ i. weigh_if (x i && y i) (one_if (z i)))

two-rows : (m : MetaImage) (l : ListedCopy) (row : CondemnedRow)
    → (l.of_slot.block ≡ row.condemned.block) × (l.of_slot.slot ≡ row.condemned.slot)
    × (l.of_slot.copy ≡ row.condemned.copy)
    → held row.condemned.copy.version (slot_at m.slots row.condemned.block row.condemned.slot) +
    condemned_count row.condemned.copy.version row.condemned.block row.condemned.slot m.condemned ≤
    1
    → list_any (is_blocked_copy l.lease l.of_slot) m.condemned ≡ true → list_any (that_row row)
    m.condemned ≡ true → ⊥
unfolding is_blocked_copy is_copy_of is_condemned_of
two-rows m l row same once blocked free =
    once-both ⊥ (weight_of row.condemned.copy.version row.condemned.block row.condemned.slot)
    (is_blocked_copy l.lease l.of_slot) (that_row row)
    (λ r is.
    let a = and_parts _ _ (and_parts _ _ (and_parts _ _ is).0).0 in
    let b = and_parts _ _ a.0 in
    let blocks : r.condemned.block ≡ row.condemned.block = same_block-is _ _ b.0 ∙ same.0 in
    let slots : r.condemned.slot ≡ row.condemned.slot = eqb-true _ _ b.1 ∙ same.1 in
    let copies : r.condemned.copy ≡ row.condemned.copy = same_copy-is _ _ a.1 ∙ same.2 in
    let w = weighs-one r row.condemned.block row.condemned.slot row.condemned.copy.version blocks
    slots (ap (λ (k : Copy). k.version) copies) in omega arith)
    (λ r is.
    let a = and_parts _ _ (and_parts _ _ is).0 in
    let b = and_parts _ _ a.0 in
    let w = weighs-one r row.condemned.block row.condemned.slot row.condemned.copy.version
    (same_block-is _ _ b.0) (eqb-true _ _ b.1) (eqb-true _ _ a.1) in omega arith)
    (λ r p q. let none = unblocked-nil r.blockers (and_parts _ _ q).1 in let some =
    (and_parts _ _ p).1 in true≢false (sym some ∙ ap (list_any (nat_eq l.lease)) none))
    m.condemned (omega arith) blocked free

marked-let_go : (past : Past) (m : MetaImage) (row : CondemnedRow) → IsLetGo past m row.condemned
    → IsLetGo past (apply m (MarkOrdered row.condemned.number)) row.condemned
unfolding apply
marked-let_go past m row go =
    record {
      not_current = go.not_current;
      not_granted = go.not_granted;
      not_listed = go.not_listed;
    }

order-may : (m : MetaImage) (after : ℕ) (row : CondemnedRow) → Fits m
    → next_to_go m.servers after m.condemned ≡ Some row
    → Each (λ (r : CondemnedRow). r.condemned.number ≡ row.condemned.number → r.blockers ≡ [])
    m.condemned
unfolding next_to_go may_go
order-may m after row f found =
    let passes = (found_has (λ _. Unit {0}) _ m.condemned row found
    (each_of_all _ (λ _. tt) m.condemned)).1 in
    let p = and_parts (nat_lt after row.condemned.number)
    (is_listed m.servers row.condemned.copy && is_unblocked row.blockers) passes in
    let q = and_parts (is_listed m.servers row.condemned.copy) (is_unblocked row.blockers) p.1 in
    each_weaker (λ (r : CondemnedRow). r.condemned.number ≡ row.condemned.number → r ≡ row) _
    (λ r one same. ap (λ (k : CondemnedRow). k.blockers) (one same) ∙ unblocked-nil row.blockers
    q.1) m.condemned
    (rising-one _ m.condemned row f.rows.rows.in_order found)

order-let_go : (past : Past) (m : MetaImage) (after : ℕ) (row : CondemnedRow) → Keeps past m
    → next_to_go m.servers after m.condemned ≡ Some row → IsLetGo past m row.condemned
unfolding next_to_go may_go is_listed is_blocked_copy is_copy_of
order-let_go past m after row h found =
    let c : Condemned = row.condemned in
    let free = not-held past m _ row h.knows found in
    let passes = (found_has (λ _. Unit {0}) _ m.condemned row found
    (each_of_all _ (λ _. tt) m.condemned)).1 in
    let p = and_parts (nat_lt after row.condemned.number) (may_go m.servers row) passes in
    let q = and_parts (is_listed m.servers row.condemned.copy) (is_unblocked row.blockers) p.1 in
    let live = (and_parts (is_live m.servers row.condemned.copy)
    (server_at m.servers row.condemned.copy.server).up q.0).0 in
    let not_current : (slot_at m.slots c.block c.slot).current ≢ Some c.copy = no-such-copy c.copy _
    (omega arith) in
    record {
      not_current = not_current;
      not_granted = no-such-copy c.copy _ (omega arith);
      not_listed = each_weaker (KeepsListed m) _ (λ l keeps lease is.
          let same = is_copy-is c.block c.slot c.copy l.of_slot is in
          let alive : is_live m.servers l.of_slot.copy ≡ true = ap (is_live m.servers) same.2 ∙ live
          in
          ⊎_elim
          (λ current. not_current (sym (λ i. (slot_at m.slots (same.0 i) (same.1 i)).current)
          ∙ current ∙ ap Some same.2))
          (λ blocked. two-rows m l row same (h.knows.different c.copy.version c.block c.slot)
          blocked (unblocked-any m after row found q.1))
          (keeps (and_from _ _ lease alive))) past.listed h.leases.kept;
    }

pub order-fine : (actor : ℕ) (past : Past) (m : MetaImage) (after : ℕ) → Keeps past m
    → Fine actor past m (decide_order after m)
unfolding decide_order order_row remember apply apply_all
order-fine actor past m after h =
    need-fine actor past m Told.Nothing _ _ refl (λ row found. (
      (order-may m after row h.fits found, tt),
      λ k. ordered-kept past (apply m (MarkOrdered row.condemned.number)) row.condemned
          (marked-let_go past m row (order-let_go past m after row h found))
          (found_has (RowGranted past) _ m.condemned row (order-found m after row found)
          h.knows.condemned).0 k,
    ))
