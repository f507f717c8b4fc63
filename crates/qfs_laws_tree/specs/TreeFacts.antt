-- Paths, refusals of the name tree, and what stands in it. Cited by the laws of the metaserver and
-- of puts and gets, and for names and the metaserver in memory.
use Rattle.qfs_base.specs.NameTree.{PathNames, Standing, add_refusal, directory_refusal}
use Rattle.qfs_base.specs.NameTree.{file_refusal, is_filled, is_within, kind_at, look_refusal}
use Rattle.qfs_base.specs.NameTree.{new_refusal, parents_of, parents_refusal, path_eq}
use Rattle.qfs_base.specs.NameTree.{rmdir_refusal, row_cmp, stands_at, through_refusal}
use Rattle.qfs_base.specs.Table.{Each, first_of}
use Rattle.qfs_base.specs.declared.image.TreeRow.{TreeRow}
use Rattle.qfs_base.specs.declared.lists.NameKind.{NameKind}
use Rattle.qfs_base.specs.declared.reply.TreeRefusal.{TreeRefusal}
use Rattle.qfs_model_meta.specs.TreeRows.{kind_of, row_path, standing}
use Rattle.std.proofs.Common.{Bool, List, None, Option, Some, [], ap, arith, cond, false, find}
use Rattle.std.proofs.Common.{length, map, nat_eq, refl, suc, sym, take, true, ℕ, ◌+◌, ◌-◌, ◌<◌}
use Rattle.std.proofs.Common.{◌∙◌, ◌∷◌, ◌≡◌, ◌≢◌}
use Rattle.std.proofs.lemmas.Bool.Decides.{Decides-eqb}
use Rattle.std.proofs.lemmas.Slice.Eq.{slice_eq-Decides}
use Rattle.std.specs.Bool.{Decides, then_some}
use Rattle.std.specs.Cmp.{IsTotalOrder, on_total}
use Rattle.std.specs.Cmp.Lexicographic.{lists_ties, lists_total, nat_list_cmp_total, pointwise}
use Rattle.std.specs.Cmp.Lexicographic.{slice_cmp, texts_ties}
use Rattle.std.specs.List.{range_with_len}
use Rattle.std.specs.Option.{option_map, option_or}
use Rattle.std.specs.Ordering.{is_eq, nat_cmp}
use Rattle.std.specs.declared.cmp.Ordering.TheVariants.{Equal}
use Rattle.qfs_base.specs.declared.lists.NameKind.TheVariants as Is
use Rattle.qfs_base.specs.declared.reply.TreeRefusal.TheVariants as Not
use Rattle.qfs_base.specs.EachLaws.{each_weaker}
use Rattle.qfs_laws_tables.specs.EachRow.{each_of_all, found_has, none_found}
use Rattle.qfs_laws_tables.specs.Keys.{equal-is}

-- ---- paths

path_decides : (p q : PathNames) → Decides (path_eq p q) (p ≡ q)
path_decides p q =
    slice_eq-Decides (λ a b. slice_eq-Decides Decides-eqb a b (pointwise nat_eq a b) refl) p q
    (path_eq p q) refl

pub path-is : (p q : PathNames) → path_eq p q ≡ true → p ≡ q
path-is p q is = (path_decides p q).0 is

pub path-self : (p : PathNames) → path_eq p p ≡ true
path-self p = (path_decides p p).1 refl

pub within-is : (top path : PathNames) → is_within top path ≡ true → top ≡ take (length top) path
within-is top path is = path-is top (take (length top) path) is

pub is-within : (top path : PathNames) → top ≡ take (length top) path → is_within top path ≡ true
is-within top path is = (path_decides top (take (length top) path)).1 is

pub tree_total : IsTotalOrder (row_cmp row_path)
tree_total = on_total row_path (lists_total nat_list_cmp_total)

pub row-ties : (a b : TreeRow) → row_cmp row_path a b ≡ Equal → a.path ≡ b.path
row-ties a b is =
    path-is a.path b.path (lists_ties (slice_cmp nat_cmp) texts_ties a.path b.path ∙ ap is_eq is)

pub row-tied : (a b : TreeRow) → a.path ≡ b.path → row_cmp row_path a b ≡ Equal
row-tied a b same =
    equal-is _ (sym (lists_ties (slice_cmp nat_cmp) texts_ties a.path b.path) ∙ ap (path_eq a.path)
    (sym same) ∙ path-self a.path)

-- ---- refusals

pub or-none : (a b : Option TreeRefusal) → option_or a b ≡ None → (a ≡ None) × (b ≡ None)
or-none None b none = (refl, none)
or-none (Some x) b none = absurd (cc)

through-none : (absent : TreeRefusal) (kind : Option NameKind) → through_refusal absent kind ≡ None
    → kind ≡ Some Is.Directory
unfolding through_refusal
through-none absent None e = absurd (cc)
through-none absent (Some Is.Directory) e = refl
through-none absent (Some Is.Unclosed) e = absurd (cc)
through-none absent (Some Is.Closed) e = absurd (cc)

first-none : (answer : PathNames → Option TreeRefusal) (xs : List PathNames)
    → first_of answer xs ≡ None → Each (λ x. answer x ≡ None) xs
first-none answer [] none = tt
first-none answer (x ∷ xs) none = let p = or-none _ _ none in (p.0, first-none answer xs p.1)

pub parents-stand : (absent : TreeRefusal) (tree : List Standing) (path : PathNames)
    → parents_refusal absent tree path ≡ None
    → Each (λ parent. kind_at tree parent ≡ Some Is.Directory) (parents_of path)
unfolding parents_refusal
parents-stand absent tree path none =
    each_weaker _ _ (λ parent e. through-none absent _ e) (parents_of path)
    (first-none _ (parents_of path) none)

pub new-none : (kind : Option NameKind) → new_refusal kind ≡ None → kind ≡ None
unfolding new_refusal
new-none None e = refl
new-none (Some k) e = absurd (cc)

pub file-none : (kind : Option NameKind) → file_refusal kind ≡ None → kind ≡ Some Is.Closed
unfolding file_refusal
file-none None e = absurd (cc)
file-none (Some Is.Directory) e = absurd (cc)
file-none (Some Is.Unclosed) e = absurd (cc)
file-none (Some Is.Closed) e = refl

pub add-free : (tree : List Standing) (path : PathNames) → add_refusal tree path ≡ None
    → Each (λ parent. kind_at tree parent ≡ Some Is.Directory) (parents_of path)
    × (kind_at tree path ≡ None)
unfolding add_refusal
add-free tree path none =
    let p = or-none _ _ none in (parents-stand Not.NoParent tree path p.0, new-none _ p.1)

pub look-closed : (tree : List Standing) (path : PathNames) → look_refusal tree path ≡ None
    → kind_at tree path ≡ Some Is.Closed
unfolding look_refusal
look-closed tree path none = file-none _ (or-none _ _ none).1

pub rmdir-empty : (tree : List Standing) (path : PathNames) → rmdir_refusal tree path ≡ None
    → (kind_at tree path ≡ Some Is.Directory) × (is_filled tree path ≡ false)
unfolding rmdir_refusal directory_refusal
rmdir-empty tree path none =
    let p = or-none _ _ none in
    (through-none Not.Missing _ (or-none _ _ p.0).1, empty (is_filled tree path) p.1)
  where
    empty : (b : Bool) → then_some b Not.NotEmpty ≡ None → b ≡ false
    empty true e = absurd (cc)
    empty false e = refl

-- ---- what stands in a tree

abbrev pub kind_in : TreeRow → NameKind
kind_in row = kind_of row.file row.closed

pub kind-at : (tree : List TreeRow) (name : List ℕ) (names : PathNames)
    → kind_at (standing tree) (name ∷ names) ≡ option_map kind_in
    (find (stands_at row_path (name ∷ names)) tree)
unfolding kind_at standing
kind-at [] name names = refl
kind-at (row ∷ rows) name names =
    elim (path_eq row.path (name ∷ names)) as (λ b.
    option_map (λ (row : Standing). row.kind)
    (cond b (Some (record { path = row.path; kind = kind_of row.file row.closed }))
    (find (λ (row : Standing). path_eq row.path (name ∷ names))
    (map (λ (row : TreeRow). record { path = row.path; kind = kind_of row.file row.closed }) rows)))
    ≡ option_map kind_in (cond b (Some row) (find (stands_at row_path (name ∷ names)) rows)))
    [ true ↦ refl | false ↦ kind-at rows name names ]

-- what stands at a path is a row there
pub kind-row : (tree : List TreeRow) (path : PathNames) (kind : NameKind) → (path ≡ [] → ⊥)
    → kind_at (standing tree) path ≡ Some kind
    → (row : TreeRow) × (find (stands_at row_path path) tree ≡ Some row) × (row.path ≡ path)
    × (kind_in row ≡ kind)
kind-row tree [] kind root at = absurd (root refl)
kind-row tree (name ∷ names) kind root at =
    one (find (stands_at row_path (name ∷ names)) tree) refl (sym (kind-at tree name names) ∙ at)
  where
    one : (o : Option TreeRow) → find (stands_at row_path (name ∷ names)) tree ≡ o
        → option_map kind_in o ≡ Some kind
        → (row : TreeRow) × (find (stands_at row_path (name ∷ names)) tree ≡ Some row)
        × (row.path ≡ name ∷ names) × (kind_in row ≡ kind)
    one None is at = absurd (cc)
    one (Some row) is at = (
      row,
      is,
      path-is row.path (name ∷ names)
          (found_has (λ _. Unit {0}) (stands_at row_path (name ∷ names)) tree row is
          (each_of_all (λ _. Unit {0}) (λ _. tt) tree)).1,
      cc,
    )

-- where nothing stands, no row is
pub none-at : (tree : List TreeRow) (path : PathNames) → kind_at (standing tree) path ≡ None
    → (path ≢ []) × Each (λ row. path_eq row.path path ≡ false) tree
none-at tree [] none = absurd (root none)
  where
    root : kind_at (standing tree) [] ≡ None → ⊥
    root none = let e : Some Is.Directory ≡ None = unfold kind_at in none in cc
none-at tree (name ∷ names) none = (
  (λ e. cc),
  none_found (stands_at row_path (name ∷ names)) tree
      (one (find (stands_at row_path (name ∷ names)) tree) (sym (kind-at tree name names) ∙ none)),
)
  where
    one : (o : Option TreeRow) → option_map kind_in o ≡ None → o ≡ None
    one None e = refl
    one (Some row) e = absurd (cc)

-- a parent that may be led through leaves the choice to those below it
pub parents_next : (refusal_at : PathNames → Option TreeRefusal) (names : PathNames) (depth : ℕ)
    → depth < length names → refusal_at (take depth names) ≡ None
    → first_of refusal_at (map (λ n. take n names)
    (range_with_len depth (length names - depth)))
    ≡ first_of refusal_at (map (λ n. take n names)
    (range_with_len (depth + 1) (length names - (depth + 1))))
parents_next refusal_at names depth within passed =
    let count = length names - (depth + 1) in
    let next : length names - depth ≡ suc count = omega arith in
    ap (λ k. first_of refusal_at (map (λ n. take n names) (range_with_len depth k))) next
    ∙ ap (λ o. option_or o (first_of refusal_at (map (λ n. take n names)
    (range_with_len (depth + 1) count)))) passed
