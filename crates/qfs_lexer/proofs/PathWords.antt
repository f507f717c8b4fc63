-- Words that spell paths.
use Rattle.std.proofs.Common.{◌≡◌, ◌∙◌, sym, ap, refl, subst, arith, ℕ, ◌<◌, ◌≤◌, Bool, true, false, ◌&&◌, not, cond, List, [], ◌∷◌, ◌++◌, length, Option, Some, None, Result, Ok, Err}
use Rattle.std.specs.Prelude.{All, ◌==◌, nat_le, ok_or}
use Rattle.std.specs.Bool.{Decides}
use Rattle.std.specs.List.{list_all}
use Rattle.std.specs.Str.{bytes_eq}
use Rattle.std.proofs.lemmas.Bool.{leb-true, le-leb, eqb-true, eqb-false, ne_eqb, not-true, not_from_false, and_parts, and_from, cond-true, both_ways, false_from_ne_true}
use Rattle.std.proofs.lemmas.Bool.Decides.{Decides-by_and}
use Rattle.std.proofs.lemmas.Slice.Eq.{bytes_eq-Decides}
use Rattle.qfs_base.specs.Path.{IsName, IsNameByte, IsPath, SpellsPath, slash, split_names, names_text, path_text}
use Rattle.qfs_base.proofs.PathTexts.{split_of_text, text_of_path}
use Rattle.qfs_base.specs.declared.script.ScriptCause.TheVariants as Cause
use Rattle.qfs_model_grammar.specs.Kinds.{is_name_byte, is_name, few_names, path_below, path_of, path_in}

is_name_byte-Decides : (byte : ℕ) → Decides (is_name_byte byte) (IsNameByte byte)
is_name_byte-Decides byte = (
  λ tested. let parts = and_parts _ _ tested in let range = and_parts _ _ parts.0 in
      (leb-true _ _ range.0, leb-true _ _ range.1, eqb-false _ _ (not-true _ parts.1)),
  λ is. and_from _ _ (and_from _ _ (le-leb _ _ is.0) (le-leb _ _ is.1)) (not_from_false _ (ne_eqb _ _ is.2)),
)

bytes-Decides : (name : List ℕ) → Decides (list_all is_name_byte name) (All IsNameByte name)
bytes-Decides = Decides-by_and is_name_byte IsNameByte (list_all is_name_byte) is_name_byte-Decides refl (λ _ _. refl)

other-true : (name word : List ℕ) → not (bytes_eq name word) ≡ true → name ≡ word → ⊥
other-true name word tested same = both_ways _ (not-true _ tested) ((bytes_eq-Decides name word).1 same)

other_from : (name word : List ℕ) → (name ≡ word → ⊥) → not (bytes_eq name word) ≡ true
other_from name word other = not_from_false _ (false_from_ne_true _ (λ same. other ((bytes_eq-Decides name word).0 same)))

named : (name : List ℕ) → is_name name ≡ true → IsName name
named name tested =
    let first = and_parts _ _ tested in
    let second = and_parts _ _ first.0 in
    let third = and_parts _ _ second.0 in
    let fourth = and_parts _ _ third.0 in
    (leb-true _ _ fourth.0, leb-true _ _ fourth.1, (bytes-Decides name).0 third.1, other-true _ _ second.1, other-true _ _ first.1)

is_name_from : (name : List ℕ) → IsName name → is_name name ≡ true
is_name_from name is =
    and_from _ _ (and_from _ _ (and_from _ _ (and_from _ _ (le-leb _ _ is.0) (le-leb _ _ is.1)) ((bytes-Decides name).1 is.2)) (other_from _ _ is.3)) (other_from _ _ is.4)

is_name-Decides : (name : List ℕ) → Decides (is_name name) (IsName name)
is_name-Decides name = (named name, is_name_from name)

names-Decide : (names : List (List ℕ)) → Decides (list_all is_name names) (All IsName names)
names-Decide = Decides-by_and is_name IsName (list_all is_name) is_name-Decides refl (λ _ _. refl)

-- ---- from names to the word

few : (names : List (List ℕ)) → IsPath names → few_names names ≡ Some names
few names is = cond-true _ _ _ (and_from _ _ (le-leb _ _ is.0) ((names-Decide names).1 is.1))

below_some : (below : List ℕ) (names : List (List ℕ)) → 0 < length below → IsPath names → split_names below ≡ names → path_below below ≡ Some names
unfolding path_below
below_some [] names some is split = absurd (omega arith)
below_some (byte ∷ bytes) names some is split = ap few_names split ∙ few names is

slash_below : (below : List ℕ) (found : Option (List (List ℕ))) → path_below below ≡ found → path_of (slash ∷ below) ≡ found
unfolding path_of
slash_below below found is = is

pub spelled_by : (names : List (List ℕ)) → IsPath names → path_of (path_text names) ≡ Some names
unfolding path_of path_below
spelled_by [] is = refl
spelled_by (name ∷ names) is =
    slash_below (name ++ names_text names) (Some (name ∷ names))
    (below_some (name ++ names_text names) (name ∷ names) (long name (names_text names) (first name names is.1)) is (split_of_text name names is.1))
  where
    first : (name : List ℕ) (names : List (List ℕ)) → All IsName (name ∷ names) → 1 ≤ length name
    first name names all = (all 0 [] (omega arith)).0

    long : (name more : List ℕ) → 1 ≤ length name → 0 < length (name ++ more)
    long [] more some = absurd (omega arith)
    long (byte ∷ name) more some = omega arith

pub path_spelled : (word : List ℕ) (names : List (List ℕ)) → SpellsPath word names → path_in word ≡ Ok names
unfolding path_in
path_spelled word names spells =
    ap (λ (w : List ℕ). ok_or (path_of w) Cause.Path) (sym spells.1)
    ∙ ap (λ (found : Option (List (List ℕ))). ok_or found Cause.Path) (spelled_by names spells.0)

-- ---- from the word to names

tested : {A : Type 0} (b : Bool) (value found : A) → cond b (Some value) None ≡ Some found → (b ≡ true) × (value ≡ found)
tested true value found is = (refl, cc)
tested false value found is = cc

spells_below : (below : List ℕ) (names : List (List ℕ)) → path_below below ≡ Some names → SpellsPath (slash ∷ below) names
unfolding path_below
spells_below [] names is = let same : [] ≡ names = cc in subst (SpellsPath (slash ∷ [])) same ((omega arith, (λ k d inside. absurd (omega arith))), refl)
spells_below (byte ∷ bytes) names is =
    let t = tested (nat_le (length (split_names (byte ∷ bytes))) 32 && list_all is_name (split_names (byte ∷ bytes))) (split_names (byte ∷ bytes)) names is in
    let parts = and_parts _ _ t.0 in
    let path : IsPath (split_names (byte ∷ bytes)) = (leb-true _ _ parts.0, (names-Decide _).0 parts.1) in
    (subst IsPath t.1 path, text_of_path (byte ∷ bytes) names (sym t.1))

spells_at : (b : Bool) (byte : ℕ) (below : List ℕ) (names : List (List ℕ)) → (b ≡ true → byte ≡ slash) → cond b (path_below below) None ≡ Some names → SpellsPath (byte ∷ below) names
spells_at true byte below names is found = subst (λ (first : ℕ). SpellsPath (first ∷ below) names) (sym (is refl)) (spells_below below names found)
spells_at false byte below names is found = cc

pub spells : (word : List ℕ) (names : List (List ℕ)) → path_of word ≡ Some names → SpellsPath word names
unfolding path_of
spells [] names is = cc
spells (byte ∷ below) names is = spells_at (byte == slash) byte below names (λ same. eqb-true _ _ same) is

no_path_at : (word : List ℕ) (found : Option (List (List ℕ))) → path_of word ≡ found → ((names : List (List ℕ)) → SpellsPath word names → None ≡ Some names) → ok_or found Cause.Path ≡ Err Cause.Path
no_path_at word None is never = refl
no_path_at word (Some names) is never = cc (never names (spells word names is))

pub no_path : (word : List ℕ) → ((names : List (List ℕ)) → SpellsPath word names → None ≡ Some names) → path_in word ≡ Err Cause.Path
unfolding path_in
no_path word never = no_path_at word (path_of word) refl never
