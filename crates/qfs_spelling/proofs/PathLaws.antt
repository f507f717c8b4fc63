-- The text of a path in a record: it is read back, and what is read was written so.
use Rattle.std.proofs.Common.{◌≡◌, ◌≢◌, ◌∙◌, refl, sym, ap, subst, arith, ℕ, ◌+◌, ◌*◌, ◌<◌, ◌≤◌, true, false, cond, List, [], ◌∷◌, ◌++◌, length, Option, Some, None, eqb, length-append, lit<}
use Rattle.std.specs.Prelude.{All, IfSome, nat_le, not, codes}
use Rattle.std.specs.List.{list_all}
use Rattle.std.specs.Int.{w16}
use Rattle.std.specs.Option.{option_map}
use Rattle.std.specs.Str.{bytes_eq}
use Rattle.std.proofs.lemmas.Bool.{and_parts, and_from, not-true, not_from_false, leb-true, le-leb, eqb-false, ne_eqb, eqb-true, false_from_ne_true}
use Rattle.std.proofs.lemmas.Slice.Eq.{bytes_eq-Decides}
use Rattle.std.proofs.lemmas.List.Sums.{AllPass-from_list_all, list_all-from_AllPass}
use Rattle.std.proofs.lemmas.List.Elements.{All-weaker, All-head, All-tail, All-nil, All-cons, All-append}
use Rattle.qfs_base.specs.ListLaws.{cond_passed}
use Rattle.qfs_base.specs.NameTree.{PathNames}
use Rattle.qfs_base.specs.Path.{IsName, IsNameByte, IsPath, SpellsPath, FindsSpelled, names_text, path_text, slash, split_names}
use Rattle.qfs_base.proofs.PathTexts.{text_of_path, split_of_text}
use Rattle.qfs_model_disks.specs.Values.{is_name, is_name_byte, path, path_at, path_below, path_of_names, path_of_text}
use Rattle.qfs_record.specs.Part.{AreBytes, counted}
use Rattle.qfs_record.proofs.PartLaws.{IsPart, Takes, counted16, map_some, then_some}

-- ---- names

name_byte_is : (byte : ℕ) → is_name_byte byte ≡ true → IsNameByte byte
unfolding is_name_byte
name_byte_is byte test =
    let two = and_parts _ _ test in
    let one = and_parts _ _ two.0 in
    (leb-true 33 byte one.0, leb-true byte 126 one.1, eqb-false byte slash (not-true _ two.1))

name_byte_passes : (byte : ℕ) → IsNameByte byte → is_name_byte byte ≡ true
unfolding is_name_byte
name_byte_passes byte is =
    and_from _ _ (and_from _ _ (le-leb 33 byte is.0) (le-leb byte 126 is.1)) (not_from_false _ (ne_eqb byte slash is.2))

-- a test of bytes that failed tells that they differ, and it fails where they do
differ : (xs ys : List ℕ) → not (bytes_eq xs ys) ≡ true → xs ≢ ys
differ xs ys test same =
    let equal : bytes_eq xs ys ≡ true = (bytes_eq-Decides xs ys).1 same in
    let none : bytes_eq xs ys ≡ false = not-true _ test in
    absurd (cc)

differing : (xs ys : List ℕ) → xs ≢ ys → not (bytes_eq xs ys) ≡ true
differing xs ys differ = not_from_false _ (false_from_ne_true _ (λ same. differ ((bytes_eq-Decides xs ys).0 same)))

name_is : (name : List ℕ) → is_name name ≡ true → IsName name
unfolding is_name
name_is name test =
    let four = and_parts _ _ test in
    let three = and_parts _ _ four.0 in
    let two = and_parts _ _ three.0 in
    let one = and_parts _ _ two.0 in (
      leb-true 1 (length name) one.0,
      leb-true (length name) 255 one.1,
      All-weaker _ IsNameByte name_byte_is name (AllPass-from_list_all is_name_byte name two.1),
      differ name (codes ".") three.1,
      differ name (codes "..") four.1,
    )

name_passes : (name : List ℕ) → IsName name → is_name name ≡ true
unfolding is_name
name_passes name is =
    let bytes : list_all is_name_byte name ≡ true = list_all-from_AllPass is_name_byte name (All-weaker IsNameByte _ name_byte_passes name is.2) in
    and_from _ _
    (and_from _ _
    (and_from _ _ (and_from _ _ (le-leb 1 (length name) is.0) (le-leb (length name) 255 is.1)) bytes)
    (differing name (codes ".") is.3))
    (differing name (codes "..") is.4)

-- ---- paths

names_are : (names : List (List ℕ)) (found : PathNames) → path_of_names names ≡ Some found → IsPath found × (found ≡ names)
unfolding path_of_names
names_are names found is =
    let passed = cond_passed _ _ _ is in
    let both = and_parts _ _ passed.0 in
    let path_is : IsPath names = (leb-true (length names) 32 both.0, All-weaker _ IsName name_is names (AllPass-from_list_all is_name names both.1)) in
    let same : names ≡ found = cc in
    (subst IsPath same path_is, sym same)

names_pass : (names : List (List ℕ)) → IsPath names → path_of_names names ≡ Some names
unfolding path_of_names
names_pass names is =
    let few : nat_le (length names) 32 ≡ true = le-leb (length names) 32 is.0 in
    let all : list_all is_name names ≡ true = list_all-from_AllPass is_name names (All-weaker IsName _ name_passes names is.1) in
    rw (and_from _ _ few all) refl

below_spells : (below : List ℕ) (names : PathNames) → path_below below ≡ Some names → SpellsPath (slash ∷ below) names
unfolding path_below
below_spells [] names is = let same : [] ≡ names = cc in subst (SpellsPath (slash ∷ [])) same ((omega arith, All-nil IsName), refl)
below_spells (byte ∷ bytes) names is =
    let found = names_are (split_names (byte ∷ bytes)) names is in
    (found.0, text_of_path (byte ∷ bytes) names found.1)

text_spells_if : (byte : ℕ) (below : List ℕ) (names : PathNames) → cond (eqb byte slash) (path_below below) None ≡ Some names → SpellsPath (byte ∷ below) names
text_spells_if byte below names is =
    let passed = cond_passed _ _ _ is in
    subst (λ (first : ℕ). SpellsPath (first ∷ below) names) (sym (eqb-true byte slash passed.0)) (below_spells below names passed.1)

pub text_spells : (text : List ℕ) (names : PathNames) → path_of_text text ≡ Some names → SpellsPath text names
unfolding path_of_text
text_spells [] names is = absurd cc
text_spells (byte ∷ below) names is = text_spells_if byte below names is

below_found : (name : List ℕ) (names : List (List ℕ)) (text : List ℕ) → IsPath (name ∷ names) → name ++ names_text names ≡ text → path_below text ≡ Some (name ∷ names)
unfolding path_below
below_found name names [] is same = absurd (omega (arith, ap length same, length-append name (names_text names), (All-head IsName name names is.1).0))
below_found name names (byte ∷ bytes) is same =
    let split : split_names (byte ∷ bytes) ≡ name ∷ names =
    subst (λ (text : List ℕ). split_names text ≡ name ∷ names) same (split_of_text name names is.1) in
    rw split (names_pass (name ∷ names) is)

pub text_found : (names : PathNames) → IsPath names → path_of_text (path_text names) ≡ Some names
unfolding path_of_text path_below
text_found [] is = refl
text_found (name ∷ names) is = below_found name names (name ++ names_text names) is refl

-- ---- the part of a record

names_short : (names : List (List ℕ)) → All IsName names → length (names_text names) ≤ 256 * length names
names_short [] all = omega arith
names_short (name ∷ names) all =
    let rest = names_short names (All-tail IsName name names all) in
    let first = (All-head IsName name names all).1 in
    omega (arith, length-append (slash ∷ name) (names_text names))

pub path_short : (names : PathNames) → IsPath names → length (path_text names) < 65536
path_short [] is = omega arith
path_short (name ∷ names) is =
    let short = names_short (name ∷ names) is.1 in
    let few = is.0 in
    omega arith

names_are_bytes : (names : List (List ℕ)) → All IsName names → AreBytes (names_text names)
names_are_bytes [] all = All-nil (λ (byte : ℕ). byte < 256)
names_are_bytes (name ∷ names) all =
    let visible = (All-head IsName name names all).2 in
    let bytes : AreBytes name = All-weaker IsNameByte (λ (byte : ℕ). byte < 256) (λ byte is. omega (arith, is.1)) name visible in
    All-cons (λ (byte : ℕ). byte < 256) slash (name ++ names_text names) (lit< tt)
    (All-append (λ (byte : ℕ). byte < 256) name (names_text names) bytes (names_are_bytes names (All-tail IsName name names all)))

path_is_bytes : (names : PathNames) → IsPath names → AreBytes (path_text names)
path_is_bytes [] is = All-cons (λ (byte : ℕ). byte < 256) slash [] (lit< tt) (All-nil (λ (byte : ℕ). byte < 256))
path_is_bytes (name ∷ names) is = names_are_bytes (name ∷ names) is.1

path_again : (names : PathNames) (rest : List ℕ) → IsPath names → path_at (path.text names ++ rest) ≡ Some (names, rest)
unfolding path_at
path_again names rest is =
    rw (counted16.again (path_text names) rest (path_is_bytes names is, path_short names is), text_found names is) refl

path_spelled : (bytes : List ℕ) (names : PathNames) (rest : List ℕ) → AreBytes bytes → path_at bytes ≡ Some (names, rest) → Takes path bytes names rest
unfolding path_at
path_spelled bytes names rest are read =
    let f = then_some ((counted w16).read bytes) _ (names, rest) read in
    let text = f.0 in
    let m = map_some (path_of_text text.0) (λ (found : PathNames). (found, text.1)) (names, rest) f.2 in
    let t = counted16.spelled bytes text.0 text.1 are f.1 in
    let spells = text_spells text.0 m.0 m.1 in
    let takes : Takes path bytes m.0 text.1 = record {
      fits = spells.0;
      parts = t.parts ∙ ap (λ (bs : List ℕ). (counted w16).text bs ++ text.1) (sym spells.1);
      rest_fits = t.rest_fits;
    } in
    subst (λ (r : PathNames × List ℕ). Takes path bytes r.0 r.1) m.2 takes

pub path-is_part : IsPart path
path-is_part = record { again = path_again; spelled = path_spelled }

-- ---- what the program finds

-- a path that was found by its text is the one of the part
found_path : (text : List ℕ) (found : Option PathNames) (read : Option PathNames) → path_of_text text ≡ read → IfSome found (SpellsPath text) → FindsSpelled text found → found ≡ read
found_path text None None is spells only = refl
found_path text (Some names) None is spells only =
    let again : path_of_text text ≡ Some names = subst (λ (t : List ℕ). path_of_text t ≡ Some names) spells.1 (text_found names spells.0) in
    absurd cc
found_path text found (Some names) is spells only = only names (text_spells text names is)

pub path_found : (text : List ℕ) (found : Option PathNames) → IfSome found (SpellsPath text) → FindsSpelled text found → found ≡ path_of_text text
path_found text found spells only = found_path text found (path_of_text text) refl spells only

-- no text with its count before it is there, or it is read as the path that was found by it
pub no_path : (bytes : List ℕ) → None ≡ (counted w16).read bytes → None ≡ path_at bytes
unfolding path_at
no_path bytes is = rw (sym is) refl

abbrev pub with_rest : List ℕ → Option PathNames → Option (PathNames × List ℕ)
with_rest rest found = option_map (λ names. (names, rest)) found

pub path_read : (bytes text rest : List ℕ) (found : Option PathNames) → Some (text, rest) ≡ (counted w16).read bytes → IfSome found (SpellsPath text) → FindsSpelled text found
    → with_rest rest found ≡ path_at bytes
unfolding path_at
path_read bytes text rest found is spells only = rw (sym is, path_found text found spells only) refl
