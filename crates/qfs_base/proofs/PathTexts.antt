-- The text of a path spells it, and no other path has that text.
use Rattle.std.proofs.Common.{◌≡◌, ◌∙◌, sym, ap, refl, subst, arith, ℕ, ◌+◌, ◌-◌, ◌<◌, ◌≤◌, Bool, true, false, cond, List, [], ◌∷◌, ◌++◌, length, take, drop, append-nil, length-append, Option, Some, None, eqb}
use borrow.Author.Tests.{eqb-true, ltb-true, ltb-false}
use Rattle.std.specs.Prelude.{All, position, IfSome}
use Rattle.std.specs.List.{onto_first, position_or_len}
use Rattle.std.proofs.lemmas.Bool.{ne_eqb}
use Rattle.std.proofs.lemmas.Grind.{common_steps}
use Rattle.std.proofs.lemmas.List.Elements.{All-head, All-tail, All-weaker}
use Rattle.std.proofs.lemmas.List.Splits.{slice_split_first, slice_split_at, slice_split_none, length-slice_split}
use Rattle.std.proofs.lemmas.List.Sums.{fails_before_first}
use Rattle.qfs_base.specs.Path.{IsName, IsNameByte, IsPath, SpellsPath, FindsNames, is_slash, slash, path_text, names_text, split_names}

-- the place that a search found, and that it is a place
some_place : (b : Bool) (n i : ℕ) → cond b (Some n) None ≡ Some i → (b ≡ true) × (n ≡ i)
some_place true n i e = (refl, cc)
some_place false n i e = cc

no_place : (b : Bool) (n : ℕ) → cond b (Some n) None ≡ None → b ≡ false
no_place true n e = cc
no_place false n e = refl

pub split_at_slash : (text : List ℕ) (at : ℕ) → position is_slash text ≡ Some at → split_names text ≡ take at text ∷ split_names (take (length text - (at + 1)) (drop (at + 1) text))
split_at_slash text at found =
    let place = some_place _ _ _ found in
    let inside : position_or_len is_slash text < length text = ltb-true _ _ place.0 in
    let at_is : position_or_len is_slash text ≡ at = place.1 in
    let cut : split_names text ≡ take at text ∷ split_names (drop (at + 1) text) = rw (← at_is) (slice_split_first is_slash text 0 inside) in
    let rest : take (length text - (at + 1)) (drop (at + 1) text) ≡ drop (at + 1) text = grind (arith, common_steps) in
    rw rest cut

pub split_without_slash : (text : List ℕ) → position is_slash text ≡ None → split_names text ≡ text ∷ []
split_without_slash text absent =
    let past : length text ≤ position_or_len is_slash text = ltb-false _ _ (no_place _ _ absent) in
    let clear : All (λ byte. is_slash byte ≡ false) text = λ k d inside. fails_before_first is_slash text k d (omega arith) in
    slice_split_none is_slash text clear

-- names with a slash before each, from the parts of a text that is cut at its slashes
text_of_parts : (byte : ℕ) (parts : List (List ℕ)) (text : List ℕ) (b : Bool) → eqb byte slash ≡ b → 0 < length parts → names_text parts ≡ slash ∷ text → names_text (cond b ([] ∷ parts) (onto_first byte parts)) ≡ slash ∷ byte ∷ text
text_of_parts byte [] text b is some spelled = absurd (omega arith)
text_of_parts byte (part ∷ parts) text true is some spelled = let at_slash : byte ≡ slash = eqb-true byte slash is in rw at_slash (ap (λ more. slash ∷ more) spelled)
text_of_parts byte (part ∷ parts) text false is some spelled = let same : part ++ names_text parts ≡ text = cc in ap (λ more. slash ∷ byte ∷ more) same

pub text_of_split : (text : List ℕ) → names_text (split_names text) ≡ slash ∷ text
text_of_split [] = refl
text_of_split (byte ∷ text) = text_of_parts byte (split_names text) text (eqb byte slash) refl (omega (arith, length-slice_split is_slash text)) (text_of_split text)

no_slash_inside : (name : List ℕ) → IsName name → All (λ byte. is_slash byte ≡ false) name
no_slash_inside name named = All-weaker IsNameByte _ (λ byte visible. ne_eqb byte slash visible.2) name named.2

pub split_of_text : (name : List ℕ) (names : List (List ℕ)) → All IsName (name ∷ names) → split_names (name ++ names_text names) ≡ name ∷ names
split_of_text name [] named = rw append-nil (slice_split_none is_slash name (no_slash_inside name (All-head IsName name [] named)))
split_of_text name (next ∷ names) named =
    let clear = no_slash_inside name (All-head IsName name (next ∷ names) named) in
    let rest = split_of_text next names (All-tail IsName name (next ∷ names) named) in
    slice_split_at is_slash name slash (next ++ names_text names) clear refl ∙ ap (λ more. name ∷ more) rest

path_text-of_some : (names : List (List ℕ)) → 0 < length names → path_text names ≡ names_text names
path_text-of_some [] some = absurd (omega arith)
path_text-of_some (name ∷ names) some = refl

-- the names of a text below the root spell it
pub text_of_path : (text : List ℕ) (names : List (List ℕ)) → names ≡ split_names text → path_text names ≡ slash ∷ text
text_of_path text names split =
    subst (λ (n : List (List ℕ)). path_text n ≡ slash ∷ text) (sym split)
    (path_text-of_some (split_names text) (omega (arith, length-slice_split is_slash text)) ∙ text_of_split text)

-- a text below the root that spells a path is cut into its names
pub path_of_text : (text : List ℕ) (names : List (List ℕ)) → 0 < length text → SpellsPath (slash ∷ text) names → split_names text ≡ names
path_of_text text [] some spelled = let none : [] ≡ text = cc in absurd (omega (arith, ap length none))
path_of_text text (name ∷ names) some spelled =
    let same : name ++ names_text names ≡ text = cc in
    subst (λ (t : List ℕ). split_names t ≡ name ∷ names) same (split_of_text name names spelled.0.1)

-- the root alone has the text of one slash
pub root_of_text : (text : List ℕ) (names : List (List ℕ)) → length text ≡ 0 → SpellsPath (slash ∷ text) names → [] ≡ names
root_of_text text [] none spelled = refl
root_of_text text (name ∷ names) none spelled =
    let same : name ++ names_text names ≡ text = cc in
    absurd (omega (arith, ap length same, length-append name (names_text names), (All-head IsName name names spelled.0.1).0))

-- what is found by the names below the root is found by the text of the path
pub found_by_text : (text : List ℕ) (found : Option (List (List ℕ))) → FindsNames text found → IfSome found (λ path. SpellsPath (slash ∷ text) path)
found_by_text text None none = tt
found_by_text text (Some path) is = (is.0, text_of_path text path is.1)

pub only_by_text : (text : List ℕ) → 0 < length text → (found : Option (List (List ℕ))) → FindsNames text found → (names : List (List ℕ)) → SpellsPath (slash ∷ text) names → found ≡ Some names
only_by_text text some None none names spelled =
    absurd (none (subst IsPath (sym (path_of_text text names some spelled)) spelled.0))
only_by_text text some (Some path) is names spelled = ap (λ (n : List (List ℕ)). Some n) (is.1 ∙ path_of_text text names some spelled)
