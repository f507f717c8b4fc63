-- What the words of a command tell.
use Rattle.std.proofs.Common.{◌≡◌, ◌∙◌, sym, ap, refl, subst, arith, ℕ, ◌*◌, ◌≤◌, Bool, true, false, ◌&&◌, not, cond, List, [], ◌∷◌, ◌++◌, length, append-nil, Option, Some, None, Result, Ok, Err}
use Rattle.std.specs.Prelude.{All, ◌==◌, ◌⊎◌}
use Rattle.std.proofs.Common.{inl, inr}
use Rattle.std.specs.Bool.{Decides}
use Rattle.std.specs.List.{list_all}
use Rattle.std.specs.Option.{option_and_then}
use Rattle.std.specs.Result.{result_ok}
use Rattle.std.specs.Str.{bytes_eq}
use Rattle.std.proofs.lemmas.Bool.{leb-true, le-leb, eqb-true, eqb-false, ne_eqb, not-true, not_from_false, and_parts, and_from, cond-true, cond-false, both_ways, false_from_ne_true}
use Rattle.std.proofs.lemmas.Bool.Decides.{Decides-by_and}
use Rattle.std.proofs.lemmas.List.Elements.{All-head, All-cons, All-nil}
use Rattle.std.proofs.lemmas.Slice.Eq.{bytes_eq-Decides}
use Rattle.hex.specs.Hex.{decode_of}
use Rattle.hex.proofs.HexLemmas.{decode_of-ok}
use Rattle.hex.specs.declared.error.FromHexError.{FromHexError}
use Rattle.hex.specs.declared.error.FromHexError.TheVariants.{OutOfMemory}
use Rattle.qfs_base.specs.Path.{IsName, IsNameByte, SpellsPath, slash}
use Rattle.qfs_first.specs.Commands.{is_name_byte, is_name, one_name_path, hex_bytes, few_bytes}

is_name_byte-Decides : (byte : ℕ) → Decides (is_name_byte byte) (IsNameByte byte)
is_name_byte-Decides byte = (
  λ tested. let parts = and_parts _ _ tested in let range = and_parts _ _ parts.0 in
      (leb-true _ _ range.0, leb-true _ _ range.1, eqb-false _ _ (not-true _ parts.1)),
  λ is. and_from _ _ (and_from _ _ (le-leb _ _ is.0) (le-leb _ _ is.1)) (not_from_false _ (ne_eqb _ _ is.2)),
)

bytes-Decides : (name : List ℕ) → Decides (list_all is_name_byte name) (All IsNameByte name)
bytes-Decides = Decides-by_and is_name_byte IsNameByte (list_all is_name_byte) is_name_byte-Decides refl (λ _ _. refl)

other-true : (name word : List ℕ) → not (bytes_eq name word) ≡ true → name ≡ word → ⊥
other-true name word tested same = both_ways _ (not-true _ tested) ((bytes_eq-Decides name word).1 same)

other_from : (name word : List ℕ) → (name ≡ word → ⊥) → not (bytes_eq name word) ≡ true
other_from name word other = not_from_false _ (false_from_ne_true _ (λ same. other ((bytes_eq-Decides name word).0 same)))

pub named : (name : List ℕ) → is_name name ≡ true → IsName name
named name tested =
    let first = and_parts _ _ tested in
    let second = and_parts _ _ first.0 in
    let third = and_parts _ _ second.0 in
    let fourth = and_parts _ _ third.0 in
    (leb-true _ _ fourth.0, leb-true _ _ fourth.1, (bytes-Decides name).0 third.1, other-true _ _ second.1, other-true _ _ first.1)

is_name_from : (name : List ℕ) → IsName name → is_name name ≡ true
is_name_from name is =
    and_from _ _ (and_from _ _ (and_from _ _ (and_from _ _ (le-leb _ _ is.0) (le-leb _ _ is.1)) ((bytes-Decides name).1 is.2)) (other_from _ _ is.3)) (other_from _ _ is.4)

-- a slash and a name spell the path of that name
spells_one : (byte : ℕ) (name : List ℕ) → (byte == slash && is_name name) ≡ true → SpellsPath (byte ∷ name) (name ∷ [])
spells_one byte name tested =
    let parts = and_parts _ _ tested in
    let at_slash : slash ≡ byte = sym (eqb-true _ _ parts.0) in
    let whole : name ++ [] ≡ name = append-nil name in
    ((omega arith, All-cons IsName name [] (named name parts.1) (All-nil IsName)), cc)

one_name_path-slash : (name text : List ℕ) → IsName name → name ≡ text → one_name_path (slash ∷ text) ≡ Some (name ∷ [])
unfolding one_name_path
one_name_path-slash name text is same =
    subst (λ (t : List ℕ). one_name_path (slash ∷ t) ≡ Some (name ∷ [])) same (cond-true _ _ _ (is_name_from name is))

-- a text that spells a path of one name
pub one_name : (text : List ℕ) (names : List (List ℕ)) → SpellsPath text names → length names ≡ 1 → Some names ≡ one_name_path text
one_name text [] spells one = absurd (omega arith)
one_name text (name ∷ []) spells one =
    sym (subst (λ (t : List ℕ). one_name_path t ≡ Some (name ∷ [])) spells.1
    (one_name_path-slash name (name ++ []) (All-head IsName name [] spells.0.1) (sym (append-nil name))))
one_name text (name ∷ next ∷ names) spells one = absurd (omega arith)

none_if : {A : Type 0} (b : Bool) (value : A) → (b ≡ true → ⊥) → None ≡ cond b (Some value) None
none_if true value never = absurd (never refl)
none_if false value never = refl

-- a text that spells no path of one name
pub no_one_name : (text : List ℕ) → ((name : List ℕ) → SpellsPath text (name ∷ []) → ⊥) → None ≡ one_name_path text
unfolding one_name_path
no_one_name [] never = refl
no_one_name (byte ∷ name) never = none_if _ _ (λ tested. never name (spells_one byte name tested))

-- the path that was found has another number of names
pub other_path : (text : List ℕ) (found : Option (List (List ℕ))) (names : List (List ℕ)) → found ≡ Some names → (length names ≡ 1 → ⊥) → ((n : List (List ℕ)) → SpellsPath text n → found ≡ Some n) → None ≡ one_name_path text
other_path text found names is several only =
    no_one_name text (λ name spells. let same : names ≡ name ∷ [] = cc (only (name ∷ []) spells, is) in several (ap length same))

pub no_path : (text : List ℕ) (found : Option (List (List ℕ))) → found ≡ None → ((n : List (List ℕ)) → SpellsPath text n → found ≡ Some n) → None ≡ one_name_path text
no_path text found none only = no_one_name text (λ name spells. cc (only (name ∷ []) spells, none))

few : (bytes : List ℕ) → 1 ≤ length bytes → length bytes ≤ 32 → few_bytes bytes ≡ Some bytes
few bytes some within = cond-true _ _ _ (and_from _ _ (le-leb _ _ some) (le-leb _ _ within))

not_few : (bytes : List ℕ) → (1 ≤ length bytes → length bytes ≤ 32 → ⊥) → few_bytes bytes ≡ None
not_few bytes never =
    cond-false _ _ _ (false_from_ne_true _ (λ tested. let parts = and_parts _ _ tested in never (leb-true _ _ parts.0) (leb-true _ _ parts.1)))

-- 2 to 64 digits tell 1 to 32 bytes
pub told_bytes : (digits bytes : List ℕ) → decode_of digits ≡ Ok bytes → 1 ≤ length digits → length digits ≤ 64 → (1 ≤ length bytes) × (length bytes ≤ 32)
told_bytes digits bytes told some within =
    let twice : length digits ≡ 2 * length bytes = (decode_of-ok digits bytes told).2 in
    (omega arith, omega arith)

pub hex_told : (digits bytes : List ℕ) → decode_of digits ≡ Ok bytes → 1 ≤ length digits → length digits ≤ 64 → hex_bytes digits ≡ Some bytes
unfolding hex_bytes
hex_told digits bytes told some within =
    let range = told_bytes digits bytes told some within in
    ap (λ (r : Result (List ℕ) FromHexError). option_and_then few_bytes (result_ok r)) told ∙ few bytes range.0 range.1

-- no digits, and more than 64, don't
hex_outside_at : (digits : List ℕ) (told : Result (List ℕ) FromHexError) → decode_of digits ≡ told → (1 ≤ length digits → length digits ≤ 64 → ⊥) → option_and_then few_bytes (result_ok told) ≡ None
hex_outside_at digits (Ok bytes) is outside =
    let twice : length digits ≡ 2 * length bytes = (decode_of-ok digits bytes is).2 in
    not_few bytes (λ some within. outside (omega arith) (omega arith))
hex_outside_at digits (Err error) is outside = refl

pub hex_outside : (digits : List ℕ) → (1 ≤ length digits → length digits ≤ 64 → ⊥) → hex_bytes digits ≡ None
unfolding hex_bytes
hex_outside digits outside = hex_outside_at digits (decode_of digits) refl outside

-- a word that isn't of digits
pub hex_refused : (digits : List ℕ) (error : FromHexError) → (error ≡ OutOfMemory) ⊎ (decode_of digits ≡ Err error) → (error ≡ OutOfMemory → ⊥) → hex_bytes digits ≡ None
unfolding hex_bytes
hex_refused digits error (inl memory) other = absurd (other memory)
hex_refused digits error (inr told) other = ap (λ (r : Result (List ℕ) FromHexError). option_and_then few_bytes (result_ok r)) told
