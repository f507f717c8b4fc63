-- A value at the front of bytes: how many bytes it takes, that no other is there, and that none is the front of another.
use Rattle.std.proofs.Common.{◌≡◌, ◌∙◌, sym, ap, arith, ℕ, ◌-◌, ◌≤◌, List, ◌++◌, length, take, drop, Some, None, append_assoc, length-append, length-drop}
use Rattle.std.proofs.lemmas.List.{drop_at, take_at}
use Rattle.std.proofs.lemmas.Option.{some_pair_parts}
use Rattle.qfs_record.specs.Part.{AreBytes, Part}
use Rattle.qfs_record.proofs.PartLaws.{IsPart}

-- bytes that were put one after another
pub before : (old mid new first rest : List ℕ) → mid ≡ old ++ first → new ≡ mid ++ rest → new ≡ old ++ (first ++ rest)
before old mid new first rest one two = two ∙ ap (λ (bytes : List ℕ). bytes ++ rest) one ∙ append_assoc old first rest

-- what stands before some last bytes, and those
pub behind_front : (input text rest : List ℕ) → input ≡ text ++ rest → drop (length input - length rest) input ≡ rest
behind_front input text rest parts =
    let long : length text ≡ length input - length rest = omega (arith, ap length parts, length-append text rest) in
    ap (drop (length input - length rest)) parts ∙ drop_at text rest (length input - length rest) long

front_is : (input text : List ℕ) (size : ℕ) → size ≤ length input → input ≡ text ++ drop size input → (size ≡ length text) × (take size input ≡ text)
front_is input text size within parts =
    let long : length text ≡ size = omega (arith, ap length parts, length-append text (drop size input), length-drop size input) in
    (sym long, ap (take size) parts ∙ take_at text (drop size input) size long)

module _ {A : Type 0} (part : Part A) (is : IsPart part) where
  -- a value that was read in so many bytes is spelled by these
  pub read_front : (input : List ℕ) (value : A) (size : ℕ) → AreBytes input → size ≤ length input → part.read input ≡ Some (value, drop size input)
      → part.Fits value × (take size input ≡ part.text value)
  read_front input value size are within read =
      let t = is.spelled input value (drop size input) are read in
      (t.fits, (front_is input (part.text value) size within t.parts).1)

  -- and it is the one that the bytes begin with
  pub read_only : (input : List ℕ) (value : A) (size : ℕ) → AreBytes input → size ≤ length input → part.read input ≡ Some (value, drop size input)
      → (other : A) (rest : List ℕ) → part.Fits other → input ≡ part.text other ++ rest → (value ≡ other) × (size ≡ length (part.text other))
  read_only input value size are within read other rest fits parts =
      let again : part.read input ≡ Some (other, rest) = ap part.read parts ∙ is.again other rest fits in
      let same = some_pair_parts value other (drop size input) rest (sym read ∙ again) in
      let t = is.spelled input value (drop size input) are read in
      let long = (front_is input (part.text value) size within t.parts).0 in
      (same.0, long ∙ ap (λ (v : A). length (part.text v)) same.0)

  -- where none was read, the bytes begin with none
  pub read_none : {X : Type 0} (input : List ℕ) → part.read input ≡ None → (other : A) (rest : List ℕ) → part.Fits other → input ≡ part.text other ++ rest → X
  read_none input read other rest fits parts =
      let again : part.read input ≡ Some (other, rest) = ap part.read parts ∙ is.again other rest fits in
      absurd cc

  -- no spelling is the front of another
  pub are_apart : (one other : A) (rest after : List ℕ) → part.Fits one → part.Fits other → part.text one ++ rest ≡ part.text other ++ after
      → (one ≡ other) × (rest ≡ after)
  are_apart one other rest after fits others same =
      some_pair_parts one other rest after
      (sym (is.again one rest fits) ∙ ap part.read same ∙ is.again other after others)
