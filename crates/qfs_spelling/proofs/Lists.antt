-- Lists in records: values that are read one after another are those of the list.
use Rattle.std.proofs.Common.{◌≡◌, ◌∙◌, refl, sym, ap, arith, ℕ, suc, ◌+◌, ◌-◌, ◌<◌, ◌≤◌, List, [], ◌∷◌, ◌++◌, append_assoc, append-nil, Option, Some, None}
use Rattle.std.specs.Int.{w32}
use Rattle.std.specs.Option.{option_map}
use Rattle.qfs_record.specs.Part.{Part, listed, many_at, number_at}

-- values before those that were found
abbrev pub with_front : {X : Type 0} → List X → Option (List X × List ℕ) → Option (List X × List ℕ)
with_front done found = option_map (λ back. (done ++ back.0, back.1)) found

-- values that were read, and those that are still to be read
abbrev pub behind : {X : Type 0} → Part X → List X → ℕ → List ℕ → Option (List X × List ℕ)
behind part done count bytes = with_front done (many_at part count bytes)

abbrev pub some_list : {X : Type 0} → List X → List ℕ → Option (List X × List ℕ)
some_list xs rest = Some (xs, rest)

none_before : {X : Type 0} (found : Option (List X × List ℕ)) → with_front [] found ≡ found
none_before None = refl
none_before (Some back) = refl

pub at_first : {X : Type 0} (part : Part X) (count : ℕ) (bytes : List ℕ) → behind part [] count bytes ≡ many_at part count bytes
at_first part count bytes = none_before (many_at part count bytes)

after_one : {X : Type 0} (done : List X) (x : X) (found : Option (List X × List ℕ)) → with_front done (with_front (x ∷ []) found) ≡ with_front (done ++ x ∷ []) found
after_one done x None = refl
after_one {X} done x (Some back) =
    ap (λ (xs : List X). some_list xs back.1) (sym (append_assoc done (x ∷ []) back.0))

-- one value more was read
pub one_more : {X : Type 0} (part : Part X) (done : List X) (count : ℕ) (bytes : List ℕ) (x : X) (rest : List ℕ)
    → part.read bytes ≡ Some (x, rest) → behind part done (suc count) bytes ≡ behind part (done ++ x ∷ []) count rest
one_more part done count bytes x rest read = rw read (after_one done x (many_at part count rest))

pub at_last : {X : Type 0} (part : Part X) (done : List X) (bytes : List ℕ) → behind part done 0 bytes ≡ Some (done, bytes)
at_last {X} part done bytes = ap (λ (xs : List X). some_list xs bytes) (append-nil done)

-- ---- in a loop that counts up to the number of values

pub list_begins : {X : Type 0} (part : Part X) (done : List X) (count : ℕ) (bytes : List ℕ) → done ≡ [] → behind part done (count - 0) bytes ≡ many_at part count bytes
list_begins part done count bytes none =
    let all : count - 0 ≡ count = omega arith in
    ap (λ xs. behind part xs (count - 0) bytes) none ∙ ap (λ (n : ℕ). behind part [] n bytes) all ∙ at_first part count bytes

pub list_goes_on : {X : Type 0} (part : Part X) (done pushed : List X) (count i : ℕ) (bytes : List ℕ) (x : X) (rest : List ℕ) (whole : Option (List X × List ℕ))
    → i < count → part.read bytes ≡ Some (x, rest) → pushed ≡ done ++ x ∷ [] → behind part done (count - i) bytes ≡ whole
    → behind part pushed (count - (i + 1)) rest ≡ whole
list_goes_on part done pushed count i bytes x rest whole inside read more so_far =
    let left : count - i ≡ suc (count - (i + 1)) = omega arith in
    ap (λ xs. behind part xs (count - (i + 1)) rest) more
    ∙ sym (one_more part done (count - (i + 1)) bytes x rest read)
    ∙ ap (λ (n : ℕ). behind part done n bytes) (sym left) ∙ so_far

pub list_ends : {X : Type 0} (part : Part X) (done : List X) (count i : ℕ) (bytes : List ℕ) (whole : Option (List X × List ℕ))
    → count ≤ i → behind part done (count - i) bytes ≡ whole → some_list done bytes ≡ whole
list_ends part done count i bytes whole past so_far =
    let none : count - i ≡ 0 = omega arith in
    sym (at_last part done bytes) ∙ ap (λ (n : ℕ). behind part done n bytes) (sym none) ∙ so_far

-- what was read behind the count is what the part of the list reads
pub list_read : {X : Type 0} (part : Part X) (input : List ℕ) (count : ℕ) (rest : List ℕ) (found : Option (List X × List ℕ))
    → Some (count, rest) ≡ number_at w32 input → found ≡ many_at part count rest → found ≡ (listed part).read input
list_read part input count rest found counted read = rw (sym counted) read
