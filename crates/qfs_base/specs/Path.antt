-- A path of the tree is the list of its names, from the root down. The root has none.
use Rattle.std.specs.Prelude.{◌≡◌, ◌≢◌, ℕ, ◌≤◌, ◌==◌, Bool, List, ◌∷◌, [], length, All, codes, flat_map, Option, Some, None, MatchOption}
use Rattle.std.specs.List.{slice_split}
use Rattle.std.specs.Borrow.{Bor}

-- the byte before each name
abbrev pub slash : ℕ
slash = 47

-- a byte of a name is visible in ASCII, and no slash
abbrev pub IsNameByte : ℕ → Type 0
IsNameByte byte = (33 ≤ byte) × (byte ≤ 126) × (byte ≢ slash)

-- a name has 1 to 255 bytes, and is neither `.` nor `..`
abbrev pub IsName : List ℕ → Type 0
IsName name =
    (1 ≤ length name) × (length name ≤ 255) × All IsNameByte name
    × (name ≢ codes ".") × (name ≢ codes "..")

-- a path has at most 32 names
abbrev pub IsPath : List (List ℕ) → Type 0
IsPath names = (length names ≤ 32) × All IsName names

-- the text of names, each with a slash before it
abbrev pub names_text : List (List ℕ) → List ℕ
names_text names = flat_map (λ name. slash ∷ name) names

-- the text of a path: a slash alone at the root
abbrev pub path_text : List (List ℕ) → List ℕ
path_text [] = slash ∷ []
path_text (name ∷ names) = names_text (name ∷ names)

-- the text spells the path of these names
abbrev pub SpellsPath : List ℕ → List (List ℕ) → Type 0
SpellsPath text names = IsPath names × (path_text names ≡ text)

-- whatever path the text spells was found
abbrev pub FindsSpelled : List ℕ → Option (List (List ℕ)) → Type 0
FindsSpelled text found = (names : List (List ℕ)) → SpellsPath text names → found ≡ Some names

abbrev pub is_slash : ℕ → Bool
is_slash byte = byte == slash

-- the names of a text in which a slash stands between two
abbrev pub split_names : List ℕ → List (List ℕ)
split_names text = slice_split is_slash text

-- the names that were found are those of the text, or they are no path
abbrev pub FindsNames : List ℕ → Option (List (List ℕ)) → Type 0
FindsNames text found =
    MatchOption found
    (IsPath (split_names text) → ⊥)
    (λ path. IsPath path × (path ≡ split_names text))

-- the names that are left: none, where no text is left
abbrev pub names_left : Option (Bor (List ℕ)) → List (List ℕ)
names_left None = []
names_left (Some text) = split_names text.now
