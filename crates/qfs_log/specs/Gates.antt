-- A gate and what stands behind it, on one disk. The front is what stands before the gate.
use Rattle.std.specs.Prelude.{◌≡◌, ◌≢◌, ◌<◌, ◌⊎◌, ℕ, ◌+◌, ◌==◌, ◌&&◌, List, [], ◌∷◌, ◌++◌, length, take, drop, get_or, Bool, true, false, IsTrue}
use Rattle.qfs_disk.specs.Disk.{Only}

-- an image with this front and a closed gate behind it, and then anything
pub record Guarded (front image : List ℕ) : Type 0 where
  pub same : take (length front) image ≡ front
  pub there : length front < length image
  pub closed : get_or image (length front) 0 ≢ 1

-- an image with this front and any gate or none behind it, and then what passes a test
pub record Staged (front : List ℕ) (test : List ℕ → Bool) (image : List ℕ) : Type 0 where
  pub same : take (length front) image ≡ front
  pub behind : IsTrue (test (drop (length front + 1) image))

-- the test for these bytes
unfoldable pub equals : List ℕ → List ℕ → Bool
equals [] [] = true
equals [] (y ∷ ys) = false
equals (x ∷ xs) [] = false
equals (x ∷ xs) (y ∷ ys) = x == y && equals xs ys

-- what a crash may leave of a gate that is settled, and of one that isn't: then what stands behind it passes a test
abbrev pub GateIs : Bool → List ℕ → (List ℕ → Bool) → List ℕ → Type 0
GateIs true front test image = Guarded front image
GateIs false front test image = Staged front test image

-- what it might have left while the gate was closed
abbrev pub GateWas : Bool → List ℕ → (List ℕ → Bool) → List ℕ → Type 0
GateWas true front test image = Guarded front image
GateWas false front test image = Guarded front image ⊎ Staged front test image

abbrev pub HasGate : (List ℕ → Type 0) → Bool → List ℕ → (List ℕ → Bool) → Type 0
HasGate leaves settled front test = (c : List ℕ) → leaves c → GateIs settled front test c

-- the bytes are a front and a closed gate, and a crash leaves them
pub record AtRest (leaves : List ℕ → Type 0) (content front : List ℕ) : Type 0 where
  pub gate : ℕ
  pub ends : content ≡ front ++ gate ∷ []
  pub closed : gate ≢ 1
  pub durable : Only content leaves

-- the bytes are a front, an open gate and this tail, and a crash leaves them
pub record Opened (leaves : List ℕ → Type 0) (content front tail : List ℕ) : Type 0 where
  pub ends : content ≡ front ++ 1 ∷ tail
  pub durable : Only content leaves

-- what holds wherever a disk that tells has this gate, behind a front of this length
abbrev pub WhereGate : Bool → (List ℕ → Type 0) → Bool → ℕ → (List ℕ → (List ℕ → Bool) → Type 0) → Type 0
WhereGate tells leaves settled gate Holds =
    (front : List ℕ) (test : List ℕ → Bool) → length front ≡ gate → IsTrue tells → HasGate leaves settled front test → Holds front test

-- and wherever it ends with a closed gate at rest
abbrev pub WhereRest : Bool → (List ℕ → Type 0) → List ℕ → ℕ → (List ℕ → Type 0) → Type 0
WhereRest tells leaves content gate Holds = (front : List ℕ) → length front ≡ gate → IsTrue tells → AtRest leaves content front → Holds front
