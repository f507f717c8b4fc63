-- A slot that is computed from the others.
--
-- A code word meets three equations, one for each parity slot: the six data bytes, each times what it counts in that
-- parity slot, and the parity byte itself have the sum 0. So it meets each combination of the three. To restore a slot
-- that isn't at hand, take a combination in which the wanted slot counts 1 and every other slot that isn't at hand counts
-- 0: the wanted byte is what the slots at hand sum up to there. With six slots at hand two others can be missing beside
-- the wanted one, and the combination is that in which two slots drop out.
use Rattle.std.specs.Prelude.{ℕ, ◌+◌, ◌-◌, ◌*◌, Bool, cond, not, ◌&&◌, ◌||◌, ltb, ◌==◌, List, [], ◌∷◌, map, find, Option, unwrap_or, bit_xor, slice_index}
use Rattle.std.specs.List.{range_with_len}
use Rattle.qfs_base.specs.Mask.{all_slots, has_slot}
use Rattle.qfs_base.specs.Sizes.{SLOTS, DATA_SLOTS}
use Rattle.qfs_galois.specs.Field.{product, power, inverse}
use Rattle.qfs_model_slot.specs.CodeWord.{slot_at, column}

-- the sum of the products of the numbers at the same places
unfoldable pub dot : List ℕ → List ℕ → ℕ
dot [] ys = 0
dot (x ∷ xs) [] = 0
dot (x ∷ xs) (y ∷ ys) = bit_xor (product x y) (dot xs ys)

-- the bytes of the columns below `size`, each weighed
unfoldable pub weighed : List ℕ → ℕ → List (List ℕ) → List ℕ
weighed weights size slots = map (λ t. dot weights (column slots t)) (range_with_len 0 size)

-- what slot j counts in the equation of parity slot e, from 0
unfoldable pub counts : ℕ → ℕ → ℕ
counts e j = cond (ltb j DATA_SLOTS) (power 2 (e * j)) (cond (j == DATA_SLOTS + e) 1 0)

-- what it counts in the three equations
unfoldable pub counts_of : ℕ → List ℕ
counts_of j = counts 0 j ∷ counts 1 j ∷ counts 2 j ∷ []

-- the cross product of two lists of three: its products with either of the two sum up to 0
unfoldable pub minor : ℕ → ℕ → List ℕ → List ℕ → ℕ
minor e f u v =
    bit_xor (product (slice_index u e) (slice_index v f)) (product (slice_index u f) (slice_index v e))

unfoldable pub cross : List ℕ → List ℕ → List ℕ
cross u v = minor 1 2 u v ∷ minor 0 2 u v ∷ minor 0 1 u v ∷ []

-- the combination of the three equations in which slots b and c count 0
unfoldable pub without_slots : ℕ → ℕ → List ℕ
without_slots b c = cross (counts_of b) (counts_of c)

-- the last slot that is neither of two others
unfoldable pub last_besides : ℕ → ℕ → ℕ
last_besides want other = cond (8 == want || 8 == other) (cond (7 == want || 7 == other) 6 7) 8

-- whether a slot is neither of two others, and isn't at hand
unfoldable pub is_spare : List ℕ → ℕ → ℕ → ℕ → Bool
is_spare have want other j = not (j == want) && not (j == other) && not (has_slot have j)

-- the first such slot from one on
unfoldable pub first_spare : List ℕ → ℕ → ℕ → ℕ → Option ℕ
first_spare have want other from = find (is_spare have want other) (range_with_len from (SLOTS - from))

-- one more slot to leave out beside the wanted one and another: the first that isn't at hand, or the last where each is
unfoldable pub left_out : List ℕ → ℕ → ℕ → ℕ
left_out have want other =
    unwrap_or (first_spare have want other 0) (last_besides want other)

unfoldable pub scaled_to : ℕ → List ℕ → List ℕ
scaled_to count combination = map (product (inverse count)) combination

-- a combination in which two slots other than the wanted one count 0, among them each that isn't at hand
unfoldable pub combination : List ℕ → ℕ → List ℕ
combination have want = without_slots (left_out have want want) (left_out have want (left_out have want want))

-- the same, scaled so that the wanted slot counts 1
unfoldable pub equation : List ℕ → ℕ → List ℕ
equation have want = scaled_to (dot (combination have want) (counts_of want)) (combination have want)

-- what a slot counts in the wanted one: nothing where it isn't at hand
unfoldable pub weight : List ℕ → List ℕ → ℕ → ℕ
weight have equation j = cond (has_slot have j) (dot equation (counts_of j)) 0

unfoldable pub weights_by : List ℕ → List ℕ → List ℕ
weights_by have equation = map (weight have equation) all_slots

unfoldable pub weights : List ℕ → ℕ → List ℕ
weights have want = weights_by have (equation have want)

-- the wanted slot, of `size` bytes, from the slots at hand
unfoldable pub restored : List ℕ → ℕ → List (List ℕ) → ℕ → List ℕ
restored have size slots want = cond (has_slot have want) (slot_at slots want) (weighed (weights have want) size slots)
