-- All rows of a block are read group by group.
use Rattle.std.proofs.Common.{◌≡◌, ◌∙◌, refl, ap, sym, arith, inl, inr, ℕ, suc, ◌+◌, ◌-◌, ◌*◌, ◌<◌, ◌≤◌, max, min, List, [], ◌∷◌, ◌++◌, map, length, take}
use Rattle.std.specs.Int.{div_ceil}
use Rattle.std.proofs.Math.Nat.{mul-le-mul_right}
use Rattle.std.proofs.lemmas.Bool.{cases_lt}
use Rattle.std.proofs.lemmas.Grind.{common_steps, div_ceil_times}
use Rattle.qfs_base.specs.Layout.{window_at, windows_of_rows}
use Rattle.qfs_base.specs.declared.layout.Window.{Window}
use Rattle.qfs_repair.specs.RowGroups.{filled_before, windows_from, group_rows, group_window}

-- all of them begin with the first group
pub windows-all : (k rows : ℕ) → windows_of_rows k 0 rows ≡ windows_from k rows 0
windows-all k rows = refl

-- the window of a group that has rows
pub window-is : (k rows group : ℕ) → window_at k 0 rows group ≡ group_window k rows group
window-is k rows group =
    let low : max 0 (group * 16) ≡ group * 16 = omega arith in
    let high : min rows (group * 16 + 16) - group * 16 ≡ min 16 (rows - group * 16) = omega arith in
    rw (low, high) refl

pub windows-next : (k rows group : ℕ) → group * 16 < rows
    → windows_from k rows group ≡ group_window k rows group ∷ windows_from k rows (group + 1)
windows-next k rows group more =
    let whole = (div_ceil_times rows 16 (omega arith)).0 in
    let count : div_ceil rows 16 - group ≡ suc (div_ceil rows 16 - (group + 1)) = omega (arith, whole, more) in
    rw count (ap (λ (w : Window). w ∷ windows_from k rows (group + 1)) (window-is k rows group))

pub windows-end : (k rows group : ℕ) → rows ≤ group * 16 → windows_from k rows group ≡ []
windows-end k rows group past =
    let short = (div_ceil_times rows 16 (omega arith)).1 in
    let none : div_ceil rows 16 - group ≡ 0 = omega (arith, short, past) in
    rw none refl

-- ---- where a group stands in its chunk

pub within : (s rows group len whole : ℕ) → group * 16 < rows → len ≡ group_rows rows group * s → whole ≡ rows * s
    → group * 16 * s + len ≤ whole
within s rows group len whole more len_is whole_is =
    let le : (group * 16 + group_rows rows group) * s ≤ rows * s = mul-le-mul_right s (omega (arith, more)) in
    omega (arith, le, len_is, whole_is)

-- the first groups of a chunk, where one more was put there
pub filled-more : (s rows group len : ℕ) (old new room : List ℕ) → group * 16 < rows → length new ≡ rows * s → len ≡ group_rows rows group * s
    → take (group * 16 * s + len) new ≡ filled_before s group old ++ room
    → filled_before s (group + 1) new ≡ filled_before s group old ++ room
filled-more s rows group len old new room more whole len_is put =
    elim (cases_lt rows ((group + 1) * 16)) [
      | inl last ↦
          let rest : group_rows rows group ≡ rows - group * 16 = omega (arith, last) in
          let scaled : (group * 16 + (rows - group * 16)) * s ≡ rows * s = ap (λ n. n * s) (omega (arith, more)) in
          let past : group * 16 * s + len ≡ rows * s = omega (arith, len_is, ap (λ n. n * s) rest, scaled) in
          let le : rows * s ≤ (group + 1) * 16 * s = mul-le-mul_right s (omega (arith, last)) in
          let all : take ((group + 1) * 16 * s) new ≡ new = grind (arith, common_steps, le, whole) in
          let same : take (group * 16 * s + len) new ≡ new = grind (arith, common_steps, past, whole) in
          all ∙ sym same ∙ put
      | inr full ↦
          let rest : group_rows rows group ≡ 16 = omega (arith, full) in
          let here : group * 16 * s + len ≡ (group + 1) * 16 * s = omega (arith, len_is, ap (λ n. n * s) rest) in
          rw here at put
    ]

pub filled-all : (s rows group : ℕ) (chunk : List ℕ) → rows ≤ group * 16 → length chunk ≡ rows * s → filled_before s group chunk ≡ chunk
filled-all s rows group chunk past whole =
    let le : rows * s ≤ group * 16 * s = mul-le-mul_right s past in grind (arith, common_steps, le, whole)

pub filled-none : (s : ℕ) (chunk : List ℕ) → filled_before s 0 chunk ≡ []
filled-none s chunk = let nothing : 0 * 16 * s ≡ 0 = omega arith in rw nothing refl

-- no chunk is longer than one can be
pub chunk-bound : (s rows : ℕ) (chunk : List ℕ) → length chunk ≡ rows * s → rows ≤ 1024 → s ≤ 65536 → length chunk ≤ 67108864
chunk-bound s rows chunk whole few short =
    let le : rows * s ≤ 1024 * s = mul-le-mul_right s few in omega (arith, whole, le, short)
