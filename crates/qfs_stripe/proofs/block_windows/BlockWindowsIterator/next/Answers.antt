use Rattle.std.proofs.Common.{◌≡◌, ◌∙◌, refl, sym, ap, arith, ℕ, ◌+◌, ◌-◌, ◌*◌, length}
use Rattle.std.specs.Prelude.{min, max}
use Rattle.std.specs.Int.{div_ceil}
use Rattle.qfs_base.specs.declared.layout.Window.{Window}
use Rattle.qfs_base.specs.Layout.{window_at}
use Rattle.qfs_stripe.proofs.Touched.{first_told}
use Rattle.qfs_stripe.proofs.block_windows.BlockWindowsIterator.next.Goals as goal

abbrev window : ℕ → ℕ → ℕ → Window
window index first_row rows = record { index = index; first_row = first_row; rows = rows }

-- a window by its first row and its end
window_by_rows : (k first past group low high : ℕ) → low ≡ max first (group * 16) → high ≡ min past (group * 16 + 16)
    → window k low (high - low) ≡ window_at k first past group
window_by_rows k first past group low high low_is high_is = rw (low_is, high_is) refl

pub returns-clause-steps : goal.returns-clause-steps
returns-clause-steps c =
    let w = c.self.inside in
    sym c.self.view_is
    ∙ first_told (window_at w.index w.first w.past) w.group (div_ceil w.past 16) _ (omega arith)
    (window_by_rows w.index w.first w.past w.group _ _ c.max-first_row.ensures c.min-end.ensures)

pub returns-clause-goes : goal.returns-clause-goes
returns-clause-goes c = record { on = λ _. (tt, tt, omega (arith, ap length (returns-clause-steps c))); keeps = tt; rests = λ _. tt }
