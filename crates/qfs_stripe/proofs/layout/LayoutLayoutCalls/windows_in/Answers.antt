use Rattle.std.proofs.Common.{◌≡◌, ◌∙◌, refl, sym, ap, subst, arith, ℕ, ◌-◌, ◌*◌, ◌/◌, ◌<◌, List, length}
use Rattle.qfs_base.specs.declared.layout.Window.{Window}
use Rattle.qfs_base.specs.Shape.{Shape}
use Rattle.qfs_base.specs.Layout.{block_bytes, row_bytes, windows_of_rows, windows_touched}
use Rattle.qfs_stripe.specs.Touched.{AreInOrder, first_touched}
use Rattle.qfs_stripe.proofs.Touched.{block_of_file, rows_most, rows_touched, some_windows, in_order}
use Rattle.qfs_stripe.proofs.layout.LayoutLayoutCalls.windows_in.Goals as goal

-- the first row, by the sizes
first_by_sizes : (s r from k size row gap : ℕ) → size ≡ block_bytes s r → row ≡ row_bytes s → gap ≡ from - k * size → gap / row ≡ first_touched s r from k
first_by_sizes s r from k size row gap size_is row_is gap_is = rw (gap_is, size_is, row_is) refl

value_is : (c : goal.After-of_rows) → c.of_rows.result ≡ windows_touched c.args.self.now.s c.args.self.now.r c.args.from c.args.to c.args.index
value_is c =
    let s = c.args.self.now.s in
    let r = c.args.self.now.r in
    let k = c.args.index in
    let first = first_by_sizes s r c.args.from k _ _ _ c.block_bytes.ensures.value c.row_bytes.ensures.value c.saturating_sub.ensures in
    c.of_rows.ensures
    ∙ ap (λ n. windows_of_rows k n c.rows_of.result) first
    ∙ ap (windows_of_rows k (first_touched s r c.args.from k)) c.rows_of.ensures

positive_row : (s row : ℕ) → row ≡ row_bytes s → 0 < row → 0 < row_bytes s
positive_row s row is some = omega arith

positive_block : (s r block : ℕ) → block ≡ block_bytes s r → 0 < block → 0 < block_bytes s r
positive_block s r block is some = omega arith

pub rows_of-requires : goal.rows_of-requires
rows_of-requires c =
    let s = c.args.self.now.s in
    let r = c.args.self.now.r in
    let whole = positive_block s r c.block_bytes.result c.block_bytes.ensures.value c.block_bytes.ensures.positive in
    block_of_file s r c.args.from c.args.to c.args.index whole c.requires

pub of_rows-requires-clause-some : goal.of_rows-requires-clause-some
of_rows-requires-clause-some c =
    let s = c.args.self.now.s in
    let r = c.args.self.now.r in
    let whole = positive_block s r c.block_bytes.result c.block_bytes.ensures.value c.block_bytes.ensures.positive in
    let row = positive_row s c.row_bytes.result c.row_bytes.ensures.value c.row_bytes.ensures.positive in
    let some = rows_touched s r c.args.from c.args.to c.args.index whole row c.requires in
    let first = first_by_sizes s r c.args.from c.args.index _ _ _ c.block_bytes.ensures.value c.row_bytes.ensures.value c.saturating_sub.ensures in
    omega (arith, first, c.rows_of.ensures, some)

pub of_rows-requires-clause-most : goal.of_rows-requires-clause-most
of_rows-requires-clause-most c =
    let row = positive_row c.args.self.now.s c.row_bytes.result c.row_bytes.ensures.value c.row_bytes.ensures.positive in
    let most = rows_most c.args.self.now.s c.args.self.now.r c.args.to c.args.index row in
    let rows : c.self.inside.r ≡ c.args.self.now.r = ap (λ (shape : Shape). shape.r) c.self.view_is in
    omega (arith, rows, c.rows_of.ensures, most)

pub returns-clause-some : goal.returns-clause-some
returns-clause-some c =
    let s = c.args.self.now.s in
    let r = c.args.self.now.r in
    let whole = positive_block s r c.block_bytes.result c.block_bytes.ensures.value c.block_bytes.ensures.positive in
    let row = positive_row s c.row_bytes.result c.row_bytes.ensures.value c.row_bytes.ensures.positive in
    let some = rows_touched s r c.args.from c.args.to c.args.index whole row c.requires in
    let value = value_is c in
    subst (λ (windows : List Window). 0 < length windows) (sym value) (some_windows c.args.index _ _ some)

pub returns-clause-order : goal.returns-clause-order
returns-clause-order c =
    let s = c.args.self.now.s in
    let r = c.args.self.now.r in
    let k = c.args.index in
    let whole = positive_block s r c.block_bytes.result c.block_bytes.ensures.value c.block_bytes.ensures.positive in
    let row = positive_row s c.row_bytes.result c.row_bytes.ensures.value c.row_bytes.ensures.positive in
    subst (AreInOrder k (first_touched s r c.args.from k) r) (sym (value_is c))
    (in_order k _ _ r (rows_touched s r c.args.from c.args.to k whole row c.requires) (rows_most s r c.args.to k row))
