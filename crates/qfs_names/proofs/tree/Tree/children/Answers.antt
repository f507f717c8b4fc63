-- What the check leaves to show of `tree::Tree::children`.
use Rattle.std.proofs.Common.{◌≡◌, ◌<◌, ◌++◌, ap, sym, subst, find, take, length, ◌+◌, [], true, false, Some, rules}
use Rattle.std.specs.List.{cons_option}
use Rattle.std.specs.Option.{option_copied}
use Rattle.std.specs.Ordering.{is_lt}
use Rattle.qfs_base.specs.NameTree.{is_within, path_cmp}
use Rattle.qfs_names.specs.declared.row.NameRow.{NameRow}
use Rattle.qfs_names.specs.Names.{child_at, within_order}
use Rattle.qfs_names.proofs.ChildLaws.{IsAt, at-deeper, at-next, at-none, at-outside, at-start, fewer-left, rows_left}
use Rattle.qfs_names.proofs.tree.Tree.children.Goals as goal

pub children-init : goal.children-init
children-init c =
    let directory = c.args.directory.now in
    let rows = c.args.self.now.rows in
    subst (λ next. IsAt directory rows c.no_names-found.result next) (sym c.row_behind-next.ensures.row)
    (subst (λ found. IsAt directory rows found (find (λ (row : NameRow).
    is_lt (path_cmp directory row.path)) rows)) (sym c.no_names-found.ensures)
    (at-start directory rows c.row_behind-next.ensures.rising))

pub children-preserved : goal.children-preserved
children-preserved c =
    let directory = c.args.directory.now in
    let rows = c.args.self.now.rows in
    let row : NameRow = c.in-Some.row.now in
    let found = c.children.found in
    let at = subst (IsAt directory rows found) (ap option_copied c.in-Some.is) c.children.invariant in
    let is : is_within directory row.path ≡ true = search rules in
    let next = at-next directory rows found row c.row_behind-next.ensures.rising at is
    (cons_option (child_at directory row) []) (λ i. cons_option (child_at directory row) []) in
    subst (λ then. IsAt directory rows c.push_child.new.found then) (sym c.row_beyond_child-next.ensures)
    (subst (λ all. IsAt directory rows all (find (λ (other : NameRow).
    is_lt (within_order (take (length directory + 1) row.path) other.path)) rows))
    (sym c.in_ok-push_child.ensures) next.0)

pub children-smaller : goal.children-smaller
children-smaller c =
    let directory = c.args.directory.now in
    let rows = c.args.self.now.rows in
    let row : NameRow = c.in-Some.row.now in
    let found = c.children.found in
    let rising = c.row_behind-next.ensures.rising in
    let at = subst (IsAt directory rows found) (ap option_copied c.in-Some.is) c.children.invariant in
    let is : is_within directory row.path ≡ true = search rules in
    let more = cons_option (child_at directory row) [] in
    let after = find (λ (other : NameRow).
    is_lt (within_order (take (length directory + 1) row.path) other.path)) rows in
    subst (λ before. rows_left rows (option_copied c.row_beyond_child-next.result) < rows_left rows before)
    (sym (ap option_copied c.in-Some.is))
    (subst (λ then. rows_left rows then < rows_left rows (Some row)) (sym c.row_beyond_child-next.ensures)
    (fewer-left directory rows found (found ++ more) (Some row) after rising at
    (at-next directory rows found row rising at is more (λ i. more))))

pub row_beyond_child-next-requires : goal.row_beyond_child-next-requires
row_beyond_child-next-requires c =
    let directory = c.args.directory.now in
    let rows = c.args.self.now.rows in
    let row : NameRow = c.in-Some.row.now in
    let at = subst (IsAt directory rows c.children.found) (ap option_copied c.in-Some.is)
    c.children.invariant in
    let is : is_within directory row.path ≡ true = search rules in
    at-deeper directory rows c.children.found row at is

pub returns-then-not-is_row_within : goal.returns-then-not-is_row_within
returns-then-not-is_row_within c =
    let directory = c.args.directory.now in
    let rows = c.args.self.now.rows in
    let row : NameRow = c.in-Some.row.now in
    let at = subst (IsAt directory rows c.children.found) (ap option_copied c.in-Some.is)
    c.children.invariant in
    let off : is_within directory row.path ≡ false = search rules in
    sym (at-outside directory rows c.children.found row c.row_behind-next.ensures.rising at off)

pub returns : goal.returns
returns c =
    let directory = c.args.directory.now in
    let rows = c.args.self.now.rows in
    sym (at-none directory rows c.children.found
    (subst (IsAt directory rows c.children.found) (ap option_copied c.in_default.is) c.children.invariant))
