-- What the check leaves to show of `listing::push_child`.
use Rattle.std.proofs.Common.{◌≡◌, ◌++◌, ◌+◌, ◌∷◌, ap, sym, subst, ◌∙◌, length, [], get_or, List, OnOk, ℕ}
use Rattle.qfs_base.specs.declared.lists.Name.{Name}
use Rattle.qfs_names.specs.declared.row.NameRow.{NameRow}
use Rattle.std.proofs.lemmas.List.{append-nil}
use Rattle.std.specs.List.{cons_option}
use Rattle.qfs_base.specs.NameTree.{PathNames}
use Rattle.qfs_names.proofs.ChildLaws.{child-name, one-more}
use Rattle.qfs_names.proofs.listing.push_child.Goals as goal

pub returns-then-names-directory : goal.returns-then-names-directory
returns-then-names-directory c =
    let found = c.args.found.now in
    let long = ap length (c.as_slice-names.ensures ∙ c.path.view_is) in
    sym (ap (λ name. found ++ cons_option name []) (one-more c.args.directory.now c.args.row.now
    (λ same. c.if-names-directory.true (long ∙ same))) ∙ append-nil found)

pub returns : goal.returns
returns c =
    let directory = c.args.directory.now in
    let row : NameRow = c.args.row.now in
    let found = c.args.found.now in
    let seen = c.as_slice-names.ensures ∙ c.path.view_is in
    let long : length row.path ≡ length directory + 1 = sym (ap length seen) ∙ c.if-names-directory.false in
    let part : List ℕ = c.index-names-directory.result in
    let at : part ≡ get_or row.path (length directory) part =
    c.index-names-directory.is
    ∙ ap (λ (names : PathNames). get_or names (length directory) part) seen in
    let same : c.in_ok-part.part ≡ part = c.in_ok-part.ensures ∙ c.as_slice.ensures in
    subst (λ name. OnOk c.push.result (c.push.new.self ≡ found ++ cons_option name []))
    (sym (child-name directory row c.requires long part at))
    (subst (λ (name : Name). OnOk c.push.result (c.push.new.self ≡ found ++ name ∷ []))
    (λ i. record { part = same i; kind = c.kind_at_row-kind.ensures i }) c.push.ensures.ok)
