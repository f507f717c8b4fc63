-- What the check leaves to show of `entries::Entries::from_list`.
use Rattle.std.proofs.Common.{◌≡◌, ◌≤◌, ◌<◌, ◌++◌, ◌∷◌, [], ap, sym, subst, ◌∙◌, arith}
use Rattle.std.proofs.Common.{append_assoc}
use Rattle.std.proofs.lemmas.List.{append-nil, nil_from_length}
use Rattle.std.specs.Vec.Iter.{into_iter_items}
use Rattle.qfs_base.specs.declared.image.CondemnedEntry.{CondemnedEntry}
use Rattle.qfs_base.specs.Table.{Each, IsRising}
use Rattle.qfs_laws_tables.specs.EachRow.{each_of_all}
use Rattle.qfs_blocks.specs.BlockTables.{CondemnedEntries}
use Rattle.qfs_blocks.specs.Entries.{entry_cmp}
use Rattle.qfs_blocks.proofs.EntryLaws.{above_later}
use Rattle.qfs_blocks.proofs.entries.Entries.from_list.Goals as goal

pub loop-entry-init : goal.loop-entry-init
loop-entry-init c =
    let items = into_iter_items c.into_iter-entry-iterator.result in
    let high : Each (λ (entry : CondemnedEntry).
    c.new-entries.result.next ≤ entry.condemned.number) items =
    each_of_all _ (λ entry. omega (arith, c.new-entries.ensures.next)) items in
    record {
      joined = ap (λ entries. entries ++ items) c.new-entries.ensures.entries
          ∙ c.into_iter-entry-iterator.ensures.into_iter_gives.0 ∙ c.into_vec-entry-items.ensures;
      high = high;
      spare = c.new-entries.ensures.spare;
    }

pub put-requires-clause-number : goal.put-requires-clause-number
put-requires-clause-number c =
    let first = (subst (Each (λ (entry : CondemnedEntry).
    c.loop-entry.entries.next ≤ entry.condemned.number))
    c.in-Some.ensures.steps.0 c.loop-entry.invariant.high).0 in
    omega (arith, c.in_ok-reserve.ensures.next, first)

pub loop-entry-preserved : goal.loop-entry-preserved
loop-entry-preserved c =
    let was = c.loop-entry.invariant in
    let entry = c.in-Some.entry in
    let old = c.loop-entry.entries.entries in
    let rest = into_iter_items c.next.new.self in
    let all : old ++ entry ∷ rest ≡ c.args.list =
    ap (λ entries. old ++ entries) (sym c.in-Some.ensures.steps.0) ∙ was.joined in
    let high : Each (λ (it : CondemnedEntry). c.put.new.self.next ≤ it.condemned.number) rest =
    subst (λ next. Each (λ (it : CondemnedEntry). next ≤ it.condemned.number) rest)
    (sym c.put.ensures.next)
    (above_later entry old rest (subst (IsRising entry_cmp) (sym all) c.requires.in_order)) in
    record {
      joined = ap (λ entries. entries ++ rest) (c.put.ensures.entries
          ∙ ap (λ entries. entries ++ entry ∷ []) c.in_ok-reserve.ensures.entries)
          ∙ append_assoc old (entry ∷ []) rest ∙ all;
      high = high;
      spare = omega (arith, c.put.ensures.spare, c.in_ok-reserve.ensures.ok, was.spare);
    }

pub invariant_of-entries : goal.invariant_of-entries
invariant_of-entries c =
    let was = c.entries-2.invariant in
    let loop = c.loop-entry in
    let none = nil_from_length (into_iter_items loop.entry-iterator)
    (sym loop.entry-iterator.rest.ok.0 ∙ c.in-None.ensures.steps.0) in
    let rows = ap (λ (it : CondemnedEntries). it.entries) c.entries-2.view_is
    ∙ sym (append-nil loop.entries.entries)
    ∙ ap (λ rest. loop.entries.entries ++ rest) (sym none) ∙ loop.invariant.joined in
    record {
      in_order = was.in_order;
      numbers = subst (Each (λ (entry : CondemnedEntry). entry.condemned.number < c.args.next))
          (sym rows) c.requires.numbers;
      index = was.index;
      room = was.room;
      last = omega (arith, c.ranges.next);
    }

pub returns-clause-entries : goal.returns-clause-entries
returns-clause-entries c =
    let loop = c.loop-entry in
    let none = nil_from_length (into_iter_items loop.entry-iterator)
    (sym loop.entry-iterator.rest.ok.0 ∙ c.in-None.ensures.steps.0) in
    ap (λ (it : CondemnedEntries). it.entries) c.entries-2.view_is
    ∙ sym (append-nil loop.entries.entries)
    ∙ ap (λ rest. loop.entries.entries ++ rest) (sym none)
    ∙ loop.invariant.joined

pub returns-clause-spare : goal.returns-clause-spare
returns-clause-spare c =
    ap (λ (it : CondemnedEntries). it.spare) c.entries-2.view_is ∙ c.loop-entry.invariant.spare
