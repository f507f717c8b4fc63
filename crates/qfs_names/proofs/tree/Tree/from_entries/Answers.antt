-- What the check leaves to show of `tree::Tree::from_entries`.
use Rattle.std.proofs.Common.{◌^◌, List, [], ap, sym, subst, ◌∙◌, arith, find, map}
use Rattle.std.specs.Option.{option_map}
use Rattle.qfs_base.specs.Table.{place_all}
use Rattle.qfs_laws_tree.specs.Tree.{HasTree}
use Rattle.qfs_names.specs.declared.row.NameRow.{NameRow}
use Rattle.qfs_names.specs.Names.{is_open_of, open_paths, path_row, row_of}
use Rattle.qfs_names.specs.Trees.{as_row, file_cmp, has_number}
use Rattle.qfs_names.proofs.KeptLaws.{made-of}
use Rattle.qfs_names.proofs.MoveLaws.{index-all}
use Rattle.qfs_names.proofs.NameLaws.{as-rises}
use Rattle.qfs_names.proofs.tree.Tree.from_entries.Goals as goal

pub from_rows-requires : goal.from_rows-requires
from_rows-requires c =
    let rows = c.in_ok-rows.rows.items in
    let same = c.in_ok-rows.ensures ∙ ap (map row_of) c.into_vec.ensures in
    as-rises rows (made-of c.args.entries rows c.requires same).in_order

pub invariant_of-result : goal.invariant_of-result
invariant_of-result c =
    let rows = c.in_ok-rows.rows.items in
    let same = c.in_ok-rows.ensures ∙ ap (map row_of) c.into_vec.ensures in
    let tree = made-of c.args.entries rows c.requires same in
    record {
      tree = subst (λ (all : List NameRow). HasTree (2 ^ 32) (map as_row all))
          (sym c.in_ok-names.ensures.rows) tree;
      index = λ file.
          ap (find (has_number file)) (c.in_ok-unclosed.ensures
          ∙ ap (λ (all : List NameRow). place_all file_cmp (open_paths all) []) c.as_slice.ensures.value)
          ∙ index-all rows tree file
          ∙ ap (λ all. option_map path_row (find (is_open_of file) all)) (sym c.in_ok-names.ensures.rows);
      room = omega arith;
      index_room = omega arith;
    }
