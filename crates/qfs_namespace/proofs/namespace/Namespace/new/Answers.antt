use Rattle.std.proofs.Common.{List, [], subst, sym, arith}
use Rattle.qfs_names.specs.declared.row.NameRow.{NameRow}
use Rattle.qfs_namespace.specs.Namespaces.{IsTied}
use Rattle.qfs_namespace.specs.declared.file.KnownFile.{KnownFile}
use Rattle.qfs_namespace.proofs.TieLaws.{tied-empty}
use Rattle.qfs_namespace.proofs.namespace.Namespace.new.Goals as goal

pub invariant_of-result : goal.invariant_of-result
invariant_of-result c = (
  subst (λ (rows : List NameRow). IsTied rows c.new-2.result.rows 1) (sym c.new.ensures.rows)
      (subst (λ (files : List KnownFile). IsTied [] files 1) (sym c.new-2.ensures.rows) tied-empty),
  record { names = omega arith; files = omega arith },
)
