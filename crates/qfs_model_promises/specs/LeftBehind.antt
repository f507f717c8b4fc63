-- A run that is over leaves nothing behind at the metaserver, where no request to it failed or found no memory.
use Rattle.std.specs.Prelude.{◌≡◌, false, List, [], None, IsTrue}
use Rattle.std.specs.List.{list_all}
use Rattle.qfs_base.specs.Table.{Each}
use Rattle.qfs_base.specs.declared.history.Step.{Step}
use Rattle.qfs_base.specs.declared.image.MetaImage.{MetaImage}
use Rattle.qfs_base.specs.declared.image.SlotRow.{SlotRow}
use Rattle.qfs_base.specs.declared.image.TreeRow.{TreeRow}
use Rattle.qfs_base.specs.declared.script.Script.{Script}
use Rattle.qfs_model_meta.specs.TreeRows.{is_unclosed_row}
use Rattle.qfs_model_world.specs.Events.{events}
use Rattle.qfs_model_world.specs.Fits.{is_whole}
use Rattle.qfs_model_world.specs.Headline.{is_sure}
use Rattle.qfs_model_world.specs.World.{after}

-- no lease is live, no file is unclosed, and no grant is pending
pub record HoldsNothing (m : MetaImage) : Type 0 where
  pub leases : m.leases ≡ []
  pub files : Each (λ (row : TreeRow). is_unclosed_row row ≡ false) m.tree
  pub grants : Each (λ (row : SlotRow). row.state.grant ≡ None) m.slots

abbrev pub NothingLeftBehind : Script → List Step → Type 0
NothingLeftBehind script order =
    IsTrue (is_whole script order) → IsTrue (list_all is_sure (events script order))
    → HoldsNothing (after script order).meta
