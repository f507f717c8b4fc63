-- The requests of a sweep: the deletion of a condemned copy is ordered, and reported.
use Rattle.std.specs.Prelude.{ℕ, [], ◌∷◌, length}
use Rattle.qfs_base.specs.declared.change.Change.TheVariants.{MarkOrdered, TakeCondemned}
use Rattle.qfs_base.specs.declared.image.CondemnedRow.{CondemnedRow}
use Rattle.qfs_base.specs.declared.image.MetaImage.{MetaImage}
use Rattle.qfs_base.specs.declared.reply.MetaReply.TheVariants as Told
use Rattle.qfs_model_meta.specs.Condemned.{next_to_go}
use Rattle.qfs_model_meta.specs.Decision.{Decision, Makes, need}

-- the deletion of a condemned copy is ordered, at this turn
unfoldable pub order_row : ℕ → CondemnedRow → Decision
order_row turn row = Makes (MarkOrdered row.condemned.number ∷ []) (Told.Ordered row.condemned turn)

-- the next condemned copy that nothing blocks is to be deleted
unfoldable pub decide_order : ℕ → MetaImage → Decision
decide_order after m =
    need Told.Nothing (order_row m.turn) (next_to_go m.servers after m.condemned)

-- a condemned copy is gone
unfoldable pub decide_swept : ℕ → MetaImage → Decision
decide_swept number m = Makes (TakeCondemned number ∷ []) (Told.Done (length m.history))
