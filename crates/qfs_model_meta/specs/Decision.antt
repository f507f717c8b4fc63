-- What the metaserver decides on a request, and how refusals come in their order.
use Rattle.std.specs.Prelude.{ℕ, Bool, true, false, List, Option, Some, None}
use Rattle.std.specs.Option.{option_map}
use Rattle.qfs_base.specs.declared.change.Change.{Change}
use Rattle.qfs_base.specs.declared.reply.MetaReply.{MetaReply}
use Rattle.qfs_base.specs.declared.reply.MetaReply.TheVariants as Told
use Rattle.qfs_base.specs.declared.reply.TreeRefusal.{TreeRefusal}

pub data Decision : Type 0 where
  -- a refusal, or what is told without a log: the state stays
  Tells : MetaReply → Decision
  -- the log's disks are used, and the state stays
  UsesDisks : MetaReply → Decision
  -- the request is logged, and makes these changes
  Makes : List Change → MetaReply → Decision

-- this refusal, if it is one, or else what is decided further
unfoldable pub refuse : Option MetaReply → Decision → Decision
refuse None further = further
refuse (Some refusal) further = Tells refusal

-- what is decided further where the test holds, or else a refusal
unfoldable pub unless : Bool → MetaReply → Decision → Decision
unless true refusal further = further
unless false refusal further = Tells refusal

-- what is decided of a thing that has to be there, or else a refusal
unfoldable pub need : {X : Type 0} → MetaReply → (X → Decision) → Option X → Decision
need refusal further None = Tells refusal
need refusal further (Some x) = further x

-- a refusal of the name tree, as a file command is told it at its place in the history
unfoldable pub refuse_file : ℕ → Option TreeRefusal → Decision → Decision
refuse_file place refusal further = refuse (option_map (λ why. Told.Refused why place) refusal) further

-- the same as a recovery or move is told it
unfoldable pub refuse_path : Option TreeRefusal → Decision → Decision
refuse_path refusal further = refuse (option_map Told.BadPath refusal) further
