-- The requests that give up, take away or tell: what they are answered, and what their changes
-- tell. For the law `steps_answer`.
use Rattle.std.proofs.Common.{◌≡◌, ℕ, ◌+◌, Bool, true, false, cond, List, [], ◌∷◌, ◌++◌, map}
use Rattle.std.proofs.Common.{filter, length, Option, Some, None, refl, subst}
use Rattle.std.specs.Prelude.{min, flat_map}
use Rattle.qfs_base.specs.Sizes.{LAST_U64}
use Rattle.qfs_base.specs.Table.{Each}
use Rattle.qfs_base.specs.NameTree.{PathNames}
use Rattle.qfs_base.specs.declared.change.Change.TheVariants.{AddDirectory, TakeDirectory, AddFile}
use Rattle.qfs_base.specs.declared.change.Change.TheVariants.{CloseFile, MovePath, GiveUp}
use Rattle.qfs_base.specs.declared.change.Change.TheVariants.{ConfirmSlot, EmptySlot, EndLease}
use Rattle.qfs_base.specs.declared.change.Change.TheVariants.{MarkOrdered, TakeCondemned}
use Rattle.qfs_base.specs.declared.change.Change.TheVariants.{CondemnStray, ServerUp, ServerDown}
use Rattle.qfs_base.specs.declared.change.Change.TheVariants.{ServerLeaves, ClockTicks}
use Rattle.qfs_base.specs.declared.chunk.BlockId.{BlockId}
use Rattle.qfs_base.specs.declared.chunk.ChunkKey.{ChunkKey}
use Rattle.qfs_base.specs.declared.image.MetaImage.{MetaImage}
use Rattle.qfs_base.specs.declared.image.SlotRow.{SlotRow}
use Rattle.qfs_base.specs.declared.image.TreeRow.{TreeRow}
use Rattle.qfs_base.specs.declared.reply.MetaReply.{MetaReply}
use Rattle.qfs_base.specs.declared.reply.MetaReply.TheVariants as Told
use Rattle.qfs_base.specs.declared.request.MetaRequest.TheVariants as Ask
use Rattle.qfs_base.specs.declared.request.SlotId.{SlotId}
use Rattle.qfs_base.specs.declared.rules.Rules.{Rules}
use Rattle.qfs_model_meta.specs.Apply.{apply, apply_all}
use Rattle.qfs_model_meta.specs.DropRequest.{decide_drop, changes_unless_dropped, drop_changes}
use Rattle.qfs_model_meta.specs.DropRequest.{recovery_changes, unclosed_changes, is_recovery_of}
use Rattle.qfs_model_meta.specs.Dropped.{dropped_at}
use Rattle.qfs_model_meta.specs.GetRequests.{decide_release}
use Rattle.qfs_model_meta.specs.Leases.{holds_lease, is_live_lease, leases_of, leases_over}
use Rattle.qfs_model_meta.specs.Lists.{block_count}
use Rattle.qfs_model_meta.specs.Past.{Past}
use Rattle.qfs_model_meta.specs.PutRequests.{decide_create, decide_close, close_complete}
use Rattle.qfs_model_meta.specs.PutRequests.{incomplete, first_ungranted, decide_abort}
use Rattle.qfs_model_meta.specs.PutRequests.{abort_unclosed, abort_changes}
use Rattle.qfs_model_meta.specs.ServerRequests.{decide_hello, decide_bye, decide_leave}
use Rattle.qfs_model_meta.specs.ServerRequests.{decide_hibernate, decide_tick, decide_left_on}
use Rattle.qfs_model_meta.specs.SettleRequests.{decide_confirm, confirm_grant, end_own_lease}
use Rattle.qfs_model_meta.specs.SettleRequests.{end_live_lease, decide_abandon, abandon_changes}
use Rattle.qfs_model_meta.specs.SettleRequests.{give_up_own, is_own_grant}
use Rattle.qfs_model_meta.specs.Slots.{slot_at, slots_of}
use Rattle.qfs_model_meta.specs.SweepRequests.{decide_order, order_row, decide_swept}
use Rattle.qfs_model_meta.specs.TreeRequests.{decide_mkdir, decide_rmdir, decide_remove}
use Rattle.qfs_model_meta.specs.TreeRequests.{remove_changes, decide_rename, decide_list}
use Rattle.qfs_model_meta.specs.TreeRows.{file_stands, unclosed_file, unclosed_files}
use Rattle.qfs_base.specs.EachLaws.{each_append}
use Rattle.qfs_laws_meta.specs.ChangeTells.{change-tells}
use Rattle.qfs_laws_meta.specs.Fair.{Fair, Goes, IsPlain, plain-one, plain-goes, plain-map}
use Rattle.qfs_laws_meta.specs.Fair.{plain-flat, refuse-fair, unless-fair, need-fair, file-fair}
use Rattle.qfs_laws_meta.specs.MayTell.{TellsClosed}
use Rattle.qfs_laws_meta.specs.Tells as Of

module _ (rules : Rules) (actor : ℕ) (past : Past) (m : MetaImage) where
  -- ---- the name tree

  pub mkdir-fair : (path : PathNames)
      → Fair rules actor past m (Ask.Mkdir path) (decide_mkdir path m)
  unfolding decide_mkdir
  mkdir-fair path =
      file-fair rules actor past m (Ask.Mkdir path) _ _ _ (λ why is. (is, refl))
      (λ free. (
        (free, refl),
        plain-goes rules actor past m (Ask.Mkdir path)
            (AddDirectory path ∷ []) (Told.Done (length m.history)) (tt, tt),
      ))

  pub rmdir-fair : (path : PathNames)
      → Fair rules actor past m (Ask.Rmdir path) (decide_rmdir path m)
  unfolding decide_rmdir
  rmdir-fair path =
      file-fair rules actor past m (Ask.Rmdir path) _ _ _ (λ why is. (is, refl))
      (λ free. (
        (free, refl),
        plain-goes rules actor past m (Ask.Rmdir path)
            (TakeDirectory path ∷ []) (Told.Done (length m.history)) (tt, tt),
      ))

  pub remove-fair : (path : PathNames)
      → Fair rules actor past m (Ask.Remove path) (decide_remove path m)
  unfolding decide_remove remove_changes
  remove-fair path =
      file-fair rules actor past m (Ask.Remove path) _ _ _ (λ why is. (is, refl))
      (λ free. (
        (free, refl),
        plain-goes rules actor past m (Ask.Remove path) _ (Told.Done (length m.history))
            (each_append IsPlain (map (λ (row : SlotRow). EmptySlot row.block row.slot)
            (slots_of _ m.slots)) _ (plain-map (λ (row : SlotRow). EmptySlot row.block row.slot)
            (λ row. tt) (slots_of _ m.slots)) (tt, tt)),
      ))

  pub rename-fair : (from to : PathNames)
      → Fair rules actor past m (Ask.Rename from to) (decide_rename from to m)
  unfolding decide_rename
  rename-fair from to =
      file-fair rules actor past m (Ask.Rename from to) _ _ _ (λ why is. (is, refl))
      (λ free. (
        (free, refl),
        plain-goes rules actor past m (Ask.Rename from to)
            (MovePath from to ∷ []) (Told.Done (length m.history)) (tt, tt),
      ))

  pub list-fair : (path : PathNames) → Fair rules actor past m (Ask.List path) (decide_list path m)
  unfolding decide_list
  list-fair path =
      file-fair rules actor past m (Ask.List path) _ _ _ (λ why is. (is, refl))
      (λ free. (free, refl, refl))

  pub create-fair : (path : PathNames) (command len : ℕ)
      → Fair rules actor past m (Ask.Create path command len)
      (decide_create actor path command len m)
  unfolding decide_create
  create-fair path command len =
      file-fair rules actor past m (Ask.Create path command len) _ _ _ (λ why is. (is, refl))
      (λ free. (
        (free, refl, refl),
        plain-goes rules actor past m (Ask.Create path command len)
            (AddFile path actor command len ∷ []) (Told.Created m.next_file (length m.history)) (tt, tt),
      ))

  -- ---- puts that end

  closing : (file : ℕ) (row : TreeRow)
      → Goes rules actor past m (Ask.Close file) (CloseFile file actor row.command ∷ [])
      (Told.Done (length m.history))
  unfolding apply_all
  closing file row may =
      Of.tells-as m (apply m (CloseFile file actor row.command)) (λ block slot own. (own, tt))
      (λ _ _ _ g. absurd g) (λ _ l. absurd l)
      (change-tells past m (CloseFile file actor row.command) may.0)

  pub close-fair : (file : ℕ)
      → Fair rules actor past m (Ask.Close file) (decide_close rules.layout actor file m)
  unfolding decide_close close_complete incomplete
  close-fair file =
      need-fair rules actor past m (Ask.Close file) Told.Gone _ _ (λ none. none) (λ row found.
      refuse-fair rules actor past m (Ask.Close file) _ _
      (λ reply is. left row found _ refl reply is)
      (λ full. (
        (refl, record { row = row; unclosed = found; complete = whole _ full }),
        closing
            file row,
      )))
    where
      whole : (o : Option SlotId) → incomplete o ≡ None → o ≡ None
      whole None e = refl
      whole (Some id) e = absurd (cc)

      left : (row : TreeRow) → unclosed_file actor file m.tree ≡ Some row → (o : Option SlotId)
          → first_ungranted file (block_count rules.layout row.len) m.slots ≡ o
          → (reply : MetaReply) → incomplete o ≡ Some reply
          → TellsClosed rules.layout actor file m reply
      left row found None at reply is = absurd (cc)
      left row found (Some id) at reply is =
          let e : Told.Incomplete id.block.index id.slot ≡ reply = cc in subst
          (TellsClosed rules.layout actor file m) e
          (record { row = row; id = id; unclosed = found; first = at; at = (refl, refl) })

  aborting-plain : (file : ℕ) (slots : List SlotRow) → Each IsPlain (abort_changes file slots)
  unfolding abort_changes
  aborting-plain file slots =
      each_append IsPlain (map (λ (row : SlotRow). GiveUp row.block row.slot) (slots_of file slots))
      _ (plain-map (λ (row : SlotRow). GiveUp row.block row.slot) (λ row. tt) (slots_of file slots))
      (tt, tt)

  pub abort-fair : (file : ℕ) → Fair rules actor past m (Ask.Abort file) (decide_abort actor file m)
  unfolding decide_abort abort_unclosed
  abort-fair file =
      need-fair rules actor past m (Ask.Abort file) Told.Gone _ _ (λ none. none)
      (λ row found. (
        (refl, row, found),
        plain-goes rules actor past m (Ask.Abort file)
            (abort_changes file m.slots) (Told.Done (length m.history)) (aborting-plain file m.slots),
      ))

  pub release-fair : (lease : ℕ)
      → Fair rules actor past m (Ask.Release lease) (decide_release actor lease m)
  unfolding decide_release
  release-fair lease =
      unless-fair rules actor past m (Ask.Release lease) _ _ _ (λ off. off)
      (λ on. (
        (refl, on),
        plain-goes rules actor past m (Ask.Release lease) (EndLease lease ∷ [])
            (Told.Done (length m.history)) (tt, tt),
      ))

  -- ---- recoveries and moves that end

  ending-plain : (b : Bool) (lease : ℕ) → Each IsPlain (cond b (EndLease lease ∷ []) [])
  ending-plain true lease = (tt, tt)
  ending-plain false lease = tt

  giving-plain : (b : Bool) (block : BlockId) (slot : ℕ)
      → Each IsPlain (cond b (GiveUp block slot ∷ []) [])
  giving-plain true block slot = (tt, tt)
  giving-plain false block slot = tt

  confirming : (block : BlockId) (slot version lease : ℕ) (live : Bool)
      → Goes rules actor past m (Ask.Confirm block slot version lease)
      (cond live (EndLease lease ∷ []) [] ++ ConfirmSlot block slot ∷ []) Told.Confirmed
  unfolding apply_all
  confirming block slot version lease true may =
      let n : MetaImage = apply m (EndLease lease) in
      let o : MetaImage = apply n (ConfirmSlot block slot) in
      Of.tells-before m n o (plain-one past m (EndLease lease) may.0 tt)
      (Of.tells-as n o (λ _ _ s. (s, refl)) (λ _ _ _ g. absurd g) (λ _ l. absurd l)
      (change-tells past n (ConfirmSlot block slot) may.1.0))
  confirming block slot version lease false may =
      Of.tells-as m (apply m (ConfirmSlot block slot)) (λ _ _ s. (s, refl)) (λ _ _ _ g. absurd g)
      (λ _ l. absurd l) (change-tells past m (ConfirmSlot block slot) may.0)

  pub confirm-fair : (block : BlockId) (slot version lease : ℕ)
      → Fair rules actor past m (Ask.Confirm block slot version lease)
      (decide_confirm actor block slot version lease m)
  unfolding decide_confirm confirm_grant end_own_lease end_live_lease
  confirm-fair block slot version lease = one (file_stands block.file m.tree) refl
    where
      one : (b : Bool) → file_stands block.file m.tree ≡ b
          → Fair rules actor past m (Ask.Confirm block slot version lease)
          (confirm_grant actor block slot version lease m b)
      one false is = (
        is,
        plain-goes rules actor past m (Ask.Confirm block slot version lease) _ Told.Vanished
            (ending-plain (holds_lease actor lease m.leases) lease),
      )
      one true is =
          unless-fair rules actor past m (Ask.Confirm block slot version lease) _ _ _
          (λ off. (is, off, refl, refl)) (λ on.
          ((is, on), confirming block slot version lease (is_live_lease lease m.leases)))

  pub abandon-fair : (block : BlockId) (slot version lease : ℕ)
      → Fair rules actor past m (Ask.Abandon block slot version lease)
      (decide_abandon actor block slot version lease m)
  unfolding decide_abandon abandon_changes end_own_lease give_up_own
  abandon-fair block slot version lease = (
    refl,
    plain-goes rules actor past m (Ask.Abandon block slot version lease) _
        (Told.Done (length m.history)) (each_append IsPlain
        (cond (holds_lease actor lease m.leases) (EndLease lease ∷ []) []) _
        (ending-plain (holds_lease actor lease m.leases) lease)
        (giving-plain (is_own_grant actor version lease (slot_at m.slots block slot).grant) block
        slot)),
  )

  -- ---- deletions

  pub order-fair : (after : ℕ)
      → Fair rules actor past m (Ask.OrderNext after) (decide_order after m)
  unfolding decide_order order_row
  order-fair after =
      need-fair rules actor past m (Ask.OrderNext after) Told.Nothing _ _ (λ none. none)
      (λ row found. (
        (row, found, refl, refl),
        plain-goes rules actor past m (Ask.OrderNext after)
            (MarkOrdered row.condemned.number ∷ []) (Told.Ordered row.condemned m.turn) (tt, tt),
      ))

  pub swept-fair : (number : ℕ) → Fair rules actor past m (Ask.Swept number) (decide_swept number m)
  unfolding decide_swept
  swept-fair number = (
    refl,
    plain-goes rules actor past m (Ask.Swept number) (TakeCondemned number ∷ [])
        (Told.Done (length m.history)) (tt, tt),
  )

  -- ---- servers and the clock

  pub hello-fair : (server life : ℕ) (keys : List ChunkKey)
      → Fair rules actor past m (Ask.Hello server life keys) (decide_hello server life keys m)
  unfolding decide_hello
  hello-fair server life keys =
      unless-fair rules actor past m (Ask.Hello server life keys) _ _ _ (λ off. (off, refl))
      (λ on. (
        (on, refl),
        plain-goes rules actor past m (Ask.Hello server life keys)
            (ServerUp server life ∷ map (CondemnStray server life) keys) (Told.Done (length m.history))
            (tt, plain-map (CondemnStray server life) (λ key. tt) keys),
      ))

  pub bye-fair : (server : ℕ) → Fair rules actor past m (Ask.Bye server) (decide_bye server m)
  unfolding decide_bye
  bye-fair server = (
    refl,
    plain-goes rules actor past m (Ask.Bye server) (ServerDown server ∷ [])
        (Told.Done (length m.history)) (tt, tt),
  )

  pub leave-fair : (server : ℕ) → Fair rules actor past m (Ask.Leave server) (decide_leave server m)
  unfolding decide_leave
  leave-fair server = (
    refl,
    plain-goes rules actor past m (Ask.Leave server) (ServerLeaves server ∷ [])
        (Told.Done (length m.history)) (tt, tt),
  )

  pub hibernate-fair : (server ticks : ℕ)
      → Fair rules actor past m (Ask.Hibernate server ticks) (decide_hibernate server ticks m)
  unfolding decide_hibernate
  hibernate-fair server ticks =
      unless-fair rules actor past m (Ask.Hibernate server ticks) _ _ _ (λ off. off)
      (λ on. ((on, refl), plain-goes rules actor past m (Ask.Hibernate server ticks) _ _ (tt, tt)))

  pub tick-fair : Fair rules actor past m Ask.Tick (decide_tick m)
  unfolding decide_tick
  tick-fair =
      let now : ℕ = min (m.clock + 1) LAST_U64 in (
        refl,
        plain-goes rules actor past m Ask.Tick
            (ClockTicks ∷ map EndLease (leases_over now m.leases)) (Told.Clock now)
            (tt, plain-map EndLease (λ lease. tt) (leases_over now m.leases)),
      )

  drop-plain : (dropped : ℕ) (turn : Option ℕ)
      → Each IsPlain (changes_unless_dropped dropped m turn)
  unfolding changes_unless_dropped drop_changes recovery_changes unclosed_changes
  drop-plain dropped (Some turn) = tt
  drop-plain dropped None = (
    tt,
    each_append IsPlain (map EndLease (leases_of dropped m.leases) ++ map
        (λ (row : SlotRow). GiveUp row.block row.slot) (filter (is_recovery_of dropped m.tree) m.slots))
        (flat_map (λ file. abort_changes file m.slots) (unclosed_files dropped m.tree))
        (each_append IsPlain (map EndLease (leases_of dropped m.leases)) _
        (plain-map EndLease (λ lease. tt) (leases_of dropped m.leases))
        (plain-map (λ (row : SlotRow). GiveUp row.block row.slot) (λ row. tt)
        (filter (is_recovery_of dropped m.tree) m.slots)))
        (plain-flat (λ file. abort_changes file m.slots) (λ file. aborting-plain file m.slots)
        (unclosed_files dropped m.tree)),
  )

  pub drop-fair : (dropped : ℕ) → Fair rules actor past m (Ask.Drop dropped) (decide_drop dropped m)
  unfolding decide_drop
  drop-fair dropped = (
    refl,
    plain-goes rules actor past m (Ask.Drop dropped) _ (Told.Done (length m.history))
        (drop-plain dropped (dropped_at dropped m.dropped)),
  )

  pub left_on-fair : (server : ℕ)
      → Fair rules actor past m (Ask.LeftOn server) (decide_left_on server m)
  unfolding decide_left_on
  left_on-fair server = refl
