-- The requests that grant nothing. For the law `stays_sound`.
use Rattle.qfs_base.specs.NameTree.{PathNames}
use Rattle.qfs_base.specs.Path.{IsPath}
use Rattle.qfs_base.specs.Shape.{Shape}
use Rattle.qfs_base.specs.Sizes.{LAST_U16, LAST_U32, LAST_U64, MOST_FILE_BYTES}
use Rattle.qfs_base.specs.Table.{Each}
use Rattle.qfs_base.specs.declared.change.Change.{Change}
use Rattle.qfs_base.specs.declared.change.Change.TheVariants.{ClockTicks, CondemnStray, ConfirmSlot}
use Rattle.qfs_base.specs.declared.change.Change.TheVariants.{EndLease, GiveUp, ServerUp}
use Rattle.qfs_base.specs.declared.change.Change.TheVariants.{TakeCondemned}
use Rattle.qfs_base.specs.declared.chunk.BlockId.{BlockId}
use Rattle.qfs_base.specs.declared.chunk.ChunkKey.{ChunkKey}
use Rattle.qfs_base.specs.declared.image.MetaImage.{MetaImage}
use Rattle.qfs_base.specs.declared.image.TreeRow.{TreeRow}
use Rattle.qfs_base.specs.declared.reply.MetaReply.{MetaReply}
use Rattle.qfs_base.specs.declared.request.SlotId.{SlotId}
use Rattle.qfs_model_meta.specs.Apply.{apply, apply_all, bring_up, condemn_stray, finish_lease}
use Rattle.qfs_model_meta.specs.Asked.{WasGrantedOn}
use Rattle.qfs_model_meta.specs.Counters.{counters_fit, risen}
use Rattle.qfs_model_meta.specs.Decision.{Makes}
use Rattle.qfs_model_meta.specs.GetRequests.{decide_release}
use Rattle.qfs_model_meta.specs.Grammar.{IsActor, IsServer}
use Rattle.qfs_model_meta.specs.Leases.{holds_lease, is_live_lease, leases_over}
use Rattle.qfs_model_meta.specs.Past.{Past, remember}
use Rattle.qfs_model_meta.specs.PutRequests.{close_complete, decide_close, decide_create}
use Rattle.qfs_model_meta.specs.PutRequests.{incomplete}
use Rattle.qfs_model_meta.specs.Range.{is_server, is_slot_number}
use Rattle.qfs_model_meta.specs.ServerRequests.{decide_bye, decide_hello, decide_hibernate}
use Rattle.qfs_model_meta.specs.ServerRequests.{decide_leave, decide_left_on, decide_tick}
use Rattle.qfs_model_meta.specs.Servers.{server_up}
use Rattle.qfs_model_meta.specs.SettleRequests.{abandon_changes, confirm_grant, decide_abandon}
use Rattle.qfs_model_meta.specs.SettleRequests.{decide_confirm, end_live_lease, end_own_lease}
use Rattle.qfs_model_meta.specs.SettleRequests.{give_up_own, is_own_grant, may_confirm}
use Rattle.qfs_model_meta.specs.Slots.{slot_at}
use Rattle.qfs_model_meta.specs.SweepRequests.{decide_swept}
use Rattle.qfs_model_meta.specs.TreeRequests.{decide_list, decide_mkdir, decide_rename}
use Rattle.qfs_model_meta.specs.TreeRequests.{decide_rmdir}
use Rattle.qfs_model_meta.specs.TreeRows.{closed_file, file_stands, has_file, is_unclosed_of}
use Rattle.qfs_model_meta.specs.TreeRows.{is_unclosed_row, unclosed_file}
use Rattle.std.proofs.Common.{Bool, List, None, Option, Some, [], arith, cond, false, length, map}
use Rattle.std.proofs.Common.{refl, subst, suc, sym, true, zero, ℕ, ◌&&◌, ◌+◌, ◌<◌, ◌==◌, ◌∙◌, ◌∷◌}
use Rattle.std.proofs.Common.{◌≡◌, ◌≤◌}
use Rattle.std.proofs.lemmas.Bool.{and_parts, leb-true, ltb-true}
use Rattle.std.specs.List.{list_all}
use Rattle.std.specs.Prelude.{IsTrue, is_some, nat_le, ◌++◌}
use Rattle.qfs_base.specs.declared.reply.MetaReply.TheVariants as Told
use Rattle.qfs_laws_meta.specs.Kept.{Fits, Keeps}
use Rattle.qfs_laws_meta.specs.Requests.{AllMake, Fine, Quiet, file-fine, need-fine, refuse-fine}
use Rattle.qfs_laws_meta.specs.Requests.{told_all, unless-fine}
use Rattle.qfs_laws_slots.specs.Changes.{MayMake, told}
use Rattle.qfs_laws_slots.specs.Losing.{stray-frame}
use Rattle.qfs_laws_slots.specs.RowKeys.{own-file}
use Rattle.qfs_laws_slots.specs.Servers.{change-length}
use Rattle.qfs_base.specs.EachLaws.{each_append}
use Rattle.qfs_laws_tables.specs.EachRow.{all-each, each_of_all, each_map, found_has}
use Rattle.qfs_laws_tree.specs.Tree.{RowIs}

-- ---- the name tree

pub mkdir-fine : (actor : ℕ) (past : Past) (m : MetaImage) (path : PathNames) → IsPath path
    → Fine actor past m (decide_mkdir path m)
unfolding decide_mkdir remember
mkdir-fine actor past m path is =
    file-fine actor past m _ _ _ (λ free. ((record { is_path = is; free = free }, tt), λ h. h))

pub rmdir-fine : (actor : ℕ) (past : Past) (m : MetaImage) (path : PathNames)
    → Fine actor past m (decide_rmdir path m)
unfolding decide_rmdir remember
rmdir-fine actor past m path = file-fine actor past m _ _ _ (λ free. ((free, tt), λ h. h))

pub rename-fine : (actor : ℕ) (past : Past) (m : MetaImage) (from to : PathNames) → IsPath to
    → Fine actor past m (decide_rename from to m)
unfolding decide_rename remember
rename-fine actor past m from to is =
    file-fine actor past m _ _ _ (λ free. ((record { is_path = is; free = free }, tt), λ h. h))

pub list-fine : (actor : ℕ) (past : Past) (m : MetaImage) (path : PathNames)
    → Fine actor past m (decide_list path m)
unfolding decide_list remember
list-fine actor past m path = file-fine actor past m _ _ _ (λ _. refl)

pub next-fits : (m : MetaImage) → IsTrue (counters_fit m) → m.next_file ≤ LAST_U32
unfolding counters_fit
next-fits m counters =
    let p = ltb-true m.next_file (LAST_U32 + 1)
    (and_parts _ _ (and_parts _ _ (and_parts _ _ counters).0).0).0 in omega arith

pub create-fine : (actor : ℕ) (past : Past) (m : MetaImage) (path : PathNames) (command len : ℕ)
    → IsTrue (counters_fit m) → IsActor actor → IsPath path → command ≤ LAST_U16
    → len ≤ MOST_FILE_BYTES → Fine actor past m (decide_create actor path command len m)
unfolding decide_create remember
create-fine actor past m path command len counters a is c l =
    file-fine actor past m _ _ _ (λ free. (
      (
        record {
          adds = record { is_path = is; free = free };
          number = next-fits m counters;
          is_actor = a;
          command_fits = c;
          len_fits = l;
        },
        tt,
      ),
      λ h. h,
    ))

-- ---- a put that ends

incomplete-quiet : (actor : ℕ) (past : Past) (o : Option SlotId) (reply : MetaReply)
    → incomplete o ≡ Some reply → Quiet actor past reply
unfolding incomplete remember
incomplete-quiet actor past None reply is = absurd (cc)
incomplete-quiet actor past (Some id) reply is =
    let e : Told.Incomplete id.block.index id.slot ≡ reply = cc in subst (Quiet actor past) e refl

pub unclosed-fits : (actor file : ℕ) (m : MetaImage) (row : TreeRow) → Fits m
    → m.next_file ≤ LAST_U32 → unclosed_file actor file m.tree ≡ Some row
    → (file ≤ LAST_U32) × (is_unclosed_row row ≡ true) × (row.file ≡ file)
unfolding unclosed_file is_unclosed_of is_unclosed_row
unclosed-fits actor file m row f counters found =
    let r = found_has (RowIs m.next_file) _ m.tree row found f.tree.rows in
    let p = and_parts (is_unclosed_row row && (row.actor == actor)) (has_file file row) r.1 in
    let q = and_parts (is_unclosed_row row) (row.actor == actor) p.0 in
    let own : row.file ≡ file = own-file file row p.1 in
    let next = counters in
    let low = number row.file refl (r.0.number) in
    (omega arith, q.0, own)
  where
    number : (n : ℕ) → row.file ≡ n → (0 < row.file → row.file < m.next_file)
        → row.file ≤ m.next_file
    number zero is below = omega arith
    number (suc n) is below = let l = below (omega arith) in omega arith

pub close-fine : (layout : Shape) (actor : ℕ) (past : Past) (m : MetaImage) (file : ℕ) → Fits m
    → IsTrue (counters_fit m) → Fine actor past m (decide_close layout actor file m)
unfolding decide_close close_complete remember
close-fine layout actor past m file f counters =
    need-fine actor past m Told.Gone _ _ refl (λ row found.
    refuse-fine actor past m _ _ (λ reply is. incomplete-quiet actor past _ reply is) (λ _. (
      (
        record {
          row = row;
          found = found;
          made = refl;
          number =
              (unclosed-fits actor file m row f (next-fits m counters) found).0;
        },
        tt,
      ),
      λ h. h,
    )))

-- ---- changes that may always be made, and tell nothing

abbrev pub IsAlwaysAllowed : Change → Type 0
IsAlwaysAllowed change =
    (past : Past) (m : MetaImage) → MayMake past m change × (told change m past ≡ past)

pub free-make : (changes : List Change) → Each IsAlwaysAllowed changes
    → (past : Past) (m : MetaImage)
    → AllMake past m changes
free-make [] each past m = tt
free-make (change ∷ changes) each past m =
    ((each.0 past m).0, free-make changes each.1 (told change m past) (apply m change))

pub free-told : (changes : List Change) → Each IsAlwaysAllowed changes
    → (past : Past) (m : MetaImage)
    → told_all changes m past ≡ past
free-told [] each past m = refl
free-told (change ∷ changes) each past m =
    free-told changes each.1 (told change m past) (apply m change) ∙ (each.0 past m).1

pub each-map : {X : Type 0} (f : X → Change) → ((x : X) → IsAlwaysAllowed (f x)) → (xs : List X)
    → Each IsAlwaysAllowed (map f xs)
each-map f free [] = tt
each-map f free (x ∷ xs) = (free x, each-map f free xs)

pub free-fine : (actor : ℕ) (past : Past) (m : MetaImage) (changes : List Change)
    (reply : MetaReply)
    → Each IsAlwaysAllowed changes → Quiet actor past reply
    → Fine actor past m (Makes changes reply)
free-fine actor past m changes reply free quiet = (
  free-make changes free past m,
  λ h. subst (λ p. Keeps p (apply_all changes m))
      (free-told changes free past m ∙ sym quiet) h,
)

pub release-fine : (actor : ℕ) (past : Past) (m : MetaImage) (lease : ℕ)
    → Fine actor past m (decide_release actor lease m)
unfolding decide_release remember
release-fine actor past m lease =
    unless-fine actor past m _ _ _ refl
    (λ _. free-fine actor past m (EndLease lease ∷ []) (Told.Done (length m.history))
    ((λ p n. (tt, refl)), tt) refl)

pub swept-fine : (actor : ℕ) (past : Past) (m : MetaImage) (number : ℕ)
    → Fine actor past m (decide_swept number m)
unfolding decide_swept remember
swept-fine actor past m number =
    free-fine actor past m (TakeCondemned number ∷ []) (Told.Done (length m.history))
    ((λ p n. (tt, refl)), tt) refl

pub tick-fine : (actor : ℕ) (past : Past) (m : MetaImage) → Fine actor past m (decide_tick m)
unfolding decide_tick remember
tick-fine actor past m =
    let now : ℕ = risen LAST_U64 m.clock in
    free-fine actor past m (ClockTicks ∷ map EndLease (leases_over now m.leases)) (Told.Clock now) (
      (λ p n. (tt, refl)),
      each_map (λ _. Unit {0}) IsAlwaysAllowed EndLease (λ lease _ p n. (tt, refl))
          (leases_over now m.leases) (each_of_all _ (λ _. tt) (leases_over now m.leases)),
    ) refl

pub left_on-fine : (actor : ℕ) (past : Past) (m : MetaImage) (server : ℕ)
    → Fine actor past m (decide_left_on server m)
unfolding decide_left_on remember
left_on-fine actor past m server = refl

-- ---- servers

pub server-is : (servers number : ℕ) → is_server servers number ≡ true → IsServer servers number
unfolding is_server
server-is servers number is =
    let p = and_parts (nat_le 1 number) (nat_le number servers) is in
    (leb-true _ _ p.0, leb-true _ _ p.1)

pub bye-fine : (actor : ℕ) (past : Past) (m : MetaImage) (server : ℕ)
    → is_server (length m.servers) server ≡ true → Fine actor past m (decide_bye server m)
unfolding decide_bye remember
bye-fine actor past m server is = ((server-is _ _ is, tt), λ h. h)

pub leave-fine : (actor : ℕ) (past : Past) (m : MetaImage) (server : ℕ)
    → is_server (length m.servers) server ≡ true → Fine actor past m (decide_leave server m)
unfolding decide_leave remember
leave-fine actor past m server is = ((server-is _ _ is, tt), λ h. h)

pub hibernate-fine : (actor : ℕ) (past : Past) (m : MetaImage) (server ticks : ℕ)
    → is_server (length m.servers) server ≡ true
    → Fine actor past m (decide_hibernate server ticks m)
unfolding decide_hibernate remember
hibernate-fine actor past m server ticks is =
    unless-fine actor past m _ _ _ refl (λ _. ((server-is _ _ is, tt), λ h. h))

strays : (past : Past) (server life : ℕ) (keys : List ChunkKey) (m : MetaImage)
    → IsServer (length m.servers) server
    → Each (λ (key : ChunkKey). is_slot_number key.slot ≡ true) keys
    → Each (WasGrantedOn past server life) keys
    → AllMake past m (map (CondemnStray server life) keys)
unfolding apply is_slot_number
strays past server life [] m is small granted = tt
strays past server life (key ∷ keys) m is small granted = (
  record { granted = granted.0; slot_number = ltb-true _ _ small.0; server_number = is },
  strays past server life keys (condemn_stray server life key m)
      (subst (λ (n : MetaImage). IsServer (length n.servers) server)
      (sym (stray-frame server life key m)) is) small.1 granted.1,
)

strays-told : (past : Past) (server life : ℕ) (keys : List ChunkKey) (m : MetaImage)
    → told_all (map (CondemnStray server life) keys) m past ≡ past
strays-told past server life [] m = refl
strays-told past server life (key ∷ keys) m =
    strays-told past server life keys (apply m (CondemnStray server life key))

up-servers : (m : MetaImage) (server life : ℕ) → IsServer (length m.servers) server
    → IsServer (length (apply m (ServerUp server life)).servers) server
unfolding apply bring_up
up-servers m server life is =
    let e = change-length (server_up life) m.servers server in (is.0, omega (arith, is.1))

pub hello-fine : (actor : ℕ) (past : Past) (m : MetaImage) (server life : ℕ) (keys : List ChunkKey)
    → (is_server (length m.servers) server && list_all (λ (key : ChunkKey). is_slot_number key.slot)
    keys) ≡ true
    → Each (WasGrantedOn past server life) keys
    → Fine actor past m (decide_hello server life keys m)
unfolding decide_hello remember
hello-fine actor past m server life keys range granted =
    let p = and_parts (is_server (length m.servers) server)
    (list_all (λ (key : ChunkKey). is_slot_number key.slot) keys) range in
    let is = server-is _ _ p.0 in
    unless-fine actor past m _ _ _ refl (λ rises. (
      (
        (is, leb-true _ _ rises),
        strays past server life keys (apply m (ServerUp server life))
            (up-servers m server life is) (all-each _ keys p.1) granted,
      ),
      λ h. subst (λ q. Keeps q (apply_all
          (ServerUp server life ∷ map (CondemnStray server life) keys) m))
          (strays-told past server life keys (apply m (ServerUp server life))) h,
    ))

-- ---- recoveries and moves that end

end_own-free : (b : Bool) (lease : ℕ) → Each IsAlwaysAllowed (cond b (EndLease lease ∷ []) [])
end_own-free true lease = ((λ p n. (tt, refl)), tt)
end_own-free false lease = tt

vanished : (actor : ℕ) (past : Past) (m : MetaImage) (block : BlockId) (slot version lease : ℕ)
    → Fine actor past m (confirm_grant actor block slot version lease m false)
unfolding confirm_grant end_own_lease remember
vanished actor past m block slot version lease =
    free-fine actor past m _ Told.Vanished (end_own-free (holds_lease actor lease m.leases) lease)
    refl

-- a lease that ends, and a slot that is confirmed
confirming : (past : Past) (m : MetaImage) (block : BlockId) (slot lease : ℕ) (b : Bool)
    → IsTrue (is_some (closed_file block.file m.tree))
    → AllMake past m (cond b (EndLease lease ∷ []) [] ++ ConfirmSlot block slot ∷ [])
unfolding apply finish_lease
confirming past m block slot lease true closed = (tt, (closed, tt))
confirming past m block slot lease false closed = (closed, tt)

confirming-told : (past : Past) (m : MetaImage) (block : BlockId) (slot lease : ℕ) (b : Bool)
    → told_all (cond b (EndLease lease ∷ []) [] ++ ConfirmSlot block slot ∷ []) m past ≡ past
confirming-told past m block slot lease true = refl
confirming-told past m block slot lease false = refl

confirmed : (actor : ℕ) (past : Past) (m : MetaImage) (block : BlockId) (slot version lease : ℕ)
    → Fine actor past m (confirm_grant actor block slot version lease m true)
unfolding confirm_grant may_confirm end_live_lease remember
confirmed actor past m block slot version lease =
    let live = is_live_lease lease m.leases in
    unless-fine actor past m _ _ _ refl (λ may. (
      confirming past m block slot lease live
          (and_parts (is_some (closed_file block.file m.tree))
          (is_own_grant actor version lease (slot_at m.slots block slot).grant) may).0,
      λ h. subst (λ p. Keeps p (apply_all
          (cond live (EndLease lease ∷ []) [] ++ ConfirmSlot block slot ∷ []) m))
          (confirming-told past m block slot lease live) h,
    ))

pub confirm-fine : (actor : ℕ) (past : Past) (m : MetaImage) (block : BlockId)
    (slot version lease : ℕ)
    → Fine actor past m (decide_confirm actor block slot version lease m)
unfolding decide_confirm
confirm-fine actor past m block slot version lease = one (file_stands block.file m.tree)
  where
    one : (b : Bool) → Fine actor past m (confirm_grant actor block slot version lease m b)
    one false = vanished actor past m block slot version lease
    one true = confirmed actor past m block slot version lease

free_give : (b : Bool) (block : BlockId) (slot : ℕ)
    → Each IsAlwaysAllowed (cond b (GiveUp block slot ∷ []) [])
free_give true block slot = ((λ p n. (tt, refl)), tt)
free_give false block slot = tt

pub abandon-fine : (actor : ℕ) (past : Past) (m : MetaImage) (block : BlockId)
    (slot version lease : ℕ)
    → Fine actor past m (decide_abandon actor block slot version lease m)
unfolding decide_abandon abandon_changes end_own_lease give_up_own remember
abandon-fine actor past m block slot version lease =
    free-fine actor past m _ (Told.Done (length m.history))
    (each_append IsAlwaysAllowed (cond (holds_lease actor lease m.leases) (EndLease lease ∷ []) [])
    _
    (end_own-free (holds_lease actor lease m.leases) lease)
    (free_give (is_own_grant actor version lease (slot_at m.slots block slot).grant) block slot))
    refl
