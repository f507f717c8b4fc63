-- Worked runs in which servers go and come, copies are recovered and moved, and actors are dropped.
use Rattle.std.specs.Prelude.{◌≡◌, true, false, List, [], ◌∷◌, ◌++◌, map, Option, Some, None}
use Rattle.std.specs.List.{range_with_len}
use Rattle.qfs_base.specs.declared.reply.Condemned.{Condemned}
use Rattle.qfs_base.specs.declared.reply.MetaReply.{MetaReply}
use Rattle.qfs_base.specs.declared.reply.MetaReply.TheVariants as Told
use Rattle.qfs_base.specs.declared.reply.TreeRefusal.TheVariants as Not
use Rattle.qfs_base.specs.declared.request.MetaRequest.TheVariants as Ask
use Rattle.qfs_base.specs.declared.request.SlotId.{SlotId}
use Rattle.qfs_model_meta.specs.Worked.{Asked, replies_after, path_a, path_b, put_asked, first_block, copy_on, first_nine, all_but, only, grant_on, leased_on, refused}

-- `put /a` by actor 1, as its first command and as file 1
abbrev pub put_a : List Asked
put_a = put_asked 1 path_a 1 1

-- the copy of slot 0 as it was put, once it is condemned
abbrev pub old_copy : Condemned
old_copy = record { number = 1; block = first_block 1; slot = 0; copy = copy_on 1 1 }

-- where a request goes on behind slot 0
abbrev pub behind_first : Option SlotId
behind_first = Some (record { block = first_block 1; slot = 0 })

-- a copy is moved while a get has the file open: it isn't deleted before the get's release
abbrev pub move_asked : List Asked
move_asked =
    (1, Ask.OpenFile path_a)
    ∷ (2, Ask.MoveAt path_a 0 0 10)
    ∷ (2, Ask.Confirm (first_block 1) 0 2 2)
    ∷ (2, Ask.OrderNext 0)
    ∷ (1, Ask.Release 1)
    ∷ (2, Ask.OrderNext 0)
    ∷ (2, Ask.Swept 1)
    ∷ (2, Ask.OrderNext 0)
    ∷ (2, Ask.MoveAt path_a 0 0 2)
    ∷ []

abbrev pub move_replies : List MetaReply
move_replies =
    Told.Opened (record { lease = 1; place = 2; file = 1; len = 1; blocks = first_nine ∷ [] })
    ∷ Told.Granted (leased_on (grant_on 1 0 10 2) 2 (only 0 (copy_on 1 1)))
    ∷ Told.Confirmed
    ∷ Told.Nothing
    ∷ Told.Done 2
    ∷ Told.Ordered old_copy 15
    ∷ Told.Done 2
    ∷ Told.Nothing
    ∷ Told.Barred 2
    ∷ []

-- a slot is recovered while its server is down, and what comes back with the server is condemned
abbrev pub recover_asked : List Asked
recover_asked =
    (1, Ask.RecoverAt path_a 0 0)
    ∷ (1, Ask.Bye 1)
    ∷ (1, Ask.RecoverAt path_a 0 0)
    ∷ (2, Ask.RecoverAt path_a 0 0)
    ∷ (2, Ask.Confirm (first_block 1) 0 2 1)
    ∷ (1, Ask.Confirm (first_block 1) 0 2 1)
    ∷ (1, Ask.OrderNext 0)
    ∷ (1, Ask.Hello 1 1 (record { block = first_block 1; slot = 0; version = 1 } ∷ []))
    ∷ (1, Ask.OrderNext 0)
    ∷ (1, Ask.OrderNext 1)
    ∷ []

abbrev pub recover_replies : List MetaReply
recover_replies =
    Told.Whole
    ∷ Told.Done 2
    ∷ Told.Granted (leased_on (grant_on 1 0 10 2) 1 (all_but 0))
    ∷ Told.Taken 2
    ∷ Told.Stale (Some 2) 2
    ∷ Told.Confirmed
    ∷ Told.Nothing
    ∷ Told.Done 2
    ∷ Told.Ordered old_copy 15
    ∷ Told.Nothing
    ∷ []

-- a server is emptied: its next life is known, its copy is missing, and it may be chosen again
abbrev pub wipe_asked : List Asked
wipe_asked =
    (2, Ask.Hello 1 2 [])
    ∷ (2, Ask.Hello 1 1 [])
    ∷ (2, Ask.HealNext None)
    ∷ (2, Ask.HealNext behind_first)
    ∷ (2, Ask.Abandon (first_block 1) 0 2 1)
    ∷ (2, Ask.LeftOn 1)
    ∷ []

abbrev pub wipe_replies : List MetaReply
wipe_replies =
    Told.Done 2
    ∷ Told.Old 2
    ∷ Told.Granted (record (leased_on (grant_on 1 0 1 2) 1 (all_but 0)) { life = 2 })
    ∷ Told.Nothing
    ∷ Told.Done 2
    ∷ Told.Left 0
    ∷ []

-- a server is evacuated: with nine servers there is no other, with ten there is
abbrev pub evacuate_asked : List Asked
evacuate_asked = (1, Ask.Leave 1) ∷ (1, Ask.EvacNext 1 None) ∷ []

abbrev pub evacuate_more : List Asked
evacuate_more =
    (1, Ask.LeftOn 1)
    ∷ (1, Ask.Confirm (first_block 1) 0 2 1)
    ∷ (1, Ask.EvacNext 1 behind_first)
    ∷ (1, Ask.LeftOn 1)
    ∷ []

abbrev pub evacuate_none : List MetaReply
evacuate_none = Told.Done 2 ∷ Told.NoServer (first_block 1) 0 ∷ []

abbrev pub evacuate_replies : List MetaReply
evacuate_replies =
    Told.Done 2
    ∷ Told.Granted (leased_on (grant_on 1 0 10 2) 1 (only 0 (copy_on 1 1)))
    ∷ Told.Left 1
    ∷ Told.Confirmed
    ∷ Told.Nothing
    ∷ Told.Left 0
    ∷ []

-- a server hibernates for two ticks: only then is its copy missing
abbrev pub hibernate_asked : List Asked
hibernate_asked =
    (1, Ask.Hibernate 1 2)
    ∷ (1, Ask.Hibernate 1 2)
    ∷ (1, Ask.HealNext None)
    ∷ (1, Ask.Tick)
    ∷ (1, Ask.Tick)
    ∷ (1, Ask.HealNext None)
    ∷ []

abbrev pub hibernate_replies : List MetaReply
hibernate_replies =
    Told.Until 2
    ∷ Told.NotUp
    ∷ Told.Nothing
    ∷ Told.Clock 1
    ∷ Told.Clock 2
    ∷ Told.Granted (leased_on (grant_on 1 0 10 2) 1 (all_but 0))
    ∷ []

-- the server of slot 2 fails its put: the next one takes its place, and slot 3 may go where it failed
abbrev pub regrant_before : List Asked
regrant_before =
    (1, Ask.Create path_a 1 1) ∷ map (λ slot. (1, Ask.Grant 1 0 slot false)) (range_with_len 0 3)

abbrev pub regrant_asked : List Asked
regrant_asked =
    (1, Ask.Grant 1 0 2 false)
    ∷ (1, Ask.Grant 1 0 2 true)
    ∷ (1, Ask.Grant 1 0 3 false)
    ∷ (1, Ask.Close 1)
    ∷ (1, Ask.Grant 1 1 0 false)
    ∷ (2, Ask.Grant 1 0 4 false)
    ∷ []

abbrev pub regrant_replies : List MetaReply
regrant_replies =
    Told.Taken 1
    ∷ Told.Granted (grant_on 1 2 4 2)
    ∷ Told.Granted (grant_on 1 3 3 1)
    ∷ Told.Incomplete 0 4
    ∷ Told.NoBlock
    ∷ Told.Gone
    ∷ []

-- the last of nine servers fails its put: there is no other, and the put is given up
abbrev pub no_server_before : List Asked
no_server_before =
    (1, Ask.Create path_a 1 1) ∷ map (λ slot. (1, Ask.Grant 1 0 slot false)) (range_with_len 0 9)

abbrev pub no_server_asked : List Asked
no_server_asked = (1, Ask.Grant 1 0 8 true) ∷ (1, Ask.Abort 1) ∷ (1, Ask.OpenFile path_a) ∷ []

abbrev pub no_server_replies : List MetaReply
no_server_replies = Told.NoServer (first_block 1) 8 ∷ Told.Done 1 ∷ refused Not.Missing 2 ∷ []

-- an actor is dropped with a file open: from then on it is told the turn, whatever it asks
abbrev pub drop_asked : List Asked
drop_asked =
    (1, Ask.OpenFile path_a)
    ∷ (2, Ask.Drop 1)
    ∷ (1, Ask.Release 1)
    ∷ (1, Ask.List [])
    ∷ (2, Ask.Drop 1)
    ∷ (2, Ask.Checkpoint)
    ∷ []

abbrev pub drop_replies : List MetaReply
drop_replies =
    Told.Opened (record { lease = 1; place = 2; file = 1; len = 1; blocks = first_nine ∷ [] })
    ∷ Told.Done 2
    ∷ Told.Dropped 12
    ∷ Told.Dropped 12
    ∷ Told.Done 2
    ∷ Told.Saved 14
    ∷ []

-- one of ten servers is down during two puts: afterwards it is given one of their copies
abbrev pub balance_before : List Asked
balance_before =
    (1, Ask.Bye 10) ∷ put_a ++ put_asked 1 path_b 2 2 ++ (1, Ask.Hello 10 1 []) ∷ []

abbrev pub balance_asked : List Asked
balance_asked =
    (1, Ask.BalanceNext) ∷ (1, Ask.Confirm (first_block 1) 0 2 1) ∷ (1, Ask.BalanceNext) ∷ []

abbrev pub balance_replies : List MetaReply
balance_replies =
    Told.Granted (leased_on (grant_on 1 0 10 2) 1 (only 0 (copy_on 1 1)))
    ∷ Told.Confirmed
    ∷ Told.Nothing
    ∷ []

-- what these runs did
pub record Moved : Type 0 where
  pub replies : replies_after 10 put_a move_asked ≡ move_replies

pub record Recovered : Type 0 where
  pub replies : replies_after 10 put_a recover_asked ≡ recover_replies
  pub wiped : replies_after 10 put_a wipe_asked ≡ wipe_replies

pub record Evacuated : Type 0 where
  pub nine_servers : replies_after 9 put_a evacuate_asked ≡ evacuate_none
  pub ten_servers : replies_after 10 put_a (evacuate_asked ++ evacuate_more) ≡ evacuate_replies

pub record Hibernated : Type 0 where
  pub replies : replies_after 10 put_a hibernate_asked ≡ hibernate_replies

pub record Regranted : Type 0 where
  pub next_server : replies_after 9 regrant_before regrant_asked ≡ regrant_replies
  pub no_server : replies_after 9 no_server_before no_server_asked ≡ no_server_replies

pub record Dropped : Type 0 where
  pub replies : replies_after 9 put_a drop_asked ≡ drop_replies

pub record Balanced : Type 0 where
  pub replies : replies_after 10 balance_before balance_asked ≡ balance_replies
