-- Worked runs with a term: a lease ends with the tick that brings the clock to its reading.
use Rattle.std.specs.Prelude.{◌≡◌, List, [], ◌∷◌, Some, slice_set}
use Rattle.qfs_base.specs.declared.reply.MetaReply.{MetaReply}
use Rattle.qfs_base.specs.declared.reply.MetaReply.TheVariants as Told
use Rattle.qfs_base.specs.declared.request.MetaRequest.TheVariants as Ask
use Rattle.qfs_model_meta.specs.Worked.{Asked, replies_with_term, path_a, first_block, copy_on, first_nine, all_but, only, grant_on, leased_on}
use Rattle.qfs_model_meta.specs.WorkedRepairs.{put_a, old_copy}

-- leases for two ticks: the first is given back after one, the second one is over after two
abbrev pub term_asked : List Asked
term_asked =
    (1, Ask.OpenFile path_a)
    ∷ (1, Ask.Tick)
    ∷ (1, Ask.Release 1)
    ∷ (1, Ask.OpenFile path_a)
    ∷ (1, Ask.Tick)
    ∷ (1, Ask.Tick)
    ∷ (1, Ask.Release 2)
    ∷ []

abbrev pub term_replies : List MetaReply
term_replies =
    Told.Opened (record { lease = 1; place = 2; file = 1; len = 1; blocks = first_nine ∷ [] })
    ∷ Told.Clock 1
    ∷ Told.Done 2
    ∷ Told.Opened (record { lease = 2; place = 2; file = 1; len = 1; blocks = first_nine ∷ [] })
    ∷ Told.Clock 2
    ∷ Told.Clock 3
    ∷ Told.Gone
    ∷ []

-- a copy is moved under a reader who is lost: after its lease's one tick the old copy is deleted
abbrev pub lost_asked : List Asked
lost_asked =
    (1, Ask.OpenFile path_a)
    ∷ (2, Ask.MoveAt path_a 0 0 10)
    ∷ (2, Ask.Confirm (first_block 1) 0 2 2)
    ∷ (2, Ask.OrderNext 0)
    ∷ (2, Ask.Tick)
    ∷ (2, Ask.OrderNext 0)
    ∷ (1, Ask.Release 1)
    ∷ []

abbrev pub lost_replies : List MetaReply
lost_replies =
    Told.Opened (record { lease = 1; place = 2; file = 1; len = 1; blocks = first_nine ∷ [] })
    ∷ Told.Granted (leased_on (grant_on 1 0 10 2) 2 (only 0 (copy_on 1 1)))
    ∷ Told.Confirmed
    ∷ Told.Nothing
    ∷ Told.Clock 1
    ∷ Told.Ordered old_copy 15
    ∷ Told.Gone
    ∷ []

-- a recovery whose lease a tick ended is confirmed all the same: its grant stayed
abbrev pub late_asked : List Asked
late_asked =
    (1, Ask.Bye 1)
    ∷ (2, Ask.RecoverAt path_a 0 0)
    ∷ (2, Ask.Tick)
    ∷ (1, Ask.RecoverAt path_a 0 0)
    ∷ (2, Ask.Confirm (first_block 1) 0 2 1)
    ∷ (1, Ask.OpenFile path_a)
    ∷ []

abbrev pub late_replies : List MetaReply
late_replies =
    Told.Done 2
    ∷ Told.Granted (leased_on (grant_on 1 0 10 2) 1 (all_but 0))
    ∷ Told.Clock 1
    ∷ Told.Taken 2
    ∷ Told.Confirmed
    ∷ Told.Opened
    (record {
      lease = 2;
      place = 2;
      file = 1;
      len = 1;
      blocks = slice_set first_nine 0 (Some (copy_on 10 2)) ∷ [];
    })
    ∷ []

-- what these runs did
pub record Termed : Type 0 where
  pub over : replies_with_term 2 10 put_a term_asked ≡ term_replies
  pub lost : replies_with_term 1 10 put_a lost_asked ≡ lost_replies
  pub late : replies_with_term 1 10 put_a late_asked ≡ late_replies
