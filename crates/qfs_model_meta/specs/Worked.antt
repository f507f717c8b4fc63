-- What the worked runs of the metaserver are made of: paths, requests and their replies.
use Rattle.std.specs.Prelude.{ℕ, ◌+◌, false, List, [], ◌∷◌, ◌++◌, map, replicate, slice_set, codes, Option, Some, None}
use Rattle.std.specs.List.{range_with_len}
use Rattle.qfs_base.specs.declared.chunk.BlockId.{BlockId}
use Rattle.qfs_base.specs.declared.chunk.Copy.{Copy}
use Rattle.qfs_base.specs.declared.history.Outcome.TheVariants as Ended
use Rattle.qfs_base.specs.declared.image.MetaImage.{MetaImage}
use Rattle.qfs_base.specs.declared.reply.Granted.{Granted}
use Rattle.qfs_base.specs.declared.reply.MetaReply.{MetaReply}
use Rattle.qfs_base.specs.declared.reply.MetaReply.TheVariants as Told
use Rattle.qfs_base.specs.declared.reply.TreeRefusal.{TreeRefusal}
use Rattle.qfs_base.specs.declared.request.MetaRequest.{MetaRequest}
use Rattle.qfs_base.specs.declared.request.MetaRequest.TheVariants as Ask
use Rattle.qfs_base.specs.NameTree.{PathNames}
use Rattle.qfs_base.specs.declared.rules.Rules.{Rules}
use Rattle.qfs_model_meta.specs.Step.{Served, meta_step, opening}

-- the rules of the worked runs: stripes of 16 bytes, two rows, and leases for a term
abbrev pub small_rules : ℕ → Rules
small_rules term = record { layout = record { s = 16; r = 2 }; term = term; tries = 1 }

-- a request and the number of the actor that asks it
abbrev pub Asked : Type 0
Asked = ℕ × MetaRequest

-- the metaserver after these requests, each of which is done, and its replies in order
pub record Ran : Type 0 where
  pub meta : MetaImage
  pub replies : List MetaReply

abbrev pub run_one : ℕ → Ran → Asked → Ran
run_one term ran asked =
    let served : Served = meta_step (small_rules term) asked.0 asked.1 Ended.Done ran.meta in
    record { meta = served.meta; replies = ran.replies ++ served.reply ∷ [] }

abbrev pub run_with_term : ℕ → Ran → List Asked → Ran
run_with_term term ran [] = ran
run_with_term term ran (asked ∷ more) = run_with_term term (run_one term ran asked) more

-- the same where leases last until they are given back
abbrev pub run : Ran → List Asked → Ran
run ran asked = run_with_term 0 ran asked

-- a run begins with so many servers
abbrev pub begins : ℕ → Ran
begins servers = record { meta = opening servers; replies = [] }

-- the replies to these requests, once those before were answered
abbrev pub replies_with_term : ℕ → ℕ → List Asked → List Asked → List MetaReply
replies_with_term term servers before asked =
    let ran : Ran = run_with_term term (begins servers) before in
    (run_with_term term (record { meta = ran.meta; replies = [] }) asked).replies

abbrev pub replies_after : ℕ → List Asked → List Asked → List MetaReply
replies_after servers before asked = replies_with_term 0 servers before asked

-- paths of one name and of two
abbrev pub path_a : PathNames
path_a = codes "a" ∷ []

abbrev pub path_b : PathNames
path_b = codes "b" ∷ []

abbrev pub path_d : PathNames
path_d = codes "d" ∷ []

abbrev pub path_q : PathNames
path_q = codes "q" ∷ []

abbrev pub path_df : PathNames
path_df = codes "d" ∷ codes "f" ∷ []

abbrev pub path_de : PathNames
path_de = codes "d" ∷ codes "e" ∷ []

abbrev pub path_xy : PathNames
path_xy = codes "x" ∷ codes "y" ∷ []

-- the first block of a file
abbrev pub first_block : ℕ → BlockId
first_block file = record { file = file; index = 0 }

-- the requests of a put of a few bytes by an actor, as the given command and file
abbrev pub grants_asked : ℕ → ℕ → List Asked
grants_asked actor file = map (λ slot. (actor, Ask.Grant file 0 slot false)) (range_with_len 0 9)

abbrev pub put_asked : ℕ → PathNames → ℕ → ℕ → List Asked
put_asked actor path command file =
    (actor, Ask.Create path command 1) ∷ grants_asked actor file ++ (actor, Ask.Close file) ∷ []

-- a copy on a server in its first life
abbrev pub copy_on : ℕ → ℕ → Copy
copy_on server version = record { server = server; life = 1; version = version }

-- the copies of a block whose slots stand on the servers 1 to 9 in turn
abbrev pub first_nine : List (Option Copy)
first_nine = map (λ slot. Some (copy_on (slot + 1) 1)) (range_with_len 0 9)

-- the same but for one slot, and one slot alone
abbrev pub all_but : ℕ → List (Option Copy)
all_but slot = slice_set first_nine slot None

abbrev pub only : ℕ → Copy → List (Option Copy)
only slot copy = slice_set (replicate 9 None) slot (Some copy)

-- a grant of a slot of a file's first block, on a server in its first life, without sources
abbrev pub grant_on : ℕ → ℕ → ℕ → ℕ → Granted
grant_on file slot server version =
    record {
      block = first_block file;
      slot = slot;
      version = version;
      server = server;
      life = 1;
      lease = 0;
      sources = replicate 9 None;
      rows = 1;
    }

-- a grant under a lease, with its sources
abbrev pub leased_on : Granted → ℕ → List (Option Copy) → Granted
leased_on granted lease sources = record granted { lease = lease; sources = sources }

-- a refusal of the name tree at a place
abbrev pub refused : TreeRefusal → ℕ → MetaReply
refused why place = Told.Refused why place
