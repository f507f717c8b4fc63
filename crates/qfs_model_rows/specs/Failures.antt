-- Gets and puts while servers are down, were emptied or fail.
use Rattle.std.specs.Prelude.{List, [], ◌∷◌, ◌++◌, codes}
use Rattle.qfs_base.specs.declared.command.Command.{Command}
use Rattle.qfs_base.specs.declared.command.Command.TheVariants as Does
use Rattle.qfs_base.specs.declared.history.Step.{Step}
use Rattle.qfs_base.specs.declared.script.Script.{Script}
use Rattle.qfs_model_server.specs.Server.{Copies}
use Rattle.qfs_model_rows.specs.Prints.{Prints, Stores, one_copy}
use Rattle.qfs_model_rows.specs.Scripts.{path_a, get_all, put_one, put_five, one_byte, no_byte, small_script, steps, failing_steps, history_of_put}

-- three servers are down: the parity slots take their places
abbrev pub degraded : Script
degraded = small_script 9 ((put_five ∷ Does.Stop 1 ∷ Does.Stop 2 ∷ Does.Stop 3 ∷ get_all path_a ∷ []) ∷ [])

abbrev pub DegradedGet : Type 0
DegradedGet = Prints
    degraded
    (steps 1 34)
    (codes "1 1 at 1 stored 5"
    ∷ codes "1 2 stopped"
    ∷ codes "1 3 stopped"
    ∷ codes "1 4 stopped"
    ∷ codes "1 5 at 2 read 5 hex 0102030405"
    ∷ history_of_put
    ++ codes "order 1x34"
    ∷ [])

-- four servers are down before the file is opened: the get opens it five times, once and once more for each of the stops
abbrev pub stops : List Command
stops = Does.Stop 1 ∷ Does.Stop 4 ∷ Does.Stop 8 ∷ Does.Stop 9 ∷ []

abbrev pub TooFewListed : Type 0
TooFewListed = Prints
    (small_script 9 ((put_one ∷ stops ++ get_all path_a ∷ []) ∷ []))
    (steps 1 38)
    (codes "1 1 at 1 stored 1"
    ∷ codes "1 2 stopped"
    ∷ codes "1 3 stopped"
    ∷ codes "1 4 stopped"
    ∷ codes "1 5 stopped"
    ∷ codes "1 6 at 2 toofew 0 0:unlisted 3:unlisted 7:unlisted 8:unlisted"
    ∷ history_of_put
    ++ codes "order 1x38"
    ∷ [])

-- four servers go down after the file was opened: where the get opens it again, they aren't listed
abbrev pub stopped_in_get : Script
stopped_in_get = small_script 9 ((put_one ∷ get_all path_a ∷ []) ∷ stops ∷ [])

abbrev pub stopping_order : List Step
stopping_order = steps 1 21 ++ steps 2 8 ++ steps 1 18

abbrev pub TooFewAnswer : Type 0
TooFewAnswer = Prints
    stopped_in_get
    stopping_order
    (codes "1 1 at 1 stored 1"
    ∷ codes "1 2 at 2 toofew 0 0:unlisted 3:unlisted 7:unlisted 8:unlisted"
    ∷ codes "2 1 stopped"
    ∷ codes "2 2 stopped"
    ∷ codes "2 3 stopped"
    ∷ codes "2 4 stopped"
    ∷ history_of_put
    ++ codes "order 1x21 2x8 1x18"
    ∷ [])

-- three devices fail in a get, and a fourth
abbrev pub put_and_get : Script
put_and_get = small_script 9 ((put_five ∷ get_all path_a ∷ []) ∷ [])

abbrev pub three_fail : List Step
three_fail = steps 1 21 ++ failing_steps 1 3 ++ steps 1 7

abbrev pub ThreeFetchesFail : Type 0
ThreeFetchesFail = Prints
    put_and_get
    three_fail
    (codes "1 1 at 1 stored 5"
    ∷ codes "1 2 at 2 read 5 hex 0102030405"
    ∷ history_of_put
    ++ codes "order 1x21 1fx3 1x7"
    ∷ [])

abbrev pub four_fail : List Step
four_fail =
    steps 1 21 ++ failing_steps 1 1 ++ steps 1 2 ++ failing_steps 1 1 ++ steps 1 3 ++ failing_steps 1 2 ++ steps 1 1

abbrev pub FourFetchesFail : Type 0
FourFetchesFail = Prints
    put_and_get
    four_fail
    (codes "1 1 at 1 stored 5"
    ∷ codes "1 2 at 2 toofew 0 0:fault 3:fault 7:fault 8:fault"
    ∷ history_of_put
    ++ codes "order 1x21 1fx1 1x2 1fx1 1x3 1fx2 1x1"
    ∷ [])

-- one of nine servers is down, so the last slot of a put finds none
abbrev pub NoServerUp : Type 0
NoServerUp = Prints
    (small_script 9 ((Does.Stop 9 ∷ put_one ∷ Does.Start 9 ∷ get_all path_a ∷ []) ∷ []))
    (steps 1 25)
    (codes "1 1 stopped"
    ∷ codes "1 2 at 1 noserver 0 8"
    ∷ codes "1 3 started 1"
    ∷ codes "1 4 at 2 missing"
    ∷ codes "history 0 created 1 /a"
    ∷ codes "history 1 aborted 1"
    ∷ codes "order 1x25"
    ∷ [])

-- a server is emptied: its slot is read from the others
abbrev pub EmptiedServer : Type 0
EmptiedServer = Prints
    (small_script 9 ((put_one ∷ Does.Wipe 1 ∷ get_all path_a ∷ []) ∷ []))
    (steps 1 31)
    (codes "1 1 at 1 stored 1"
    ∷ codes "1 2 wiped 2"
    ∷ codes "1 3 at 2 read 1 hex 01"
    ∷ history_of_put
    ++ codes "order 1x31"
    ∷ [])

-- the device of server 3 fails in a put: slot 2 goes to server 4 in its next version, and slot 3 to server 3
abbrev pub regranted_copies : List Copies
regranted_copies =
    one_copy 0 1 one_byte
    ∷ one_copy 1 1 no_byte
    ∷ one_copy 3 1 no_byte
    ∷ one_copy 2 2 no_byte
    ∷ one_copy 4 1 no_byte
    ∷ one_copy 5 1 no_byte
    ∷ one_copy 6 1 one_byte
    ∷ one_copy 7 1 one_byte
    ∷ one_copy 8 1 one_byte
    ∷ []

abbrev pub put_alone : Script
put_alone = small_script 9 ((put_one ∷ []) ∷ [])

abbrev pub third_fails : List Step
third_fails = steps 1 6 ++ failing_steps 1 1 ++ steps 1 15

pub record PutFails : Type 0 where
  pub prints : Prints put_alone third_fails
      (codes "1 1 at 1 stored 1" ∷ history_of_put ++ codes "order 1x6 1fx1 1x15" ∷ [])
  pub stores : Stores put_alone third_fails regranted_copies

-- the device of the last server fails in a put, and there is no other server
abbrev pub LastPutFails : Type 0
LastPutFails = Prints
    (small_script 9 ((put_one ∷ get_all path_a ∷ []) ∷ []))
    (steps 1 18 ++ failing_steps 1 1 ++ steps 1 3)
    (codes "1 1 at 1 noserver 0 8"
    ∷ codes "1 2 at 2 missing"
    ∷ codes "history 0 created 1 /a"
    ∷ codes "history 1 aborted 1"
    ∷ codes "order 1x18 1fx1 1x3"
    ∷ [])
