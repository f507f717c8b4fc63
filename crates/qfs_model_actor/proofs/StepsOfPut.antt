-- A put asks a bounded number of requests.
use Rattle.std.proofs.Common.{ℕ, zero, suc, ◌+◌, ◌-◌, ◌*◌, Bool, true, false, List, length, arith}
use Rattle.std.proofs.lemmas.List.FromFn.{length-range_with_len}
use Rattle.qfs_base.specs.Layout.{blocks_of}
use Rattle.qfs_base.specs.Shape.{Shape}
use Rattle.qfs_base.specs.declared.reply.Granted.{Granted}
use Rattle.qfs_base.specs.declared.reply.MetaReply.{MetaReply}
use Rattle.qfs_base.specs.declared.reply.MetaReply.TheVariants as Said
use Rattle.qfs_base.specs.Mask.{all_slots}
use Rattle.qfs_model_slot.specs.CodeWord.{SLOTS}
use Rattle.qfs_model_actor.specs.Work.{Work}
use Rattle.qfs_model_actor.specs.Hold.{unclosed}
use Rattle.qfs_model_actor.specs.Tree.{refused, changed, listed, change_work, list_work}
use Rattle.qfs_model_actor.specs.Grants.{if_meant, with_grant_of}
use Rattle.qfs_model_actor.specs.Put.{MOST_GRANTS, aborted, chosen, ask_grant, store, store_slot, blocks_from, store_slots, store_blocks, closed, close_file, put_blocks_from, created, put_work}
use Rattle.qfs_model_actor.specs.Steps.{AsksAtMost, steps_of_slot, steps_of_put}
use Rattle.qfs_model_actor.proofs.Steps.{more_steps, ask-steps, ask-nothing-steps, ask_server-steps, after_store-steps, for_each-steps}

pub refused-steps : (n : ℕ) (a : MetaReply) → AsksAtMost n (refused a)
unfolding refused
refused-steps n (Said.Refused refusal place) = tt
refused-steps n answer = tt

changed-steps : (n : ℕ) (a : MetaReply) → AsksAtMost n (changed a)
unfolding changed refused
changed-steps n (Said.Done place) = tt
changed-steps n answer = refused-steps n answer

listed-steps : (n : ℕ) (a : MetaReply) → AsksAtMost n (listed a)
unfolding listed refused
listed-steps n (Said.Names place names) = tt
listed-steps n answer = refused-steps n answer

pub change_work-steps : (request : _) → AsksAtMost 1 (change_work request)
unfolding change_work
change_work-steps request = ask-nothing-steps 0 request changed (changed-steps 0)

pub list_work-steps : (path : List (List ℕ)) → AsksAtMost 1 (list_work path)
unfolding list_work
list_work-steps path = ask-nothing-steps 0 _ listed (listed-steps 0)

pub if_meant-steps : (n : ℕ) (next : Granted → Work) (g : Granted) → AsksAtMost n (next g)
    → (b : Bool) → AsksAtMost n (if_meant next g b)
unfolding if_meant
if_meant-steps n next g h true = h
if_meant-steps n next g h false = tt

pub with_grant_of-steps : (n index slot : ℕ) (next : Granted → Work) (g : Granted) → AsksAtMost n (next g)
    → AsksAtMost n (with_grant_of index slot next g)
unfolding with_grant_of
with_grant_of-steps n index slot next g h = if_meant-steps n next g h _

aborted-steps : (n index slot : ℕ) (a : MetaReply) → AsksAtMost n (aborted index slot a)
unfolding aborted
aborted-steps n index slot (Said.Done place) = tt
aborted-steps n index slot answer = tt

chosen-steps : (n file index slot : ℕ) (next : Granted → Work) → ((g : Granted) → AsksAtMost (suc n) (next g))
    → (a : MetaReply) → AsksAtMost (suc n) (chosen file index slot next a)
unfolding chosen
chosen-steps n file index slot next h (Said.Granted g) = with_grant_of-steps (suc n) index slot next g (h g)
chosen-steps n file index slot next h (Said.NoServer block at) =
    ask-nothing-steps n _ (aborted index slot) (aborted-steps n index slot)
chosen-steps n file index slot next h answer = tt

ask_grant-steps : (n file index slot : ℕ) (again : Bool) (next : Granted → Work)
    → ((g : Granted) → AsksAtMost (suc n) (next g)) → AsksAtMost (suc (suc n)) (ask_grant file index slot again next)
unfolding ask_grant
ask_grant-steps n file index slot again next h =
    ask-steps n (unclosed file) _ (chosen file index slot next) (chosen-steps n file index slot next h)

store-steps : (n : ℕ) (layout : Shape) (bytes : List ℕ) (file index slot : ℕ) (stored failed : Work)
    → AsksAtMost (suc n) stored → AsksAtMost (suc n) failed
    → (g : Granted) → AsksAtMost (suc (suc n)) (store layout bytes file index slot stored failed g)
unfolding store
store-steps n layout bytes file index slot stored failed s f g =
    ask_server-steps n (unclosed file) g.server _ _ (after_store-steps (suc n) stored (λ cause. failed) s (λ cause. f))

store_slot-steps : (grants : ℕ) (again : Bool) (layout : Shape) (bytes : List ℕ) (file index slot : ℕ) (rest : Work) (n : ℕ)
    → AsksAtMost (suc n) rest → AsksAtMost (2 * grants + 2 + suc n) (store_slot grants again layout bytes file index slot rest)
unfolding store_slot
store_slot-steps zero again layout bytes file index slot rest n h =
    more_steps (ask_grant file index slot again _) 2 (2 * 0 + 2 + suc n) (omega arith)
    (ask_grant-steps 0 file index slot again _ (λ g. tt))
store_slot-steps (suc grants) again layout bytes file index slot rest n h =
    let m = 2 * grants + 2 + n in
    let next = store_slot grants true layout bytes file index slot rest in
    let again_steps =
    more_steps next (2 * grants + 2 + suc n) (suc m) (omega arith)
    (store_slot-steps grants true layout bytes file index slot rest n h) in
    let rest_steps = more_steps rest (suc n) (suc m) (omega arith) h in
    more_steps (ask_grant file index slot again _) (suc (suc (suc m))) (2 * suc grants + 2 + suc n) (omega arith)
    (ask_grant-steps (suc m) file index slot again _
    (store-steps m layout bytes file index slot rest next rest_steps again_steps))

store_slots-steps : (layout : Shape) (bytes : List ℕ) (file index : ℕ) (slots : List ℕ) (rest : Work) (n : ℕ)
    → AsksAtMost (suc n) rest
    → AsksAtMost (length slots * steps_of_slot + suc n) (store_slots layout bytes file index slots rest)
unfolding store_slots
store_slots-steps layout bytes file index slots rest n h =
    for_each-steps steps_of_slot (store_slot MOST_GRANTS false layout bytes file index)
    (λ slot more m k. store_slot-steps MOST_GRANTS false layout bytes file index slot more m k) slots rest n h

store_blocks-steps : (layout : Shape) (bytes : List ℕ) (file : ℕ) (blocks : List ℕ) (rest : Work) (n : ℕ)
    → AsksAtMost (suc n) rest
    → AsksAtMost (length blocks * (SLOTS * steps_of_slot) + suc n) (store_blocks layout bytes file blocks rest)
unfolding store_blocks
store_blocks-steps layout bytes file blocks rest n h =
    for_each-steps (SLOTS * steps_of_slot) (λ index more. store_slots layout bytes file index all_slots more)
    (λ index more m k. store_slots-steps layout bytes file index all_slots more m k) blocks rest n h

closed-steps : (n len : ℕ) (a : MetaReply) → AsksAtMost n (closed len a)
unfolding closed
closed-steps n len (Said.Done place) = tt
closed-steps n len answer = tt

close_file-steps : (len file : ℕ) → AsksAtMost 2 (close_file len file)
unfolding close_file
close_file-steps len file = ask-steps 0 (unclosed file) _ (closed len) (closed-steps 1 len)

put_blocks-steps : (layout : Shape) (bytes : List ℕ) (file : ℕ)
    → AsksAtMost (blocks_of layout.s layout.r (length bytes) * (SLOTS * steps_of_slot) + 2) (put_blocks_from layout bytes file 0)
unfolding put_blocks_from
put_blocks-steps layout bytes file =
    let blocks = blocks_of layout.s layout.r (length bytes) in
    let n = length (blocks_from layout (length bytes) 0) in
    more_steps (store_blocks layout bytes file (blocks_from layout (length bytes) 0) (close_file (length bytes) file))
    (n * (SLOTS * steps_of_slot) + 2) (blocks * (SLOTS * steps_of_slot) + 2)
    (omega (arith, length-range_with_len 0 (blocks - 0)))
    (store_blocks-steps layout bytes file (blocks_from layout (length bytes) 0) (close_file (length bytes) file) 1
    (close_file-steps (length bytes) file))

created-steps : (layout : Shape) (bytes : List ℕ) (a : MetaReply)
    → AsksAtMost (blocks_of layout.s layout.r (length bytes) * (SLOTS * steps_of_slot) + 2) (created layout bytes a)
unfolding created
created-steps layout bytes (Said.Created file place) = put_blocks-steps layout bytes file
created-steps layout bytes answer = refused-steps _ answer

pub put_work-steps : (layout : Shape) (number : ℕ) (path : List (List ℕ)) (bytes : List ℕ)
    → AsksAtMost (steps_of_put layout (length bytes)) (put_work layout number path bytes)
unfolding put_work
put_work-steps layout number path bytes =
    let n = blocks_of layout.s layout.r (length bytes) * (SLOTS * steps_of_slot) + 2 in
    more_steps (put_work layout number path bytes) (suc n) (steps_of_put layout (length bytes)) (omega arith)
    (ask-nothing-steps n _ (created layout bytes) (created-steps layout bytes))
