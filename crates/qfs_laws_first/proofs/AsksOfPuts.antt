-- A put asks only requests of puts. For the law that puts and gets delete nothing.
use Rattle.std.proofs.Common.{ℕ, zero, suc, Bool, true, false, List}
use Rattle.qfs_base.specs.Shape.{Shape}
use Rattle.qfs_base.specs.declared.reply.Granted.{Granted}
use Rattle.qfs_base.specs.declared.reply.MetaReply.{MetaReply}
use Rattle.qfs_base.specs.declared.reply.MetaReply.TheVariants as Said
use Rattle.qfs_base.specs.Mask.{all_slots}
use Rattle.qfs_model_actor.specs.Work.{Work}
use Rattle.qfs_model_actor.specs.Hold.{nothing, unclosed}
use Rattle.qfs_model_actor.specs.Grants.{if_meant, with_grant_of}
use Rattle.qfs_model_actor.specs.Put.{MOST_GRANTS, aborted, chosen, ask_grant, store, store_slot}
use Rattle.qfs_model_actor.specs.Put.{blocks_from, store_slots, store_blocks, closed, close_file}
use Rattle.qfs_model_actor.specs.Put.{put_blocks_from, created, put_work}
use Rattle.qfs_laws_first.specs.Asks.{AsksOfFiles}
use Rattle.qfs_laws_first.proofs.Asks.{ask-asks, ask_server-asks, after_store-asks, for_each-asks}
use Rattle.qfs_laws_first.proofs.Asks.{refused-asks}

if_meant-asks : (next : Granted → Work) (g : Granted) → AsksOfFiles (next g) → (b : Bool)
    → AsksOfFiles (if_meant next g b)
unfolding if_meant
if_meant-asks next g h true = h
if_meant-asks next g h false = tt

aborted-asks : (index slot : ℕ) (a : MetaReply) → AsksOfFiles (aborted index slot a)
unfolding aborted
aborted-asks index slot (Said.Done place) = tt
aborted-asks index slot answer = tt

chosen-asks : (file index slot : ℕ) (next : Granted → Work) → ((g : Granted) → AsksOfFiles (next g))
    → (a : MetaReply) → AsksOfFiles (chosen file index slot next a)
unfolding chosen with_grant_of
chosen-asks file index slot next h (Said.Granted g) = if_meant-asks next g (h g) _
chosen-asks file index slot next h (Said.NoServer block at) =
    ask-asks nothing _ (aborted index slot) tt tt (aborted-asks index slot)
chosen-asks file index slot next h answer = tt

ask_grant-asks : (file index slot : ℕ) (again : Bool) (next : Granted → Work)
    → ((g : Granted) → AsksOfFiles (next g)) → AsksOfFiles (ask_grant file index slot again next)
unfolding ask_grant
ask_grant-asks file index slot again next h =
    ask-asks (unclosed file) _ (chosen file index slot next) tt tt
    (chosen-asks file index slot next h)

store-asks : (layout : Shape) (bytes : List ℕ) (file index slot : ℕ) (stored failed : Work)
    → AsksOfFiles stored → AsksOfFiles failed → (g : Granted)
    → AsksOfFiles (store layout bytes file index slot stored failed g)
unfolding store
store-asks layout bytes file index slot stored failed s f g =
    ask_server-asks (unclosed file) g.server _ _ tt tt
    (after_store-asks stored (λ cause. failed) s (λ cause. f))

store_slot-asks : (grants : ℕ) (again : Bool) (layout : Shape) (bytes : List ℕ)
    (file index slot : ℕ) (rest : Work)
    → AsksOfFiles rest → AsksOfFiles (store_slot grants again layout bytes file index slot rest)
unfolding store_slot
store_slot-asks zero again layout bytes file index slot rest h =
    ask_grant-asks file index slot again _ (λ g. tt)
store_slot-asks (suc grants) again layout bytes file index slot rest h =
    ask_grant-asks file index slot again _
    (store-asks layout bytes file index slot rest _ h
    (store_slot-asks grants true layout bytes file index slot rest h))

closed-asks : (len : ℕ) (a : MetaReply) → AsksOfFiles (closed len a)
unfolding closed
closed-asks len (Said.Done place) = tt
closed-asks len answer = tt

put_blocks-asks : (layout : Shape) (bytes : List ℕ) (file : ℕ)
    → AsksOfFiles (put_blocks_from layout bytes file 0)
unfolding put_blocks_from store_blocks store_slots close_file
put_blocks-asks layout bytes file =
    for_each-asks _
    (λ index more. for_each-asks (store_slot MOST_GRANTS false layout bytes file index)
    (λ slot rest. store_slot-asks MOST_GRANTS false layout bytes file index slot rest) all_slots
    more)
    (blocks_from layout _ 0) _
    (ask-asks (unclosed file) _ (closed _) tt tt (closed-asks _))

created-asks : (layout : Shape) (bytes : List ℕ) (a : MetaReply)
    → AsksOfFiles (created layout bytes a)
unfolding created
created-asks layout bytes (Said.Created file place) = put_blocks-asks layout bytes file
created-asks layout bytes answer = refused-asks answer

pub put_work-asks : (layout : Shape) (number : ℕ) (path : List (List ℕ)) (bytes : List ℕ)
    → AsksOfFiles (put_work layout number path bytes)
unfolding put_work
put_work-asks layout number path bytes =
    ask-asks nothing _ (created layout bytes) tt tt (created-asks layout bytes)
