-- What an actor has left falls at each step.
use Rattle.std.proofs.Common.{◌≡◌, ℕ, zero, suc, ◌+◌, ◌-◌, ◌<◌, ◌≤◌, List, [], ◌∷◌, ◌++◌, length, drop, Option, Some, None, arith, subst, sym, refl, ap, ◌∙◌, length-append, ◌*◌, mul-le-mul_right, suc-mul, zero-mul}
use Rattle.std.specs.Prelude.{All, ◌^◌, IsSome, IsTrue, slice_get, option_map, option_and_then, sum_by, ◌↔◌, is_none}
use Rattle.std.proofs.lemmas.List.Sums.{sum_by-cons, sum_by-le}
use Rattle.std.proofs.lemmas.List.FromFn.{length-map-range_with_len}
use Rattle.std.proofs.lemmas.List.{length-replicate}
use Rattle.std.proofs.lemmas.Grind.{div_ceil_times}
use Rattle.qfs_base.specs.Layout.{block_bytes, blocks_of}
use Rattle.qfs_base.specs.Recipe.{IsRecipe, bytes_of, pattern_byte}
use Rattle.qfs_base.specs.Shape.{Shape, IsStripe, IsRowCount}
use Rattle.qfs_base.specs.Sizes.{MOST_FILE_BYTES}
use Rattle.qfs_base.specs.declared.rules.Rules.{Rules}
use Rattle.qfs_base.specs.declared.command.Command.TheVariants as Does
use Rattle.qfs_base.specs.declared.command.FileCommand.{FileCommand}
use Rattle.qfs_base.specs.declared.command.FileCommand.TheVariants as File
use Rattle.qfs_base.specs.declared.recipe.Form.{Form}
use Rattle.qfs_base.specs.declared.recipe.Form.TheVariants as Of
use Rattle.qfs_base.specs.declared.command.Command.{Command}
use Rattle.qfs_base.specs.declared.reply.MetaReply.TheVariants as Said
use Rattle.qfs_base.specs.declared.reply.NodeReply.{NodeReply}
use Rattle.qfs_base.specs.declared.reply.NodeReply.TheVariants as From
use Rattle.qfs_base.specs.declared.request.NodeRequest.{NodeRequest}
use Rattle.qfs_model_actor.specs.Work.{Work, ends, asks, goes_on, follow, request_in}
use Rattle.qfs_model_actor.specs.Command.{work_of}
use Rattle.qfs_model_actor.specs.Actor.{Actor, starting, present_command, work_left, request_of, has_finished, moved_on, after_reply}
use Rattle.qfs_model_actor.specs.Steps.{AsksAtMost, IsInRange, IsFileInRange, steps_of_put, steps_of_attempt, steps_of_get, most_file_steps, most_steps, steps_ahead, if_asking, left}
use Rattle.qfs_model_actor.proofs.Steps.{more_steps}
use Rattle.qfs_model_actor.proofs.StepsOfReads.{div_ceil-le_self}
use Rattle.qfs_model_actor.proofs.StepsOfCommands.{work_of-steps}

-- a work that asks is not at its bound
asks_some : (n : ℕ) (request : NodeRequest) (next : NodeReply → Work) → AsksAtMost n (asks request next) → 0 < n
asks_some zero request next h = absurd h
asks_some (suc n) request next h = omega arith

goes_on-steps : (n : ℕ) (work : Work) (reply : NodeReply) → AsksAtMost n work → AsksAtMost (n - 1) (goes_on work reply)
unfolding goes_on
goes_on-steps n (ends report) reply h = tt
goes_on-steps zero (asks request next) reply h = absurd h
goes_on-steps (suc n) (asks request next) reply h = more_steps (next reply) n (suc n - 1) (omega arith) (h reply)

follow-steps : (replies : List NodeReply) (n : ℕ) (work : Work) → AsksAtMost n work
    → AsksAtMost (n - length replies) (follow work replies)
unfolding follow
follow-steps [] n work h = more_steps work n (n - 0) (omega arith) h
follow-steps (reply ∷ replies) n work h =
    more_steps (follow (goes_on work reply) replies) (n - 1 - length replies) (n - length (reply ∷ replies)) (omega arith)
    (follow-steps replies (n - 1) (goes_on work reply) (goes_on-steps n work reply h))

-- the sum from an item on is that item's and the sum behind it
sum_from : (f : Command → ℕ) (xs : List Command) (i : ℕ) (x : Command) → slice_get xs i ≡ Some x
    → sum_by f (drop i xs) ≡ f x + sum_by f (drop (suc i) xs)
sum_from f [] i x e = absurd (cc)
sum_from f (y ∷ ys) zero x e =
    let same : y ≡ x = cc in sum_by-cons f y ys ∙ ap (λ c. f c + sum_by f ys) same
sum_from f (y ∷ ys) (suc i) x e = sum_from f ys i x e

if_asking-le : (n : ℕ) (o : Option NodeRequest) → if_asking n o ≤ n
unfolding if_asking
if_asking-le n None = omega arith
if_asking-le n (Some request) = omega arith

left-le : (actor : Actor) → left actor ≤ steps_ahead actor
unfolding left
left-le actor = if_asking-le (steps_ahead actor) (request_of actor)

no_request : IsSome {T = NodeRequest} None → ⊥
no_request h = cc

module _ (actor : Actor) (reply : NodeReply) where
  moved_on-left : (command : Command) → present_command actor ≡ Some command
      → length actor.heard < most_steps actor.rules command → (work : Work)
      → left (moved_on actor reply (Some work)) < steps_ahead actor
  unfolding moved_on
  moved_on-left command e h (ends report) =
      let f = most_steps actor.rules in
      let i = length actor.ended in
      let next : Actor = record actor { ended = actor.ended ++ report ∷ []; heard = [] } in
      let len : length (actor.ended ++ report ∷ []) ≡ suc i = omega (arith, length-append actor.ended (report ∷ [])) in
      let same : sum_by f (drop (length (actor.ended ++ report ∷ [])) actor.commands) ≡ sum_by f (drop (suc i) actor.commands) =
      ap (λ n. sum_by f (drop n actor.commands)) len in
      omega (arith, h, left-le next, same, sum_from f actor.commands i command e)
  moved_on-left command e h (asks request more) =
      let f = most_steps actor.rules in
      let i = length actor.ended in
      let next : Actor = record actor { heard = actor.heard ++ reply ∷ [] } in
      omega (arith, h, left-le next, length-append actor.heard (reply ∷ []), sum_from f actor.commands i command e)

  -- an actor that has a request has at least that step left
  at_work : (command : Command) → present_command actor ≡ Some command → (work : Work) → work_left actor ≡ Some work
      → AsksAtMost (most_steps actor.rules command - length actor.heard) work → IsSome (request_of actor)
      → (left (after_reply actor reply) < left actor) × (0 < left actor)
  unfolding left if_asking request_of request_in after_reply goes_on
  at_work command e (ends report) w bound some =
      let none : request_of actor ≡ None = ap (option_and_then request_in) w in
      absurd (no_request (subst IsSome none some))
  at_work command e (asks request next) w bound some =
      let asked : request_of actor ≡ Some request = ap (option_and_then request_in) w in
      let ahead : left actor ≡ steps_ahead actor = ap (if_asking (steps_ahead actor)) asked in
      let enough : length actor.heard < most_steps actor.rules command =
      omega (arith, asks_some (most_steps actor.rules command - length actor.heard) request next bound) in
      let after : after_reply actor reply ≡ moved_on actor reply (Some (next reply)) =
      ap (λ work. moved_on actor reply (option_map (λ work. goes_on work reply) work)) w in
      let less = moved_on-left command e enough (next reply) in
      (omega (arith, ahead, less, ap left after), omega (arith, ahead, less))

  at_command : (found : Option Command) → present_command actor ≡ found → IsSome (request_of actor)
      → (left (after_reply actor reply) < left actor) × (0 < left actor)
  unfolding work_left request_of
  at_command None e some =
      let none : request_of actor ≡ None = ap (λ o. option_and_then request_in (option_map (λ command. follow (work_of actor.rules (length actor.ended + 1) command) actor.heard) o)) e in
      absurd (no_request (subst IsSome none some))
  at_command (Some command) e some =
      let rest = follow (work_of actor.rules (length actor.ended + 1) command) actor.heard in
      let w : work_left actor ≡ Some rest =
      ap (option_map (λ command. follow (work_of actor.rules (length actor.ended + 1) command) actor.heard)) e in
      at_work command e rest w
      (follow-steps actor.heard (most_steps actor.rules command) (work_of actor.rules (length actor.ended + 1) command)
      (work_of-steps actor.rules (length actor.ended + 1) command))
      some

-- a step lowers what is left
pub left-falls : (actor : Actor) (reply : NodeReply) → IsSome (request_of actor) → left (after_reply actor reply) < left actor
left-falls actor reply some = (at_command actor reply (present_command actor) refl some).0

left_if : (actor : Actor) (reply : NodeReply) (o : Option NodeRequest) → request_of actor ≡ o
    → (left actor ≡ 0) ↔ IsTrue (is_none o)
unfolding left if_asking
left_if actor reply None e = (λ zero. refl, λ none. ap (if_asking (steps_ahead actor)) e)
left_if actor reply (Some request) e =
    let some : IsSome (request_of actor) = subst IsSome (sym e) refl in
    let more : 0 < left actor = (at_command actor reply (present_command actor) refl some).1 in
    (λ zero. absurd (omega (arith, zero, more)), λ none. absurd (cc))

-- nothing is left exactly where the actor has finished
pub left-zero : (actor : Actor) → (left actor ≡ 0) ↔ IsTrue (has_finished actor)
unfolding has_finished
left-zero actor = left_if actor (From.Meta Said.Nothing) (request_of actor) refl

-- ---- at the start

put_in_range : (layout : Shape) (bytes : List ℕ) → length bytes ≤ MOST_FILE_BYTES → steps_of_put layout (length bytes) ≤ 2 ^ 43
put_in_range layout bytes h =
    omega (arith, h, div_ceil-le_self (length bytes) (block_bytes layout.s layout.r))

recipe_len : (form : Form) → IsRecipe form → length (bytes_of form) ≤ MOST_FILE_BYTES
recipe_len (Of.Hex bytes) h = omega (arith, h.1)
recipe_len (Of.Fill byte len) h = omega (arith, h, length-replicate len byte)
recipe_len (Of.Pattern start len) h = omega (arith, h, length-map-range_with_len (pattern_byte start) 0 len)

-- so many blocks have no more rows than their bytes fill, and one block's more
rows_in_range : (blocks s r : ℕ) → 16 ≤ s → blocks * (6 * s * r) < MOST_FILE_BYTES + 6 * s * r → r ≤ 1024 → blocks * r ≤ 2797227
rows_in_range zero s r wide few h = omega (arith, zero-mul r)
rows_in_range (suc b) s r wide few h =
    let each : 96 * (b * r) ≤ 6 * s * (b * r) = mul-le-mul_right (b * r) (omega (arith, wide)) in
    omega (arith, h, few, each, in_bytes b s r, suc-mul b r, suc-mul b (6 * s * r))
  where
    in_bytes : (b s r : ℕ) → 6 * s * (b * r) ≡ b * (6 * s * r)
    in_bytes b s r = grind arith

attempt_in_range : (layout : Shape) → IsStripe layout.s → IsRowCount layout.r → steps_of_attempt layout < 2 ^ 25
attempt_in_range layout stripe rows =
    let blocks = blocks_of layout.s layout.r MOST_FILE_BYTES in
    let whole = block_bytes layout.s layout.r in
    let some : 0 < whole = omega (arith, mul-le-mul_right layout.r (sixteen layout.s stripe.0), rows.0) in
    let few = rows_in_range blocks layout.s layout.r stripe.0 (div_ceil_times MOST_FILE_BYTES whole some).1 rows.1 in
    omega (arith, few, nine_times blocks layout.r)
  where
    sixteen : (s : ℕ) → 16 ≤ s → 96 ≤ 6 * s
    sixteen s h = omega (arith, h)

    nine_times : (b r : ℕ) → b * (r * 9) ≡ 9 * (b * r)
    nine_times b r = grind arith

get_in_range : (layout : Shape) (tries : ℕ) → IsStripe layout.s → IsRowCount layout.r → tries < 2 ^ 19
    → steps_of_get layout tries < 2 ^ 44
get_in_range layout tries stripe rows few =
    let one = steps_of_attempt layout in
    let most : tries - 1 ≤ 524286 = omega (arith, few) in
    omega (arith, attempt_in_range layout stripe rows, mul-le-mul_right one most)

module _ (rules : Rules) (stripe : IsStripe rules.layout.s) (rows : IsRowCount rules.layout.r) (few : rules.tries < 2 ^ 19) where
  file_in_range : (command : FileCommand) → IsFileInRange command → most_file_steps rules command < 2 ^ 44
  unfolding most_file_steps
  file_in_range (File.Put path recipe) h = omega (arith, put_in_range rules.layout (bytes_of recipe) (recipe_len recipe h))
  file_in_range (File.Get path range) h = get_in_range rules.layout rules.tries stripe rows few
  file_in_range other h = omega arith

  command_in_range : (command : Command) → IsInRange command → most_steps rules command < 2 ^ 44
  unfolding most_steps
  command_in_range (Does.File command) h = file_in_range command h
  command_in_range (Does.Heal budget) h = omega (arith, h)
  command_in_range (Does.Rebalance budget) h = omega (arith, h)
  command_in_range (Does.Evacuate server budget) h = omega (arith, h)
  command_in_range (Does.Sweep budget) h = omega (arith, h)
  command_in_range other h = omega arith

-- an actor of a script starts with fewer than 2 ^ 56 steps
pub left-starting : (rules : Rules) (number : ℕ) (commands : List Command) → IsStripe rules.layout.s
    → IsRowCount rules.layout.r → rules.tries < 2 ^ 19
    → length commands ≤ 4096 → All IsInRange commands → left (starting rules number commands) < 2 ^ 56
unfolding starting
left-starting rules number commands stripe rows few short all =
    let f = most_steps rules in
    let most = 2 ^ 44 - 1 in
    let each : All (λ command. f command ≤ most) commands =
    λ k d h. omega (arith, command_in_range rules stripe rows few _ (all k d h)) in
    omega (arith, short, left-le (starting rules number commands), sum_by-le f most commands each)
