-- How a good line goes on what was read before it.
use Rattle.std.proofs.Common.{◌≡◌, ◌∙◌, sym, ap, refl, arith, ℕ, ◌+◌, ◌<◌, Bool, true, false, cond, List, [], ◌∷◌, ◌++◌, length, Option, Some, None, Result, Ok, Err}
use Rattle.std.specs.Prelude.{nat_lt, ◌&&◌}
use Rattle.std.proofs.lemmas.Bool.{lt-ltb}
use Rattle.qfs_base.specs.Order.{steps_of_runs}
use Rattle.qfs_base.specs.Shape.{Shape}
use Rattle.qfs_base.specs.Sizes.{MOST_ROWS, MOST_SERVERS}
use Rattle.qfs_base.specs.declared.command.Command.{Command}
use Rattle.qfs_base.specs.declared.history.Step.{Step}
use Rattle.qfs_base.specs.declared.order.StepRun.{StepRun}
use Rattle.qfs_base.specs.declared.script.ScriptCause.TheVariants as Cause
use Rattle.qfs_model_script.specs.Limits.{MOST_TICKS, MOST_ACTORS, MOST_PHASES}
use Rattle.qfs_model_text.specs.Line.{Words}
use Rattle.qfs_model_grammar.specs.CommandLines.{command_of}
use Rattle.qfs_model_grammar.specs.CommandWord.{CommandWord}
use Rattle.qfs_model_grammar.specs.Counts.{no_word, one_word, two_words}
use Rattle.qfs_model_grammar.specs.Kinds.{number_in, stripe_in, run_in}
use Rattle.qfs_model_grammar.specs.LinePlace as Behind
use Rattle.qfs_model_grammar.specs.Said.{Said, ◌>>=◌, if_kept, read_each}
use Rattle.qfs_model_grammar.specs.SoFar.{SoFar, nothing_yet, with_head, take_qfs, take_layout, take_servers, take_term, take_audit, take_phase, with_actor, with_next_actor, take_actor, with_command, put_len, with_next_command, keeps_limits, take_command, take_order}
use Rattle.qfs_script.specs.Counted.{counted, keeps, with_put}
use Rattle.qfs_script.specs.Goes.{order_said}
use Rattle.qfs_script.specs.declared.counts.Counts.{Counts}

-- the start, with these phases
abbrev pub start_with : List (List (List Command)) → SoFar
start_with phases = record nothing_yet { script = record nothing_yet.script { phases = phases } }

step : {A B : Type 0} (read : Said A) (value : A) (next : A → Said B) → read ≡ Ok value → (read >>= next) ≡ next value
step read value next is = ap (λ (r : Said _). r >>= next) is

-- ---- the head

pub taken_qfs : (so : SoFar) (words : Words) (word : List ℕ) (n : ℕ) → one_word words ≡ Ok word → Ok n ≡ number_in 1 1 word
    → take_qfs so words ≡ Ok (with_head so Behind.Qfs so.script)
unfolding take_qfs
taken_qfs so words word n one is =
    step (one_word words) word (λ w. number_in 1 1 w >>= (λ v. Ok (with_head so Behind.Qfs so.script))) one
    ∙ step (number_in 1 1 word) n (λ v. Ok (with_head so Behind.Qfs so.script)) (sym is)

pub taken_layout : (so : SoFar) (words : Words) (first second : List ℕ) (s r : ℕ) → two_words words ≡ Ok (first, second)
    → Ok s ≡ stripe_in first → Ok r ≡ number_in 1 MOST_ROWS second
    → take_layout so words ≡ Ok (with_head so Behind.Layout (record so.script { layout = record { s = s; r = r } }))
unfolding take_layout
taken_layout so words first second s r two is_s is_r =
    let last = λ (stripe rows : ℕ). Ok (with_head so Behind.Layout (record so.script { layout = record { s = stripe; r = rows } })) in
    step (two_words words) (first, second) (λ ws. stripe_in ws.0 >>= (λ stripe. number_in 1 MOST_ROWS ws.1 >>= (λ rows. last stripe rows))) two
    ∙ step (stripe_in first) s (λ stripe. number_in 1 MOST_ROWS second >>= (λ rows. last stripe rows)) (sym is_s)
    ∙ step (number_in 1 MOST_ROWS second) r (λ rows. last s rows) (sym is_r)

pub taken_servers : (so : SoFar) (words : Words) (word : List ℕ) (n : ℕ) → one_word words ≡ Ok word → Ok n ≡ number_in 1 MOST_SERVERS word
    → take_servers so words ≡ Ok (with_head so Behind.Servers (record so.script { servers = n }))
unfolding take_servers
taken_servers so words word n one is =
    let last = λ (servers : ℕ). Ok (with_head so Behind.Servers (record so.script { servers = servers })) in
    step (one_word words) word (λ w. number_in 1 MOST_SERVERS w >>= (λ v. last v)) one ∙ step (number_in 1 MOST_SERVERS word) n (λ v. last v) (sym is)

pub taken_term : (so : SoFar) (words : Words) (word : List ℕ) (n : ℕ) → one_word words ≡ Ok word → Ok n ≡ number_in 1 MOST_TICKS word
    → take_term so words ≡ Ok (with_head so Behind.Term (record so.script { term = n }))
unfolding take_term
taken_term so words word n one is =
    let last = λ (ticks : ℕ). Ok (with_head so Behind.Term (record so.script { term = ticks })) in
    step (one_word words) word (λ w. number_in 1 MOST_TICKS w >>= (λ v. last v)) one ∙ step (number_in 1 MOST_TICKS word) n (λ v. last v) (sym is)

pub taken_audit : (so : SoFar) (words : Words) (none : Unit {0}) → Ok none ≡ no_word words
    → take_audit so words ≡ Ok (with_head so Behind.Audit (record so.script { audit = true }))
unfolding take_audit
taken_audit so words none is = step (no_word words) none (λ v. Ok (with_head so Behind.Audit (record so.script { audit = true }))) (sym is)

-- ---- phases, actors and commands

kept : {A : Type 0} (b : Bool) (value : A) → b ≡ true → if_kept b Cause.Limit value ≡ Ok value
unfolding if_kept
kept b value is = ap (λ t. if_kept t Cause.Limit value) is

pub taken_phase : (so : SoFar) (words : Words) (none : Unit {0}) (phases : List (List (List Command))) → Ok none ≡ no_word words
    → length so.script.phases < MOST_PHASES → phases ≡ so.script.phases ++ [] ∷ []
    → take_phase so words ≡ Ok (with_head so Behind.Phase (record so.script { phases = phases }))
unfolding take_phase
taken_phase so words none phases is few same =
    let next = with_head so Behind.Phase (record so.script { phases = so.script.phases ++ [] ∷ [] }) in
    step (no_word words) none (λ v. if_kept (nat_lt (length so.script.phases) MOST_PHASES) Cause.Limit next) (sym is)
    ∙ kept (nat_lt (length so.script.phases) MOST_PHASES) next (lt-ltb _ _ few)
    ∙ ap (λ (p : List (List (List Command))). Ok (with_head so Behind.Phase (record so.script { phases = p }))) (sym same)

pub taken_actor : (so : SoFar) (words : Words) (word : List ℕ) (n : ℕ) (phases : List (List (List Command))) → one_word words ≡ Ok word
    → Ok n ≡ number_in (so.actors + 1) (so.actors + 1) word → so.actors < MOST_ACTORS → phases ≡ with_actor so.script.phases
    → take_actor so words
    ≡ Ok (record so { place = Behind.Actor; script = record so.script { phases = phases }; actors = so.actors + 1; commands = 0 })
unfolding take_actor with_next_actor
taken_actor so words word n phases one is few same =
    let last = λ (v : ℕ). if_kept (nat_lt so.actors MOST_ACTORS) Cause.Limit (with_next_actor so) in
    step (one_word words) word (λ w. number_in (so.actors + 1) (so.actors + 1) w >>= (λ v. last v)) one
    ∙ step (number_in (so.actors + 1) (so.actors + 1) word) n (λ v. last v) (sym is)
    ∙ kept (nat_lt so.actors MOST_ACTORS) (with_next_actor so) (lt-ltb _ _ few)
    ∙ ap (λ (p : List (List (List Command))). Ok (record so { place = Behind.Actor; script = record so.script { phases = p }; actors = so.actors + 1; commands = 0 })) (sym same)

counts_are : (b : Bool) (now counts : Counts) → Some counts ≡ cond b (Some now) None → (b ≡ true) × (now ≡ counts)
counts_are true now counts is = (refl, cc is)
counts_are false now counts is = cc is

-- what the limits are on
abbrev pub counts_of : SoFar → Counts
counts_of so = record { commands = so.commands; blocks = so.blocks; chunk_bytes = so.chunk_bytes }

pub taken_command : (so : SoFar) (word : CommandWord) (words : Words) (command : Command) (len : ℕ) (counts : Counts) (phases : List (List (List Command)))
    → command_of so.script.servers word words ≡ Ok command → len ≡ put_len command
    → Some counts ≡ counted so.script.layout (counts_of so) len → phases ≡ with_command command so.script.phases
    → take_command so word words
    ≡ Ok (record so {
      place = Behind.Actor;
      script = record so.script { phases = phases };
      commands = counts.commands;
      blocks = counts.blocks;
      chunk_bytes = counts.chunk_bytes;
    })
unfolding take_command with_next_command keeps_limits
taken_command so word words command len counts phases is long some same =
    let found : Some counts ≡ counted so.script.layout (counts_of so) (put_len command) = some ∙ ap (counted so.script.layout (counts_of so)) long in
    let now = with_put so.script.layout (counts_of so) (put_len command) in
    let are = counts_are (keeps so.script.layout now (put_len command)) now counts found in
    let whole = λ (p : List (List (List Command))) (c : Counts). record so {
      place = Behind.Actor;
      script = record so.script { phases = p };
      commands = c.commands;
      blocks = c.blocks;
      chunk_bytes = c.chunk_bytes;
    } in
    step (command_of so.script.servers word words) command
    (λ c. if_kept (keeps_limits (with_next_command so c) c) Cause.Limit (with_next_command so c)) is
    ∙ kept (keeps_limits (with_next_command so command) command) (with_next_command so command) are.0
    ∙ ap (λ (c : Counts). Ok (whole (with_command command so.script.phases) c)) are.1
    ∙ ap (λ (p : List (List (List Command))). Ok (whole p counts)) (sym same)

-- ---- the order

ordered_at : (so : SoFar) (read : Said (List StepRun)) (steps : List Step) → (read >>= (λ runs. Ok (steps_of_runs runs))) ≡ Ok steps
    → (read >>= (λ runs. Ok (with_head so Behind.Order (record so.script { order = Some (steps_of_runs runs) }))))
    ≡ Ok (with_head so Behind.Order (record so.script { order = Some steps }))
ordered_at so (Ok runs) steps is =
    let same : steps_of_runs runs ≡ steps = cc is in
    ap (λ (order : List Step). Ok (with_head so Behind.Order (record so.script { order = Some order }))) same
ordered_at so (Err cause) steps is = cc is

pub taken_order : (so : SoFar) (words : Words) (steps : List Step) → order_said words ≡ Ok steps
    → take_order so words ≡ Ok (with_head so Behind.Order (record so.script { order = Some steps }))
unfolding take_order
taken_order so words steps is = ordered_at so (read_each run_in words) steps is
