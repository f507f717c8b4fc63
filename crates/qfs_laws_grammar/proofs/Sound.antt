-- What is read of a script keeps all ranges and limits, line after line. For both laws.
use Rattle.std.proofs.Common.{◌≡◌, ◌∙◌, sym, ap, refl, subst, arith, ℕ, ◌+◌, ◌≤◌, true, List, [], ◌∷◌, ◌++◌, length, append_assoc, append-nil, length-append}
use Rattle.std.specs.Prelude.{⊤, flat_map, IfOk, IfSome, nat_lt}
use Rattle.std.proofs.lemmas.Bool.{leb-true, and_parts}
use borrow.Author.Tests.{ltb-true}
use lib.Count.{ones}
use Rattle.qfs_base.specs.Shape.{Shape, IsStripe, IsRowCount}
use Rattle.qfs_base.specs.Sizes.{MOST_SERVERS, MOST_ROWS}
use Rattle.qfs_base.specs.Table.{Each}
use Rattle.qfs_base.specs.declared.command.Command.{Command}
use Rattle.qfs_base.specs.declared.script.ScriptCause.TheVariants as Cause
use Rattle.qfs_model_script.specs.InScript.{IsScript, IsCommand, IsFromOne, blocks_in}
use Rattle.qfs_model_script.specs.Limits.{MOST_PHASES, MOST_ACTORS, MOST_TICKS}
use Rattle.qfs_model_text.specs.Line.{Words}
use Rattle.qfs_model_grammar.specs.CommandLines.{command_of}
use Rattle.qfs_model_grammar.specs.CommandWord.{CommandWord}
use Rattle.qfs_model_grammar.specs.Counts.{no_word, one_word, two_words}
use Rattle.qfs_model_grammar.specs.FirstWord.{FirstWord}
use Rattle.qfs_model_grammar.specs.FirstWord as First
use Rattle.qfs_model_grammar.specs.FirstWords.{may_stand, may_be_last}
use Rattle.qfs_model_grammar.specs.Kinds.{number_in, stripe_in, run_in}
use Rattle.qfs_model_grammar.specs.LinePlace.{LinePlace}
use Rattle.qfs_model_grammar.specs.LinePlace as Behind
use Rattle.qfs_model_grammar.specs.Said.{read_each}
use Rattle.qfs_model_grammar.specs.SoFar.{SoFar, nothing_yet, with_head, change_last, with_actor, with_command, with_next_actor, with_next_command, keeps_limits, put_len, chunk_bytes_of, take_qfs, take_layout, take_servers, take_term, take_audit, take_phase, take_actor, take_command, take_order, take_line}
use Rattle.qfs_laws_grammar.proofs.Bodies.{Body, Keeps, none_ask, actor_more, command_more}
use Rattle.qfs_laws_grammar.proofs.CommandRanges.{command_gives}
use Rattle.qfs_laws_grammar.proofs.Lists.{Ends, ends, changed, flat_push}
use Rattle.qfs_laws_grammar.proofs.Steps.{gives, gives_kept, gives_any, gives_each}
use Rattle.qfs_laws_grammar.proofs.WordRanges.{IsIn, OfActor, RunsActor, number_gives, stripe_gives, run_gives, steps_give}

-- phases, each with its actors, and the actors of all phases
abbrev pub Phases : Type 0
Phases = List (List (List Command))

abbrev pub actors_in : Phases → List (List Command)
actors_in phases = flat_map (λ phase. phase) phases

-- ---- the place of the next line

-- the last actor of the last phase has so many commands
pub record EndsInActor (phases : Phases) (count : ℕ) : Type 0 where
  pub earlier : Phases
  pub front : List (List Command)
  pub last : List Command
  pub is : phases ≡ earlier ++ (front ++ last ∷ []) ∷ []
  pub counted : length last ≡ count

-- before the first phase there are none; behind an actor there is one
abbrev pub Placed : LinePlace → Phases → ℕ → Type 0
Placed Behind.Start phases count = phases ≡ []
Placed Behind.Qfs phases count = phases ≡ []
Placed Behind.Layout phases count = phases ≡ []
Placed Behind.Servers phases count = phases ≡ []
Placed Behind.Term phases count = phases ≡ []
Placed Behind.Audit phases count = phases ≡ []
Placed Behind.Phase phases count = 1 ≤ length phases
Placed Behind.Actor phases count = EndsInActor phases count
Placed Behind.Order phases count = 1 ≤ length phases

some_in : (phases : Phases) (count : ℕ) → EndsInActor phases count → 1 ≤ length phases
some_in phases count ends =
    omega (
      arith,
      ap length ends.is,
      length-append ends.earlier
          ((ends.front ++ ends.last ∷ []) ∷ []),
    )

behind_start : (place : LinePlace) (phases : Phases) (count : ℕ) → may_stand place First.Qfs ≡ true
    → Placed place phases count → phases ≡ []
unfolding may_stand
behind_start Behind.Start phases count stands placed = placed
behind_start place phases count stands placed = cc

behind_qfs : (place : LinePlace) (phases : Phases) (count : ℕ) → may_stand place First.Layout ≡ true
    → Placed place phases count → phases ≡ []
unfolding may_stand
behind_qfs Behind.Qfs phases count stands placed = placed
behind_qfs place phases count stands placed = cc

behind_layout : (place : LinePlace) (phases : Phases) (count : ℕ)
    → may_stand place First.Servers ≡ true → Placed place phases count → phases ≡ []
unfolding may_stand
behind_layout Behind.Layout phases count stands placed = placed
behind_layout place phases count stands placed = cc

behind_servers : (place : LinePlace) (phases : Phases) (count : ℕ)
    → may_stand place First.Term ≡ true → Placed place phases count → phases ≡ []
unfolding may_stand
behind_servers Behind.Servers phases count stands placed = placed
behind_servers place phases count stands placed = cc

before_audit : (place : LinePlace) (phases : Phases) (count : ℕ)
    → may_stand place First.Audit ≡ true → Placed place phases count → phases ≡ []
unfolding may_stand
before_audit Behind.Servers phases count stands placed = placed
before_audit Behind.Term phases count stands placed = placed
before_audit place phases count stands placed = cc

before_actor : (place : LinePlace) (phases : Phases) (count : ℕ)
    → may_stand place First.Actor ≡ true → Placed place phases count → 1 ≤ length phases
unfolding may_stand
before_actor Behind.Phase phases count stands placed = placed
before_actor Behind.Actor phases count stands placed = some_in phases count placed
before_actor place phases count stands placed = absurd (cc)

before_order : (place : LinePlace) (phases : Phases) (count : ℕ)
    → may_stand place First.Order ≡ true → Placed place phases count → 1 ≤ length phases
unfolding may_stand
before_order Behind.Phase phases count stands placed = placed
before_order Behind.Actor phases count stands placed = some_in phases count placed
before_order place phases count stands placed = absurd (cc)

before_command : (word : CommandWord) (place : LinePlace) (phases : Phases) (count : ℕ)
    → may_stand place (First.Command word) ≡ true → Placed place phases count
    → EndsInActor phases count
unfolding may_stand
before_command word Behind.Actor phases count stands placed = placed
before_command word place phases count stands placed = absurd (cc)

before_end : (place : LinePlace) (phases : Phases) (count : ℕ) → may_be_last place ≡ true
    → Placed place phases count → 1 ≤ length phases
unfolding may_be_last
before_end Behind.Phase phases count stands placed = placed
before_end Behind.Actor phases count stands placed = some_in phases count placed
before_end Behind.Order phases count stands placed = placed
before_end place phases count stands placed = absurd (cc)

-- ---- what was read so far

pub record Sound (so : SoFar) : Type 0 where
  pub stripe : IsStripe so.script.layout.s
  pub rows : IsRowCount so.script.layout.r
  pub servers : IsFromOne MOST_SERVERS so.script.servers
  pub term : so.script.term ≤ MOST_TICKS
  pub few_phases : length so.script.phases ≤ MOST_PHASES
  pub body : Body so.script.layout so.script.servers (actors_in so.script.phases) so.actors
      so.blocks so.chunk_bytes
  pub order : IfSome so.script.order (Each OfActor)
  pub placed : Placed so.place so.script.phases so.commands

pub sound_start : Sound nothing_yet
unfolding ones
sound_start = record {
  stripe = (omega arith, omega arith, refl);
  rows = (omega arith, omega arith);
  servers = (omega arith, omega arith);
  term = omega arith;
  few_phases = omega arith;
  body = record {
    counted = refl;
    few = omega arith;
    few_commands = tt;
    commands = tt;
    blocks_of_put = tt;
    blocks_are = refl;
    few_blocks = omega arith;
    bytes_are = refl;
    few_bytes = omega arith;
  };
  order = tt;
  placed = refl;
}

-- a body without phases stands in every layout, with any number of servers
rebuilt : (so : SoFar) (layout : Shape) (servers : ℕ) → Sound so → so.script.phases ≡ []
    → Body layout servers (actors_in so.script.phases) so.actors so.blocks so.chunk_bytes
rebuilt so layout servers sound none =
    let Of : Shape → ℕ → Phases → Type 0 = λ shape number phases. Body shape number
    (actors_in phases) so.actors so.blocks so.chunk_bytes in
    subst (Of layout servers) (sym none)
    (none_ask so.script.layout layout so.script.servers servers so.actors so.blocks so.chunk_bytes
    (subst (Of so.script.layout so.script.servers) none sound.body))

-- ---- the lines of the head

qfs_sound : (so : SoFar) (words : Words) → Sound so → so.script.phases ≡ []
    → IfOk (take_qfs so words) Sound
unfolding take_qfs with_head
qfs_sound so words sound none =
    gives (λ word. ⊤) Sound (one_word words) _ (gives_any (one_word words))
    (λ word known. gives (IsIn 1 1) Sound (number_in 1 1 word) _ (number_gives 1 1 word)
    (λ version is. record {
      stripe = sound.stripe;
      rows = sound.rows;
      servers = sound.servers;
      term = sound.term;
      few_phases = sound.few_phases;
      body = sound.body;
      order = sound.order;
      placed = none;
    }))

layout_sound : (so : SoFar) (words : Words) → Sound so → so.script.phases ≡ []
    → IfOk (take_layout so words) Sound
unfolding take_layout with_head
layout_sound so words sound none =
    gives (λ words. ⊤) Sound (two_words words) _ (gives_any (two_words words))
    (λ words known. gives IsStripe Sound (stripe_in words.0) _ (stripe_gives words.0)
    (λ stripe is_stripe. gives (IsIn 1 MOST_ROWS) Sound (number_in 1 MOST_ROWS words.1) _
    (number_gives 1 MOST_ROWS words.1)
    (λ rows are_rows. record {
      stripe = is_stripe;
      rows = are_rows;
      servers = sound.servers;
      term = sound.term;
      few_phases = sound.few_phases;
      body = rebuilt so (record { s = stripe; r = rows }) so.script.servers sound none;
      order = sound.order;
      placed = none;
    })))

servers_sound : (so : SoFar) (words : Words) → Sound so → so.script.phases ≡ []
    → IfOk (take_servers so words) Sound
unfolding take_servers with_head
servers_sound so words sound none =
    gives (λ word. ⊤) Sound (one_word words) _ (gives_any (one_word words))
    (λ word known. gives (IsIn 1 MOST_SERVERS) Sound (number_in 1 MOST_SERVERS word) _
    (number_gives 1 MOST_SERVERS word)
    (λ servers are. record {
      stripe = sound.stripe;
      rows = sound.rows;
      servers = are;
      term = sound.term;
      few_phases = sound.few_phases;
      body = rebuilt so so.script.layout servers sound none;
      order = sound.order;
      placed = none;
    }))

term_sound : (so : SoFar) (words : Words) → Sound so → so.script.phases ≡ []
    → IfOk (take_term so words) Sound
unfolding take_term with_head
term_sound so words sound none =
    gives (λ word. ⊤) Sound (one_word words) _ (gives_any (one_word words))
    (λ word known. gives (IsIn 1 MOST_TICKS) Sound (number_in 1 MOST_TICKS word) _
    (number_gives 1 MOST_TICKS word)
    (λ ticks are. record {
      stripe = sound.stripe;
      rows = sound.rows;
      servers = sound.servers;
      term = are.1;
      few_phases = sound.few_phases;
      body = sound.body;
      order = sound.order;
      placed = none;
    }))

audit_sound : (so : SoFar) (words : Words) → Sound so → so.script.phases ≡ []
    → IfOk (take_audit so words) Sound
unfolding take_audit with_head
audit_sound so words sound none =
    gives (λ nothing. ⊤) Sound (no_word words) _ (gives_any (no_word words))
    (λ nothing known. record {
      stripe = sound.stripe;
      rows = sound.rows;
      servers = sound.servers;
      term = sound.term;
      few_phases = sound.few_phases;
      body = sound.body;
      order = sound.order;
      placed = none;
    })

-- ---- phases, actors and commands

phase_sound : (so : SoFar) (words : Words) → Sound so → IfOk (take_phase so words) Sound
unfolding take_phase with_head
phase_sound so words sound =
    gives (λ nothing. ⊤) Sound (no_word words) _ (gives_any (no_word words))
    (λ nothing known. gives_kept Sound (nat_lt (length so.script.phases) MOST_PHASES) Cause.Limit _
    (λ few. record {
      stripe = sound.stripe;
      rows = sound.rows;
      servers = sound.servers;
      term = sound.term;
      few_phases = omega (arith, ltb-true _ _ few, length-append so.script.phases ([] ∷ []));
      body =
          subst (λ (actors : List (List Command)). Body so.script.layout so.script.servers actors
          so.actors so.blocks so.chunk_bytes)
          (sym (flat_push so.script.phases [] ∙ append-nil (actors_in so.script.phases)))
          sound.body;
      order = sound.order;
      placed = omega (arith, length-append so.script.phases ([] ∷ []));
    }))

-- phases whose last one has an actor more
record HasActor (phases : Phases) : Type 0 where
  actors : actors_in (with_actor phases) ≡ actors_in phases ++ [] ∷ []
  few : length (with_actor phases) ≡ length phases
  ends : EndsInActor (with_actor phases) 0

with_actor_of : (phases : Phases) → Ends phases → HasActor phases
unfolding with_actor
with_actor_of phases ending =
    let now : with_actor phases ≡ ending.front ++ (ending.last ++ [] ∷ []) ∷ [] =
    ap with_actor ending.is ∙ changed (λ phase. phase ++ [] ∷ []) ending.front ending.last in
    record {
      actors =
          ap actors_in now
          ∙ flat_push ending.front (ending.last ++ [] ∷ [])
          ∙ sym (append_assoc (actors_in ending.front) ending.last ([] ∷ []))
          ∙ ap (λ all. all ++ [] ∷ [])
          (sym (ap actors_in ending.is ∙ flat_push ending.front ending.last));
      few =
          omega (
            arith,
            ap length now,
            ap length ending.is,
            length-append ending.front (ending.last ∷ []),
            length-append ending.front ((ending.last ++ [] ∷ []) ∷ []),
          );
      ends = record {
        earlier = ending.front;
        front = ending.last;
        last = [];
        is = now;
        counted =
            refl;
      };
    }

actor_sound : (so : SoFar) (words : Words) → Sound so → 1 ≤ length so.script.phases
    → IfOk (take_actor so words) Sound
unfolding take_actor with_next_actor
actor_sound so words sound some =
    let has = with_actor_of so.script.phases (ends so.script.phases some) in
    gives (λ word. ⊤) Sound (one_word words) _ (gives_any (one_word words))
    (λ word known. gives (IsIn (so.actors + 1) (so.actors + 1)) Sound
    (number_in (so.actors + 1) (so.actors + 1) word) _
    (number_gives (so.actors + 1) (so.actors + 1) word)
    (λ number next. gives_kept Sound (nat_lt so.actors MOST_ACTORS) Cause.Limit _
    (λ room. record {
      stripe = sound.stripe;
      rows = sound.rows;
      servers = sound.servers;
      term = sound.term;
      few_phases = omega (arith, has.few, sound.few_phases);
      body =
          subst (λ (actors : List (List Command)). Body so.script.layout so.script.servers actors
          (so.actors + 1) so.blocks so.chunk_bytes)
          (sym has.actors)
          (actor_more so.script.layout so.script.servers (actors_in so.script.phases) so.actors
          so.blocks so.chunk_bytes sound.body (ltb-true _ _ room));
      order = sound.order;
      placed = has.ends;
    })))

-- phases whose last actor has a command more
record HasCommand (command : Command) (phases : Phases) (count : ℕ)
    (ends : EndsInActor phases count) : Type 0 where
  before : actors_in phases ≡ (actors_in ends.earlier ++ ends.front) ++ ends.last ∷ []
  actors : actors_in (with_command command phases)
      ≡ (actors_in ends.earlier ++ ends.front) ++ (ends.last ++ command ∷ []) ∷ []
  few : length (with_command command phases) ≡ length phases
  again : EndsInActor (with_command command phases) (count + 1)

with_command_of : (command : Command) (phases : Phases) (count : ℕ)
    (ends : EndsInActor phases count) → HasCommand command phases count ends
unfolding with_command
with_command_of command phases count ends =
    let more : List Command → List Command = λ commands. commands ++ command ∷ [] in
    let now : with_command command phases
    ≡ ends.earlier ++ (ends.front ++ (ends.last ++ command ∷ []) ∷ []) ∷ [] =
    ap (with_command command) ends.is
    ∙ changed (λ phase. change_last more phase) ends.earlier (ends.front ++ ends.last ∷ [])
    ∙ ap (λ phase. ends.earlier ++ phase ∷ []) (changed more ends.front ends.last) in
    record {
      before =
          ap actors_in ends.is ∙ flat_push ends.earlier (ends.front ++ ends.last ∷ [])
          ∙ sym (append_assoc (actors_in ends.earlier) ends.front (ends.last ∷ []));
      actors =
          ap actors_in now ∙ flat_push ends.earlier (ends.front ++ (ends.last ++ command ∷ []) ∷ [])
          ∙ sym (append_assoc (actors_in ends.earlier) ends.front
          ((ends.last ++ command ∷ []) ∷ []));
      few =
          omega (
            arith,
            ap length now,
            ap length ends.is,
            length-append ends.earlier ((ends.front ++ ends.last ∷ []) ∷ []),
            length-append ends.earlier ((ends.front ++ (ends.last ++ command ∷ []) ∷ []) ∷ []),
          );
      again = record {
        earlier = ends.earlier;
        front = ends.front;
        last = ends.last ++ command ∷ [];
        is = now;
        counted = omega (arith, length-append ends.last (command ∷ []), ends.counted);
      };
    }

limits_kept : (so : SoFar) (command : Command) (front : List (List Command)) (last : List Command)
    → length last ≡ so.commands
    → keeps_limits (with_next_command so command) command ≡ true
    → Keeps so.script.layout so.script.servers front last command so.actors so.blocks so.chunk_bytes
unfolding keeps_limits with_next_command
limits_kept so command front last counted tested =
    let first = and_parts _ _ tested in
    let second = and_parts _ _ first.0 in
    let third = and_parts _ _ second.0 in
    record {
      few_commands = omega (arith, leb-true _ _ third.0, counted);
      few_of_put = leb-true _ _ third.1;
      few_blocks = leb-true _ _ second.1;
      few_bytes = leb-true _ _ first.1;
    }

command_sound : (so : SoFar) (word : CommandWord) (words : Words) → Sound so
    → EndsInActor so.script.phases so.commands → IfOk (take_command so word words) Sound
unfolding take_command with_next_command
command_sound so word words sound ends =
    gives (IsCommand so.script.servers) Sound (command_of so.script.servers word words) _
    (command_gives so.script.servers word words)
    (λ command is. gives_kept Sound _ Cause.Limit _
    (λ tested.
    let has = with_command_of command so.script.phases so.commands ends in
    let keeps = limits_kept so command (actors_in ends.earlier ++ ends.front) ends.last ends.counted
    tested in
    let body : Body so.script.layout so.script.servers
    ((actors_in ends.earlier ++ ends.front) ++ ends.last ∷ []) so.actors so.blocks
    so.chunk_bytes =
    subst (λ (actors : List (List Command)). Body so.script.layout so.script.servers actors
    so.actors so.blocks so.chunk_bytes) has.before sound.body in
    record {
      stripe = sound.stripe;
      rows = sound.rows;
      servers = sound.servers;
      term = sound.term;
      few_phases = omega (arith, has.few, sound.few_phases);
      body =
          subst (λ (actors : List (List Command)).
          Body so.script.layout so.script.servers actors so.actors
          (so.blocks + blocks_in so.script.layout (put_len command))
          (so.chunk_bytes + chunk_bytes_of so.script.layout (put_len command)))
          (sym has.actors)
          (command_more so.script.layout so.script.servers (actors_in ends.earlier ++ ends.front)
          ends.last command so.actors so.blocks so.chunk_bytes
          (omega (arith, sound.stripe.0)) sound.rows.0 body is keeps);
      order = sound.order;
      placed = has.again;
    }))

order_sound : (so : SoFar) (words : Words) → Sound so → 1 ≤ length so.script.phases
    → IfOk (take_order so words) Sound
unfolding take_order with_head
order_sound so words sound some =
    gives (Each RunsActor) Sound (read_each run_in words) _
    (gives_each RunsActor run_in run_gives words)
    (λ runs are. record {
      stripe = sound.stripe;
      rows = sound.rows;
      servers = sound.servers;
      term = sound.term;
      few_phases = sound.few_phases;
      body = sound.body;
      order = steps_give runs are;
      placed = some;
    })

-- ---- any line

pub line_sound : (so : SoFar) (first : FirstWord) (words : Words) → Sound so
    → may_stand so.place first ≡ true → IfOk (take_line so first words) Sound
unfolding take_line
line_sound so First.Qfs words sound stands = qfs_sound so words sound
    (behind_start so.place so.script.phases so.commands stands sound.placed)
line_sound so First.Layout words sound stands = layout_sound so words sound
    (behind_qfs so.place so.script.phases so.commands stands sound.placed)
line_sound so First.Servers words sound stands = servers_sound so words sound
    (behind_layout so.place so.script.phases so.commands stands sound.placed)
line_sound so First.Term words sound stands = term_sound so words sound
    (behind_servers so.place so.script.phases so.commands stands sound.placed)
line_sound so First.Audit words sound stands = audit_sound so words sound
    (before_audit so.place so.script.phases so.commands stands sound.placed)
line_sound so First.Phase words sound stands = phase_sound so words sound
line_sound so First.Actor words sound stands = actor_sound so words sound
    (before_actor so.place so.script.phases so.commands stands sound.placed)
line_sound so First.Order words sound stands = order_sound so words sound
    (before_order so.place so.script.phases so.commands stands sound.placed)
line_sound so (First.Command word) words sound stands =
    command_sound so word words sound
    (before_command word so.place so.script.phases so.commands stands sound.placed)

-- what is sound and may end is a script
pub script_of : (so : SoFar) → Sound so → may_be_last so.place ≡ true → IsScript so.script
script_of so sound ends = record {
  stripe = sound.stripe;
  rows = sound.rows;
  servers = sound.servers;
  term = sound.term;
  phases = (before_end so.place so.script.phases so.commands ends sound.placed, sound.few_phases);
  few_actors = omega (arith, sound.body.counted, sound.body.few);
  few_commands = sound.body.few_commands;
  commands = sound.body.commands;
  blocks_of_put = sound.body.blocks_of_put;
  blocks = omega (arith, sound.body.blocks_are, sound.body.few_blocks);
  chunk_bytes = omega (arith, sound.body.bytes_are, sound.body.few_bytes);
  order = sound.order;
}
