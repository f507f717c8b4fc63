-- What is printed of a script is read back. The law `printed_scripts_are_read_back`.
use Rattle.std.proofs.Common.{◌≡◌, ◌⊎◌, inl, inr, ◌∙◌, sym, ap, refl, subst, arith, ℕ, zero, suc, ◌+◌, ◌<◌, ◌≤◌, ◌^◌, Bool, true, false, List, [], ◌∷◌, ◌++◌, length, Option, Some, None, Result, Ok, append_assoc, append-nil, length-append}
use Rattle.std.specs.Prelude.{codes, decimal, filter_map, map, IfSome, nat_lt, not, is_none, IsSome, ◌&&◌}
use Rattle.std.specs.List.{cons_option}
use Rattle.std.proofs.lemmas.Bool.{le-leb, lt-ltb, and_from}
use Rattle.std.proofs.lemmas.Fmt.{decimal_digit}
use Rattle.std.proofs.lemmas.List.Elements.{filter_map-append}
use Rattle.qfs_base.specs.Layout.{block_bytes}
use Rattle.qfs_base.specs.Order.{steps_of_runs}
use Rattle.qfs_base.specs.Shape.{Shape}
use Rattle.qfs_base.specs.Sizes.{MOST_SERVERS, MOST_ROWS}
use Rattle.qfs_base.specs.Table.{Each}
use Rattle.qfs_base.specs.declared.command.Command.{Command}
use Rattle.qfs_base.specs.declared.history.Step.{Step}
use Rattle.qfs_base.specs.declared.script.Script.{Script}
use Rattle.qfs_base.specs.declared.script.ScriptCause.TheVariants as Cause
use Rattle.qfs_model_script.specs.InScript.{IsScript, IsCommand, len_put, blocks_in, chunk_bytes_in}
use Rattle.qfs_model_script.specs.Limits.{MOST_PHASES, MOST_ACTORS, MOST_COMMANDS, MOST_BLOCKS_OF_PUT, MOST_BLOCKS, MOST_BYTES_OF_CHUNKS, MOST_TICKS}
use Rattle.qfs_model_script.specs.ScriptText.{Lines, command_line, term_word, audit_word, head_lines, actor_lines, phase_lines, order_lines, script_lines, script_text}
use Rattle.qfs_model_text.specs.Line.{line}
use Rattle.qfs_model_text.specs.Order.{order_line, runs}
use Rattle.qfs_model_grammar.specs.CommandLines.{command_of}
use Rattle.qfs_model_grammar.specs.Counts.{no_word, one_word, two_words}
use Rattle.qfs_model_grammar.specs.FirstWord.{FirstWord}
use Rattle.qfs_model_grammar.specs.FirstWord as First
use Rattle.qfs_model_grammar.specs.FirstWords.{may_stand, may_be_last}
use Rattle.qfs_model_grammar.specs.Kinds.{number_in, stripe_in, run_in}
use Rattle.qfs_model_grammar.specs.Laws.{HasRoom, ReadsBack}
use Rattle.qfs_model_grammar.specs.LinePlace.{LinePlace}
use Rattle.qfs_model_grammar.specs.LinePlace as Behind
use Rattle.qfs_model_grammar.specs.Lines.{text_lines}
use Rattle.qfs_model_grammar.specs.ReadScript.{BadLine, at_line, read_lines, whole_script, script_of_lines, read_script}
use Rattle.qfs_model_grammar.specs.Said.{Said, ◌>>=◌, if_kept, read_each}
use Rattle.qfs_model_grammar.specs.SoFar.{SoFar, nothing_yet, with_head, change_last, with_actor, with_command, with_next_actor, with_next_command, keeps_limits, put_len, take_qfs, take_layout, take_servers, take_term, take_audit, take_phase, take_actor, take_command, take_order, take_line}
use Rattle.qfs_laws_grammar.proofs.Bodies.{puts_in, one_put, OnePut, PutsNothing, put_told}
use Rattle.qfs_laws_grammar.proofs.ChunkBytes.{no_rows}
use Rattle.qfs_laws_grammar.proofs.Costs.{flat, cost, cost-append, opened, count_opened, cost_opened, cost_phase, cost_phases, count_phase, kept}
use Rattle.qfs_laws_grammar.proofs.Lists.{changed, each_front, each_back}
use Rattle.qfs_laws_grammar.proofs.PlainWords.{plain}
use Rattle.qfs_laws_grammar.proofs.PrintedCommands.{on, command_told}
use Rattle.qfs_laws_grammar.proofs.PrintedFirst.{spells_qfs, spells_layout, spells_servers, spells_term, spells_audit, spells_phase, spells_actor, spells_order}
use Rattle.qfs_laws_grammar.proofs.PrintedOrder.{order_told}
use Rattle.qfs_laws_grammar.proofs.PrintedWords.{plain_number, number_back, stripe_back}
use Rattle.qfs_laws_grammar.proofs.Sound.{Phases, actors_in}
use Rattle.qfs_laws_grammar.proofs.Through.{Reads, line_read, Through, through_append, one_line, all_read, text_lines_are}
use Rattle.qfs_laws_grammar.proofs.WordRanges.{OfActor}

module _ (script : Script) (is : IsScript script) where
  abbrev layout : Shape
  layout = script.layout

  abbrev servers : ℕ
  servers = script.servers

  abbrev made : LinePlace → Phases → ℕ → ℕ → ℕ → ℕ → SoFar
  made place phases actors commands blocks bytes = record {
    place = place;
    script = record script { phases = phases; order = None };
    actors = actors;
    commands = commands;
    blocks = blocks;
    chunk_bytes = bytes;
  }

  -- with these phases, the last actor of which has so many commands
  abbrev state : LinePlace → Phases → ℕ → SoFar
  state place phases commands =
      made place phases (length (actors_in phases)) commands
      (cost (blocks_in layout) (flat (actors_in phases)))
      (cost (chunk_bytes_in layout) (flat (actors_in phases)))

  few_servers : servers < 2 ^ 64
  few_servers = omega (arith, is.servers.1)

  -- states that are told alike are one
  same_state : (place : LinePlace) (phases now : Phases) (commands actors blocks bytes : ℕ)
      → phases ≡ now → actors ≡ length (actors_in now)
      → blocks ≡ cost (blocks_in layout) (flat (actors_in now))
      → bytes ≡ cost (chunk_bytes_in layout) (flat (actors_in now))
      → made place phases actors commands blocks bytes ≡ state place now commands
  same_state place phases now commands actors blocks bytes same_phases same_actors same_blocks
      same_bytes =
      ap (λ p. made place p actors commands blocks bytes) same_phases
      ∙ ap (λ n. made place now n commands blocks bytes) same_actors
      ∙ ap (λ n. made place now (length (actors_in now)) commands n bytes) same_blocks
      ∙ ap (λ n. made place now (length (actors_in now)) commands
      (cost (blocks_in layout) (flat (actors_in now))) n) same_bytes

  -- what is done and what is left keep the limits together
  record Fits (done left : List Command) : Type 0 where
    blocks : cost (blocks_in layout) done + cost (blocks_in layout) left ≤ MOST_BLOCKS
    bytes : cost (chunk_bytes_in layout) done + cost (chunk_bytes_in layout)
        left ≤ MOST_BYTES_OF_CHUNKS

  record Good (command : Command) : Type 0 where
    in_range : IsCommand servers command
    few : blocks_in layout (put_len command) ≤ MOST_BLOCKS_OF_PUT

  record GoodActor (commands : List Command) : Type 0 where
    few : length commands ≤ MOST_COMMANDS
    good : Each Good commands

  one_of : (command : Command) → OnePut layout command
  one_of command = one_put layout command (omega (arith, is.stripe.0)) is.rows.0

  -- ---- a command's line

  module _ (earlier : Phases) (front : List (List Command)) (last : List Command)
      (command : Command) where
    abbrev now : Phases
    now = opened earlier front (last ++ command ∷ [])

    abbrev so : SoFar
    so = state Behind.Actor (opened earlier front last) (length last)

    pushed : with_command command (opened earlier front last) ≡ now
    unfolding with_command
    pushed =
        let more : List Command → List Command = λ commands. commands ++ command ∷ [] in
        changed (λ phase. change_last more phase) earlier (front ++ last ∷ [])
        ∙ ap (λ phase. earlier ++ phase ∷ []) (changed more front last)

    cost_pushed : (weight : ℕ → ℕ) → cost weight (flat (actors_in now)) ≡ cost weight
        (flat (actors_in (opened earlier front last))) + cost weight (command ∷ [])
    cost_pushed weight =
        omega (
          arith,
          cost_opened weight earlier front last,
          cost_opened weight earlier front
              (last ++ command ∷ []),
          cost-append weight last (command ∷ []),
        )

    command_next : with_next_command so command ≡ state Behind.Actor now (length last + 1)
    unfolding with_next_command
    command_next =
        same_state Behind.Actor (with_command command (opened earlier front last)) now
        (length last + 1) (length (actors_in (opened earlier front last))) _ _ pushed
        (omega (
          arith,
          count_opened earlier front last,
          count_opened earlier front
              (last ++ command ∷ []),
        ))
        (omega (arith, cost_pushed (blocks_in layout), (one_of command).blocks))
        (omega (arith, cost_pushed (chunk_bytes_in layout), (one_of command).bytes))

    limits_kept : (left : List Command) → length last + 1 ≤ MOST_COMMANDS → Good command
        → Fits (flat (actors_in (opened earlier front last))) (command ∷ left)
        → keeps_limits (with_next_command so command) command ≡ true
    unfolding keeps_limits with_next_command
    limits_kept left room good fits =
        let blocks = cost-append (blocks_in layout) (command ∷ []) left in
        let bytes = cost-append (chunk_bytes_in layout) (command ∷ []) left in
        and_from _ _
        (and_from _ _
        (and_from _ _ (le-leb _ _ room) (le-leb _ _ good.few))
        (le-leb _ _ (omega (arith, fits.blocks, blocks, (one_of command).blocks))))
        (le-leb _ _ (omega (arith, fits.bytes, bytes, (one_of command).bytes)))

    command_reads : (left : List Command) → length last + 1 ≤ MOST_COMMANDS → Good command
        → Fits (flat (actors_in (opened earlier front last))) (command ∷ left)
        → Reads so (command_line command) (state Behind.Actor now (length last + 1))
    unfolding may_stand take_line take_command
    command_reads left room good fits =
        let told = command_told servers few_servers command good.in_range in
        subst (λ (text : List ℕ). Reads so text (state Behind.Actor now (length last + 1)))
        (sym told.is)
        (line_read so (state Behind.Actor now (length last + 1)) told.word told.words
        (First.Command told.kind) told.spelled told.plain refl
        (on (command_of servers told.kind told.words) command
        (λ command. if_kept (keeps_limits (with_next_command so command) command) Cause.Limit
        (with_next_command so command)) told.says
        ∙ kept (keeps_limits (with_next_command so command) command) (with_next_command so command)
        (limits_kept left room good fits)
        ∙ ap (λ (next : SoFar). Ok next) command_next))

  -- ---- an actor's commands

  commands_through : (earlier : Phases) (front : List (List Command)) (last left : List Command)
      → Each Good left → length last + length left ≤ MOST_COMMANDS
      → Fits (flat (actors_in (opened earlier front last))) left
      → Through (state Behind.Actor (opened earlier front last) (length last))
      (map command_line left) (state Behind.Actor (opened earlier front (last ++ left))
      (length (last ++ left)))
  commands_through earlier front last [] good room fits =
      ap (λ (all : List Command). state Behind.Actor (opened earlier front all) (length all))
      (sym (append-nil last))
  commands_through earlier front last (command ∷ left) good room fits =
      let count : length last + 1 ≡ length (last ++ command ∷ []) =
      omega (arith, length-append last (command ∷ [])) in
      let blocks = cost-append (blocks_in layout) (command ∷ []) left in
      let bytes = cost-append (chunk_bytes_in layout) (command ∷ []) left in
      let more = commands_through earlier front (last ++ command ∷ []) left good.1
      (omega (arith, room, count)) (record {
        blocks = omega (
          arith,
          fits.blocks,
          blocks,
          cost_pushed earlier front last command
              (blocks_in layout),
        );
        bytes = omega (
          arith,
          fits.bytes,
          bytes,
          cost_pushed earlier front last command
              (chunk_bytes_in layout),
        );
      }) in (
        state Behind.Actor (opened earlier front (last ++ command ∷ [])) (length last + 1),
        (
          command_reads earlier front last command left (omega (arith, room)) good.0 fits,
          subst (λ (n : ℕ). Through
              (state Behind.Actor (opened earlier front (last ++ command ∷ [])) n)
              (map command_line left)
              (state Behind.Actor (opened earlier front (last ++ command ∷ left))
              (length (last ++ command ∷ left))))
              (sym count)
              (subst (λ (all : List Command). Through
              (state Behind.Actor (opened earlier front (last ++ command ∷ []))
              (length (last ++ command ∷ []))) (map command_line left)
              (state Behind.Actor (opened earlier front all) (length all)))
              (append_assoc last (command ∷ []) left) more),
        ),
      )

  -- ---- the actors of a phase

  -- a place behind which a phase, an actor, the order or the end may stand
  record IsOpen (place : LinePlace) : Type 0 where
    phase : may_stand place First.Phase ≡ true
    actor : may_stand place First.Actor ≡ true
    order : may_stand place First.Order ≡ true
    last : may_be_last place ≡ true

  open_phase : IsOpen Behind.Phase
  unfolding may_stand may_be_last
  open_phase = record { phase = refl; actor = refl; order = refl; last = refl }

  open_actor : IsOpen Behind.Actor
  unfolding may_stand may_be_last
  open_actor = record { phase = refl; actor = refl; order = refl; last = refl }

  -- these lines lead to these phases
  record Arrives (so : SoFar) (lines : Lines) (phases : Phases) : Type 0 where
    place : LinePlace
    commands : ℕ
    is_open : IsOpen place
    through : Through so lines (state place phases commands)

  arrives_at : (so : SoFar) (lines : Lines) (phases goal : Phases) → phases ≡ goal
      → Arrives so lines phases → Arrives so lines goal
  arrives_at so lines phases goal same arrives = subst (Arrives so lines) same arrives

  arrives_behind : (so next : SoFar) (front behind : Lines) (phases : Phases)
      → Through so front next → Arrives next behind phases → Arrives so (front ++ behind) phases
  arrives_behind so next front behind phases first arrives = record {
    place = arrives.place;
    commands = arrives.commands;
    is_open = arrives.is_open;
    through = through_append so next (state arrives.place phases arrives.commands) front behind
        first arrives.through;
  }

  module _ (earlier : Phases) (front : List (List Command)) (place : LinePlace) (commands : ℕ) where
    abbrev here : SoFar
    here = state place (earlier ++ front ∷ []) commands

    actor_next : with_next_actor here ≡ state Behind.Actor (opened earlier front []) 0
    unfolding with_next_actor with_actor
    actor_next =
        same_state Behind.Actor (with_actor (earlier ++ front ∷ [])) (opened earlier front []) 0
        (length (actors_in (earlier ++ front ∷ [])) + 1) _ _
        (changed (λ phase. phase ++ [] ∷ []) earlier front)
        (omega (arith, count_opened earlier front []))
        (omega (arith, cost_opened (blocks_in layout) earlier front []))
        (omega (arith, cost_opened (chunk_bytes_in layout) earlier front []))

    actor_reads : (number : ℕ) → number ≡ length (actors_in (earlier ++ front ∷ [])) + 1
        → number ≤ MOST_ACTORS → may_stand place First.Actor ≡ true
        → Reads here (line (codes "actor") (decimal number ∷ []))
        (state Behind.Actor (opened earlier front []) 0)
    unfolding take_line take_actor one_word
    actor_reads number next few stands =
        let count = length (actors_in (earlier ++ front ∷ [])) in
        line_read here (state Behind.Actor (opened earlier front []) 0) (codes "actor")
        (decimal number ∷ []) First.Actor spells_actor
        (plain_number number (omega (arith, few)), tt) stands
        (on (number_in (count + 1) (count + 1) (decimal number)) number
        (λ number. if_kept (nat_lt count MOST_ACTORS) Cause.Limit (with_next_actor here))
        (number_back (count + 1) (count + 1) number (omega (arith, few)) (omega (arith, next))
        (omega (arith, next)))
        ∙ kept (nat_lt count MOST_ACTORS) (with_next_actor here)
        (lt-ltb _ _ (omega (arith, next, few)))
        ∙ ap (λ (state : SoFar). Ok state) actor_next)

  actors_through : (earlier : Phases) (front left : List (List Command)) (place : LinePlace)
      (commands number : ℕ) → IsOpen place → Each GoodActor left
      → number ≡ length (actors_in (earlier ++ front ∷ [])) + 1
      → length (actors_in (earlier ++ front ∷ [])) + length left ≤ MOST_ACTORS
      → Fits (flat (actors_in (earlier ++ front ∷ []))) (flat left)
      → Arrives (state place (earlier ++ front ∷ []) commands) (actor_lines number left)
      (earlier ++ (front ++ left) ∷ [])
  unfolding actor_lines
  actors_through earlier front [] place commands number is_open good next few fits =
      arrives_at (state place (earlier ++ front ∷ []) commands) [] (earlier ++ front ∷ [])
      (earlier ++ (front ++ []) ∷ [])
      (ap (λ phase. earlier ++ phase ∷ []) (sym (append-nil front)))
      (record { place = place; commands = commands; is_open = is_open; through = refl })
  actors_through earlier front (actor ∷ left) place commands number is_open good next few fits =
      let first = actor_reads earlier front place commands number next (omega (arith, next, few))
      is_open.actor in
      let blocks = cost-append (blocks_in layout) actor (flat left) in
      let bytes = cost-append (chunk_bytes_in layout) actor (flat left) in
      let own = commands_through earlier front [] actor good.0.good (omega (arith, good.0.few))
      (record {
        blocks = omega (
          arith,
          fits.blocks,
          blocks,
          cost_opened (blocks_in layout) earlier front
              [],
        );
        bytes = omega (
          arith,
          fits.bytes,
          bytes,
          cost_opened (chunk_bytes_in layout) earlier front
              [],
        );
      }) in
      let more = actors_through earlier (front ++ actor ∷ []) left Behind.Actor (length actor)
      (number + 1) open_actor good.1
      (omega (arith, next, count_opened earlier front actor))
      (omega (arith, few, count_opened earlier front actor)) (record {
        blocks = omega (
          arith,
          fits.blocks,
          blocks,
          cost_opened (blocks_in layout) earlier front
              actor,
        );
        bytes = omega (
          arith,
          fits.bytes,
          bytes,
          cost_opened (chunk_bytes_in layout) earlier front
              actor,
        );
      }) in
      arrives_behind (state place (earlier ++ front ∷ []) commands)
      (state Behind.Actor (opened earlier front actor) (length actor))
      (line (codes "actor") (decimal number ∷ []) ∷ map command_line actor)
      (actor_lines (number + 1) left) (earlier ++ (front ++ actor ∷ left) ∷ [])
      (state Behind.Actor (opened earlier front []) 0, (first, own))
      (arrives_at _ (actor_lines (number + 1) left)
      (earlier ++ ((front ++ actor ∷ []) ++ left) ∷ [])
      (earlier ++ (front ++ actor ∷ left) ∷ [])
      (ap (λ phase. earlier ++ phase ∷ []) (append_assoc front (actor ∷ []) left)) more)

  -- ---- phases

  module _ (done : Phases) (place : LinePlace) (commands : ℕ) where
    abbrev begin : SoFar
    begin = state place done commands

    phase_next : made Behind.Phase (done ++ [] ∷ []) (length (actors_in done)) commands
        (cost (blocks_in layout) (flat (actors_in done)))
        (cost (chunk_bytes_in layout) (flat (actors_in done)))
        ≡ state Behind.Phase (done ++ [] ∷ []) commands
    phase_next =
        same_state Behind.Phase (done ++ [] ∷ []) (done ++ [] ∷ []) commands
        (length (actors_in done)) _ _ refl
        (omega (arith, count_phase done []))
        (omega (arith, cost_phase (blocks_in layout) done []))
        (omega (arith, cost_phase (chunk_bytes_in layout) done []))

    phase_reads : length done < MOST_PHASES → may_stand place First.Phase ≡ true
        → Reads begin (line (codes "phase") []) (state Behind.Phase (done ++ [] ∷ []) commands)
    unfolding take_line take_phase no_word with_head
    phase_reads few stands =
        line_read begin (state Behind.Phase (done ++ [] ∷ []) commands) (codes "phase") []
        First.Phase spells_phase tt stands
        (kept (nat_lt (length done) MOST_PHASES) _ (lt-ltb _ _ few)
        ∙ ap (λ (state : SoFar). Ok state) phase_next)

  -- one phase with its actors
  phase_through : (done : Phases) (phase : List (List Command)) (place : LinePlace)
      (commands number : ℕ) → may_stand place First.Phase ≡ true → Each GoodActor phase
      → length done < MOST_PHASES → number ≡ length (actors_in done) + 1
      → length (actors_in done) + length phase ≤ MOST_ACTORS
      → Fits (flat (actors_in done)) (flat phase)
      → Arrives (state place done commands) (line (codes "phase") [] ∷ actor_lines number phase)
      (done ++ phase ∷ [])
  phase_through done phase place commands number stands good room next few fits =
      arrives_behind (state place done commands) (state Behind.Phase (done ++ [] ∷ []) commands)
      (line (codes "phase") [] ∷ []) (actor_lines number phase) (done ++ phase ∷ [])
      (one_line (state place done commands) (state Behind.Phase (done ++ [] ∷ []) commands)
      (line (codes "phase") []) (phase_reads done place commands room stands))
      (actors_through done [] phase Behind.Phase commands number open_phase good
      (omega (arith, next, count_phase done [])) (omega (arith, few, count_phase done [])) (record {
        blocks = omega (arith, fits.blocks, cost_phase (blocks_in layout) done []);
        bytes = omega (arith, fits.bytes, cost_phase (chunk_bytes_in layout) done []);
      }))

  -- phases that are left behind these: how many actors and phases there are, and what is left to
  -- cost
  record Left (done left : Phases) (number : ℕ) : Type 0 where
    good : Each (Each GoodActor) left
    few_phases : length done + length left ≤ MOST_PHASES
    next : number ≡ length (actors_in done) + 1
    few_actors : length (actors_in done) + length (actors_in left) ≤ MOST_ACTORS
    fits : Fits (flat (actors_in done)) (flat (actors_in left))

  left_behind : (done : Phases) (phase : List (List Command)) (more : Phases) (number : ℕ)
      → Left done (phase ∷ more) number
      → Left (done ++ phase ∷ []) more (number + length phase)
  left_behind done phase more number left =
      record {
        good = left.good.1;
        few_phases = omega (arith, left.few_phases, length-append done (phase ∷ []));
        next = omega (arith, left.next, count_phase done phase);
        few_actors = omega (
          arith,
          left.few_actors,
          count_phase done phase,
          length-append phase
              (actors_in more),
        );
        fits = record {
          blocks = omega (
            arith,
            left.fits.blocks,
            cost_phases (blocks_in layout) phase more,
            cost_phase (blocks_in layout) done phase,
          );
          bytes = omega (
            arith,
            left.fits.bytes,
            cost_phases (chunk_bytes_in layout) phase more,
            cost_phase (chunk_bytes_in layout) done phase,
          );
        };
      }

  -- the first phase that is left, and the others behind it
  first_through : (done : Phases) (phase : List (List Command)) (more : Phases) (place : LinePlace)
      (commands number : ℕ) → may_stand place First.Phase ≡ true
      → Left done (phase ∷ more) number
      → ((place : LinePlace) (commands : ℕ) → IsOpen place
      → Arrives (state place (done ++ phase ∷ []) commands)
      (phase_lines (number + length phase) more) ((done ++ phase ∷ []) ++ more))
      → Arrives (state place done commands) (phase_lines number (phase ∷ more))
      (done ++ phase ∷ more)
  unfolding phase_lines
  first_through done phase more place commands number stands left behind =
      let first = phase_through done phase place commands number stands left.good.0
      (omega (arith, left.few_phases)) left.next
      (omega (arith, left.few_actors, length-append phase (actors_in more))) (record {
        blocks = omega (arith, left.fits.blocks, cost_phases (blocks_in layout) phase more);
        bytes = omega (arith, left.fits.bytes, cost_phases (chunk_bytes_in layout) phase more);
      }) in
      arrives_behind (state place done commands)
      (state first.place (done ++ phase ∷ []) first.commands)
      (line (codes "phase") [] ∷ actor_lines number phase)
      (phase_lines (number + length phase) more) (done ++ phase ∷ more) first.through
      (arrives_at _ (phase_lines (number + length phase) more) ((done ++ phase ∷ []) ++ more)
      (done ++ phase ∷ more)
      (append_assoc done (phase ∷ []) more) (behind first.place first.commands first.is_open))

  phases_through : (done left : Phases) (place : LinePlace) (commands number : ℕ) → IsOpen place
      → Left done left number
      → Arrives (state place done commands) (phase_lines number left) (done ++ left)
  unfolding phase_lines
  phases_through done [] place commands number is_open left =
      arrives_at (state place done commands) [] done (done ++ []) (sym (append-nil done))
      (record { place = place; commands = commands; is_open = is_open; through = refl })
  phases_through done (phase ∷ more) place commands number is_open left =
      first_through done phase more place commands number is_open.phase left
      (λ place commands now. phases_through (done ++ phase ∷ []) more place commands
      (number + length phase) now (left_behind done phase more number left))

  -- all phases of a script that has some, behind the lines of its head
  some_through : (left : Phases) (place : LinePlace) → may_stand place First.Phase ≡ true
      → 1 ≤ length left → Left [] left 1
      → Arrives (state place [] 0) (phase_lines 1 left) left
  some_through [] place stands some left = absurd (omega (arith, some))
  some_through (phase ∷ more) place stands some left =
      first_through [] phase more place 0 1 stands left
      (λ place commands now. phases_through (phase ∷ []) more place commands (1 + length phase) now
      (left_behind [] phase more 1 left))

  -- ---- what the script keeps

  abbrev FewBlocks : ℕ → Type 0
  FewBlocks len = blocks_in layout len ≤ MOST_BLOCKS_OF_PUT

  good_first : (command : Command) (puts : List ℕ) → IsCommand servers command
      → Each FewBlocks (cons_option (len_put command) puts)
      → (len_put command ≡ Some (put_len command)) ⊎ PutsNothing command
      → Good command × Each FewBlocks puts
  good_first command puts in_range each (inl some) =
      let all : Each FewBlocks (put_len command ∷ puts) =
      subst (λ (put : Option ℕ). Each FewBlocks (cons_option put puts)) some each in
      (record { in_range = in_range; few = all.0 }, all.1)
  good_first command puts in_range each (inr none) =
      let all : Each FewBlocks puts =
      subst (λ (put : Option ℕ). Each FewBlocks (cons_option put puts)) none.0 each in (
        record {
          in_range = in_range;
          few =
              omega (arith, ap (blocks_in layout) none.1, no_rows (block_bytes layout.s layout.r));
        },
        all,
      )

  good_commands : (commands : List Command) → Each (IsCommand servers) commands
      → Each FewBlocks (filter_map len_put commands) → Each Good commands
  good_commands [] in_range puts = tt
  good_commands (command ∷ commands) in_range puts =
      let first = good_first command (filter_map len_put commands) in_range.0 puts
      (put_told command) in
      (first.0, good_commands commands in_range.1 first.1)

  good_actors : (actors : List (List Command))
      → Each (λ commands. length commands ≤ MOST_COMMANDS) actors
      → Each (Each (IsCommand servers)) actors
      → Each FewBlocks (puts_in actors) → Each GoodActor actors
  good_actors [] few in_range puts = tt
  good_actors (commands ∷ actors) few in_range puts =
      let all : Each FewBlocks (filter_map len_put commands ++ puts_in actors) =
      subst (Each FewBlocks) (filter_map-append len_put commands (flat actors)) puts in (
        record {
          few = few.0;
          good = good_commands commands in_range.0
              (each_front FewBlocks (filter_map len_put commands) (puts_in actors) all);
        },
        good_actors actors few.1 in_range.1 (each_back FewBlocks (filter_map len_put commands)
            (puts_in actors) all),
      )

  good_phases : (phases : Phases) → Each GoodActor (actors_in phases) → Each (Each GoodActor) phases
  good_phases [] good = tt
  good_phases (phase ∷ phases) good = (
    each_front GoodActor phase (actors_in phases) good,
    good_phases phases
        (each_back GoodActor phase (actors_in phases) good),
  )

  all_left : Left [] script.phases 1
  all_left = record {
    good = good_phases script.phases
        (good_actors (actors_in script.phases) is.few_commands is.commands is.blocks_of_put);
    few_phases = omega (arith, is.phases.1);
    next = refl;
    few_actors = omega (arith, is.few_actors);
    fits = record { blocks = omega (arith, is.blocks); bytes = omega (arith, is.chunk_bytes) };
  }

  -- ---- the order

  -- the lines of the order lead to the end of the script that has it
  record Ends (so : SoFar) (order : Option (List Step)) : Type 0 where
    last : SoFar
    through : Through so (order_lines order) last
    may_end : may_be_last last.place ≡ true
    script_is : last.script ≡ record script { order = order }

  order_through : (order : Option (List Step)) (place : LinePlace) (commands : ℕ)
      → IfSome order (Each OfActor) → IsOpen place → Ends (state place script.phases commands) order
  unfolding order_lines take_line take_order with_head may_be_last
  order_through None place commands each is_open =
      record {
        last = state place script.phases commands;
        through = refl;
        may_end =
            is_open.last;
        script_is = refl;
      }
  order_through (Some steps) place commands each is_open =
      let so = state place script.phases commands in
      let told = order_told steps each in
      let next : SoFar = with_head so Behind.Order (record so.script { order = Some steps }) in
      record {
        last = next;
        through =
            one_line so next (order_line steps)
            (line_read so next (codes "order") (runs steps) First.Order spells_order
            told.plain is_open.order
            (on (read_each run_in (runs steps)) told.found
            (λ found. Ok
            (with_head so Behind.Order
            (record so.script { order = Some (steps_of_runs found) }))) told.says
            ∙ ap (λ (order : List Step). Ok
            (with_head so Behind.Order (record so.script { order = Some order })))
            told.stands));
        may_end = refl;
        script_is = refl;
      }

  -- ---- the lines of the head, before the first phase
  abbrev head : LinePlace → Shape → ℕ → ℕ → Bool → SoFar
  head place shape number term audit = record nothing_yet {
    place = place;
    script = record nothing_yet.script {
      layout = shape;
      servers = number;
      term = term;
      audit = audit;
    };
  }

  one_is : number_in 1 1 (codes "1") ≡ Ok 1
  one_is = subst (λ (word : List ℕ). number_in 1 1 word ≡ Ok 1) (decimal_digit 1 (omega arith))
      (number_back 1 1 1 (omega arith) (omega arith) (omega arith))

  qfs_reads : Reads nothing_yet (line (codes "qfs") (codes "1" ∷ []))
      (head Behind.Qfs nothing_yet.script.layout 1 0 false)
  unfolding take_line take_qfs one_word with_head may_stand
  qfs_reads =
      line_read nothing_yet (head Behind.Qfs nothing_yet.script.layout 1 0 false) (codes "qfs")
      (codes "1" ∷ []) First.Qfs spells_qfs (plain (codes "1") refl, tt) refl
      (on (number_in 1 1 (codes "1")) 1
      (λ version. Ok (with_head nothing_yet Behind.Qfs nothing_yet.script)) one_is)

  layout_reads : Reads (head Behind.Qfs nothing_yet.script.layout 1 0 false)
      (line (codes "layout") (decimal layout.s ∷ decimal layout.r ∷ []))
      (head Behind.Layout layout 1 0 false)
  unfolding take_line take_layout two_words with_head may_stand
  layout_reads =
      let so = head Behind.Qfs nothing_yet.script.layout 1 0 false in
      let next = λ (stripe rows : ℕ). with_head so Behind.Layout
      (record so.script { layout = record { s = stripe; r = rows } }) in
      line_read so (head Behind.Layout layout 1 0 false) (codes "layout")
      (decimal layout.s ∷ decimal layout.r ∷ []) First.Layout spells_layout (
        plain_number layout.s (omega (arith, is.stripe.1)),
        (plain_number layout.r (omega (arith, is.rows.1)), tt),
      ) refl
      (on (stripe_in (decimal layout.s)) layout.s
      (λ stripe. number_in 1 MOST_ROWS (decimal layout.r) >>= (λ rows. Ok (next stripe rows)))
      (stripe_back layout.s is.stripe)
      ∙ on (number_in 1 MOST_ROWS (decimal layout.r)) layout.r (λ rows. Ok (next layout.s rows))
      (number_back 1 MOST_ROWS layout.r (omega (arith, is.rows.1)) is.rows.0 is.rows.1))

  servers_read : Reads (head Behind.Layout layout 1 0 false)
      (line (codes "servers") (decimal servers ∷ [])) (head Behind.Servers layout servers 0 false)
  unfolding take_line take_servers one_word with_head may_stand
  servers_read =
      let so = head Behind.Layout layout 1 0 false in
      line_read so (head Behind.Servers layout servers 0 false) (codes "servers")
      (decimal servers ∷ []) First.Servers spells_servers (plain_number servers few_servers, tt)
      refl
      (on (number_in 1 MOST_SERVERS (decimal servers)) servers
      (λ number. Ok (with_head so Behind.Servers (record so.script { servers = number })))
      (number_back 1 MOST_SERVERS servers few_servers is.servers.0 is.servers.1))

  term_reads : (term : ℕ) → 1 ≤ term → term ≤ MOST_TICKS
      → Reads (head Behind.Servers layout servers 0 false) (line (codes "term") (decimal term ∷ []))
      (head Behind.Term layout servers term false)
  unfolding take_line take_term one_word with_head may_stand
  term_reads term some few =
      let so = head Behind.Servers layout servers 0 false in
      line_read so (head Behind.Term layout servers term false) (codes "term") (decimal term ∷ [])
      First.Term spells_term (plain_number term (omega (arith, few)), tt) refl
      (on (number_in 1 MOST_TICKS (decimal term)) term
      (λ ticks. Ok (with_head so Behind.Term (record so.script { term = ticks })))
      (number_back 1 MOST_TICKS term (omega (arith, few)) some few))

  audit_reads : (place : LinePlace) (term : ℕ) → may_stand place First.Audit ≡ true
      → Reads (head place layout servers term false) (line (codes "audit") [])
      (head Behind.Audit layout servers term true)
  unfolding take_line take_audit no_word with_head
  audit_reads place term stands =
      line_read (head place layout servers term false) (head Behind.Audit layout servers term true)
      (codes "audit") [] First.Audit spells_audit tt stands refl

  -- the lines of the head lead to where a phase may stand
  record Headed (so : SoFar) (lines : Lines) (term : ℕ) (audit : Bool) : Type 0 where
    place : LinePlace
    phase : may_stand place First.Phase ≡ true
    through : Through so lines (head place layout servers term audit)

  tail_through : (term : ℕ) (audit : Bool) → term ≤ MOST_TICKS
      → Headed (head Behind.Servers layout servers 0 false) (term_word term ++ audit_word audit)
      term audit
  unfolding term_word audit_word may_stand
  tail_through zero false few = record { place = Behind.Servers; phase = refl; through = refl }
  tail_through zero true few = record {
    place = Behind.Audit;
    phase = refl;
    through =
        one_line _ _ (line (codes "audit") []) (audit_reads Behind.Servers 0 refl);
  }
  tail_through (suc ticks) false few =
      record {
        place = Behind.Term;
        phase = refl;
        through =
            one_line _ _ (line (codes "term") (decimal (suc ticks) ∷ []))
            (term_reads (suc ticks) (omega arith) few);
      }
  tail_through (suc ticks) true few = record {
    place = Behind.Audit;
    phase = refl;
    through = (
      head Behind.Term layout servers (suc ticks) false,
      (
        term_reads (suc ticks) (omega arith) few,
        one_line _ _ (line (codes "audit") []) (audit_reads Behind.Term (suc ticks) refl),
      ),
    );
  }

  head_through : Headed nothing_yet (head_lines script) script.term script.audit
  unfolding head_lines
  head_through =
      let tail = tail_through script.term script.audit is.term in
      record {
        place = tail.place;
        phase = tail.phase;
        through = (
          head Behind.Qfs nothing_yet.script.layout 1 0 false,
          (
            qfs_reads,
            (
              head Behind.Layout layout 1 0 false,
              (
                layout_reads,
                (head Behind.Servers layout servers 0 false, (servers_read, tail.through)),
              ),
            ),
          ),
        );
      }

  -- ---- all lines

  record Whole : Type 0 where
    last : SoFar
    through : Through nothing_yet (script_lines script) last
    may_end : may_be_last last.place ≡ true
    script_is : last.script ≡ script

  whole : Whole
  unfolding script_lines
  whole =
      let headed = head_through in
      let phases = some_through script.phases headed.place headed.phase is.phases.0 all_left in
      let order = order_through script.order phases.place phases.commands is.order phases.is_open in
      record {
        last = order.last;
        through =
            through_append nothing_yet (state phases.place script.phases phases.commands) order.last
            (head_lines script ++ phase_lines 1 script.phases) (order_lines script.order)
            (through_append nothing_yet (state headed.place [] 0)
            (state phases.place script.phases phases.commands) (head_lines script)
            (phase_lines 1 script.phases)
            headed.through phases.through)
            order.through;
        may_end = order.may_end;
        script_is = order.script_is;
      }

  ended_so : (replays : Bool) (so : SoFar) → may_be_last so.place ≡ true → so.script ≡ script
      → (replays ≡ true → IsSome script.order) → whole_script replays so ≡ Ok script
  unfolding whole_script if_kept
  ended_so replays so may_end same ordered =
      ap (λ (b : Bool). if_kept b Cause.Word so.script >>=
      (λ ended. if_kept (not (replays && is_none ended.order)) Cause.NoOrder ended)) may_end
      ∙ ap (λ (found : Script). if_kept (not (replays && is_none found.order)) Cause.NoOrder found)
      same
      ∙ ap (λ (b : Bool). if_kept b Cause.NoOrder script) (has_order replays script.order ordered)
    where
      has_order : (replays : Bool) (order : Option (List Step)) → (replays ≡ true → IsSome order)
          → not (replays && is_none order) ≡ true
      has_order false order ordered = refl
      has_order true (Some steps) ordered = refl
      has_order true None ordered = absurd (cc (ordered refl))

  read_back : (replays : Bool) → (replays ≡ true → IsSome script.order) → HasRoom script
      → read_script replays (script_text script) ≡ Ok script
  unfolding read_script script_of_lines script_text if_kept
  read_back replays ordered room =
      let all = all_read nothing_yet whole.last (script_lines script) whole.through in
      let behind = λ (lines : List (List ℕ)) (so : SoFar). at_line (length lines + 1)
      (whole_script replays so) in
      ap (λ (b : Bool). at_line 0 (if_kept b Cause.TooBig (script_text script)) >>=
      (λ small. script_of_lines replays (text_lines small))) (le-leb _ _ room.bytes)
      ∙ ap (λ lines. read_lines nothing_yet 1 lines >>= behind lines)
      (text_lines_are nothing_yet whole.last (script_lines script) all)
      ∙ ap (λ (read : Result SoFar BadLine). read >>= behind all.bodies)
      (all.reads 1 (omega (arith, room.lines)))
      ∙ ap (λ (said : Said Script). at_line (length all.bodies + 1) said)
      (ended_so replays whole.last whole.may_end whole.script_is ordered)

pub reads_back : ReadsBack
reads_back replays script is room = read_back script is.is_script replays is.order room
