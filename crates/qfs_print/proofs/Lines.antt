-- The text of a script's lines, part by part.
use Rattle.std.proofs.Common.{◌≡◌, ◌∙◌, sym, ap, ℕ, ◌+◌, ◌<◌, ◌≤◌, List, [], ◌∷◌, ◌++◌, length, map, drop, append_assoc, append-nil, length-append}
use Rattle.std.specs.Prelude.{codes, decimal, slice_index_or}
use Rattle.std.proofs.lemmas.List.{at_drop_all, drop_more}
use Rattle.std.proofs.lemmas.List.Concat.{flat_map-append}
use Rattle.std.proofs.lemmas.List.Folds.{flat_map-map}
use Rattle.qfs_base.specs.declared.command.Command.{Command}
use Rattle.qfs_base.specs.declared.script.Script.{Script}
use Rattle.qfs_model_script.specs.ScriptText.{Lines, command_line, term_word, audit_word, head_lines, actor_lines, phase_lines, order_lines, script_lines, script_text}
use Rattle.qfs_model_text.specs.Line.{line}
use Rattle.qfs_print.specs.Texts.{actors_in, commands_text, text_of_lines}

-- two parts one behind the other
joined : (first second : Lines) → text_of_lines (first ++ second) ≡ text_of_lines first ++ text_of_lines second
joined first second = flat_map-append (λ (l : List ℕ). l) first second

-- the lines before the first phase
pub head_text : (script : Script)
    → text_of_lines (head_lines script)
    ≡ line (codes "qfs") (codes "1" ∷ [])
    ++ (line (codes "layout") (decimal script.layout.s ∷ decimal script.layout.r ∷ [])
    ++ (line (codes "servers") (decimal script.servers ∷ [])
    ++ (text_of_lines (term_word script.term) ++ text_of_lines (audit_word script.audit))))
unfolding head_lines
head_text script =
    ap (λ behind. line (codes "qfs") (codes "1" ∷ [])
    ++ (line (codes "layout") (decimal script.layout.s ∷ decimal script.layout.r ∷ [])
    ++ (line (codes "servers") (decimal script.servers ∷ []) ++ behind)))
    (joined (term_word script.term) (audit_word script.audit))

-- an actor, and one with others behind it
pub actor_text : (number : ℕ) (commands : List Command)
    → text_of_lines (actor_lines number (commands ∷ []))
    ≡ line (codes "actor") (decimal number ∷ []) ++ commands_text commands
unfolding actor_lines
actor_text number commands =
    ap (λ behind. line (codes "actor") (decimal number ∷ []) ++ behind)
    (joined (map command_line commands) []
    ∙ append-nil (text_of_lines (map command_line commands))
    ∙ flat_map-map (λ (l : List ℕ). l) command_line commands)

actors_text : (number : ℕ) (commands : List Command) (more : List (List Command))
    → text_of_lines (actor_lines number (commands ∷ more))
    ≡ text_of_lines (actor_lines number (commands ∷ [])) ++ text_of_lines (actor_lines (number + 1) more)
unfolding actor_lines
actors_text number commands more =
    ap (λ behind. line (codes "actor") (decimal number ∷ []) ++ behind)
    (joined (map command_line commands) (actor_lines (number + 1) more)
    ∙ ap (λ front. front ++ text_of_lines (actor_lines (number + 1) more))
    (flat_map-map (λ (l : List ℕ). l) command_line commands))
    ∙ sym (append_assoc (line (codes "actor") (decimal number ∷ [])) (commands_text commands)
    (text_of_lines (actor_lines (number + 1) more)))
    ∙ ap (λ front. front ++ text_of_lines (actor_lines (number + 1) more))
    (sym (actor_text number commands))

-- what is left of a list from an index on, where this item is there; belongs to qfs_base
at_index : {X : Type 0} (all : List X) (i : ℕ) (item : X) → i < length all
    → item ≡ slice_index_or all i item → drop i all ≡ item ∷ drop (i + 1) all
at_index all i item inside is =
    drop_more all i item inside ∙ ap (λ first. first ∷ drop (i + 1) all) (sym is)

-- an actor's lines, where those of its commands are behind its own
pub actor_told : (number : ℕ) (commands taken : List Command) (start first new : List ℕ)
    → first ≡ start ++ line (codes "actor") (decimal number ∷ []) → taken ≡ commands
    → new ≡ first ++ commands_text taken
    → new ≡ start ++ text_of_lines (actor_lines number (commands ∷ []))
actor_told number commands taken start first new first_is taken_is new_is =
    new_is
    ∙ ap (λ text. text ++ commands_text taken) first_is
    ∙ append_assoc start (line (codes "actor") (decimal number ∷ [])) (commands_text taken)
    ∙ ap (λ all. start ++ (line (codes "actor") (decimal number ∷ []) ++ commands_text all)) taken_is
    ∙ ap (λ text. start ++ text) (sym (actor_text number commands))

-- with the lines of the actor at an index, those behind it are left
pub one_actor_more : (all : List (List Command)) (i number : ℕ) (item : List Command)
    (text new start : List ℕ) → i < length all → item ≡ slice_index_or all i item
    → new ≡ text ++ text_of_lines (actor_lines number (item ∷ []))
    → text ++ text_of_lines (actor_lines number (drop i all)) ≡ start
    → new ++ text_of_lines (actor_lines (number + 1) (drop (i + 1) all)) ≡ start
one_actor_more all i number item text new start inside is new_is so_far =
    let behind = text_of_lines (actor_lines (number + 1) (drop (i + 1) all)) in
    ap (λ now. now ++ behind) new_is
    ∙ append_assoc text (text_of_lines (actor_lines number (item ∷ []))) behind
    ∙ ap (λ more. text ++ more) (sym (actors_text number item (drop (i + 1) all)))
    ∙ ap (λ left. text ++ text_of_lines (actor_lines number left)) (sym (at_index all i item inside is))
    ∙ so_far

-- behind all actors none is left
pub no_actor : (all : List (List Command)) (i number : ℕ) → length all ≤ i
    → text_of_lines (actor_lines number (drop i all)) ≡ []
unfolding actor_lines
no_actor all i number past =
    at_drop_all (λ left. text_of_lines (actor_lines number left)) all i past

-- a phase with others behind it
phases_text : (number : ℕ) (phase : List (List Command)) (more : List (List (List Command)))
    → text_of_lines (phase_lines number (phase ∷ more))
    ≡ line (codes "phase") [] ++ text_of_lines (actor_lines number phase)
    ++ text_of_lines (phase_lines (number + length phase) more)
unfolding phase_lines
phases_text number phase more =
    ap (λ behind. line (codes "phase") [] ++ behind)
    (joined (actor_lines number phase) (phase_lines (number + length phase) more))

-- with the lines of the phase at an index, those behind it are left
pub one_phase_more : (all : List (List (List Command))) (i number len : ℕ)
    (item taken : List (List Command)) (text first new start : List ℕ) → i < length all
    → item ≡ slice_index_or all i item → first ≡ text ++ line (codes "phase") []
    → taken ≡ item → new ≡ first ++ text_of_lines (actor_lines number taken)
    → len ≡ length item → text ++ text_of_lines (phase_lines number (drop i all)) ≡ start
    → new ++ text_of_lines (phase_lines (number + len) (drop (i + 1) all)) ≡ start
one_phase_more all i number len item taken text first new start inside is first_is taken_is new_is
    len_is so_far =
    let head = line (codes "phase") [] in
    let actors = text_of_lines (actor_lines number item) in
    let behind = text_of_lines (phase_lines (number + length item) (drop (i + 1) all)) in
    ap (λ n. new ++ text_of_lines (phase_lines (number + n) (drop (i + 1) all))) len_is
    ∙ ap (λ now. now ++ behind)
    (new_is ∙ ap (λ t. first ++ text_of_lines (actor_lines number t)) taken_is
    ∙ ap (λ t. t ++ actors) first_is)
    ∙ append_assoc (text ++ head) actors behind
    ∙ append_assoc text head (actors ++ behind)
    ∙ ap (λ more. text ++ more) (sym (phases_text number item (drop (i + 1) all)))
    ∙ ap (λ left. text ++ text_of_lines (phase_lines number left)) (sym (at_index all i item inside is))
    ∙ so_far

-- behind all phases none is left
pub no_phase : (all : List (List (List Command))) (i number : ℕ) → length all ≤ i
    → text_of_lines (phase_lines number (drop i all)) ≡ []
unfolding phase_lines
no_phase all i number past =
    at_drop_all (λ left. text_of_lines (phase_lines number left)) all i past

-- how many actors are in the phase at an index and behind it
pub actors_left : (all : List (List (List Command))) (i : ℕ) (item : List (List Command))
    → i < length all → item ≡ slice_index_or all i item
    → length (actors_in (drop i all)) ≡ length item + length (actors_in (drop (i + 1) all))
actors_left all i item inside is =
    ap (λ left. length (actors_in left)) (at_index all i item inside is)
    ∙ length-append item (actors_in (drop (i + 1) all))

-- the whole text
pub whole_text : (script : Script)
    → script_text script
    ≡ text_of_lines (head_lines script) ++ text_of_lines (phase_lines 1 script.phases)
    ++ text_of_lines (order_lines script.order)
unfolding script_text script_lines
whole_text script =
    joined (head_lines script ++ phase_lines 1 script.phases) (order_lines script.order)
    ∙ ap (λ front. front ++ text_of_lines (order_lines script.order))
    (joined (head_lines script) (phase_lines 1 script.phases))

-- five parts, put behind a text one after another
pub five_behind : (text a b c d e : List ℕ)
    → ((((text ++ a) ++ b) ++ c) ++ d) ++ e ≡ text ++ (a ++ (b ++ (c ++ (d ++ e))))
five_behind text a b c d e =
    append_assoc (((text ++ a) ++ b) ++ c) d e
    ∙ append_assoc ((text ++ a) ++ b) c (d ++ e)
    ∙ append_assoc (text ++ a) b (c ++ (d ++ e))
    ∙ append_assoc text a (b ++ (c ++ (d ++ e)))

-- the lines before the first phase, where each is behind those before it
pub head_told : (script : Script) (servers : ℕ) (start a b c d e : List ℕ)
    → servers ≡ script.servers
    → a ≡ start ++ line (codes "qfs") (codes "1" ∷ [])
    → b ≡ a ++ line (codes "layout") (decimal script.layout.s ∷ decimal script.layout.r ∷ [])
    → c ≡ b ++ line (codes "servers") (decimal servers ∷ [])
    → d ≡ c ++ text_of_lines (term_word script.term)
    → e ≡ d ++ text_of_lines (audit_word script.audit)
    → e ≡ start ++ text_of_lines (head_lines script)
head_told script count start a b c d e count_is a_is b_is c_is d_is e_is =
    let layout = line (codes "layout") (decimal script.layout.s ∷ decimal script.layout.r ∷ []) in
    let servers = line (codes "servers") (decimal script.servers ∷ []) in
    let term = text_of_lines (term_word script.term) in
    let audit = text_of_lines (audit_word script.audit) in
    e_is
    ∙ ap (λ t. t ++ audit) (d_is ∙ ap (λ t. t ++ term) (c_is
    ∙ ap (λ n. b ++ line (codes "servers") (decimal n ∷ [])) count_is
    ∙ ap (λ t. t ++ servers) (b_is ∙ ap (λ t. t ++ layout) a_is)))
    ∙ five_behind start (line (codes "qfs") (codes "1" ∷ [])) layout servers term audit
    ∙ ap (λ t. start ++ t) (sym (head_text script))
