-- What the lines of the first forms say keeps all ranges and limits of scripts.
use Rattle.std.proofs.Common.{◌≡◌, ℕ, zero, suc, ◌+◌, ◌*◌, ◌-◌, ◌%◌, ◌<◌, ◌≤◌, Bool, true, false, cond, List, [], ◌∷◌, length, get_or, refl, sym, ap, subst, arith, Option, Some, None, Result, Ok, Err, inl, inr, All}
use Rattle.std.specs.Prelude.{⊤, ◌&&◌, ◌==◌, nat_le, nat_lt, codes, decimal, ◌⊎◌, flat_map, min}
use Rattle.std.specs.Int.{div_ceil}
use Rattle.std.specs.List.{range_with_len}
use Rattle.std.specs.Str.Parse.{digits_value}
use Rattle.std.specs.Option.{option_and_then}
use Rattle.std.specs.Result.{result_ok}
use Rattle.std.specs.Str.{bytes_eq}
use Rattle.std.proofs.lemmas.Bool.{leb-true, ltb-true, and_parts}
use Rattle.std.proofs.lemmas.Grind.{div_ceil_times}
use Rattle.std.proofs.Math.Nat.{mul-le-mul_left}
use Rattle.std.proofs.lemmas.List.{append-nil}
use Rattle.std.proofs.lemmas.List.FromFn.{length-range_with_len}
use Rattle.std.proofs.lemmas.List.Sums.{sum_by-le}
use Rattle.std.proofs.lemmas.Option.{same_Some}
use Rattle.qfs_base.specs.EachLaws.{each_all, each_weaker}
use Rattle.qfs_base.specs.ListLaws.{cond_passed}
use Rattle.hex.specs.Hex.{decode_of, decode_pairs}
use Rattle.hex.specs.declared.error.FromHexError.{FromHexError}
use Rattle.hex.specs.declared.error.FromHexError.TheVariants.{OddLength}
use Rattle.qfs_base.specs.Path.{IsName, IsPath, slash}
use Rattle.qfs_base.specs.Shape.{Shape, IsStripe, IsRowCount}
use Rattle.qfs_base.specs.Table.{Each}
use Rattle.qfs_base.specs.declared.command.Command.{Command}
use Rattle.qfs_base.specs.declared.command.Command.TheVariants as Does
use Rattle.qfs_base.specs.declared.command.FileCommand.TheVariants as File
use Rattle.qfs_base.specs.declared.recipe.Form.TheVariants as Told
use Rattle.qfs_base.specs.declared.script.Script.{Script}
use Rattle.qfs_first.proofs.CommandTexts.{named}
use Rattle.qfs_model_script.specs.InScript.{IsByte, IsCommand, IsScript, len_put, lens_put, actors_of, blocks_in, chunk_bytes_of_block, chunk_bytes_in}
use Rattle.qfs_model_script.proofs.SmallPuts.{IsSmall, lens_small, length-lens}
use Rattle.qfs_first.proofs.HexBytes.{pairs_said}
use Rattle.qfs_first.specs.Commands.{is_name, one_name_path, few_bytes, hex_bytes, put_of, get_of, put_words, get_words, command_words, command_form}
use Rattle.qfs_first.specs.Head.{fixed_form, is_shape, shape_of, shape_in, layout_words, layout_form, enough_servers, servers_words, servers_form}
use Rattle.qfs_first.specs.Lines.{words_of}
use Rattle.qfs_first.specs.Numbers.{number_below}
use Rattle.qfs_first.specs.Script.{◌>>=◌, or_number, read_line, read_head, read_commands, read_lines, command_at, first_command, most_commands, script_of}

-- ---- what stands behind an answer that is there

record Passed {A B : Type 0} (first : Result A ℕ) (next : A → Result B ℕ) (value : B) : Type 0 where
  pub given : A
  pub first_is : first ≡ Ok given
  pub next_is : next given ≡ Ok value

passed : {A B : Type 0} (first : Result A ℕ) (next : A → Result B ℕ) (value : B) → (first >>= next) ≡ Ok value → Passed first next value
passed (Ok given) next value is = record { given = given; first_is = refl; next_is = is }
passed (Err number) next value is = cc

record Found {A B : Type 0} (first : Option A) (next : A → Option B) (value : B) : Type 0 where
  pub given : A
  pub first_is : first ≡ Some given
  pub next_is : next given ≡ Some value

found : {A B : Type 0} (first : Option A) (next : A → Option B) (value : B) → option_and_then next first ≡ Some value → Found first next value
found (Some given) next value is = record { given = given; first_is = refl; next_is = is }
found None next value is = cc

ok-is : {A : Type 0} (a b : A) (read : Result A ℕ) → read ≡ Ok a → read ≡ Ok b → a ≡ b
ok-is a b read first second = cc

-- a value that is there where the test holds
record Tested {A : Type 0} (test : Bool) (given : A) (value : A) : Type 0 where
  pub holds : test ≡ true
  pub value_is : given ≡ value

tested : {A : Type 0} (test : Bool) (given value : A) → cond test (Some given) None ≡ Some value → Tested test given value
tested true given value is = record { holds = refl; value_is = cc }
tested false given value is = cc

-- the answer where the test holds, which is not None
chosen : {A : Type 0} (test : Bool) (answer : Option A) (value : A) → cond test answer None ≡ Some value → answer ≡ Some value
chosen true answer value is = is
chosen false answer value is = cc

numbered : {A : Type 0} (number : ℕ) (answer : Option A) (value : A) → or_number number answer ≡ Ok value → answer ≡ Some value
numbered number (Some given) value is = cc
numbered number None value is = cc

first_of : {A B : Type 0} → Result (A × B) ℕ → Option A
first_of (Ok pair) = Some pair.0
first_of (Err number) = None

line_value : {A : Type 0} (number : ℕ) (answer : Option A) (lines : List (List ℕ)) (value : A) (left : List (List ℕ))
    → ◌>>=◌ {B = A × List (List ℕ)} (or_number number answer) (λ value. Ok (value, lines)) ≡ Ok (value, left) → answer ≡ Some value
unfolding first_of
line_value number (Some given) lines value left is = ap first_of is
line_value number None lines value left is = cc

record LineRead {A : Type 0} (form : List ℕ → Option A) (value : A) : Type 0 where
  pub line : List ℕ
  pub says : form line ≡ Some value

line_read : {A : Type 0} (number : ℕ) (form : List ℕ → Option A) (lines : List (List ℕ)) (pair : A × List (List ℕ))
    → read_line number form lines ≡ Ok pair → LineRead form pair.0
line_read number form [] pair is = cc
line_read number form (line ∷ lines) pair is =
    record { line = line; says = line_value number (form line) lines pair.0 pair.1 is }

-- ---- the head

pub record IsHead (layout : Shape) (servers : ℕ) : Type 0 where
  pub stripe : IsStripe layout.s
  pub rows : IsRowCount layout.r
  pub enough : 9 ≤ servers
  pub most : servers ≤ 64

number_bound : (bound : ℕ) (text : List ℕ) (value : ℕ) → number_below bound text ≡ Some value → nat_lt value bound ≡ true
unfolding number_below
number_bound bound text value is =
    let t = tested (nat_lt (digits_value 10 text) bound && bytes_eq (decimal (digits_value 10 text)) text) (digits_value 10 text) value is in
    subst (λ n. nat_lt n bound ≡ true) t.value_is (and_parts _ _ t.holds).0

at_most : (most n : ℕ) → nat_lt n (most + 1) ≡ true → n ≤ most
at_most most n is = let below : n < most + 1 = ltb-true _ _ is in omega arith

servers_said : (words : List (List ℕ)) (servers : ℕ) → servers_words words ≡ Some servers → (9 ≤ servers) × (servers ≤ 64)
servers_said (word ∷ count ∷ []) servers is =
    let said = chosen (bytes_eq word (codes "servers")) (option_and_then enough_servers (number_below 65 count)) servers is in
    let step = found (number_below 65 count) enough_servers servers said in
    let enough = tested (nat_le 9 step.given) step.given servers step.next_is in
    let below = number_bound 65 count step.given step.first_is in
    (subst (λ n. 9 ≤ n) enough.value_is (leb-true _ _ enough.holds), subst (λ n. n ≤ 64) enough.value_is (at_most 64 step.given below))
servers_said [] servers is = cc
servers_said (word ∷ []) servers is = cc
servers_said (word ∷ count ∷ more ∷ words) servers is = cc

layout_said : (words : List (List ℕ)) (layout : Shape) → layout_words words ≡ Some layout → IsStripe layout.s × IsRowCount layout.r
layout_said (word ∷ s ∷ r ∷ []) layout is =
    let said = chosen (bytes_eq word (codes "layout")) (shape_in s r) layout is in
    let stripe = found (number_below 65537 s) (λ stripe. option_and_then (shape_of stripe) (number_below 1025 r)) layout said in
    let rows = found (number_below 1025 r) (shape_of stripe.given) layout stripe.next_is in
    let shape = tested (is_shape stripe.given rows.given) (record { s = stripe.given; r = rows.given }) layout rows.next_is in
    let first = and_parts _ _ shape.holds in
    let second = and_parts _ _ first.0 in
    let third = and_parts _ _ second.0 in
    let fourth = and_parts _ _ third.0 in
    let P : Shape → Type 0 = λ l. IsStripe l.s × IsRowCount l.r in
    subst P shape.value_is
    ((leb-true _ _ fourth.1, leb-true _ _ third.1, fourth.0), (leb-true _ _ second.1, leb-true _ _ first.1))
layout_said [] layout is = cc
layout_said (word ∷ []) layout is = cc
layout_said (word ∷ s ∷ []) layout is = cc
layout_said (word ∷ s ∷ r ∷ more ∷ words) layout is = cc

-- ---- names and bytes

decoded : (read : Result (List ℕ) FromHexError) (bytes : List ℕ) → ((bs : List ℕ) → read ≡ Ok bs → Each IsByte bs)
    → result_ok read ≡ Some bytes → Each IsByte bytes
decoded (Ok bs) bytes of_read is = subst (Each IsByte) (same_Some _ _ is) (of_read bs refl)
decoded (Err error) bytes of_read is = cc

one_name : (name : List ℕ) → IsName name → IsPath (name ∷ [])
one_name name is = (omega arith, names)
  where
    names : All IsName (name ∷ [])
    names zero d inside = is
    names (suc k) d inside = absurd (omega arith)

path_said : (word : List ℕ) (path : List (List ℕ)) → one_name_path word ≡ Some path → IsPath path
unfolding one_name_path
path_said [] path is = cc
path_said (byte ∷ name) path is =
    let t = tested (byte == slash && is_name name) (name ∷ []) path is in
    subst IsPath t.value_is (one_name name (named name (and_parts _ _ t.holds).1))

even_or_not : (test : Bool) (digits bytes : List ℕ) → result_ok (cond test (Err OddLength) (decode_pairs 0 digits)) ≡ Some bytes → Each IsByte bytes
even_or_not true digits bytes is = cc
even_or_not false digits bytes is = decoded (decode_pairs 0 digits) bytes (pairs_said 0 digits) is

-- ---- the commands

-- a put of 1 to 32 bytes that are spelled out, or a get of a whole file
abbrev pub IsPlain : Command → Type 0
IsPlain (Does.File (File.Put path (Told.Hex bytes))) = (1 ≤ length bytes) × (length bytes ≤ 32)
IsPlain (Does.File (File.Get path None)) = ⊤
IsPlain command = ⊥

-- a command of a script with any number of servers, which puts few bytes
pub record IsFew (command : Command) : Type 0 where
  pub in_range : (servers : ℕ) → IsCommand servers command
  pub small : IsSmall 32 command
  pub plain : IsPlain command

-- 1 to 32 bytes
record AreHex (bytes : List ℕ) : Type 0 where
  pub some : 1 ≤ length bytes
  pub few : length bytes ≤ 32
  pub each : Each IsByte bytes

hex_said : (digits bytes : List ℕ) → hex_bytes digits ≡ Some bytes → AreHex bytes
unfolding hex_bytes
hex_said digits bytes is =
    let step = found (result_ok (decode_of digits)) few_bytes bytes is in
    let t = tested (nat_le 1 (length step.given) && nat_le (length step.given) 32) step.given bytes step.next_is in
    let parts = and_parts _ _ t.holds in
    subst AreHex t.value_is (record {
      some = leb-true _ _ parts.0;
      few = leb-true _ _ parts.1;
      each = even_or_not (length digits % 2 == 1) digits step.given step.first_is;
    })

put_said : (path : Option (List (List ℕ))) (bytes : Option (List ℕ)) (command : Command)
    → ((p : List (List ℕ)) → path ≡ Some p → IsPath p) → ((b : List ℕ) → bytes ≡ Some b → AreHex b)
    → put_of path bytes ≡ Some command → IsFew command
unfolding len_put
put_said (Some path) (Some bytes) command is_path are_hex is =
    let hex = are_hex bytes refl in
    subst IsFew (same_Some _ _ is) (record {
      in_range = λ servers. (is_path path refl, (hex.some, hex.few), hex.each);
      small = hex.few;
      plain = (hex.some, hex.few);
    })
put_said (Some path) None command is_path are_hex is = cc
put_said None bytes command is_path are_hex is = cc

get_said : (path : Option (List (List ℕ))) (command : Command)
    → ((p : List (List ℕ)) → path ≡ Some p → IsPath p) → get_of path ≡ Some command → IsFew command
unfolding len_put
get_said (Some path) command is_path is =
    subst IsFew (same_Some _ _ is) (record { in_range = λ servers. (is_path path refl, tt); small = tt; plain = tt })
get_said None command is_path is = cc

put_words_said : (words : List (List ℕ)) (command : Command) → put_words words ≡ Some command → IsFew command
put_words_said (path ∷ kind ∷ digits ∷ []) command is =
    put_said (one_name_path path) (hex_bytes digits) command (path_said path) (hex_said digits)
    (chosen (bytes_eq kind (codes "hex")) (put_of (one_name_path path) (hex_bytes digits)) command is)
put_words_said [] command is = cc
put_words_said (path ∷ []) command is = cc
put_words_said (path ∷ kind ∷ []) command is = cc
put_words_said (path ∷ kind ∷ digits ∷ more ∷ words) command is = cc

get_words_said : (words : List (List ℕ)) (command : Command) → get_words words ≡ Some command → IsFew command
get_words_said (path ∷ []) command is = get_said (one_name_path path) command (path_said path) is
get_words_said [] command is = cc
get_words_said (path ∷ more ∷ words) command is = cc

either_said : (put get : Bool) (put_answer get_answer : Option Command) (command : Command)
    → (put_answer ≡ Some command → IsFew command) → (get_answer ≡ Some command → IsFew command)
    → cond put put_answer (cond get get_answer None) ≡ Some command → IsFew command
either_said true get put_answer get_answer command of_put of_get is = of_put is
either_said false true put_answer get_answer command of_put of_get is = of_get is
either_said false false put_answer get_answer command of_put of_get is = cc

command_said : (words : List (List ℕ)) (command : Command) → command_words words ≡ Some command → IsFew command
command_said [] command is = cc
command_said (word ∷ words) command is =
    either_said (bytes_eq word (codes "put")) (bytes_eq word (codes "get")) (put_words words) (get_words words) command
    (put_words_said words command) (get_words_said words command) is

form_said : (line : List ℕ) (command : Command) → command_form line ≡ Some command → IsFew command
unfolding command_form
form_said line command is = command_said (words_of line) command is

-- so many commands are read at most
pub record AreFew (number : ℕ) (commands : List Command) : Type 0 where
  pub room : (length commands ≤ 0) ⊎ (number + length commands ≤ first_command + most_commands)
  pub each : Each IsFew commands

roomy : (number count : ℕ) → number < first_command + most_commands
    → (count ≤ 0) ⊎ (number + 1 + count ≤ first_command + most_commands)
    → number + suc count ≤ first_command + most_commands
roomy number count below (inl none) = omega arith
roomy number count below (inr some) = omega arith

commands_said : (number : ℕ) (lines : List (List ℕ)) (commands : List Command) → read_commands number lines ≡ Ok commands → AreFew number commands
unfolding read_commands
commands_said number [] commands is =
    subst (AreFew number) (ok-is [] commands (Ok []) refl is) (record { room = inl (omega arith); each = tt })
commands_said number (line ∷ lines) commands is =
    let first = passed (or_number number (command_at number line)) (λ command. read_commands (number + 1) lines >>= (λ commands. Ok (command ∷ commands))) commands is in
    let rest = passed (read_commands (number + 1) lines) (λ commands. Ok (first.given ∷ commands)) commands first.next_is in
    let more = commands_said (number + 1) lines rest.given rest.first_is in
    let said = numbered number (command_at number line) first.given first.first_is in
    let allowed_here = cond_passed (nat_lt number (first_command + most_commands)) (command_form line) first.given said in
    let below : number < first_command + most_commands = ltb-true _ _ allowed_here.0 in
    subst (AreFew number) (ok-is (first.given ∷ rest.given) commands (Ok (first.given ∷ rest.given)) refl rest.next_is)
    (record {
      room = inr (roomy number (length rest.given) below more.room);
      each = (form_said line first.given allowed_here.1, more.each);
    })

-- ---- the whole script

pub few_enough : (count : ℕ) → (count ≤ 0) ⊎ (first_command + count ≤ first_command + most_commands) → count ≤ 4096
few_enough count (inl none) = omega arith
few_enough count (inr some) = omega arith

-- a line that was read, and the lines behind it
abbrev Read : Type 0 → Type 0
Read A = A × List (List ℕ)

abbrev pub Head : Type 0
Head = (Shape × ℕ) × List (List ℕ)

behind_servers : Read Shape → Read ℕ → Result Head ℕ
behind_servers layout servers =
    read_line 4 (fixed_form (codes "phase")) servers.1 >>= (λ phase.
    read_line 5 (fixed_form (codes "actor 1")) phase.1 >>= (λ actor.
    Ok ((layout.0, servers.0), actor.1)))

behind_layout : Read Shape → Result Head ℕ
behind_layout layout = read_line 3 servers_form layout.1 >>= behind_servers layout

behind_first : Read (Unit {0}) → Result Head ℕ
behind_first first = read_line 2 layout_form first.1 >>= behind_layout

numbers_said : (layout : Read Shape) (servers : Read ℕ) (head : Head) → behind_servers layout servers ≡ Ok head → head.0 ≡ (layout.0, servers.0)
unfolding behind_servers
numbers_said layout servers head is =
    let phase = passed (read_line 4 (fixed_form (codes "phase")) servers.1) (λ phase. read_line 5 (fixed_form (codes "actor 1")) phase.1 >>= (λ actor. Ok ((layout.0, servers.0), actor.1))) head is in
    let actor = passed (read_line 5 (fixed_form (codes "actor 1")) phase.given.1) (λ actor. Ok ((layout.0, servers.0), actor.1)) head phase.next_is in
    ap (λ (h : Head). h.0) (sym (ok-is ((layout.0, servers.0), actor.given.1) head (Ok ((layout.0, servers.0), actor.given.1)) refl actor.next_is))

head_said : (lines : List (List ℕ)) (head : Head) → read_head lines ≡ Ok head → IsHead head.0.0 head.0.1
unfolding read_head behind_first behind_layout behind_servers layout_form servers_form
head_said lines head is =
    let first = passed (read_line 1 (fixed_form (codes "qfs 1")) lines) behind_first head is in
    let layout = passed (read_line 2 layout_form first.given.1) behind_layout head first.next_is in
    let servers = passed (read_line 3 servers_form layout.given.1) (behind_servers layout.given) head layout.next_is in
    let shape_line = line_read 2 layout_form first.given.1 layout.given layout.first_is in
    let count_line = line_read 3 servers_form layout.given.1 servers.given servers.first_is in
    let shape = layout_said (words_of shape_line.line) layout.given.0 shape_line.says in
    let count = servers_said (words_of count_line.line) servers.given.0 count_line.says in
    let P : Shape × ℕ → Type 0 = λ h. IsHead h.0 h.1 in
    subst P (sym (numbers_said layout.given servers.given head servers.next_is))
    (record { stripe = shape.0; rows = shape.1; enough = count.0; most = count.1 })

-- what few bytes come to: at most one row of one block
one_at_most : (part whole : ℕ) → 0 < whole → part ≤ whole → div_ceil part whole ≤ 1
one_at_most part whole some most = grind (arith, div_ceil_times)

module _ (layout : Shape) (stripe : IsStripe layout.s) (rows : IsRowCount layout.r) where
  whole : 96 ≤ 6 * layout.s * layout.r
  whole = omega (arith, mul-le-mul_left (6 * layout.s) rows.0)

  one_block : (len : ℕ) → len ≤ 32 → blocks_in layout len ≤ 1
  one_block len most = one_at_most len (6 * layout.s * layout.r) (omega (arith, whole)) (omega (arith, whole))

  few_bytes_of_block : (len index : ℕ) → len ≤ 32 → chunk_bytes_of_block layout len index ≤ 589824
  few_bytes_of_block len index most =
      let part : ℕ = min (len - index * (6 * layout.s * layout.r)) (6 * layout.s * layout.r) in
      let one : div_ceil part (6 * layout.s) ≤ 1 = one_at_most part (6 * layout.s) (omega arith) (omega arith) in
      let times : div_ceil part (6 * layout.s) * layout.s ≤ 1 * layout.s = grind (arith, one) in
      omega (arith, times)

  few_bytes_of_put : (len : ℕ) → len ≤ 32 → chunk_bytes_in layout len ≤ 589824
  few_bytes_of_put len most =
      let block = chunk_bytes_of_block layout len in
      let blocks = blocks_in layout len in
      let each : All (λ index. block index ≤ 589824) (range_with_len 0 blocks) = λ k d inside. few_bytes_of_block len (get_or (range_with_len 0 blocks) k d) most in
      omega (arith, one_block len most, sum_by-le block 589824 (range_with_len 0 blocks) each, length-range_with_len 0 blocks)

module _ (head : Head) (commands : List Command) (is : IsHead head.0.0 head.0.1) (are : AreFew first_command commands) where
  said : Script
  said = script_of head.0.0 head.0.1 commands

  alone : List Command
  alone = flat_map (λ commands. commands) (actors_of said)

  same : alone ≡ commands
  unfolding alone said
  same = append-nil commands

  small : Each (λ len. len ≤ 32) (lens_put said)
  unfolding alone said
  small = lens_small 32 alone (subst (Each (IsSmall 32)) (sym same) (each_weaker IsFew (IsSmall 32) (λ command few. few.small) commands are.each))

  few_puts : length (lens_put said) ≤ 4096
  unfolding alone said
  few_puts = omega (arith, length-lens alone, ap length same, few_enough (length commands) are.room)

  script_said : IsScript (script_of head.0.0 head.0.1 commands)
  unfolding alone said
  script_said =
      let layout = head.0.0 in
      let all_small = each_all (λ len. len ≤ 32) (lens_put said) small in
      let one = one_block layout is.stripe is.rows in
      let few = few_bytes_of_put layout is.stripe is.rows in
      record {
        stripe = is.stripe;
        rows = is.rows;
        servers = (omega (arith, is.enough), is.most);
        term = omega arith;
        phases = (omega arith, omega arith);
        few_actors = omega arith;
        few_commands = (few_enough (length commands) are.room, tt);
        commands = (each_weaker IsFew (IsCommand head.0.1) (λ command few. few.in_range head.0.1) commands are.each, tt);
        blocks_of_put = each_weaker (λ len. len ≤ 32) (λ len. blocks_in layout len ≤ 65536) (λ len most. omega (arith, one len most)) (lens_put said) small;
        blocks = omega (arith, few_puts, sum_by-le (blocks_in layout) 1 (lens_put said) (λ k d inside. one _ (all_small k d inside)));
        chunk_bytes = omega (arith, few_puts, sum_by-le (chunk_bytes_in layout) 589824 (lens_put said) (λ k d inside. few _ (all_small k d inside)));
        order = tt;
      }

-- what lines say: a head and commands
pub record IsSaidScript (script : Script) : Type 0 where
  pub head : Head
  pub commands : List Command
  pub head_is : IsHead head.0.0 head.0.1
  pub are : AreFew first_command commands
  pub script_is : script_of head.0.0 head.0.1 commands ≡ script

pub read_script_says : (lines : List (List ℕ)) (script : Script) → read_lines lines ≡ Ok script → IsSaidScript script
unfolding read_lines
read_script_says lines script is =
    let head = passed (read_head lines) (λ head. read_commands first_command head.1 >>= (λ commands. Ok (script_of head.0.0 head.0.1 commands))) script is in
    let commands = passed (read_commands first_command head.given.1) (λ commands. Ok (script_of head.given.0.0 head.given.0.1 commands)) script head.next_is in
    let made = script_of head.given.0.0 head.given.0.1 commands.given in
    record {
      head = head.given;
      commands = commands.given;
      head_is = head_said lines head.given head.first_is;
      are = commands_said first_command head.given.1 commands.given commands.first_is;
      script_is = ok-is made script (Ok made) refl commands.next_is;
    }

-- what is read is a script
pub read_script_is : (lines : List (List ℕ)) (script : Script) → read_lines lines ≡ Ok script → IsScript script
read_script_is lines script is =
    let said = read_script_says lines script is in
    subst IsScript said.script_is (script_said said.head said.commands said.head_is said.are)
