-- The line of each command as it is printed, and that it is read back. For the law
-- `printed_scripts_are_read_back`.
use Rattle.std.proofs.Common.{◌≡◌, ◌∙◌, ap, refl, arith, ℕ, ◌-◌, ◌<◌, ◌≤◌, ◌^◌, false, List, [], ◌∷◌, Some, None, Ok}
use Rattle.std.specs.Prelude.{decimal, codes, slice_index}
use Rattle.hex.specs.Hex.{encode_lower}
use Rattle.qfs_base.specs.NameTree.{PathNames}
use Rattle.qfs_base.specs.Path.{IsPath, path_text}
use Rattle.qfs_base.specs.Recipe.{IsRecipe}
use Rattle.qfs_base.specs.Sizes.{SLOTS, MOST_FILE_BYTES, LAST_U32}
use Rattle.qfs_base.specs.Table.{Each}
use Rattle.qfs_base.specs.declared.command.Command.{Command}
use Rattle.qfs_base.specs.declared.command.Command.TheVariants as Does
use Rattle.qfs_base.specs.declared.command.FileCommand.{FileCommand}
use Rattle.qfs_base.specs.declared.command.FileCommand.TheVariants as File
use Rattle.qfs_base.specs.declared.command.Range.{Range}
use Rattle.qfs_base.specs.declared.recipe.Form.{Form}
use Rattle.qfs_base.specs.declared.recipe.Form.TheVariants as Told
use Rattle.qfs_model_script.specs.InScript.{IsCommand, IsFileCommand, IsRange, HasBytes, IsIndex, IsSlot, IsFromOne, IsBudget, IsTicks, IsActorNumber}
use Rattle.qfs_model_script.specs.Limits.{MOST_ACTORS, LAST_INDEX, MOST_BUDGET, MOST_TICKS}
use Rattle.qfs_model_script.specs.ScriptText.{recipe_words, range_words, file_command_line, command_line}
use Rattle.qfs_model_text.specs.Line.{Words, line}
use Rattle.qfs_model_grammar.specs.CommandLines.{index_in, slot_in, server_in, budget_in, len_in, path_command, bare_command, budget_command, server_command, rename_command, get_whole, get_range, get_command, hex_put, fill_put, pattern_put, put_command, recover_command, move_command, evacuate_command, hibernate_command, drop_command, command_of}
use Rattle.qfs_model_grammar.specs.CommandWord.{CommandWord}
use Rattle.qfs_model_grammar.specs.CommandWord as Word
use Rattle.qfs_model_grammar.specs.Counts.{no_word, one_word, two_words, three_words, four_words}
use Rattle.qfs_model_grammar.specs.FirstWord.{FirstWord}
use Rattle.qfs_model_grammar.specs.FirstWord as First
use Rattle.qfs_model_grammar.specs.FirstWords.{first_word}
use Rattle.qfs_model_grammar.specs.Kinds.{number_in, path_in, bytes_in}
use Rattle.qfs_model_grammar.specs.Lines.{begins_remark}
use Rattle.qfs_model_grammar.specs.Said.{Said, ◌>>=◌}
use Rattle.qfs_laws_grammar.proofs.PlainWords.{IsPlain, plain}
use Rattle.qfs_laws_grammar.proofs.PrintedWords.{plain_number, number_back, plain_path, path_back, plain_hex, bytes_back}

-- the second step, behind a first one that gave a value
pub on : {A B : Type 0} (read : Said A) (value : A) (next : A → Said B) → read ≡ Ok value
    → (read >>= next) ≡ next value
on read value next is = ap (λ (r : Said _). r >>= next) is

-- a first word as it is written, which begins no remark
pub record Spells (word : List ℕ) (meant : FirstWord) : Type 0 where
  pub plain : IsPlain word
  pub first : first_word word ≡ Some meant
  pub no_remark : begins_remark word ≡ false

-- the line of a command, and what is read of it
pub record Tells (servers : ℕ) (command : Command) (text : List ℕ) : Type 0 where
  pub word : List ℕ
  pub words : Words
  pub kind : CommandWord
  pub is : text ≡ line word words
  pub spelled : Spells word (First.Command kind)
  pub plain : Each IsPlain words
  pub says : command_of servers kind words ≡ Ok command

small : (last n : ℕ) → n ≤ last → last < 2 ^ 64 → n < 2 ^ 64
small last n most fits = omega (arith, most, fits)

plain_to : (last n : ℕ) → n ≤ last → last < 2 ^ 64 → IsPlain (decimal n)
plain_to last n most fits = plain_number n (small last n most fits)

-- ---- words of ranges

index_back : (index : ℕ) → IsIndex index → index_in (decimal index) ≡ Ok index
unfolding index_in
index_back index is = number_back 0 LAST_INDEX index (omega (arith, is)) (omega arith) is

slot_back : (slot : ℕ) → IsSlot slot → slot_in (decimal slot) ≡ Ok slot
unfolding slot_in
slot_back slot is = number_back 0 (SLOTS - 1) slot (omega (arith, is)) (omega arith)
    (omega (arith, is))

server_back : (servers server : ℕ) → servers < 2 ^ 64 → IsFromOne servers server
    → server_in servers (decimal server) ≡ Ok server
unfolding server_in
server_back servers server fits is = number_back 1 servers server (omega (arith, is.1, fits)) is.0
    is.1

budget_back : (budget : ℕ) → IsBudget budget → budget_in (decimal budget) ≡ Ok budget
unfolding budget_in
budget_back budget is = number_back 1 MOST_BUDGET budget (omega (arith, is.1)) is.0 is.1

len_back : (len : ℕ) → len ≤ MOST_FILE_BYTES → len_in (decimal len) ≡ Ok len
unfolding len_in
len_back len is = number_back 0 MOST_FILE_BYTES len (omega (arith, is)) (omega arith) is

-- ---- kinds of commands

path_says : (command : PathNames → Command) (path : PathNames) → IsPath path
    → path_command command (path_text path ∷ []) ≡ Ok (command path)
unfolding path_command one_word
path_says command path is = on (path_in (path_text path)) path (λ path. Ok (command path))
    (path_back path is)

budget_says : (command : ℕ → Command) (budget : ℕ) → IsBudget budget
    → budget_command command (decimal budget ∷ []) ≡ Ok (command budget)
unfolding budget_command one_word
budget_says command budget is = on (budget_in (decimal budget)) budget
    (λ budget. Ok (command budget)) (budget_back budget is)

server_says : (servers : ℕ) (command : ℕ → Command) (server : ℕ) → servers < 2 ^ 64
    → IsFromOne servers server
    → server_command servers command (decimal server ∷ []) ≡ Ok (command server)
unfolding server_command one_word
server_says servers command server fits is =
    on (server_in servers (decimal server)) server (λ server. Ok (command server))
    (server_back servers server fits is)

rename_says : (from to : PathNames) → IsPath from → IsPath to
    → rename_command (path_text from ∷ path_text to ∷ []) ≡ Ok (Does.File (File.Rename from to))
unfolding rename_command two_words
rename_says from to is_from is_to =
    on (path_in (path_text from)) from
    (λ from. path_in (path_text to) >>= (λ to. Ok (Does.File (File.Rename from to))))
    (path_back from is_from)
    ∙ on (path_in (path_text to)) to (λ to. Ok (Does.File (File.Rename from to)))
    (path_back to is_to)

whole_says : (path : PathNames) → IsPath path
    → get_command (path_text path ∷ []) ≡ Ok (Does.File (File.Get path None))
unfolding get_command get_whole
whole_says path is = on (path_in (path_text path)) path
    (λ path. Ok (Does.File (File.Get path None))) (path_back path is)

range_says : (path : PathNames) (range : Range) → IsPath path → IsRange range
    → get_command (path_text path ∷ decimal range.from ∷ decimal range.count ∷ [])
    ≡ Ok (Does.File (File.Get path (Some range)))
unfolding get_command get_range
range_says path range is within =
    let last = λ (path : PathNames) (from count : ℕ). Ok
    (Does.File (File.Get path (Some (record { from = from; count = count })))) in
    on (path_in (path_text path)) path
    (λ path. len_in (decimal range.from) >>=
    (λ from. len_in (decimal range.count) >>= (λ count. last path from count)))
    (path_back path is)
    ∙ on (len_in (decimal range.from)) range.from
    (λ from. len_in (decimal range.count) >>= (λ count. last path from count))
    (len_back range.from within.0)
    ∙ on (len_in (decimal range.count)) range.count (λ count. last path range.from count)
    (len_back range.count within.1)

put_says : (path : PathNames) (recipe : Form) → IsPath path → IsRecipe recipe → HasBytes recipe
    → put_command (path_text path ∷ recipe_words recipe) ≡ Ok (Does.File (File.Put path recipe))
unfolding put_command recipe_words hex_put fill_put pattern_put one_word two_words
put_says path (Told.Hex bytes) is few are =
    on (path_in (path_text path)) path (λ path. bytes_in 1 32 (encode_lower bytes) >>=
    (λ bytes. Ok (Does.File (File.Put path (Told.Hex bytes))))) (path_back path is)
    ∙ on (bytes_in 1 32 (encode_lower bytes)) bytes
    (λ bytes. Ok (Does.File (File.Put path (Told.Hex bytes))))
    (bytes_back 1 32 bytes are few.0 few.1)
put_says path (Told.Fill byte len) is few are =
    let last = λ (path : PathNames) (bytes : List ℕ) (len : ℕ). Ok
    (Does.File (File.Put path (Told.Fill (slice_index bytes 0) len))) in
    on (path_in (path_text path)) path (λ path. bytes_in 1 1 (encode_lower (byte ∷ [])) >>=
    (λ bytes. len_in (decimal len) >>= (λ len. last path bytes len))) (path_back path is)
    ∙ on (bytes_in 1 1 (encode_lower (byte ∷ []))) (byte ∷ [])
    (λ bytes. len_in (decimal len) >>= (λ len. last path bytes len))
    (bytes_back 1 1 (byte ∷ []) (are, tt) (omega arith) (omega arith))
    ∙ on (len_in (decimal len)) len (λ len. last path (byte ∷ []) len) (len_back len few)
put_says path (Told.Pattern start len) is few are =
    let last = λ (path : PathNames) (start len : ℕ). Ok
    (Does.File (File.Put path (Told.Pattern start len))) in
    on (path_in (path_text path)) path (λ path. number_in 0 LAST_U32 (decimal start) >>=
    (λ start. len_in (decimal len) >>= (λ len. last path start len))) (path_back path is)
    ∙ on (number_in 0 LAST_U32 (decimal start)) start
    (λ start. len_in (decimal len) >>= (λ len. last path start len))
    (number_back 0 LAST_U32 start (omega (arith, are)) (omega arith) (omega (arith, are)))
    ∙ on (len_in (decimal len)) len (λ len. last path start len) (len_back len few)

recover_says : (path : PathNames) (index slot : ℕ) → IsPath path → IsIndex index → IsSlot slot
    → recover_command (path_text path ∷ decimal index ∷ decimal slot ∷ [])
    ≡ Ok (Does.Recover path index slot)
unfolding recover_command three_words
recover_says path index slot is low few =
    on (path_in (path_text path)) path
    (λ path. index_in (decimal index) >>=
    (λ index. slot_in (decimal slot) >>= (λ slot. Ok (Does.Recover path index slot))))
    (path_back path is)
    ∙ on (index_in (decimal index)) index
    (λ index. slot_in (decimal slot) >>= (λ slot. Ok (Does.Recover path index slot)))
    (index_back index low)
    ∙ on (slot_in (decimal slot)) slot (λ slot. Ok (Does.Recover path index slot))
    (slot_back slot few)

move_says : (servers : ℕ) (path : PathNames) (index slot server : ℕ) → servers < 2 ^ 64
    → IsPath path → IsIndex index → IsSlot slot → IsFromOne servers server
    → move_command servers (path_text path ∷ decimal index ∷ decimal slot ∷ decimal server ∷ [])
    ≡ Ok (Does.Move path index slot server)
unfolding move_command four_words
move_says servers path index slot server fits is low few there =
    let last = λ (path : PathNames) (index slot server : ℕ). Ok (Does.Move path index slot server)
    in
    on (path_in (path_text path)) path
    (λ path. index_in (decimal index) >>=
    (λ index. slot_in (decimal slot) >>= (λ slot. server_in servers (decimal server) >>=
    (λ server. last path index slot server)))) (path_back path is)
    ∙ on (index_in (decimal index)) index
    (λ index. slot_in (decimal slot) >>= (λ slot. server_in servers (decimal server) >>=
    (λ server. last path index slot server))) (index_back index low)
    ∙ on (slot_in (decimal slot)) slot (λ slot. server_in servers (decimal server) >>=
    (λ server. last path index slot server)) (slot_back slot few)
    ∙ on (server_in servers (decimal server)) server (λ server. last path index slot server)
    (server_back servers server fits there)

evacuate_says : (servers server budget : ℕ) → servers < 2 ^ 64 → IsFromOne servers server
    → IsBudget budget
    → evacuate_command servers (decimal server ∷ decimal budget ∷ [])
    ≡ Ok (Does.Evacuate server budget)
unfolding evacuate_command two_words
evacuate_says servers server budget fits there few =
    on (server_in servers (decimal server)) server
    (λ server. budget_in (decimal budget) >>= (λ budget. Ok (Does.Evacuate server budget)))
    (server_back servers server fits there)
    ∙ on (budget_in (decimal budget)) budget (λ budget. Ok (Does.Evacuate server budget))
    (budget_back budget few)

hibernate_says : (servers server ticks : ℕ) → servers < 2 ^ 64 → IsFromOne servers server
    → IsTicks ticks
    → hibernate_command servers (decimal server ∷ decimal ticks ∷ [])
    ≡ Ok (Does.Hibernate server ticks)
unfolding hibernate_command two_words
hibernate_says servers server ticks fits there few =
    on (server_in servers (decimal server)) server
    (λ server. number_in 1 MOST_TICKS (decimal ticks) >>=
    (λ ticks. Ok (Does.Hibernate server ticks))) (server_back servers server fits there)
    ∙ on (number_in 1 MOST_TICKS (decimal ticks)) ticks (λ ticks. Ok (Does.Hibernate server ticks))
    (number_back 1 MOST_TICKS ticks (omega (arith, few.1)) few.0 few.1)

drop_says : (actor : ℕ) → IsActorNumber actor
    → drop_command (decimal actor ∷ []) ≡ Ok (Does.Drop actor)
unfolding drop_command one_word
drop_says actor is =
    on (number_in 1 MOST_ACTORS (decimal actor)) actor (λ actor. Ok (Does.Drop actor))
    (number_back 1 MOST_ACTORS actor (omega (arith, is.1)) is.0 is.1)

bare_says : (command : Command) → bare_command command [] ≡ Ok command
unfolding bare_command no_word
bare_says command = refl

-- ---- the words behind a put's and a get's path

plain_recipe : (recipe : Form) → IsRecipe recipe → HasBytes recipe
    → Each IsPlain (recipe_words recipe)
unfolding recipe_words
plain_recipe (Told.Hex bytes) few are = (plain (codes "hex") refl, (plain_hex bytes few.0 are, tt))
plain_recipe (Told.Fill byte len) few are = (
  plain (codes "fill") refl,
  (
    plain_hex (byte ∷ []) (omega arith) (are, tt),
    (plain_to MOST_FILE_BYTES len few (omega arith), tt),
  ),
)
plain_recipe (Told.Pattern start len) few are = (
  plain (codes "pattern") refl,
  (
    plain_number start (omega (arith, are)),
    (plain_to MOST_FILE_BYTES len few (omega arith), tt),
  ),
)

-- ---- each command

spelled : (word : List ℕ) (first : FirstWord) → IsPlain word → first_word word ≡ Some first
    → begins_remark word ≡ false → Spells word first
spelled word first is found no_remark = record { plain = is; first = found; no_remark = no_remark }

file_told : (servers : ℕ) (command : FileCommand) → IsFileCommand command
    → Tells servers (Does.File command) (file_command_line command)
unfolding file_command_line range_words command_of first_word begins_remark
file_told servers (File.Mkdir path) is = record {
  word = codes "mkdir";
  words = path_text path ∷ [];
  kind = Word.Mkdir;
  is = refl;
  spelled = spelled (codes "mkdir") (First.Command Word.Mkdir) (plain (codes "mkdir") refl) refl
      refl;
  plain = (plain_path path is, tt);
  says = path_says (λ path. Does.File (File.Mkdir path)) path is;
}
file_told servers (File.Rmdir path) is = record {
  word = codes "rmdir";
  words = path_text path ∷ [];
  kind = Word.Rmdir;
  is = refl;
  spelled = spelled (codes "rmdir") (First.Command Word.Rmdir) (plain (codes "rmdir") refl) refl
      refl;
  plain = (plain_path path is, tt);
  says = path_says (λ path. Does.File (File.Rmdir path)) path is;
}
file_told servers (File.Remove path) is = record {
  word = codes "remove";
  words = path_text path ∷ [];
  kind = Word.Remove;
  is = refl;
  spelled = spelled (codes "remove") (First.Command Word.Remove) (plain (codes "remove") refl) refl
      refl;
  plain = (plain_path path is, tt);
  says = path_says (λ path. Does.File (File.Remove path)) path is;
}
file_told servers (File.Rename from to) is = record {
  word = codes "rename";
  words = path_text from ∷ path_text to ∷ [];
  kind = Word.Rename;
  is = refl;
  spelled = spelled (codes "rename") (First.Command Word.Rename) (plain (codes "rename") refl) refl
      refl;
  plain = (plain_path from is.0, (plain_path to is.1, tt));
  says = rename_says from to is.0 is.1;
}
file_told servers (File.List path) is = record {
  word = codes "list";
  words = path_text path ∷ [];
  kind = Word.List;
  is = refl;
  spelled = spelled (codes "list") (First.Command Word.List) (plain (codes "list") refl) refl refl;
  plain = (plain_path path is, tt);
  says = path_says (λ path. Does.File (File.List path)) path is;
}
file_told servers (File.Put path recipe) is = record {
  word = codes "put";
  words = path_text path ∷ recipe_words recipe;
  kind = Word.Put;
  is = refl;
  spelled = spelled (codes "put") (First.Command Word.Put) (plain (codes "put") refl) refl refl;
  plain = (plain_path path is.0, plain_recipe recipe is.1 is.2);
  says = put_says path recipe is.0 is.1 is.2;
}
file_told servers (File.Get path None) is = record {
  word = codes "get";
  words = path_text path ∷ [];
  kind = Word.Get;
  is = refl;
  spelled = spelled (codes "get") (First.Command Word.Get) (plain (codes "get") refl) refl refl;
  plain = (plain_path path is.0, tt);
  says = whole_says path is.0;
}
file_told servers (File.Get path (Some range)) is = record {
  word = codes "get";
  words = path_text path ∷ decimal range.from ∷ decimal range.count ∷ [];
  kind = Word.Get;
  is = refl;
  spelled = spelled (codes "get") (First.Command Word.Get) (plain (codes "get") refl) refl refl;
  plain = (
    plain_path path is.0,
    (
      plain_to MOST_FILE_BYTES range.from is.1.0 (omega arith),
      (plain_to MOST_FILE_BYTES range.count is.1.1 (omega arith), tt),
    ),
  );
  says = range_says path range is.0 is.1;
}

-- the commands of a script with so many servers
module _ (servers : ℕ) (fits : servers < 2 ^ 64) where
  plain_server : (server : ℕ) → IsFromOne servers server → IsPlain (decimal server)
  plain_server server is = plain_to servers server is.1 fits

  plain_budget : (budget : ℕ) → IsBudget budget → IsPlain (decimal budget)
  plain_budget budget is = plain_to MOST_BUDGET budget is.1 (omega arith)

  plain_slot : (slot : ℕ) → IsSlot slot → IsPlain (decimal slot)
  plain_slot slot is = plain_number slot (omega (arith, is))

  pub command_told : (command : Command) → IsCommand servers command
      → Tells servers command (command_line command)
  unfolding command_line command_of first_word begins_remark
  command_told (Does.File command) is = file_told servers command is
  command_told (Does.Recover path index slot) is = record {
    word = codes "recover";
    words = path_text path ∷ decimal index ∷ decimal slot ∷ [];
    kind = Word.Recover;
    is = refl;
    spelled = spelled (codes "recover") (First.Command Word.Recover) (plain (codes "recover") refl)
        refl refl;
    plain = (
      plain_path path is.0,
      (plain_to LAST_INDEX index is.1 (omega arith), (plain_slot slot is.2, tt)),
    );
    says = recover_says path index slot is.0 is.1 is.2;
  }
  command_told (Does.Move path index slot server) is = record {
    word = codes "move";
    words = path_text path ∷ decimal index ∷ decimal slot ∷ decimal server ∷ [];
    kind = Word.Move;
    is = refl;
    spelled = spelled (codes "move") (First.Command Word.Move) (plain (codes "move") refl) refl
        refl;
    plain = (
      plain_path path is.0,
      (
        plain_to LAST_INDEX index is.1 (omega arith),
        (plain_slot slot is.2, (plain_server server is.3, tt)),
      ),
    );
    says = move_says servers path index slot server fits is.0 is.1 is.2 is.3;
  }
  command_told (Does.Heal budget) is = record {
    word = codes "heal";
    words = decimal budget ∷ [];
    kind = Word.Heal;
    is = refl;
    spelled = spelled (codes "heal") (First.Command Word.Heal) (plain (codes "heal") refl) refl
        refl;
    plain = (plain_budget budget is, tt);
    says = budget_says (λ budget. Does.Heal budget) budget is;
  }
  command_told (Does.Rebalance budget) is = record {
    word = codes "rebalance";
    words = decimal budget ∷ [];
    kind = Word.Rebalance;
    is = refl;
    spelled = spelled (codes "rebalance") (First.Command Word.Rebalance)
        (plain (codes "rebalance") refl) refl refl;
    plain = (plain_budget budget is, tt);
    says = budget_says (λ budget. Does.Rebalance budget) budget is;
  }
  command_told (Does.Evacuate server budget) is = record {
    word = codes "evacuate";
    words = decimal server ∷ decimal budget ∷ [];
    kind = Word.Evacuate;
    is = refl;
    spelled = spelled (codes "evacuate") (First.Command Word.Evacuate)
        (plain (codes "evacuate") refl) refl refl;
    plain = (plain_server server is.0, (plain_budget budget is.1, tt));
    says = evacuate_says servers server budget fits is.0 is.1;
  }
  command_told (Does.Sweep budget) is = record {
    word = codes "sweep";
    words = decimal budget ∷ [];
    kind = Word.Sweep;
    is = refl;
    spelled = spelled (codes "sweep") (First.Command Word.Sweep) (plain (codes "sweep") refl) refl
        refl;
    plain = (plain_budget budget is, tt);
    says = budget_says (λ budget. Does.Sweep budget) budget is;
  }
  command_told (Does.Stop server) is = record {
    word = codes "stop";
    words = decimal server ∷ [];
    kind = Word.Stop;
    is = refl;
    spelled = spelled (codes "stop") (First.Command Word.Stop) (plain (codes "stop") refl) refl
        refl;
    plain = (plain_server server is, tt);
    says = server_says servers (λ server. Does.Stop server) server fits is;
  }
  command_told (Does.Start server) is = record {
    word = codes "start";
    words = decimal server ∷ [];
    kind = Word.Start;
    is = refl;
    spelled = spelled (codes "start") (First.Command Word.Start) (plain (codes "start") refl) refl
        refl;
    plain = (plain_server server is, tt);
    says = server_says servers (λ server. Does.Start server) server fits is;
  }
  command_told (Does.Wipe server) is = record {
    word = codes "wipe";
    words = decimal server ∷ [];
    kind = Word.Wipe;
    is = refl;
    spelled = spelled (codes "wipe") (First.Command Word.Wipe) (plain (codes "wipe") refl) refl
        refl;
    plain = (plain_server server is, tt);
    says = server_says servers (λ server. Does.Wipe server) server fits is;
  }
  command_told (Does.Hibernate server ticks) is = record {
    word = codes "hibernate";
    words = decimal server ∷ decimal ticks ∷ [];
    kind = Word.Hibernate;
    is = refl;
    spelled = spelled (codes "hibernate") (First.Command Word.Hibernate)
        (plain (codes "hibernate") refl) refl refl;
    plain = (plain_server server is.0, (plain_to MOST_TICKS ticks is.1.1 (omega arith), tt));
    says = hibernate_says servers server ticks fits is.0 is.1;
  }
  command_told (Does.Upgrade server) is = record {
    word = codes "upgrade";
    words = decimal server ∷ [];
    kind = Word.Upgrade;
    is = refl;
    spelled = spelled (codes "upgrade") (First.Command Word.Upgrade) (plain (codes "upgrade") refl)
        refl refl;
    plain = (plain_server server is, tt);
    says = server_says servers (λ server. Does.Upgrade server) server fits is;
  }
  command_told Does.Tick is = record {
    word = codes "tick";
    words = [];
    kind = Word.Tick;
    is = refl;
    spelled = spelled (codes "tick") (First.Command Word.Tick) (plain (codes "tick") refl) refl
        refl;
    plain = tt;
    says = bare_says Does.Tick;
  }
  command_told (Does.Drop actor) is = record {
    word = codes "drop";
    words = decimal actor ∷ [];
    kind = Word.Drop;
    is = refl;
    spelled = spelled (codes "drop") (First.Command Word.Drop) (plain (codes "drop") refl) refl
        refl;
    plain = (plain_to MOST_ACTORS actor is.1 (omega arith), tt);
    says = drop_says actor is;
  }
  command_told Does.Checkpoint is = record {
    word = codes "checkpoint";
    words = [];
    kind = Word.Checkpoint;
    is = refl;
    spelled = spelled (codes "checkpoint") (First.Command Word.Checkpoint)
        (plain (codes "checkpoint") refl) refl refl;
    plain = tt;
    says = bare_says Does.Checkpoint;
  }
  command_told Does.Restart is = record {
    word = codes "restart";
    words = [];
    kind = Word.Restart;
    is = refl;
    spelled = spelled (codes "restart") (First.Command Word.Restart) (plain (codes "restart") refl)
        refl refl;
    plain = tt;
    says = bare_says Does.Restart;
  }
