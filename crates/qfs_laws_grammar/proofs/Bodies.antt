-- How much the actors of a script ask for, with an actor more and with a command more. For both
-- laws.
use Rattle.std.proofs.Common.{◌≡◌, ◌⊎◌, ◌∙◌, inl, inr, sym, ap, refl, subst, arith, ℕ, ◌+◌, ◌<◌, ◌≤◌, List, [], ◌∷◌, ◌++◌, length, Some, None, append_assoc, append-nil, length-append}
use Rattle.std.specs.Prelude.{flat_map, filter_map, sum_by}
use Rattle.std.specs.List.{range_with_len, cons_option}
use Rattle.std.proofs.lemmas.List.{length-replicate}
use Rattle.std.proofs.lemmas.List.Elements.{filter_map-append}
use Rattle.std.proofs.lemmas.List.FromFn.{length-map-range_with_len}
use Rattle.std.proofs.lemmas.List.Sums.{sum_by-append}
use Rattle.qfs_base.specs.EachLaws.{each_append}
use Rattle.qfs_base.specs.Layout.{block_bytes}
use Rattle.qfs_base.specs.Recipe.{bytes_of, pattern_byte}
use Rattle.qfs_base.specs.Shape.{Shape}
use Rattle.qfs_base.specs.Table.{Each}
use Rattle.qfs_base.specs.declared.command.Command.{Command}
use Rattle.qfs_base.specs.declared.command.Command.TheVariants as Does
use Rattle.qfs_base.specs.declared.command.FileCommand.TheVariants as File
use Rattle.qfs_base.specs.declared.recipe.Form.{Form}
use Rattle.qfs_base.specs.declared.recipe.Form.TheVariants as Told
use Rattle.qfs_model_script.specs.InScript.{IsCommand, len_put, blocks_in, chunk_bytes_in, chunk_bytes_of_block}
use Rattle.qfs_model_script.specs.Limits.{MOST_ACTORS, MOST_COMMANDS, MOST_BLOCKS_OF_PUT, MOST_BLOCKS, MOST_BYTES_OF_CHUNKS}
use Rattle.qfs_model_grammar.specs.SoFar.{recipe_len, put_len, chunk_bytes_of}
use Rattle.qfs_laws_grammar.proofs.ChunkBytes.{same_bytes, no_rows}
use Rattle.qfs_laws_grammar.proofs.Lists.{each_front, each_back, flat_push}

-- the lengths of the puts of some actors
abbrev pub puts_in : List (List Command) → List ℕ
puts_in actors = filter_map len_put (flat_map (λ commands. commands) actors)

-- actors that keep all ranges and limits, with the counts of what the limits are on
pub record Body (layout : Shape) (servers : ℕ) (actors : List (List Command))
    (count blocks bytes : ℕ) : Type 0 where
  pub counted : length actors ≡ count
  pub few : count ≤ MOST_ACTORS
  pub few_commands : Each (λ commands. length commands ≤ MOST_COMMANDS) actors
  pub commands : Each (Each (IsCommand servers)) actors
  pub blocks_of_put : Each (λ len. blocks_in layout len ≤ MOST_BLOCKS_OF_PUT) (puts_in actors)
  pub blocks_are : sum_by (blocks_in layout) (puts_in actors) ≡ blocks
  pub few_blocks : blocks ≤ MOST_BLOCKS
  pub bytes_are : sum_by (chunk_bytes_in layout) (puts_in actors) ≡ bytes
  pub few_bytes : bytes ≤ MOST_BYTES_OF_CHUNKS

-- no actors ask for the same in every layout, with any number of servers
pub none_ask : (layout other : Shape) (servers number count blocks bytes : ℕ)
    → Body layout servers [] count blocks bytes → Body other number [] count blocks bytes
none_ask layout other servers number count blocks bytes body = record {
  counted = body.counted;
  few = body.few;
  few_commands = tt;
  commands = tt;
  blocks_of_put = tt;
  blocks_are = body.blocks_are;
  few_blocks = body.few_blocks;
  bytes_are = body.bytes_are;
  few_bytes = body.few_bytes;
}

-- ---- an actor more

pub actor_more : (layout : Shape) (servers : ℕ) (actors : List (List Command))
    (count blocks bytes : ℕ) → Body layout servers actors count blocks bytes
    → count < MOST_ACTORS → Body layout servers (actors ++ [] ∷ []) (count + 1) blocks bytes
actor_more layout servers actors count blocks bytes body room =
    let same : puts_in (actors ++ [] ∷ []) ≡ puts_in actors = ap (filter_map len_put)
    (flat_push actors [] ∙ append-nil (flat_map (λ commands. commands) actors)) in
    record {
      counted = omega (arith, length-append actors ([] ∷ []), body.counted);
      few = omega (arith, room);
      few_commands = each_append (λ (commands : List Command). length commands ≤ MOST_COMMANDS)
          actors ([] ∷ []) body.few_commands (omega arith, tt);
      commands = each_append (Each (IsCommand servers)) actors ([] ∷ []) body.commands (tt, tt);
      blocks_of_put = subst (Each (λ len. blocks_in layout len ≤ MOST_BLOCKS_OF_PUT))
          (sym same) body.blocks_of_put;
      blocks_are = ap (sum_by (blocks_in layout)) same ∙ body.blocks_are;
      few_blocks = body.few_blocks;
      bytes_are = ap (sum_by (chunk_bytes_in layout)) same ∙ body.bytes_are;
      few_bytes = body.few_bytes;
    }

-- ---- what one command puts

recipe_is : (recipe : Form) → length (bytes_of recipe) ≡ recipe_len recipe
unfolding recipe_len
recipe_is (Told.Hex bytes) = refl
recipe_is (Told.Fill byte len) = length-replicate len byte
recipe_is (Told.Pattern start len) = length-map-range_with_len (pattern_byte start) 0 len

abbrev pub PutsNothing : Command → Type 0
PutsNothing command = (len_put command ≡ None) × (put_len command ≡ 0)

pub put_told : (command : Command)
    → (len_put command ≡ Some (put_len command)) ⊎ PutsNothing command
unfolding len_put put_len
put_told (Does.File (File.Put path recipe)) = inl (ap (λ (len : ℕ). Some len) (recipe_is recipe))
put_told (Does.File command) = inr (refl, refl)
put_told command = inr (refl, refl)

-- the only put of a command
pub record OnePut (layout : Shape) (command : Command) : Type 0 where
  pub few : blocks_in layout (put_len command) ≤ MOST_BLOCKS_OF_PUT
      → Each (λ len. blocks_in layout len ≤ MOST_BLOCKS_OF_PUT) (filter_map len_put (command ∷ []))
  pub blocks : sum_by (blocks_in layout) (filter_map len_put (command ∷ [])) ≡ blocks_in layout
      (put_len command)
  pub bytes : sum_by (chunk_bytes_in layout) (filter_map len_put (command ∷ []))
      ≡ chunk_bytes_of layout (put_len command)

one_put_of : (layout : Shape) (command : Command) → 1 ≤ layout.s → 1 ≤ layout.r
    → (len_put command ≡ Some (put_len command)) ⊎ PutsNothing command
    → OnePut layout command
one_put_of layout command stripe rows (inl some) =
    let all : filter_map len_put (command ∷ []) ≡ put_len command ∷ [] =
    ap (λ put. cons_option put []) some in
    record {
      few = λ small. subst (Each (λ len. blocks_in layout len ≤ MOST_BLOCKS_OF_PUT)) (sym all)
          (small, tt);
      blocks = ap (sum_by (blocks_in layout)) all ∙ omega arith;
      bytes = ap (sum_by (chunk_bytes_in layout)) all
          ∙ alone (chunk_bytes_in layout (put_len command))
          ∙ same_bytes layout (put_len command) stripe rows;
    }
  where
    alone : (n : ℕ) → 0 + n ≡ n
    alone n = omega arith
one_put_of layout command stripe rows (inr none) =
    let all : filter_map len_put (command ∷ []) ≡ [] = ap (λ put. cons_option put []) none.0 in
    let nothing : blocks_in layout 0 ≡ 0 = no_rows (block_bytes layout.s layout.r) in
    record {
      few = λ small. subst (Each (λ len. blocks_in layout len ≤ MOST_BLOCKS_OF_PUT)) (sym all) tt;
      blocks = ap (sum_by (blocks_in layout)) all ∙ sym (ap (blocks_in layout) none.1 ∙ nothing);
      bytes =
          ap (sum_by (chunk_bytes_in layout)) all
          ∙ sym (ap (λ n. sum_by (chunk_bytes_of_block layout 0) (range_with_len 0 n)) nothing)
          ∙ same_bytes layout 0 stripe rows ∙ ap (chunk_bytes_of layout) (sym none.1);
    }

pub one_put : (layout : Shape) (command : Command) → 1 ≤ layout.s → 1 ≤ layout.r
    → OnePut layout command
one_put layout command stripe rows = one_put_of layout command stripe rows (put_told command)

-- ---- a command more of the last actor

-- the puts of actors with a command more
pub puts_more : (front : List (List Command)) (last : List Command) (command : Command)
    → puts_in (front ++ (last ++ command ∷ []) ∷ [])
    ≡ puts_in (front ++ last ∷ []) ++ filter_map len_put (command ∷ [])
puts_more front last command =
    ap (filter_map len_put)
    (flat_push front (last ++ command ∷ [])
    ∙ sym (append_assoc (flat_map (λ commands. commands) front) last (command ∷ []))
    ∙ ap (λ all. all ++ command ∷ []) (sym (flat_push front last)))
    ∙ filter_map-append len_put (flat_map (λ commands. commands) (front ++ last ∷ []))
    (command ∷ [])

module _ (layout : Shape) (servers : ℕ) (front : List (List Command)) (last : List Command)
    (command : Command) (count blocks bytes : ℕ) where
  abbrev before : List (List Command)
  before = front ++ last ∷ []

  abbrev after : List (List Command)
  after = front ++ (last ++ command ∷ []) ∷ []

  -- the limits that are kept with the command
  pub record Keeps : Type 0 where
    pub few_commands : length last + 1 ≤ MOST_COMMANDS
    pub few_of_put : blocks_in layout (put_len command) ≤ MOST_BLOCKS_OF_PUT
    pub few_blocks : blocks + blocks_in layout (put_len command) ≤ MOST_BLOCKS
    pub few_bytes : bytes + chunk_bytes_of layout (put_len command) ≤ MOST_BYTES_OF_CHUNKS

  pub command_more : 1 ≤ layout.s → 1 ≤ layout.r → Body layout servers before count blocks bytes
      → IsCommand servers command → Keeps
      → Body layout servers after count (blocks + blocks_in layout (put_len command))
      (bytes + chunk_bytes_of layout (put_len command))
  command_more stripe rows body is keeps =
      let one = one_put layout command stripe rows in
      let puts = puts_more front last command in
      let Few : List Command → Type 0 = λ commands. length commands ≤ MOST_COMMANDS in
      let InRange : List Command → Type 0 = Each (IsCommand servers) in
      record {
        counted = omega (
          arith,
          length-append front (last ∷ []),
          length-append front
              ((last ++ command ∷ []) ∷ []),
          body.counted,
        );
        few = body.few;
        few_commands =
            each_append Few front ((last ++ command ∷ []) ∷ [])
            (each_front Few front (last ∷ []) body.few_commands)
            (omega (arith, length-append last (command ∷ []), keeps.few_commands), tt);
        commands =
            each_append InRange front ((last ++ command ∷ []) ∷ [])
            (each_front InRange front (last ∷ []) body.commands) (
              each_append (IsCommand servers) last (command ∷ [])
                  (each_back InRange front (last ∷ []) body.commands).0 (is, tt),
              tt,
            );
        blocks_of_put =
            subst (Each (λ len. blocks_in layout len ≤ MOST_BLOCKS_OF_PUT)) (sym puts)
            (each_append (λ len. blocks_in layout len ≤ MOST_BLOCKS_OF_PUT) (puts_in before)
            (filter_map len_put (command ∷ [])) body.blocks_of_put (one.few keeps.few_of_put));
        blocks_are =
            ap (sum_by (blocks_in layout)) puts
            ∙ sum_by-append (blocks_in layout) (puts_in before) (filter_map len_put (command ∷ []))
            ∙ joined (sum_by (blocks_in layout) (puts_in before)) blocks _ _ body.blocks_are
            one.blocks;
        few_blocks = keeps.few_blocks;
        bytes_are =
            ap (sum_by (chunk_bytes_in layout)) puts
            ∙ sum_by-append (chunk_bytes_in layout) (puts_in before)
            (filter_map len_put (command ∷ []))
            ∙ joined (sum_by (chunk_bytes_in layout) (puts_in before)) bytes _ _ body.bytes_are
            one.bytes;
        few_bytes = keeps.few_bytes;
      }
    where
      joined : (a b c d : ℕ) → a ≡ b → c ≡ d → a + c ≡ b + d
      joined a b c d first second = cc
