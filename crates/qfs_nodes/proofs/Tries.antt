-- A script of puts and gets lets a get open its file once: none of its commands takes a copy away.
use Rattle.std.proofs.Common.{◌≡◌, ◌+◌, ◌≤◌, cond, false, List, [], ◌∷◌, ◌++◌, refl, arith}
use Rattle.std.specs.Prelude.{count_by, flat_map}
use Rattle.std.specs.List.{AllByRecursion}
use Rattle.std.proofs.lemmas.List.Elements.{recursion_from_All}
use Rattle.std.proofs.lemmas.List.Sums.{sum_by-append}
use Rattle.qfs_actor.specs.Forms.{IsBuilt}
use Rattle.qfs_base.specs.Rules.{all_commands, may_take_away, rules_of, tries_of}
use Rattle.qfs_base.specs.declared.command.Command.{Command}
use Rattle.qfs_base.specs.declared.command.Command.TheVariants as Does
use Rattle.qfs_base.specs.declared.script.Script.{Script}
use Rattle.qfs_nodes.specs.Scripts.{AreBuilt, IsRunnable, commands_by_actor}

-- every script lets a get open its file at least once
pub some-try : (script : Script) → 1 ≤ (rules_of script).tries
unfolding rules_of tries_of
some-try script = omega arith

takes-nothing : (command : Command) → IsBuilt command → may_take_away command ≡ false
unfolding may_take_away
takes-nothing (Does.File command) built = refl
takes-nothing command built = absurd built

none-counted : (commands : List Command) → AllByRecursion IsBuilt commands → count_by may_take_away commands ≡ 0
none-counted [] built = refl
none-counted (command ∷ commands) built =
    let rest = none-counted commands built.1 in
    let first = takes-nothing command built.0 in
    rw first (omega (arith, rest))

count-append : (xs ys : List Command) → count_by may_take_away (xs ++ ys) ≡ count_by may_take_away xs + count_by may_take_away ys
count-append xs ys = sum_by-append (λ c. cond (may_take_away c) 1 0) xs ys

none-of-all : (lists : List (List Command)) → AllByRecursion AreBuilt lists → count_by may_take_away (flat_map (λ commands. commands) lists) ≡ 0
none-of-all [] built = refl
none-of-all (commands ∷ lists) built =
    let first = none-counted commands (recursion_from_All IsBuilt commands built.0.built) in
    let rest = none-of-all lists built.1 in
    let both = count-append commands (flat_map (λ (c : List Command). c) lists) in
    omega (arith, first, rest, both)

pub one-try : (script : Script) → IsRunnable script → tries_of script ≡ 1
unfolding tries_of all_commands
one-try script runnable =
    let none = none-of-all (commands_by_actor script) (recursion_from_All AreBuilt (commands_by_actor script) runnable.commands) in
    omega (arith, none)
