use Rattle.std.proofs.Common.{rules}
use Rattle.qfs_words.specs.Meant.{command_meant, first_meant}
use Rattle.qfs_words.proofs.Spelled.{found_here, passed_here, none_here}
use Rattle.qfs_words.proofs.words.path_command_word.Goals as goal

pub returns-then-eq : goal.returns-then-eq
unfolding command_meant first_meant
returns-then-eq c =
    found_here _ _ _ _ (search rules)

pub returns-then-eq-2 : goal.returns-then-eq-2
unfolding command_meant first_meant
returns-then-eq-2 c =
    passed_here _ _ _ _ _ (search rules) (
    found_here _ _ _ _ (search rules))

pub returns-then-eq-3 : goal.returns-then-eq-3
unfolding command_meant first_meant
returns-then-eq-3 c =
    passed_here _ _ _ _ _ (search rules) (
    passed_here _ _ _ _ _ (search rules) (
    found_here _ _ _ _ (search rules)))

pub returns-then-eq-4 : goal.returns-then-eq-4
unfolding command_meant first_meant
returns-then-eq-4 c =
    passed_here _ _ _ _ _ (search rules) (
    passed_here _ _ _ _ _ (search rules) (
    passed_here _ _ _ _ _ (search rules) (
    found_here _ _ _ _ (search rules))))

pub returns-then-eq-5 : goal.returns-then-eq-5
unfolding command_meant first_meant
returns-then-eq-5 c =
    passed_here _ _ _ _ _ (search rules) (
    passed_here _ _ _ _ _ (search rules) (
    passed_here _ _ _ _ _ (search rules) (
    passed_here _ _ _ _ _ (search rules) (
    found_here _ _ _ _ (search rules)))))

pub returns-then-eq-6 : goal.returns-then-eq-6
unfolding command_meant first_meant
returns-then-eq-6 c =
    passed_here _ _ _ _ _ (search rules) (
    passed_here _ _ _ _ _ (search rules) (
    passed_here _ _ _ _ _ (search rules) (
    passed_here _ _ _ _ _ (search rules) (
    passed_here _ _ _ _ _ (search rules) (
    found_here _ _ _ _ (search rules))))))

pub returns-then-eq-7 : goal.returns-then-eq-7
unfolding command_meant first_meant
returns-then-eq-7 c =
    passed_here _ _ _ _ _ (search rules) (
    passed_here _ _ _ _ _ (search rules) (
    passed_here _ _ _ _ _ (search rules) (
    passed_here _ _ _ _ _ (search rules) (
    passed_here _ _ _ _ _ (search rules) (
    passed_here _ _ _ _ _ (search rules) (
    found_here _ _ _ _ (search rules)))))))

pub returns-then-eq-8 : goal.returns-then-eq-8
unfolding command_meant first_meant
returns-then-eq-8 c =
    passed_here _ _ _ _ _ (search rules) (
    passed_here _ _ _ _ _ (search rules) (
    passed_here _ _ _ _ _ (search rules) (
    passed_here _ _ _ _ _ (search rules) (
    passed_here _ _ _ _ _ (search rules) (
    passed_here _ _ _ _ _ (search rules) (
    passed_here _ _ _ _ _ (search rules) (
    found_here _ _ _ _ (search rules))))))))

pub returns-then-eq-9 : goal.returns-then-eq-9
unfolding command_meant first_meant
returns-then-eq-9 c =
    passed_here _ _ _ _ _ (search rules) (
    passed_here _ _ _ _ _ (search rules) (
    passed_here _ _ _ _ _ (search rules) (
    passed_here _ _ _ _ _ (search rules) (
    passed_here _ _ _ _ _ (search rules) (
    passed_here _ _ _ _ _ (search rules) (
    passed_here _ _ _ _ _ (search rules) (
    passed_here _ _ _ _ _ (search rules) (
    found_here _ _ _ _ (search rules)))))))))

pub returns-else-eq-9 : goal.returns-else-eq-9
unfolding command_meant first_meant
returns-else-eq-9 c =
    passed_here _ _ _ _ _ (search rules) (
    passed_here _ _ _ _ _ (search rules) (
    passed_here _ _ _ _ _ (search rules) (
    passed_here _ _ _ _ _ (search rules) (
    passed_here _ _ _ _ _ (search rules) (
    passed_here _ _ _ _ _ (search rules) (
    passed_here _ _ _ _ _ (search rules) (
    passed_here _ _ _ _ _ (search rules) (
    passed_here _ _ _ _ _ (search rules) (
    none_here _)))))))))
