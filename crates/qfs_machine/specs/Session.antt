-- What contracts see of a command at work: where it stands, and how it stands to its next request.
use Rattle.std.specs.Prelude.{◌≡◌, ℕ, zero, suc, refl}
use Rattle.std.specs.Coded.{Coded, code_by, coded×, coded_ℕ}
use Rattle.qfs_machine.specs.declared.machine.Readiness.{Readiness}
use Rattle.qfs_machine.specs.declared.machine.Readiness.TheVariants.{Unready, Ready, Out}

pub record AtWork (P : Type 0) : Type 0 where
  pub protocol : P
  pub readiness : Readiness

-- a readiness is stored as a number, and a command at work as the pair of its fields
abbrev pub number_of : Readiness → ℕ
number_of Unready = 0
number_of Ready = 1
number_of Out = 2

abbrev pub numbered : ℕ → Readiness
numbered zero = Unready
numbered (suc zero) = Ready
numbered (suc (suc n)) = Out

pub numbered_again : (r : Readiness) → numbered (number_of r) ≡ r
numbered_again Unready = refl
numbered_again Ready = refl
numbered_again Out = refl

abbrev pub at_work_code : {P : Type 0} → Coded P → Coded (AtWork P)
at_work_code {P} code =
    code_by (P × Readiness) (coded× code (code_by ℕ coded_ℕ number_of numbered numbered_again))
    (λ it. (it.protocol, it.readiness)) (λ p. record { protocol = p.0; readiness = p.1 }) (λ _. refl)
