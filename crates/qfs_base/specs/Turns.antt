-- Lists of turns, each with the node and the actor behind it: the one word for orders that are taken by one thread or by many.
use Rattle.std.specs.Prelude.{◌≡◌, ℕ, ⊤, ◌==◌, if◌then◌else◌, List, [], ◌∷◌, map, Option, Some}
use Rattle.qfs_base.specs.declared.history.Outcome.{Outcome}
use Rattle.qfs_base.specs.declared.history.Step.{Step}

-- a turn: who took it, how it came out, at which node, and the node and the actor behind it
pub record Turn (N A : Type 0) : Type 0 where
  pub actor : ℕ
  pub outcome : Outcome
  pub node : ℕ
  pub node_behind : N
  pub actor_behind : A

-- what stands at each number
abbrev pub At : Type 0 → Type 0
At X = ℕ → Option X

abbrev pub with_at : {X : Type 0} → ℕ → X → At X → At X
with_at number x stands = λ other. if other == number then Some x else stands other

module _ {N A : Type 0} (Takes : N → A → Outcome → N → A → Type 0) (goes_to : A → Option ℕ) where
  abbrev pub node_after : At N → Turn N A → At N
  node_after nodes turn = with_at turn.node turn.node_behind nodes

  abbrev pub actor_after : At A → Turn N A → At A
  actor_after actors turn = with_at turn.actor turn.actor_behind actors

  -- a turn of its node and its actor as they stand before it
  pub record IsTurn (nodes : At N) (actors : At A) (turn : Turn N A) : Type 0 where
    pub node : N
    pub actor : A
    pub there : nodes turn.node ≡ Some node
    pub by : actors turn.actor ≡ Some actor
    pub goes : goes_to actor ≡ Some turn.node
    pub takes : Takes node actor turn.outcome turn.node_behind turn.actor_behind

  -- each turn is one of its node and its actor as they stand before it
  abbrev pub AreLawful : At N → At A → List (Turn N A) → Type 0
  AreLawful nodes actors [] = ⊤
  AreLawful nodes actors (turn ∷ turns) =
      IsTurn nodes actors turn × AreLawful (node_after nodes turn) (actor_after actors turn) turns

-- the steps of turns, as an order has them
abbrev pub steps_of_turns : {N A : Type 0} → List (Turn N A) → List Step
steps_of_turns turns = map (λ (turn : Turn _ _). record { actor = turn.actor; outcome = turn.outcome }) turns
