-- The servers that are barred from a block, one slot after another.
use Rattle.std.proofs.Common.{◌≡◌, ◌∙◌, ℕ, ◌+◌, ◌-◌, ◌<◌, ◌≤◌, List, ap, arith, sym}
use Rattle.std.specs.List.{flat_map, range_with_len}
use Rattle.qfs_base.specs.declared.chunk.Copy.{Copy}
use Rattle.qfs_base.specs.declared.image.ServerView.{ServerView}
use Rattle.qfs_model_meta.specs.Placing.{with_live_servers}
use Rattle.qfs_place.specs.BarredLaws.{live_append}
use Rattle.qfs_planning.specs.Walks.{range_next}

pub bars_next : (servers : List ServerView) (f : ℕ → List Copy) (set next whole : List ℕ)
    (at count : ℕ) → at < count
    → with_live_servers servers set (flat_map f (range_with_len at (count - at))) ≡ whole
    → next ≡ with_live_servers servers set (f at)
    → with_live_servers servers next (flat_map f (range_with_len (at + 1) (count - (at + 1))))
    ≡ whole
bars_next servers f set next whole at count within before is =
    let rest : List Copy = flat_map f (range_with_len (at + 1) (count - (at + 1))) in
    ap (λ members. with_live_servers servers members rest) is
    ∙ sym (live_append servers set (f at) rest)
    ∙ ap (λ numbers. with_live_servers servers set (flat_map f numbers))
    (sym (range_next at count within))
    ∙ before

pub bars_end : (servers : List ServerView) (f : ℕ → List Copy) (set whole : List ℕ)
    (at count : ℕ) → count ≤ at
    → with_live_servers servers set (flat_map f (range_with_len at (count - at))) ≡ whole
    → set ≡ whole
unfolding with_live_servers
bars_end servers f set whole at count end before =
    let none : count - at ≡ 0 = omega arith in
    ap (λ n. with_live_servers servers set (flat_map f (range_with_len at n))) (sym none) ∙ before
