-- The server of a number above 0, and its load.
use Rattle.std.proofs.Common.{◌≡◌, ℕ, zero, suc, ◌-◌, ◌<◌, List, slice_index_or, ap, arith}
use Rattle.qfs_base.specs.declared.image.Load.{Load}
use Rattle.qfs_base.specs.declared.image.ServerView.{ServerView}
use Rattle.qfs_model_meta.specs.Servers.{server_at, no_server}
use Rattle.qfs_place.specs.Loads.{load_at, no_load}

pub server_at_above : (servers : List ServerView) (number : ℕ) → 0 < number
    → server_at servers number ≡ slice_index_or servers (number - 1) no_server
unfolding server_at
server_at_above servers zero above = absurd (omega arith)
server_at_above servers (suc n) above =
    let e : n ≡ suc n - 1 = omega arith in
    ap (λ (k : ℕ). slice_index_or servers k no_server) e

pub load_at_above : (loads : List Load) (number : ℕ) → 0 < number
    → load_at loads number ≡ slice_index_or loads (number - 1) no_load
load_at_above loads zero above = absurd (omega arith)
load_at_above loads (suc n) above =
    let e : n ≡ suc n - 1 = omega arith in
    ap (λ (k : ℕ). slice_index_or loads k no_load) e
