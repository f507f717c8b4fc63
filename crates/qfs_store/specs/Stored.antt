-- A chunk server together with its device, and the server of the definitions that the two stand
-- for.
use Rattle.std.specs.Prelude.{ℕ, ◌≡◌, ◌⊎◌, false, true, [], Option}
use Rattle.std.specs.Option.{ForSome}
use Rattle.qfs_base.specs.Shape.{IsStripe}
use Rattle.qfs_device.specs.Held.{Held}
use Rattle.qfs_model_server.specs.Server.{Server}
use Rattle.qfs_model_store.specs.Stands.{StandsFor}
use Rattle.qfs_store.specs.Known.{Known, sizes_in}

-- the stripe of the layout, what the server knows of its copies, what its device tells that it
-- holds, if it tells that, and how often the device has failed
pub record Stored : Type 0 where
  pub stripe : ℕ
  pub known : Known
  pub told : Option Held
  pub faults : ℕ

-- up or stopped, and no copies
abbrev pub no_copies : Known
no_copies = record { up = true; form = 1; copies = [] }

abbrev pub stopped : Known
stopped = record { up = false; form = 1; copies = [] }

-- what a server knows, over a device that holds this, stands for this server
pub record StandsOn (stripe : ℕ) (held : Held) (known : Known) (server : Server) : Type 0 where
  pub up : known.up ≡ server.up
  pub form : known.form ≡ server.form
  pub copies : known.copies ≡ sizes_in server.copies
  pub stands : StandsFor stripe held server

-- a stopped server that hasn't yet looked for its copies: its device may stand for no server
pub record IsUnread (known : Known) : Type 0 where
  pub down : known.up ≡ false
  pub none : known.copies ≡ []

-- as far as the device tells what it holds, there is a server that the two stand for, or they wait
-- for the first Start or Wipe
abbrev pub IsConsistent : ℕ → Option Held → Known → Type 0
IsConsistent stripe told known =
    ForSome told
    (λ held. ((server : Server) × StandsOn stripe held known server) ⊎ IsUnread known)

-- what holds of a store at any time
pub record IsSound (store : Stored) : Type 0 where
  pub stripe : IsStripe store.stripe
  pub form : (store.known.form ≡ 1) ⊎ (store.known.form ≡ 2)
  pub consistent : IsConsistent store.stripe store.told store.known
