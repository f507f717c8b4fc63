-- The server that no copies, over a device that holds nothing, stand for.
use Rattle.std.proofs.Common.{◌≡◌, ℕ, [], Option, None, true, refl, sym, subst, inl}
use Rattle.std.specs.Option.{ForSome}
use Rattle.qfs_base.specs.Shape.{IsStripe}
use Rattle.qfs_device.specs.Held.{Held, Contents, chunk_at, new_device}
use Rattle.qfs_model_server.specs.Server.{Server, fresh_server}
use Rattle.qfs_model_store.specs.Stands.{HoldsUnder}
use Rattle.qfs_store.specs.Stored.{no_copies, StandsOn, IsSound}
use Rattle.qfs_store.proofs.StandsLaws.{nothing_named}

-- a server that is up and has no copies, in the life of this device
abbrev pub empty_server : Held → Server
empty_server held = record { up = true; life = held.life; form = 1; copies = []; handed_out = 0 }

-- no copies, over a device that holds nothing, stand for a server that has none
pub empty_stands : (stripe : ℕ) (held : Held) → held.contents ≡ [] → StandsOn stripe held no_copies (empty_server held)
empty_stands stripe held empty = record {
  up = refl;
  form = refl;
  copies = refl;
  stands = record {
    life = refl;
    keys = λ key. subst (λ (contents : Contents). HoldsUnder stripe key (chunk_at (record held { contents = contents }) key) None) (sym empty) (nothing_named stripe key);
  };
}

-- over a new device they stand for the server that every run begins with
pub fresh_stands : (stripe : ℕ) → StandsOn stripe new_device no_copies fresh_server
fresh_stands stripe = empty_stands stripe new_device refl

pub empty_sound : (stripe faults : ℕ) (told : Option Held) → IsStripe stripe → ForSome told (λ held. held.contents ≡ [])
    → IsSound (record { stripe = stripe; known = no_copies; told = told; faults = faults })
empty_sound stripe faults told is empty = record {
  stripe = is;
  form = inl refl;
  consistent = λ held told_is. inl (empty_server held, empty_stands stripe held (empty held told_is));
}
