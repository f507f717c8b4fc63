-- A world at its start.
use Rattle.std.proofs.Common.{◌≡◌, ℕ, suc, zero, ◌+◌, ◌≤◌, List, [], ◌∷◌, length, take, Option, Some, None, refl, sym, ◌∙◌, ap, subst, arith, length-take, slice_get}
use Rattle.std.specs.Prelude.{map, replicate, All, IsSome, IsTrue}
use Rattle.std.proofs.lemmas.List.{length-map, length-replicate, get_or-replicate}
use Rattle.std.proofs.lemmas.List.Elements.{All-take}
use Rattle.std.proofs.lemmas.Option.{same_Some, slice_get_within, get_or_from_slice_get}
use Rattle.qfs_actor.specs.Standing.{Standing}
use Rattle.qfs_base.specs.Rules.{rules_of}
use Rattle.qfs_base.specs.declared.image.MetaImage.{MetaImage}
use Rattle.qfs_base.specs.declared.script.Script.{Script}
use Rattle.qfs_device.specs.Held.{Held, chunk_at, new_device}
use Rattle.qfs_meta.specs.Metaserver.{Metaserver}
use Rattle.qfs_model_meta.specs.Step.{opening}
use Rattle.qfs_model_server.specs.Server.{Server, fresh_server}
use Rattle.qfs_model_world.specs.Events.{events, events_from}
use Rattle.qfs_model_world.specs.Fits.{fits, fits_from}
use Rattle.qfs_model_world.specs.Headline.{failed_at}
use Rattle.qfs_model_world.specs.World.{numbered, start, after}
use Rattle.qfs_model_store.specs.Stands.{kept}
use Rattle.qfs_store.proofs.FreshLaws.{fresh_stands}
use Rattle.qfs_store.specs.Stored.{Stored, StandsOn, no_copies}
use Rattle.qfs_world.specs.AtWork.{IsAtWork, AreNumbered}
use Rattle.qfs_base.specs.declared.command.Command.{Command}
use Rattle.qfs_base.specs.declared.rules.Rules.{Rules}
use Rattle.qfs_model_actor.specs.Actor.{starting}
use Rattle.qfs_nodes.specs.Nodes.{image_of, stores_of, IsNew, nodes_with, stored_over}
use Rattle.qfs_nodes.specs.Scripts.{meta_of, IsRunnable, commands_by_actor}
use Rattle.qfs_nodes.specs.Actors.{actors_of, sizes_of, starts_from, total}
use Rattle.qfs_world.specs.Follows.{FollowsOrder}
use Rattle.qfs_world.specs.Servers.{StandForAll, StandsForServer}
use Rattle.qfs_world.specs.View.{AllTell}
use Rattle.qfs_nodes.specs.declared.node.NodeState.{NodeState}
use Rattle.qfs_nodes.proofs.Stores.{stores-with}
use Rattle.qfs_nodes.proofs.Starts.{length_starts, starts-actors, total_sizes}
use Rattle.qfs_world.proofs.Lists.{all-at, unmapped-at}
use Rattle.qfs_world.proofs.Step.{again}

starts-numbered : (rules : Rules) (number : ℕ) (xs : List (List Command)) → AreNumbered number (starts_from rules number xs)
unfolding starting
starts-numbered rules number [] = tt
starts-numbered rules number (x ∷ xs) = (refl, λ out. out, starts-numbered rules (number + 1) xs)

-- the metaserver that a script starts with
abbrev pub first_meta : Script → Metaserver
first_meta script = meta_of script (opening script.servers)

module _ {D : Type 0} (told : D → Option Held) (faults : D → ℕ) (stripe : ℕ) where
  new-stands : (counts : List ℕ) (number : ℕ) (device : D) → IsNew told device
      → ((count : ℕ) → numbered counts number ≡ Some count → faults device ≡ count) → (found : Option Held) → told device ≡ found → IsSome found
      → StandsForServer stripe counts [] number (stored_over told faults stripe device) fresh_server
  unfolding failed_at
  new-stands counts number device fresh counted None e some = absurd (cc)
  new-stands counts number device fresh counted (Some held) e some =
      let is : held ≡ new_device = fresh held e in
      record {
        stripe_is = refl;
        held = held;
        told = e;
        stands = subst (λ h. StandsOn stripe h no_copies fresh_server) (sym is) (fresh_stands stripe);
        handed_out = ap (λ (h : Held). kept h.handed_out) is;
        others = λ key found absent there. let none : chunk_at held key ≡ None = ap (λ (h : Held). chunk_at h key) is in absurd (cc);
        faults = λ count at below. let same = counted count at in omega (arith, same);
      }

  module _ (devices : List D) (fresh : All (IsNew told) devices) (tell : AllTell (map (stored_over told faults stripe) devices)) where
    stands-first : (number : ℕ) (stored : Stored) (server : Server)
        → numbered (map (stored_over told faults stripe) devices) number ≡ Some stored → numbered (replicate (length devices) fresh_server) number ≡ Some server
        → StandsForServer stripe (map faults devices) [] number stored server
    unfolding numbered
    stands-first zero stored server at is = absurd (cc)
    stands-first (suc k) stored server at is =
        let device = unmapped-at (stored_over told faults stripe) devices k stored at in
        let server_is : server ≡ fresh_server =
        sym (get_or_from_slice_get (replicate (length devices) fresh_server) k server server is)
        ∙ get_or-replicate (length devices) k fresh_server server (slice_get_within devices k device.of device.there) in
        let counted : (count : ℕ) → slice_get (map faults devices) k ≡ Some count → faults device.of ≡ count = λ count found.
        let same = unmapped-at faults devices k count found in
        ap faults (same_Some device.of same.of (sym device.there ∙ same.there)) ∙ same.is in
        let tells : IsSome (told device.of) =
        subst (λ (s : Stored). IsSome s.told) (sym device.is)
        (all-at (λ (s : Stored). IsSome s.told) (map (stored_over told faults stripe) devices) k stored at tell) in
        subst (λ s. StandsForServer stripe (map faults devices) [] (suc k) s server) device.is
        (subst (StandsForServer stripe (map faults devices) [] (suc k) (stored_over told faults stripe device.of)) (sym server_is)
        (new-stands (map faults devices) (suc k) device.of (all-at (IsNew told) devices k device.of device.there fresh) counted (told device.of) refl tells))

    -- the stores of new devices stand for fresh servers, and no step has failed
    stand-first : StandForAll stripe (map faults devices) [] (map (stored_over told faults stripe) devices) (replicate (length devices) fresh_server)
    unfolding failed_at
    stand-first = record {
      as_many = length-map devices (stored_over told faults stripe) ∙ sym (length-replicate (length devices) fresh_server);
      each = stands-first;
      elsewhere = λ number none. refl;
    }

module _ {D : Type 0} (told : D → Option Held) (faults : D → ℕ) where
  -- the counts of its servers' devices
  abbrev pub first_counts : Script → List D → List ℕ
  first_counts script devices = map faults (take script.servers devices)

  -- the chunk servers of a script over the first devices
  abbrev pub first_stores : Script → List D → List Stored
  first_stores script devices = map (stored_over told faults script.layout.s) (take script.servers devices)

  starts-after : (script : Script) (actors : List Standing) → actors ≡ starts_from (rules_of script) 1 (commands_by_actor script)
      → after script []
      ≡ record { rules = rules_of script; meta = opening script.servers; servers = replicate script.servers fresh_server; actors = actors_of actors }
  unfolding after start
  starts-after script actors e =
      ap (λ all. record { rules = rules_of script; meta = opening script.servers; servers = replicate script.servers fresh_server; actors = all })
      (sym (ap actors_of e ∙ starts-actors (rules_of script) 1 (commands_by_actor script)))

  fits-none : (script : Script) → IsTrue (fits script [])
  unfolding fits fits_from
  fits-none script = refl

  module _ (script : Script) (devices : List D) (nodes : List (NodeState D)) (actors : List Standing) (phases : List ℕ)
      (runnable : IsRunnable script) (enough : script.servers ≤ length devices) (fresh : All (IsNew told) devices)
      (nodes_are : nodes ≡ nodes_with (first_meta script) (first_stores script devices))
      (actors_are : actors ≡ starts_from (rules_of script) 1 (commands_by_actor script))
      (phases_are : phases ≡ sizes_of script.phases) where
    pub image-is : image_of nodes ≡ opening script.servers
    image-is = ap image_of nodes_are

    pub stores-are : stores_of nodes ≡ first_stores script devices
    stores-are = ap stores_of nodes_are ∙ stores-with D (first_meta script) (first_stores script devices)

    many : length (take script.servers devices) ≡ script.servers
    many = omega (arith, length-take script.servers devices, enough)

    pub stores-many : length (stores_of nodes) ≡ script.servers
    stores-many = ap length stores-are ∙ length-map (take script.servers devices) (stored_over told faults script.layout.s) ∙ many

    long : length actors ≡ length (commands_by_actor script)
    long = ap length actors_are ∙ length_starts (rules_of script) 1 (commands_by_actor script)

    at-start : AllTell (first_stores script devices)
        → FollowsOrder script (first_counts script devices) [] (opening script.servers) (first_stores script devices) (actors_of actors)
    unfolding events events_from
    at-start tell =
        record {
          servers = replicate script.servers fresh_server;
          world = starts-after script actors actors_are;
          stand =
              subst (λ n. StandForAll script.layout.s (first_counts script devices) [] (first_stores script devices) (replicate n fresh_server)) many
              (stand-first told faults script.layout.s (take script.servers devices) (All-take (IsNew told) script.servers devices fresh) tell);
          fits = fits-none script;
        }

    pub begins : IsAtWork script (first_counts script devices) nodes actors phases []
    begins = record {
      nodes_are = again script nodes (opening script.servers) (first_stores script devices) nodes_are;
      numbered = subst (AreNumbered 1) (sym actors_are) (starts-numbered (rules_of script) 1 (commands_by_actor script));
      few = omega (arith, long, runnable.actors);
      phases_are = phases_are;
      whole = ap total phases_are ∙ total_sizes script.phases ∙ sym long;
      follows =
          λ tell.
          let P : List Stored → Type 0 = λ s. FollowsOrder script (first_counts script devices) [] (opening script.servers) s (actors_of actors) in
          let Q : MetaImage → Type 0 = λ m. FollowsOrder script (first_counts script devices) [] m (stores_of nodes) (actors_of actors) in
          subst Q (sym image-is) (subst P (sym stores-are) (at-start (subst AllTell stores-are tell)));
    }
