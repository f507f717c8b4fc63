-- What the changes of servers leave: as many servers, and loads that are counted.
use Rattle.std.proofs.Common.{◌≡◌, ◌∙◌, ◌≤◌, ap, subst, sym, refl, ℕ, zero, suc, nat_lt, Bool, true, false, List, length}
use Rattle.qfs_base.specs.declared.change.Change.{Change}
use Rattle.qfs_base.specs.declared.change.Change.TheVariants.{ServerDown, ServerLeaves, ServerSleeps, ServerUp}
use Rattle.qfs_base.specs.declared.image.CondemnedEntry.{CondemnedEntry}
use Rattle.qfs_base.specs.declared.image.Load.{Load}
use Rattle.qfs_base.specs.declared.image.MetaImage.{MetaImage}
use Rattle.qfs_base.specs.declared.image.ServerView.{ServerView}
use Rattle.qfs_base.specs.EachLaws.{each_filter}
use Rattle.qfs_base.specs.Table.{Each}
use Rattle.qfs_blocks.specs.BlockTables.{BlockTables}
use Rattle.qfs_blocks.specs.ImageLaws.{with_blocks}
use Rattle.qfs_blocks.specs.LeaseLaws.{entries_if_risen, risen_is}
use Rattle.qfs_laws_slots.specs.Servers.{change-length}
use Rattle.qfs_model_meta.specs.Apply.{apply, bring_up}
use Rattle.qfs_model_meta.specs.Grammar.{IsServer}
use Rattle.qfs_model_meta.specs.Servers.{change_server, server_asleep, server_at, server_down, server_leaving, server_up}
use Rattle.qfs_place.specs.ChangeLaws.{census_of}
use Rattle.qfs_place.specs.Loads.{change_load, counted_as, seen_as}
use Rattle.qfs_place.specs.ServerLaws.{asleep_census, down_census, leaving_census, up_anew_census}
use Rattle.qfs_state.specs.Held.{AreSlots, IsHeld}
use Rattle.qfs_state.specs.Planning.{MayComeUp}
use Rattle.qfs_state.proofs.SlotChanges.{leases_in}

-- a server that is as its change leaves it was changed
pub server_set : (change : ServerView → ServerView) (servers : List ServerView) (server : ℕ)
    → change_server (λ _. change (server_at servers server)) servers server
    ≡ change_server change servers server
unfolding change_server server_at
server_set change servers zero = refl
server_set change servers (suc n) = refl

pub below_if_risen : (next server : ℕ) (entries : List CondemnedEntry) (rose : Bool)
    → Each (λ (entry : CondemnedEntry). entry.below ≤ next) entries
    → Each (λ (entry : CondemnedEntry). entry.below ≤ next) (entries_if_risen server entries rose)
below_if_risen next server entries false below = below
below_if_risen next server entries true below = each_filter _ _ entries below

-- a server changed, and perhaps condemned copies went: the parts still fit together
pub record IsSeen (m : MetaImage) (spare : ℕ) (before after : BlockTables)
    (servers : List ServerView) (later : List Load) (change : Change) : Type 0 where
  pub held : IsHeld servers after (leases_in m spare) m.dropped later
  pub image : with_blocks after (record m { servers = servers })
      ≡ apply (with_blocks before m) change

module _ (m : MetaImage) (spare : ℕ) (before : BlockTables) (loads : List Load)
    (held : IsHeld m.servers before (leases_in m spare) m.dropped loads) where
  pub seen : (change : Change) (view : ServerView → ServerView) (server : ℕ)
      (after : BlockTables) (later : List Load)
      → after.slots ≡ before.slots
      → Each (λ (entry : CondemnedEntry). entry.below ≤ m.next_lease) after.condemned
      → with_blocks after (record m { servers = change_server view m.servers server })
      ≡ apply (with_blocks before m) change
      → later ≡ census_of (apply (with_blocks before m) change)
      → IsSeen m spare before after (change_server view m.servers server) later change
  seen change view server after later same below image counts =
      let as_many = sym (change-length view m.servers server) in
      record {
        held = record {
          servers_fit = record {
            some = subst (λ n. 1 ≤ n) as_many held.servers_fit.some;
            few = subst (λ n. n ≤ 64) as_many held.servers_fit.few;
          };
          slots_fit = subst (λ n. AreSlots n after.slots) as_many
              (subst (AreSlots (length m.servers)) (sym same) held.slots_fit);
          next_lease = held.next_lease;
          below = below;
          dropped_in_order = held.dropped_in_order;
          counted = counts ∙ sym (ap census_of image);
        };
        image = image;
      }

  pub came_up : (server life count : ℕ) → MayComeUp (with_blocks before m) server life count
      → IsSeen m spare before
      (record before {
        condemned = entries_if_risen server before.condemned
            (nat_lt (server_at m.servers server).life life);
      })
      (change_server (server_up life) m.servers server)
      (change_load (counted_as (server_up life (server_at m.servers server)) count) loads server)
      (ServerUp server life)
  unfolding apply bring_up
  came_up server life count may =
      let after = server_up life (server_at m.servers server) in
      let rose = nat_lt (server_at m.servers server).life life in
      seen (ServerUp server life) (server_up life) server _ _ refl
      (below_if_risen m.next_lease server before.condemned rose held.below)
      (λ i. record m {
        servers = change_server (server_up life) m.servers server;
        slots = before.slots;
        condemned = risen_is server m.leases before.condemned rose i;
        next_condemned = before.next;
      })
      (ap (λ of_old. change_load (counted_as after count) of_old server) held.counted
      ∙ sym (up_anew_census (with_blocks before m) server life count may.server_there
      may.counted))

  pub went_down : (server : ℕ) → IsServer (length m.servers) server
      → IsSeen m spare before before (change_server server_down m.servers server)
      (change_load (seen_as (server_down (server_at m.servers server))) loads server)
      (ServerDown server)
  unfolding apply
  went_down server is =
      seen (ServerDown server) server_down server before _ refl held.below refl
      (ap (λ of_old. change_load (seen_as (server_down (server_at m.servers server))) of_old
      server) held.counted ∙ sym (down_census (with_blocks before m) server is))

  pub left : (server : ℕ) → IsServer (length m.servers) server
      → IsSeen m spare before before (change_server server_leaving m.servers server)
      (change_load (seen_as (server_leaving (server_at m.servers server))) loads server)
      (ServerLeaves server)
  unfolding apply
  left server is =
      seen (ServerLeaves server) server_leaving server before _ refl held.below refl
      (ap (λ of_old. change_load (seen_as (server_leaving (server_at m.servers server))) of_old
      server) held.counted ∙ sym (leaving_census (with_blocks before m) server is))

  pub slept : (server until : ℕ) → IsServer (length m.servers) server
      → IsSeen m spare before before (change_server (server_asleep until) m.servers server)
      (change_load (seen_as (server_asleep until (server_at m.servers server))) loads server)
      (ServerSleeps server until)
  unfolding apply
  slept server until is =
      seen (ServerSleeps server until) (server_asleep until) server before _ refl held.below refl
      (ap (λ of_old. change_load (seen_as (server_asleep until (server_at m.servers server)))
      of_old server) held.counted ∙ sym (asleep_census (with_blocks before m) server until is))
